use Rattle.std.proofs.Common.{◌≡◌, take, drop}
use Rattle.abc_text.specs.Meanings.{AreNew}
use Rattle.abc_lexemes.proofs.naming.known_names.Given as goal

abbrev pub invariant-loop-name : goal.invariant-loop-name
invariant-loop-name l = record {
  known : l.known ≡ take l.name-index l.names;
  more : AreNew
      (take l.name-index l.names) (drop l.name-index l.names);
}

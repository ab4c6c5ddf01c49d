use Rattle.std.proofs.Common.{◌<◌, ◌+◌, ◌-◌, All, take, drop, length, replicate, ap, sym, subst, ◌∙◌, arith, length-set}
use Rattle.std.proofs.lemmas.Grind.{take-set_at}
use Rattle.std.proofs.lemmas.List.{drop-set-lt, drop-drop, drop-replicate}
use Rattle.std.proofs.lemmas.List.Elements.{All-push}
use Rattle.abc_value.specs.declared.limits.TheConstants.{LONGEST_TEXT}
use Rattle.abc_value.specs.Text.{IsPrintable}
use Rattle.abc_value.proofs.text.put.Goals as goal

pub returns-clause-padded : goal.returns-clause-padded
returns-clause-padded c =
    let bytes = c.args.bytes.now in
    let n = c.args.len in
    let b = c.args.byte in
    let p = c.requires.padded in
    let in_range : n < length bytes = let l = p.long in let r = c.requires.room in omega arith in
    record {
      fits = let r = c.requires.room in omega arith;
      long = length-set bytes n b ∙ p.long;
      printable = subst (λ s. All IsPrintable s) (sym (take-set_at bytes n (n + 1) b (omega arith) in_range)) (All-push IsPrintable (take n bytes) b p.printable c.requires.printable);
      rest = drop-set-lt (n + 1) bytes n b (omega arith) ∙ sym (drop-drop 1 n bytes) ∙ ap (λ s. drop 1 s) p.rest ∙ drop-replicate 1 (LONGEST_TEXT - n) 0 ∙ ap (λ m. replicate m 0) (omega arith);
    }

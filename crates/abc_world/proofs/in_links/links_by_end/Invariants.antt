use Rattle.std.proofs.Common.{◌≡◌, ℕ, ◌<◌, [], length, get_or}
use Rattle.abc_world.specs.InLinks.{links_into}
use Rattle.abc_world.proofs.in_links.links_by_end.Given as goal

abbrev pub invariant-linking : goal.invariant-linking
invariant-linking l = record {
  many : length l.lists.items ≡ length l.initial.lists.items;
  each : (actor : ℕ) → actor < length l.lists.items → get_or l.lists.items actor [] ≡ links_into l.links actor l.link;
}

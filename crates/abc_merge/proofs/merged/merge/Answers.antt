use Rattle.std.proofs.Common.{map, ap, ◌∙◌}
use Rattle.abc_merge.specs.Keys.{place_of_key, keys_of, clocks_of}
use Rattle.abc_merge.proofs.Sorted.{merge_of_keys}
use Rattle.abc_merge.proofs.merged.merge.Goals as goal

pub returns : goal.returns
returns g c =
    merge_of_keys c.args.ran.now.logs c.in_ok-keys.keys.items c.sort_unstable.new.self.items
    c.from_vec.result (c.in_ok-keys.ensures ∙ ap (λ l. keys_of 0 (clocks_of l)) c.as_slice.ensures) c.sort_unstable.ensures.permutation
    c.sort_unstable.ensures.sorted
    (c.from_vec.ensures ∙ (c.in_ok-places.ensures ∙ ap (λ l. map place_of_key l) c.deref.ensures.value))

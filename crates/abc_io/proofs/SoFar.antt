-- What the loops over devices keep.
use Rattle.std.proofs.Common.{◌≡◌, ℕ, ◌+◌, ◌-◌, ◌<◌, ◌≤◌, List, ◌++◌, length, take, drop, Option, sym, ap, ◌∙◌, subst, arith, length-drop, length-take, length-append}
use Rattle.std.proofs.Math.Seq.{take-add}
use Rattle.std.proofs.lemmas.Grind.{common_steps}
use Rattle.std.proofs.lemmas.List.{take-append-drop, drop-drop}
use Rattle.std.proofs.KnownBytes.{Appends-trans, Consumes-trans}
use Rattle.std.specs.Io.KnownBytes.{Appends, Consumes}

-- a sink took the first `written` bytes, and its count of faults is as it was
pub record WrittenSoFar (count_before count_now : ℕ) (before now : Option (List ℕ)) (bytes : List ℕ) (written : ℕ) : Type 0 where
  pub within : written ≤ length bytes
  pub sound : count_now ≡ count_before
  pub appended : Appends before now (take written bytes)

-- all that is left of a list from a place on
pub take-rest : (at : ℕ) (bytes : List ℕ) → take (length bytes - at) (drop at bytes) ≡ drop at bytes
take-rest at bytes = grind (arith, common_steps)

-- something is left before the end
pub some-rest : (at : ℕ) (bytes : List ℕ) → at < length bytes → 0 < length (take (length bytes - at) (drop at bytes))
some-rest at bytes before = rw take-rest (omega (arith, length-drop at bytes))

-- a list from a place on is n items from there, and the list from n further on
pub drop-split : (at n : ℕ) (bytes : List ℕ) → drop at bytes ≡ take n (take (length bytes - at) (drop at bytes)) ++ drop (at + n) bytes
drop-split at n bytes =
    rw take-rest (sym (take-append-drop n (drop at bytes)) ∙ ap (λ rest. take n (drop at bytes) ++ rest) (drop-drop n at bytes))

-- the sink took n bytes more
pub WrittenSoFar-more : (c d e : ℕ) (before now next : Option (List ℕ)) (bytes : List ℕ) (written n : ℕ)
    → WrittenSoFar c d before now bytes written → e ≡ d → n ≤ length (take (length bytes - written) (drop written bytes))
    → Appends now next (take n (take (length bytes - written) (drop written bytes))) → WrittenSoFar c e before next bytes (written + n)
WrittenSoFar-more c d e before now next bytes written n so_far same room more =
    let within_rest : n ≤ length (drop written bytes) = rw take-rest at room in
    let within_all : written + n ≤ length bytes = omega (arith, length-drop written bytes, so_far.within) in
    let front : Appends now next (take n (drop written bytes)) = rw take-rest at more in
    record {
      within = within_all;
      sound = same ∙ so_far.sound;
      appended = subst (Appends before next) (sym (take-add written n bytes))
          (Appends-trans before now next (take written bytes) (take n (drop written bytes)) so_far.appended front);
    }

-- a source gave these bytes, at most `max`, and its count of faults is as it was
pub record ReadSoFar (count_before count_now : ℕ) (before now : Option (List ℕ)) (bytes : List ℕ) (max : ℕ) : Type 0 where
  pub within : length bytes ≤ max
  pub sound : count_now ≡ count_before
  pub consumed : Consumes before now bytes

-- the source gave more bytes
pub ReadSoFar-more : (c d e : ℕ) (before now next : Option (List ℕ)) (bytes more longer : List ℕ) (max : ℕ)
    → ReadSoFar c d before now bytes max → e ≡ d → length more ≤ max - length bytes
    → Consumes now next more → longer ≡ bytes ++ more → ReadSoFar c e before next longer max
ReadSoFar-more c d e before now next bytes more longer max so_far same room gave joined =
    let within_max : length (bytes ++ more) ≤ max = omega (arith, length-append bytes more, so_far.within) in
    record {
      within = subst (λ xs. length xs ≤ max) (sym joined) within_max;
      sound = same ∙ so_far.sound;
      consumed = subst (Consumes before next) (sym joined) (Consumes-trans before now next bytes more so_far.consumed gave);
    }

-- the bytes read so far, and those of one read more, whose number is known
pub length-read : (bytes piece : List ℕ) (n : ℕ) → n ≤ length piece → length (bytes ++ take n piece) ≡ length bytes + n
length-read bytes piece n room = omega (arith, length-append bytes (take n piece), length-take n piece)

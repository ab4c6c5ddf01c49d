-- Logs are left one after the other.
use Rattle.std.proofs.Common.{◌≡◌, ℕ, suc, ◌+◌, List, [], ◌∷◌, ◌++◌, length, refl, sym, ap, ◌∙◌, arith}
use Rattle.std.specs.Prelude.{map}
use Rattle.std.proofs.lemmas.List.{append_assoc, append-nil}
use Rattle.abc_packet.specs.declared.log.Log.{Log}
use Rattle.abc_packet.specs.declared.log.Entry.{Entry}
use Rattle.abc_net.specs.Records.{entries_of}

-- So far: what was left, and what is still to be.
pub record LeftSoFar {X L : Type 0} (log : X → List (Entry L)) (had all : List (List (Entry L))) (room len : ℕ) (logs : List (Log L))
    (left : List X) : Type 0 where
  pub whole : entries_of logs ++ map log left ≡ had ++ all
  pub fits : len + length left ≡ room

entries-more : {L : Type 0} (logs : List (Log L)) (log : Log L) → entries_of (logs ++ log ∷ []) ≡ entries_of logs ++ log.entries ∷ []
entries-more [] log = refl
entries-more (x ∷ logs) log = ap (λ v. x.entries ∷ v) (entries-more logs log)

-- One log more was left.
pub left-next : {X L : Type 0} (log : X → List (Entry L)) (had all : List (List (Entry L))) (room len len' : ℕ) (logs logs' : List (Log L))
    (x : X) (left : List X) (one : Log L) → LeftSoFar log had all room len logs (x ∷ left) → logs' ≡ logs ++ one ∷ [] →
    one.entries ≡ log x → len' ≡ len + 1 → LeftSoFar log had all room len' logs' left
left-next log had all room len len' logs logs' x left one h grown is more =
    let was = h.fits in
    record {
      whole = ap (λ v. entries_of v ++ map log left) grown
          ∙ (ap (λ v. v ++ map log left) (entries-more logs one)
          ∙ (append_assoc (entries_of logs) (one.entries ∷ []) (map log left)
          ∙ (ap (λ v. entries_of logs ++ v ∷ map log left) is ∙ h.whole)));
      fits = (let e : len + suc (length left) ≡ room = was in omega arith);
    }

-- All were left.
pub left-all : {X L : Type 0} (log : X → List (Entry L)) (had all : List (List (Entry L))) (room len : ℕ) (logs : List (Log L))
    (left : List X) → length left ≡ 0 → LeftSoFar log had all room len logs left → entries_of logs ≡ had ++ all
left-all log had all room len logs [] none h = sym (append-nil (entries_of logs)) ∙ h.whole
left-all log had all room len logs (x ∷ left) none h = absurd (let l : suc (length left) ≡ 0 = none in omega arith)

-- Twice changed is changed once.
pub map-twice : {X Y Z : Type 0} (f : X → Y) (g : Y → Z) (xs : List X) → map g (map f xs) ≡ map (λ x. g (f x)) xs
map-twice f g [] = refl
map-twice f g (x ∷ xs) = ap (λ v. g (f x) ∷ v) (map-twice f g xs)

-- The keys by which entries are sorted.
use Rattle.std.specs.Prelude.{ℕ, suc, List, [], ◌∷◌, ◌++◌, map}
use Rattle.abc_packet.specs.declared.log.Log.{Log}

-- A key: the clock of an entry, its actor, and its place in the actor's log.
abbrev pub Key : Type 0
Key = ℕ × ℕ × ℕ

abbrev pub place_of_key : Key → ℕ × ℕ
place_of_key x = (x.1, x.2)

-- The clocks of each log's entries.
abbrev pub clocks_of : {L : Type 0} → List (Log L) → List (List ℕ)
clocks_of [] = []
clocks_of (log ∷ logs) = map (λ e. e.clock) log.entries ∷ clocks_of logs

-- The keys of one actor's entries with these clocks, from a place on,
abbrev pub entry_keys : ℕ → ℕ → List ℕ → List Key
entry_keys actor place [] = []
entry_keys actor place (clock ∷ clocks) =
    (clock, actor, place) ∷ entry_keys actor (suc place) clocks

-- and those of all actors, from one on.
abbrev pub keys_of : ℕ → List (List ℕ) → List Key
keys_of actor [] = []
keys_of actor (clocks ∷ logs) = entry_keys actor 0 clocks ++ keys_of (suc actor) logs

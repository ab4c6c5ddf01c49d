-- A multicast of members: what the sender says is made ready, all others are, and all moves are put in place.
use Rattle.std.proofs.Common.{◌≡◌, ◌∙◌, inl, ℕ, ◌≤◌, ◌<◌, List, ◌++◌, length, take, drop, map, All, Some, ap, sym, subst, slice_get, slice_set, arith}
use Rattle.std.specs.Prelude.{option_map}
use Rattle.std.proofs.lemmas.Option.{slice_get-map, slice_get_within, get_or_from_slice_get}
use Rattle.std.proofs.lemmas.List.{map-set, length-map, take_all, take-append-le}
use Rattle.std.proofs.Math.Seq.{map-set_same}
use Rattle.std.proofs.lemmas.List.Elements.{All-set, All-get_or}
use Rattle.abc_term.specs.declared.terms.Definition.{Definition}
use Rattle.abc_term.specs.Processes.{Definitions, Component, System}
use Rattle.abc_term.specs.Standing.{definitions_of}
use Rattle.abc_term.specs.Speaking.{Speaks}
use Rattle.abc_term.specs.Systems.{Multicasts}
use Rattle.abc_steps.specs.Hearers.{AllHear}
use Rattle.abc_steps.proofs.Hearers.{multicast_of}
use Rattle.abc_steps.proofs.Turns.{item_at, one_item}
use Rattle.abc_moves.specs.declared.live.Live.{Live}
use Rattle.abc_moves.specs.declared.made.Move.{Move}
use Rattle.abc_moves.specs.Lives.{definitions_in}
use Rattle.abc_moves.specs.Labels.{label_of}
use Rattle.abc_moves.specs.Moves.{moved}
use Rattle.abc_system.specs.declared.member.Member.{Member}
use Rattle.abc_system.specs.declared.multicast.Said.{Said}
use Rattle.abc_system.specs.Members.{now_in, then_in, live_of, program_of, RunUnder, IsReady}
use Rattle.abc_system.specs.Saying.{IsSaidBy}

-- what stands at a number of a list of what is seen of members
pub seen_at : {B : Type 0} (f : Member → B) (ms : List Member) (k : ℕ) (m : Member) → slice_get ms k ≡ Some m →
    slice_get (map f ms) k ≡ Some (f m)
seen_at f ms k m e = slice_get-map f ms k ∙ ap (option_map f) e

-- where two lists are seen alike, so are their members of a number
alike_at : {B : Type 0} (f : Member → B) (ms ns : List Member) (k : ℕ) (m n : Member) → map f ms ≡ map f ns →
    slice_get ms k ≡ Some m → slice_get ns k ≡ Some n → f m ≡ f n
alike_at f ms ns k m n same here there =
    one_item (slice_get (map f ns) k) (f m) (f n) (ap (λ xs. slice_get xs k) (sym same) ∙ seen_at f ms k m here) (seen_at f ns k n there)

-- and they are as long as each other
pub as_long : {B : Type 0} (f : Member → B) (ms ns : List Member) → map f ms ≡ map f ns → length ms ≡ length ns
as_long f ms ns e = sym (length-map ms f) ∙ ap length e ∙ length-map ns f

-- what holds of all members holds of the one of a number
pub each : {A : Type 0} (P : A → Type 0) (xs : List A) (k : ℕ) (x : A) → All P xs → slice_get xs k ≡ Some x → P x
each P xs k x all e = subst P (get_or_from_slice_get xs k x x e) (All-get_or P xs k x (slice_get_within xs k x e) all)

-- the sender's member once all others are ready
pub record Sender (before prepared : List Member) (sender : ℕ) (live : Live) : Type 0 where
  pub member : Member
  pub at : slice_get prepared sender ≡ Some member
  pub same : member.live ≡ live

pub sender_in : (before prepared : List Member) (sender : ℕ) (m : Member) → map live_of prepared ≡ map live_of before →
    slice_get before sender ≡ Some m → Sender before prepared sender m.live
sender_in before prepared sender m lives at =
    let lt : sender < length prepared =
    subst (λ (n : ℕ). sender < n) (sym (as_long live_of prepared before lives)) (slice_get_within before sender m at) in
    let found = item_at prepared sender lt in
    record { member = found.0; at = found.1; same = alike_at live_of prepared before sender found.0 m lives found.1 at }

-- the member with its output made ready
abbrev pub with_move : Live → Move → Member
with_move live made = record { live = live; next = Some made }

module _ (ds : List Definition) (sender : ℕ) (s : Said) (before prepared : List Member) (heard : List (ℕ × ℕ)) where
  -- all moves that stand ready are moves of their components
  pub all_ready : RunUnder ds before → IsSaidBy (definitions_of ds) before sender s.place s → map live_of prepared ≡ map live_of before →
      All IsReady prepared → (m : Member) → slice_get prepared sender ≡ Some m →
      All IsReady (slice_set prepared sender (with_move m.live s.made))
  all_ready under said lives ready m at =
      let b = said.0 in
      let same : m.live ≡ b.live = alike_at live_of prepared before sender m b lives at said.1 in
      let defs : definitions_of ds ≡ definitions_in b.live =
      ap definitions_of (sym (each (λ (x : Member). program_of x ≡ ds) before sender b under said.1)) in
      let speaks = subst (λ (d : Definitions). Speaks d (now_in b) s.place (label_of s.label) (moved b.live s.made)) defs said.3 in
      All-set IsReady prepared sender (with_move m.live s.made)
      (subst (λ (l : Live). IsReady (with_move l s.made)) (sym same) (inl (s.place, label_of s.label, speaks))) ready

  -- and put in place they make the multicast
  pub all_cast : IsSaidBy (definitions_of ds) before sender s.place s → map live_of prepared ≡ map live_of before →
      AllHear (definitions_of ds) sender (label_of s.label) 0 (map now_in before) heard (map then_in prepared) →
      (m : Member) → slice_get prepared sender ≡ Some m → (after : List Member) →
      map now_in after ≡ map then_in (slice_set prepared sender (with_move m.live s.made)) →
      Multicasts (definitions_of ds) (map now_in before) sender s.place heard (label_of s.label) (map now_in after)
  all_cast said lives hear m at after put =
      let b = said.0 in
      let same : m.live ≡ b.live = alike_at live_of prepared before sender m b lives at said.1 in
      let D = moved b.live s.made in
      let next : map now_in after ≡ slice_set (map then_in prepared) sender D =
      put ∙ map-set then_in prepared sender (with_move m.live s.made)
      ∙ ap (λ (l : Live). slice_set (map then_in prepared) sender (moved l s.made)) same in
      subst (λ (T : System). Multicasts (definitions_of ds) (map now_in before) sender s.place heard (label_of s.label) T) (sym next)
      (multicast_of (definitions_of ds) sender s.place heard (label_of s.label) (map now_in before) (map then_in prepared) (now_in b) D
      (seen_at now_in before sender b said.1) said.3 hear)

-- a move that stands ready changes no program
pub same_programs : (prepared : List Member) (sender : ℕ) (m : Member) (made : Move) → slice_get prepared sender ≡ Some m →
    map program_of (slice_set prepared sender (with_move m.live made)) ≡ map program_of prepared
same_programs prepared sender m made at =
    map-set_same program_of prepared sender (with_move m.live made) m (ap program_of (sym (get_or_from_slice_get prepared sender m m at)))

-- what runs under definitions goes on under them
pub still_under : (ds : List Definition) (before after : List Member) → map program_of after ≡ map program_of before →
    RunUnder ds before → RunUnder ds after
still_under ds before after same under k d lt =
    let there : k < length before = subst (λ (n : ℕ). k < n) (as_long program_of after before same) lt in
    let a = item_at after k lt in
    let b = item_at before k there in
    ap program_of (get_or_from_slice_get after k a.0 d a.1)
    ∙ alike_at program_of after before k a.0 b.0 same a.1 b.1
    ∙ each (λ (x : Member). program_of x ≡ ds) before k b.0 under b.1

-- what is seen at a number is there
pub below_members : (members : List Member) (k : ℕ) (C : Component) → slice_get (map now_in members) k ≡ Some C → k < length members
below_members members k C e =
    subst (λ (n : ℕ). k < n) (length-map members now_in) (slice_get_within (map now_in members) k C e)

-- a vector's items after all of them were lent and written
pub all_written : {A : Type 0} (n : ℕ) (written items : List A) → length written ≡ n → length items ≡ n →
    take n (written ++ drop (length written) items) ≡ written
all_written n written items here there =
    let le : n ≤ length written = omega arith in
    take-append-le n written (drop (length written) items) le ∙ take_all n written (omega arith)

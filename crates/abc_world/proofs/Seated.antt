-- Bodies become agents one after the other.
use Rattle.std.proofs.Common.{◌≡◌, ℕ, zero, suc, ◌<◌, List, [], ◌∷◌, ◌++◌, length, map, refl, sym, ap, ◌∙◌, subst, arith}
use Rattle.std.specs.Prelude.{Some, slice_get}
use Rattle.std.proofs.lemmas.List.{append_assoc, append-nil}
use Rattle.abc_shape.specs.declared.layout.Layout.{Layout}
use Rattle.abc_network.specs.Networks.{starting}
use Rattle.abc_network_laws.specs.Kept.{Each}
use Rattle.abc_schedule.proofs.Places.{length-both}
use Rattle.abc_agent.specs.Members.{Member}
use Rattle.abc_world.specs.Teams.{AreAgents, actor_in}

-- The first bodies are agents, with their numbers, and the others are left.
pub record Seated {B L : Type 0} (p : Layout) (pick : ℕ) (bodies : List B) (agents : List (Member B L)) (left : List B) : Type 0 where
  pub done : List B
  pub whole : done ++ left ≡ bodies
  pub start : map actor_in agents ≡ map starting done
  pub each : (i : ℕ) (a : Member B L) → slice_get agents i ≡ Some a → (a.plan ≡ p) × (a.number ≡ i) × (a.pick ≡ pick)

-- As many as are done.
pub length-map : {X Y : Type 0} (f : X → Y) (xs : List X) → length (map f xs) ≡ length xs
length-map f [] = refl
length-map f (x ∷ xs) = ap suc (length-map f xs)

pub seated-many : {B L : Type 0} (p : Layout) (pick : ℕ) (bodies : List B) (agents : List (Member B L)) (left : List B)
    (s : Seated p pick bodies agents left) → length agents ≡ length s.done
seated-many p pick bodies agents left s =
    sym (length-map actor_in agents) ∙ (ap (λ v. length v) s.start ∙ length-map starting s.done)

-- At first none is.
pub seated-none : {B L : Type 0} (p : Layout) (pick : ℕ) (bodies : List B) → Seated {L = L} p pick bodies [] bodies
seated-none p pick bodies =
    record { done = []; whole = refl; start = refl; each = λ i a stands. absurd (cc) }

-- There is a number for the next one,
pub seat-there : {B L : Type 0} (p : Layout) (pick : ℕ) (bodies : List B) (agents : List (Member B L)) (b : B) (left : List B) →
    Seated p pick bodies agents (b ∷ left) → length agents < length bodies
seat-there p pick bodies agents b left s =
    let many = seated-many p pick bodies agents (b ∷ left) s in
    let both = length-both s.done (b ∷ left) in
    let all = ap (λ v. length v) s.whole in
    omega arith

-- and it is one of the bodies.
each-after : {X : Type 0} (P : X → Type 0) (xs : List X) (y : X) (ys : List X) → Each P (xs ++ y ∷ ys) → P y
each-after P [] y ys h = h.0
each-after P (x ∷ xs) y ys h = each-after P xs y ys h.1

pub seat-sound : {B L : Type 0} (P : B → Type 0) (p : Layout) (pick : ℕ) (bodies : List B) (agents : List (Member B L)) (b : B)
    (left : List B) → Seated p pick bodies agents (b ∷ left) → Each P bodies → P b
seat-sound P p pick bodies agents b left s h = each-after P s.done b left (subst (Each P) (sym s.whole) h)

-- What stands in a list with one more stood there, or is that one.
pub last-or : {X : Type 0} (xs : List X) (z : X) (P : ℕ → X → Type 0) → ((i : ℕ) (x : X) → slice_get xs i ≡ Some x → P i x) →
    P (length xs) z → (i : ℕ) (x : X) → slice_get (xs ++ z ∷ []) i ≡ Some x → P i x
last-or [] z P f p zero x h = let e : z ≡ x = cc in subst (P 0) e p
last-or [] z P f p (suc i) x h = absurd (cc)
last-or (y ∷ xs) z P f p zero x h = f zero x h
last-or (y ∷ xs) z P f p (suc i) x h = last-or xs z (λ j. P (suc j)) (λ j w k. f (suc j) w k) p i x h

-- Both lists grow alike.
pub map-more : {X Y : Type 0} (f : X → Y) (xs : List X) (z : X) → map f (xs ++ z ∷ []) ≡ map f xs ++ f z ∷ []
map-more f [] z = refl
map-more f (x ∷ xs) z = ap (λ v. f x ∷ v) (map-more f xs z)

-- One more takes its seat.
pub seated-next : {B L : Type 0} (p : Layout) (pick : ℕ) (bodies : List B) (agents agents' : List (Member B L)) (b : B) (left : List B)
    (a : Member B L) → Seated p pick bodies agents (b ∷ left) → a.plan ≡ p → a.number ≡ length agents → a.pick ≡ pick →
    a.actor ≡ starting b → agents' ≡ agents ++ a ∷ [] → Seated p pick bodies agents' left
seated-next p pick bodies agents agents' b left a s plan number picks actor grown =
    record {
      done = s.done ++ b ∷ [];
      whole = append_assoc s.done (b ∷ []) left ∙ s.whole;
      start = ap (λ v. map actor_in v) grown
          ∙ (map-more actor_in agents a ∙ (ap (λ v. v ++ a.actor ∷ []) s.start
          ∙ (ap (λ v. map starting s.done ++ v ∷ []) actor ∙ sym (map-more starting s.done b))));
      each = λ i x stands. last-or agents a (λ j v. (v.plan ≡ p) × (v.number ≡ j) × (v.pick ≡ pick)) s.each
          (plan, number, picks) i x (subst (λ v. slice_get v i ≡ Some x) grown stands);
    }

-- In the end all are agents.
seated-are : {B L : Type 0} (p : Layout) (pick : ℕ) (bodies : List B) (agents : List (Member B L)) →
    length bodies ≡ p.agents → Seated p pick bodies agents [] → AreAgents p pick agents
seated-are p pick bodies agents many s =
    let all = ap (λ v. length v) (sym (append-nil s.done) ∙ s.whole) in
    record { many = seated-many p pick bodies agents [] s ∙ (all ∙ many); each = s.each }

pub seated-all : {B L : Type 0} (p : Layout) (pick : ℕ) (bodies : List B) (agents : List (Member B L)) (left : List B) →
    length left ≡ 0 → length bodies ≡ p.agents → Seated p pick bodies agents left → AreAgents p pick agents
seated-all p pick bodies agents [] none many s = seated-are p pick bodies agents many s
seated-all p pick bodies agents (b ∷ left) none many s = absurd (let l : suc (length left) ≡ 0 = none in omega arith)

-- What a reader owes its grammar, and what readers that are put together owe if their parts do.
use Rattle.std.proofs.Common.{◌≡◌, ℕ, ◌<◌, ◌≤◌, List, [], ◌∷◌, ◌++◌, length, Option, Some, None, refl, sym, ap, ◌∙◌, subst, append_assoc, append-nil, length-append, arith}
pub use Rattle.abc_reading.specs.Exact.{Begins}
use Rattle.abc_reading.specs.Reading.{Outcome, Read, Cut, Refused, ◌>>=◌, and_then, mapped}

-- the first token, if there is one
abbrev pub first : {T : Type 0} → List T → Option T
first [] = None
first (t ∷ ts) = Some t

-- A term that goes on after `pre` was read from `ts`, and `us` is left. What follows matters as far as its
-- first token: before other tokens that begin so, the same is read.
pub record IsRead {T E A : Type 0} (R : List T → A → Type 0) (f : List T → Outcome T E A) (pre ts : List T) (a : A) (us : List T) : Type 0 where
  pub mid : List T
  pub whole : ts ≡ mid ++ us
  pub is : R (pre ++ mid) a
  pub same : (vs : List T) → first vs ≡ first us → f (mid ++ vs) ≡ Read a vs

-- A term was read, after it `more` begins a longer one, and the next token refuses that.
pub record IsCut {T E A : Type 0} (R : List T → A → Type 0) (f : List T → Outcome T E A) (pre ts : List T) (a : A) (us : List T) (c : E) (vs : List T) : Type 0 where
  pub mid : List T
  pub more : List T
  pub some : 0 < length more
  pub whole : ts ≡ mid ++ us
  pub left : us ≡ more ++ vs
  pub is : R (pre ++ mid) a
  pub begins : Begins R ((pre ++ mid) ++ more)
  pub same : (ws : List T) → first ws ≡ first vs → f (mid ++ (more ++ ws)) ≡ Cut a (more ++ ws) c ws

-- The tokens up to here begin a term, and the next token refuses that.
pub record IsStuck {T E A : Type 0} (R : List T → A → Type 0) (f : List T → Outcome T E A) (pre ts : List T) (c : E) (vs : List T) : Type 0 where
  pub mid : List T
  pub whole : ts ≡ mid ++ vs
  pub begins : Begins R (pre ++ mid)
  pub same : (ws : List T) → first ws ≡ first vs → f (mid ++ ws) ≡ Refused c ws

abbrev pub Owes : {T E A : Type 0} → (List T → A → Type 0) → (List T → Outcome T E A) → List T → List T → Outcome T E A → Type 0
Owes R f pre ts (Read a us) = IsRead R f pre ts a us
Owes R f pre ts (Cut a us c vs) = IsCut R f pre ts a us c vs
Owes R f pre ts (Refused c vs) = IsStuck R f pre ts c vs

-- a reader of terms
abbrev pub Reads : {T E A : Type 0} → (List T → A → Type 0) → (List T → Outcome T E A) → Type 0
Reads {T} R f = (ts : List T) → Owes R f [] ts (f ts)

-- how many tokens a reader leaves
abbrev pub left_of : {T E A : Type 0} → Outcome T E A → ℕ
left_of (Read a us) = length us
left_of (Cut a us c vs) = length us
left_of (Refused c vs) = 0

pub owes_less : {T E A : Type 0} (R : List T → A → Type 0) (f : List T → Outcome T E A) (pre ts : List T) (x : Outcome T E A) → Owes R f pre ts x → left_of x ≤ length ts
owes_less {T} R f pre ts (Read a us) h = omega (arith, ap (length {A = T}) h.whole, length-append {A = T} h.mid us)
owes_less {T} R f pre ts (Cut a us c vs) h = omega (arith, ap (length {A = T}) h.whole, length-append {A = T} h.mid us)
owes_less R f pre ts (Refused c vs) h = omega arith

first-append : {T : Type 0} (ts us vs : List T) → first us ≡ first vs → first (ts ++ us) ≡ first (ts ++ vs)
first-append [] us vs e = e
first-append (t ∷ ts) us vs e = refl

first_of : {T : Type 0} (us mid vs ws : List T) → us ≡ mid ++ ws → first vs ≡ first ws → first (mid ++ vs) ≡ first us
first_of us mid vs ws e h = first-append mid vs ws h ∙ sym (ap first e)

-- ---- a reader that reads nothing of its own
pub pure_owes : {T E A : Type 0} (R : List T → A → Type 0) (f : List T → Outcome T E A) (pre ts : List T) (a : A) → R pre a
    → ((vs : List T) → first vs ≡ first ts → f vs ≡ Read a vs) → Owes R f pre ts (Read a ts)
pure_owes R f pre ts a h s = record { mid = []; whole = refl; is = rw append-nil h; same = s }

pub refuse_owes : {T E A : Type 0} (R : List T → A → Type 0) (f : List T → Outcome T E A) (pre ts : List T) (c : E) → Begins R pre
    → ((vs : List T) → first vs ≡ first ts → f vs ≡ Refused c vs) → Owes R f pre ts (Refused c ts)
refuse_owes R f pre ts c h s = record { mid = []; whole = refl; begins = rw append-nil h; same = s }

-- ---- a reader that goes on as another, after some tokens
pub lead_owes : {T E A : Type 0} (S : List T → A → Type 0) (f g : List T → Outcome T E A) (pre lead us : List T) (x : Outcome T E A)
    → ((ws : List T) → first ws ≡ first us → f (lead ++ ws) ≡ g ws) → Owes S g (pre ++ lead) us x → Owes S f pre (lead ++ us) x
lead_owes S f g pre lead us (Read b ws) goes h = record {
  mid = lead ++ h.mid;
  whole = ap (λ vs. lead ++ vs) h.whole ∙ sym (append_assoc lead h.mid ws);
  is = rw (← append_assoc pre lead h.mid) h.is;
  same = λ vs e. ap f (append_assoc lead h.mid vs) ∙ goes (h.mid ++ vs) (first_of us h.mid vs ws h.whole e) ∙ h.same vs e;
}
lead_owes S f g pre lead us (Cut b ws c xs) goes h = record {
  mid = lead ++ h.mid;
  more = h.more;
  some = h.some;
  whole = ap (λ vs. lead ++ vs) h.whole ∙ sym (append_assoc lead h.mid ws);
  left = h.left;
  is = rw (← append_assoc pre lead h.mid) h.is;
  begins = rw (← append_assoc pre lead h.mid) h.begins;
  same = λ vs e. ap f (append_assoc lead h.mid (h.more ++ vs)) ∙ goes (h.mid ++ (h.more ++ vs)) (first_of us h.mid (h.more ++ vs) ws h.whole (first_of ws h.more vs xs h.left e)) ∙ h.same vs e;
}
lead_owes S f g pre lead us (Refused c xs) goes h = record {
  mid = lead ++ h.mid;
  whole = ap (λ vs. lead ++ vs) h.whole ∙ sym (append_assoc lead h.mid xs);
  begins = rw (← append_assoc pre lead h.mid) h.begins;
  same = λ vs e. ap f (append_assoc lead h.mid vs) ∙ goes (h.mid ++ vs) (first_of us h.mid vs xs h.whole e) ∙ h.same vs e;
}

-- ---- one reader and then another
pub bind_owes : {T E A B : Type 0} (R : List T → A → Type 0) (S : List T → B → Type 0) (f : List T → Outcome T E A) (g : A → List T → Outcome T E B) (pre pre' ts : List T) (x : Outcome T E A)
    → Owes R f pre ts x
    → ((a : A) (us mid : List T) → R (pre ++ mid) a → Owes S (g a) (pre' ++ mid) us (g a us))
    → ((mid : List T) → Begins R (pre ++ mid) → Begins S (pre' ++ mid))
    → Owes S (λ us. f us >>= g) pre' ts (x >>= g)
bind_owes {T} {E} {A} {B} R S f g pre pre' ts (Read a us) h after begins =
    subst (λ (vs : List T). Owes S (λ us. f us >>= g) pre' vs (g a us)) (sym h.whole)
    (lead_owes S (λ us. f us >>= g) (g a) pre' h.mid us (g a us) (λ ws e. ap (λ (y : Outcome T E A). y >>= g) (h.same ws e)) (after a us h.mid h.is))
bind_owes {T} {E} {A} {B} R S f g pre pre' ts (Cut a us c vs) h after begins = record {
  mid = h.mid ++ h.more;
  whole = h.whole ∙ ap (λ ws. h.mid ++ ws) h.left ∙ sym (append_assoc h.mid h.more vs);
  begins = begins (h.mid ++ h.more) (rw (← append_assoc pre h.mid h.more) h.begins);
  same = λ ws e. ap (λ (y : List T). f y >>= g) (append_assoc h.mid h.more ws) ∙ ap (λ (y : Outcome T E A). y >>= g) (h.same ws e);
}
bind_owes {T} {E} {A} {B} R S f g pre pre' ts (Refused c vs) h after begins = record {
  mid = h.mid;
  whole = h.whole;
  begins = begins h.mid h.begins;
  same = λ ws e. ap (λ (y : Outcome T E A). y >>= g) (h.same ws e);
}

-- ---- one reader and then another, where a term may end with the first
pub and_then_owes : {T E A : Type 0} (R S : List T → A → Type 0) (f : List T → Outcome T E A) (g : A → List T → Outcome T E A) (pre pre' ts : List T) (x : Outcome T E A)
    → Owes R f pre ts x
    → ((a : A) (us mid : List T) → R (pre ++ mid) a → Owes S (g a) (pre' ++ mid) us (g a us))
    → ((mid : List T) (a : A) → R (pre ++ mid) a → S (pre' ++ mid) a)
    → Owes S (λ us. and_then (f us) g) pre' ts (and_then x g)
and_then_owes {T} {E} {A} R S f g pre pre' ts (Read a us) h after lift =
    subst (λ (vs : List T). Owes S (λ us. and_then (f us) g) pre' vs (g a us)) (sym h.whole)
    (lead_owes S (λ us. and_then (f us) g) (g a) pre' h.mid us (g a us) (λ ws e. ap (λ (y : Outcome T E A). and_then y g) (h.same ws e)) (after a us h.mid h.is))
and_then_owes {T} {E} {A} R S f g pre pre' ts (Cut a us c vs) h after lift = record {
  mid = h.mid;
  more = h.more;
  some = h.some;
  whole = h.whole;
  left = h.left;
  is = lift h.mid a h.is;
  begins = lifted R S pre pre' h.mid h.more lift h.begins;
  same = λ ws e. ap (λ (y : Outcome T E A). and_then y g) (h.same ws e);
}
  where
    lifted : {T A : Type 0} (R S : List T → A → Type 0) (pre pre' mid more : List T) → ((mid : List T) (a : A) → R (pre ++ mid) a → S (pre' ++ mid) a) → Begins R ((pre ++ mid) ++ more) → Begins S ((pre' ++ mid) ++ more)
    lifted R S pre pre' mid more lift b = (b.0, b.1, rw (append_assoc (pre' ++ mid) more b.0, append_assoc pre' mid (more ++ b.0)) (lift (mid ++ (more ++ b.0)) b.1 (rw (append_assoc (pre ++ mid) more b.0, append_assoc pre mid (more ++ b.0)) at b.2)))
and_then_owes {T} {E} {A} R S f g pre pre' ts (Refused c vs) h after lift = record {
  mid = h.mid;
  whole = h.whole;
  begins = (h.begins.0, h.begins.1, rw (append_assoc pre' h.mid h.begins.0) (lift (h.mid ++ h.begins.0) h.begins.1 (rw (append_assoc pre h.mid h.begins.0) at h.begins.2)));
  same = λ ws e. ap (λ (y : Outcome T E A). and_then y g) (h.same ws e);
}

-- ---- what was read, made into another term
pub mapped_owes : {T E A B : Type 0} (R : List T → A → Type 0) (S : List T → B → Type 0) (f : List T → Outcome T E A) (k : A → B) (pre pre' ts : List T) (x : Outcome T E A)
    → Owes R f pre ts x
    → ((mid : List T) (a : A) → R (pre ++ mid) a → S (pre' ++ mid) (k a))
    → Owes S (λ us. mapped k (f us)) pre' ts (mapped k x)
mapped_owes {T} {E} {A} {B} R S f k pre pre' ts (Read a us) h lift = record {
  mid = h.mid;
  whole = h.whole;
  is = lift h.mid a h.is;
  same = λ ws e. ap (mapped k) (h.same ws e);
}
mapped_owes {T} {E} {A} {B} R S f k pre pre' ts (Cut a us c vs) h lift = record {
  mid = h.mid;
  more = h.more;
  some = h.some;
  whole = h.whole;
  left = h.left;
  is = lift h.mid a h.is;
  begins = let b = h.begins in (b.0, k b.1, rw (append_assoc (pre' ++ h.mid) h.more b.0, append_assoc pre' h.mid (h.more ++ b.0)) (lift (h.mid ++ (h.more ++ b.0)) b.1 (rw (append_assoc (pre ++ h.mid) h.more b.0, append_assoc pre h.mid (h.more ++ b.0)) at b.2)));
  same = λ ws e. ap (mapped k) (h.same ws e);
}
mapped_owes {T} {E} {A} {B} R S f k pre pre' ts (Refused c vs) h lift = record {
  mid = h.mid;
  whole = h.whole;
  begins = let b = h.begins in (b.0, k b.1, rw (append_assoc pre' h.mid b.0) (lift (h.mid ++ b.0) b.1 (rw (append_assoc pre h.mid b.0) at b.2)));
  same = λ ws e. ap (mapped k) (h.same ws e);
}

-- ---- by the first token
pub by_first : {T E A : Type 0} (f g : List T → Outcome T E A) (t : T) → ((us : List T) → f (t ∷ us) ≡ g (t ∷ us)) → (vs : List T) → first vs ≡ Some t → f vs ≡ g vs
by_first f g t h [] e = absurd (let e' : None ≡ Some t = e in cc)
by_first f g t h (x ∷ vs) e = let e' : x ≡ t = some_inj e in rw e' (h vs)
  where
    some_inj : {A : Type 0} {x y : A} → Some x ≡ Some y → x ≡ y
    some_inj e = cc

-- the token is the term
pub take_owes : {T E A : Type 0} (R : List T → A → Type 0) (f : List T → Outcome T E A) (pre : List T) (t : T) (ts : List T) (a : A) → R (pre ++ t ∷ []) a
    → ((us : List T) → f (t ∷ us) ≡ Read a us) → Owes R f pre (t ∷ ts) (Read a ts)
take_owes R f pre t ts a h s = record { mid = t ∷ []; whole = refl; is = h; same = λ vs e. s vs }

-- the token is refused
pub refuse_at_owes : {T E A : Type 0} (R : List T → A → Type 0) (f : List T → Outcome T E A) (pre : List T) (t : T) (ts : List T) (c : E) → Begins R pre
    → ((us : List T) → f (t ∷ us) ≡ Refused c (t ∷ us)) → Owes R f pre (t ∷ ts) (Refused c (t ∷ ts))
refuse_at_owes R f pre t ts c h s = refuse_owes R f pre (t ∷ ts) c h (by_first f (λ us. Refused c us) t s)

-- the end is refused
pub refuse_end_owes : {T E A : Type 0} (R : List T → A → Type 0) (f : List T → Outcome T E A) (pre : List T) (c : E) → Begins R pre
    → f [] ≡ Refused c [] → Owes R f pre [] (Refused c [])
refuse_end_owes {T} R f pre c h s = refuse_owes R f pre [] c h at_end
  where
    at_end : (vs : List T) → first vs ≡ None → f vs ≡ Refused c vs
    at_end [] e = s
    at_end (x ∷ vs) e = absurd (let e' : Some x ≡ None = e in cc)

-- behind the token it goes on as another reader
pub go_owes : {T E A : Type 0} (S : List T → A → Type 0) (f g : List T → Outcome T E A) (pre : List T) (t : T) (ts : List T) (x : Outcome T E A)
    → ((us : List T) → f (t ∷ us) ≡ g us) → Owes S g (pre ++ t ∷ []) ts x → Owes S f pre (t ∷ ts) x
go_owes S f g pre t ts x s h = lead_owes S f g pre (t ∷ []) ts x (λ ws e. s ws) h

-- at the token it is another reader
pub like_owes : {T E A : Type 0} (S : List T → A → Type 0) (f g : List T → Outcome T E A) (t : T) (ts : List T) (x : Outcome T E A)
    → ((us : List T) → f (t ∷ us) ≡ g (t ∷ us)) → Owes S g [] (t ∷ ts) x → Owes S f [] (t ∷ ts) x
like_owes S f g t ts x s h = lead_owes S f g [] [] (t ∷ ts) x (by_first f g t s) h

-- at the end it is another reader
pub like_end_owes : {T E A : Type 0} (S : List T → A → Type 0) (f g : List T → Outcome T E A) (x : Outcome T E A) → f [] ≡ g [] → Owes S g [] [] x → Owes S f [] [] x
like_end_owes {T} S f g x s h = lead_owes S f g [] [] [] x at_end h
  where
    at_end : (vs : List T) → first vs ≡ None → f vs ≡ g vs
    at_end [] e = s
    at_end (t ∷ vs) e = absurd (let e' : Some t ≡ None = e in cc)

-- ---- terms of one grammar are terms of another
pub lift_owes : {T E A : Type 0} (R S : List T → A → Type 0) (f : List T → Outcome T E A) (pre pre' ts : List T) (x : Outcome T E A)
    → Owes R f pre ts x → ((mid : List T) (a : A) → R (pre ++ mid) a → S (pre' ++ mid) a) → Owes S f pre' ts x
lift_owes R S f pre pre' ts (Read a us) h lift = record { mid = h.mid; whole = h.whole; is = lift h.mid a h.is; same = h.same }
lift_owes R S f pre pre' ts (Cut a us c vs) h lift = record {
  mid = h.mid;
  more = h.more;
  some = h.some;
  whole = h.whole;
  left = h.left;
  is = lift h.mid a h.is;
  begins = let b = h.begins in (b.0, b.1, rw (append_assoc (pre' ++ h.mid) h.more b.0, append_assoc pre' h.mid (h.more ++ b.0)) (lift (h.mid ++ (h.more ++ b.0)) b.1 (rw (append_assoc (pre ++ h.mid) h.more b.0, append_assoc pre h.mid (h.more ++ b.0)) at b.2)));
  same = h.same;
}
lift_owes R S f pre pre' ts (Refused c vs) h lift = record {
  mid = h.mid;
  whole = h.whole;
  begins = let b = h.begins in (b.0, b.1, rw (append_assoc pre' h.mid b.0) (lift (h.mid ++ b.0) b.1 (rw (append_assoc pre h.mid b.0) at b.2)));
  same = h.same;
}

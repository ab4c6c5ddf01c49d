-- A reader that owes its grammar the laws, and reads each front that is a term, is exact.
use Rattle.std.proofs.Common.{◌≡◌, ◌≤◌, List, [], ◌∷◌, ◌++◌, length, sym, ap, ◌∙◌, subst, append_assoc, append-nil, length-append, ◌<◌, arith}
use Rattle.abc_reading.specs.Reading.{Outcome, Read, Cut, Refused}
use Rattle.abc_reading.specs.Exact.{Begins, Reaches, IsLastGood, IsExact}
use Rattle.abc_reading.proofs.Laws.{first, Owes, Reads}

module _ {T E A : Type 0} (R : List T → A → Type 0) (Stops : List T → Type 0) (f : List T → Outcome T E A) (law : Reads R f)
    (whole : (ts rest : List T) (a : A) → R ts a → Stops rest → f (ts ++ rest) ≡ Read a rest) (fronts : (ts rest : List T) (a : A) → R ts a → Reaches (length rest) (f (ts ++ rest))) where
  owed : (ts : List T) (x : Outcome T E A) → f ts ≡ x → Owes R f [] ts x
  owed ts x e = subst (λ (y : Outcome T E A). Owes R f [] ts y) e (law ts)

  -- a text that is refused before its end is no term
  refused_none : (ts vs : List T) (c : E) (a : A) → f ts ≡ Refused c vs → R ts a → ⊥
  refused_none ts vs c a e h = subst (λ (y : Outcome T E A). Reaches 0 y) (ap f (append-nil ts) ∙ e) (fronts ts [] a h)

  stuck_good : (mid vs : List T) (c : E) → Begins R mid → ((ws : List T) → first ws ≡ first vs → f (mid ++ ws) ≡ Refused c ws) → IsLastGood R mid vs
  stuck_good mid vs c begins same = record {
    begins = begins;
    token = λ t us e b. refused_none (mid ++ t ∷ b.0) (t ∷ b.0) c b.1 (same (t ∷ b.0) (sym (ap first e))) (rw (append_assoc mid (t ∷ []) b.0) at b.2);
    end = λ a e h. refused_none (mid ++ []) [] c a (same [] (sym (ap first e))) (rw append-nil h);
  }

  -- a longer text whose front was cut is no term
  cut_none : (mid more ws : List T) (c : E) (a b : A) → 0 < length more → f (mid ++ (more ++ ws)) ≡ Cut a (more ++ ws) c ws → R (mid ++ (more ++ ws)) b → ⊥
  cut_none mid more ws c a b lt e h =
      let r : length (more ++ ws) ≤ 0 = subst (λ (y : Outcome T E A). Reaches 0 y) (ap f (append-nil (mid ++ (more ++ ws))) ∙ e) (fronts (mid ++ (more ++ ws)) [] b h) in
      omega (arith, r, lt, length-append {A = T} more ws)

  cut_good : (mid more vs : List T) (c : E) (a : A) → 0 < length more → Begins R (mid ++ more) → ((ws : List T) → first ws ≡ first vs → f (mid ++ (more ++ ws)) ≡ Cut a (more ++ ws) c ws) → IsLastGood R (mid ++ more) vs
  cut_good mid more vs c a lt begins same = record {
    begins = begins;
    token = λ t us e b. cut_none mid more (t ∷ b.0) c a b.1 lt (same (t ∷ b.0) (sym (ap first e))) (rw (append_assoc (mid ++ more) (t ∷ []) b.0, append_assoc mid more (t ∷ b.0)) at b.2);
    end = λ b e h. cut_none mid more [] c a b lt (same [] (sym (ap first e))) (rw append-nil h);
  }

  pub exact : IsExact R Stops f
  exact = record {
    found = λ ts us a e. let h = owed ts (Read a us) e in (h.mid, h.whole, h.is);
    cut = λ ts us vs a c e. let h = owed ts (Cut a us c vs) e in (h.mid, h.more, h.whole, h.left, h.is, cut_good h.mid h.more vs c a h.some h.begins h.same);
    refused = λ ts vs c e. let h = owed ts (Refused c vs) e in (h.mid, h.whole, stuck_good h.mid vs c h.begins h.same);
    whole = whole;
    fronts = fronts;
  }

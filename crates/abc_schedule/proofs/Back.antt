-- The logs of a run of a network fit together, with what its links hold at the end.
use Rattle.std.proofs.Common.{◌≡◌, ◌≢◌, inl, inr, ℕ, cond, List, [], ◌∷◌, ◌++◌, refl, sym, ap, ◌∙◌}
use Rattle.std.proofs.Common.{subst, append_assoc, append-nil, eq-eqb, ne_eqb}
use Rattle.std.proofs.lemmas.Bool.{cases_eq}
use Rattle.abc_packet.specs.declared.stamped.Stamped.{Stamped}
use Rattle.abc_packet.specs.declared.log.Entry.{Entry}
use Rattle.abc_packet.specs.Outlets.{sent_on}
use Rattle.abc_packet.proofs.Sendings.{sent_after_append}
use Rattle.abc_schedule.specs.Schedules.{arrivals_on}
use Rattle.abc_schedule.specs.Machines.{put, Machine, IsClocked, Walk, Web, WebStep, WebRun, of_actor, takes}
use Rattle.abc_schedule.proofs.Law.{put_eq, put_other, Fit}

-- The entries of the actor of the first one,
pub of_same : {L : Type 0} (a : ℕ) (x : ℕ × Entry L) (xs : List (ℕ × Entry L)) → a ≡ x.0 →
    of_actor a (x ∷ xs) ≡ x.1 ∷ of_actor a xs
of_same a x xs h = ap (λ t. cond t (x.1 ∷ of_actor a xs) (of_actor a xs)) (eq-eqb a x.0 h)

-- and of another.
pub of_other : {L : Type 0} (a : ℕ) (x : ℕ × Entry L) (xs : List (ℕ × Entry L)) → a ≢ x.0 →
    of_actor a (x ∷ xs) ≡ of_actor a xs
of_other a x xs h = ap (λ t. cond t (x.1 ∷ of_actor a xs) (of_actor a xs)) (ne_eqb a x.0 h)

-- The arrivals on a link, those of the first entry apart.
takes-split : {L : Type 0} (l b : ℕ) (x : ℕ × Entry L) (xs : List (ℕ × Entry L)) →
    (b ≢ x.0 → takes l x.1 ≡ []) →
    arrivals_on l (of_actor b (x ∷ xs)) ≡ takes l x.1 ++ arrivals_on l (of_actor b xs)
takes-split l b x xs none =
    elim (cases_eq b x.0) [
      | inl h ↦ ap (arrivals_on l) (of_same b x xs h)
      | inr h ↦ rw (none h) (ap (arrivals_on l) (of_other b x xs h))
    ]

-- What is sent on a link, that of the first entry apart.
sends-split : {L : Type 0} (l b a : ℕ) (outs : ℕ → List (ℕ × Stamped L)) (now : List (ℕ × Stamped L)) →
    (b ≢ a → sent_on l now ≡ []) →
    sent_on l (put outs a (now ++ outs a) b) ≡ sent_on l now ++ sent_on l (outs b)
sends-split l b a outs now none =
    elim (cases_eq b a) [
      | inl h ↦ ap (sent_on l) (put_eq outs a (now ++ outs a) b h)
          ∙ (sent_after_append l now (outs a) ∙ ap (λ c. sent_on l now ++ sent_on l (outs c)) (sym h))
      | inr h ↦ rw (none h) (ap (sent_on l) (put_other outs a (now ++ outs a) b h))
    ]

-- What the actors of a run sent, and that its logs fit together.
pub record Fits {S L : Type 0} (m : Machine S L) (n : Web S L) (xs : List (ℕ × Entry L)) (n' : Web S L) :
    Type 0 where
  pub outs : ℕ → List (ℕ × Stamped L)
  pub fit : Fit m n (λ a. of_actor a xs) outs n'.states n'.links

module _ {S L : Type 0} (m : Machine S L) (c : IsClocked m) where
  -- With one step more at the front the links are joined.
  back-link : (x : ℕ × Entry L) (xs : List (ℕ × Entry L)) (n n' : Web S L) (outs : ℕ → List (ℕ × Stamped L))
      (rest : List (Stamped L)) (st : WebStep m n x n') (l : ℕ) →
      arrivals_on l (of_actor (m.into l) xs) ++ rest ≡ n'.links l ++ sent_on l (outs (m.from l)) →
      arrivals_on l (of_actor (m.into l) (x ∷ xs)) ++ rest
      ≡ n.links l ++ sent_on l (put outs x.0 (st.sends ++ outs x.0) (m.from l))
  back-link x xs n n' outs rest st l joined =
      let ends = c.ends x.0 (n.states x.0) x.1 st.sends (n'.states x.0) st.step l in
      let starts = c.starts x.0 (n.states x.0) x.1 st.sends (n'.states x.0) st.step l in
      let t = takes-split l (m.into l) x xs ends in
      let s = sends-split l (m.from l) x.0 outs st.sends starts in
      let q = (st.links l).0 in
      let took = takes l x.1 in
      let before = sent_on l (outs (m.from l)) in
      let after = sent_on l (put outs x.0 (st.sends ++ outs x.0) (m.from l)) in
      ap (λ u. u ++ rest) t
      ∙ (append_assoc took (arrivals_on l (of_actor (m.into l) xs)) rest
      ∙ (ap (λ u. took ++ u) (joined ∙ (ap (λ u. u ++ before) (st.links l).2
      ∙ (append_assoc q (sent_on l st.sends) before ∙ ap (λ u. q ++ u) (sym s))))
      ∙ (sym (append_assoc took q after) ∙ ap (λ u. u ++ after) (sym (st.links l).1))))

  -- The way back, without names for what the actors do.
  pub back : (xs : List (ℕ × Entry L)) (n n' : Web S L) → WebRun m n xs n' → Fits m n xs n'
  back [] n n' r = record {
    outs = λ a. [];
    fit = record {
      walks = λ a. (refl, ap (λ t. t.states a) r);
      links = λ l. ap (λ t. t.links l) r ∙ sym (append-nil (n.links l));
    };
  }
  back (x ∷ xs) n n'' r =
      let n' : Web S L = r.0 in
      let st : WebStep m n x n' = r.1 in
      let ih = back xs n' n'' r.2 in
      let outs : ℕ → List (ℕ × Stamped L) = put ih.outs x.0 (st.sends ++ ih.outs x.0) in
      record {
        outs = outs;
        fit = record {
          walks = λ a.
              elim (cases_eq a x.0) [
                | inl h ↦
                    rw (of_same a x xs h, put_eq ih.outs x.0 (st.sends ++ ih.outs x.0) a h)
                    (subst (λ b. Walk m b (n.states b) (x.1 ∷ of_actor b xs) (st.sends ++ ih.outs x.0) (n''.states b))
                    (sym h)
                    (n'.states x.0, st.sends, ih.outs x.0, refl, st.step, ih.fit.walks x.0))
                | inr h ↦
                    rw (of_other a x xs h, put_other ih.outs x.0 (st.sends ++ ih.outs x.0) a h)
                    (subst (λ s. Walk m a s (of_actor a xs) (ih.outs a) (n''.states a)) (st.others a h) (ih.fit.walks a))
              ];
          links = λ l. back-link x xs n n' ih.outs (n''.links l) st l (ih.fit.links l);
        };
      }

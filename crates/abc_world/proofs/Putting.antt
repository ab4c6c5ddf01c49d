-- A packet at the end of one queue of a table.
use Rattle.std.proofs.Common.{◌≡◌, ℕ, ◌<◌, List, [], ◌∷◌, ◌++◌, length, get_or, set, refl, sym, ap, ◌∙◌}
use Rattle.std.proofs.Common.{inl, inr, append-nil}
use Rattle.std.proofs.lemmas.Bool.{cases_eq}
use Rattle.std.proofs.lemmas.List.{get_or-set_same, get_or-set_other}
use Rattle.abc_packet.specs.declared.stamped.Stamped.{Stamped}
use Rattle.abc_packet.specs.Outlets.{sent_on}
use Rattle.abc_schedule.proofs.Actors.{none-sent}
use Rattle.abc_schedule.proofs.OnLinks.{one-sent}

-- The queue of its link has gained it at its end, and the others are as before.
pub put_on_its_link : {L : Type 0} (qs : List (List (Stamped L))) (l k : ℕ) (x : Stamped L) → l < length qs →
    get_or (set qs l (get_or qs l [] ++ x ∷ [])) k [] ≡ get_or qs k [] ++ sent_on k ((l, x) ∷ [])
put_on_its_link qs l k x there =
    elim (cases_eq k l) [
      | inl e ↦
          ap (λ v. get_or (set qs l (get_or qs l [] ++ x ∷ [])) v []) e
          ∙ (get_or-set_same qs l (get_or qs l [] ++ x ∷ []) [] there
          ∙ (ap (λ v. get_or qs l [] ++ v) (sym (one-sent l l x refl))
          ∙ ap (λ v. get_or qs v [] ++ sent_on v ((l, x) ∷ [])) (sym e)))
      | inr ne ↦
          get_or-set_other qs l k (get_or qs l [] ++ x ∷ []) [] ne
          ∙ (sym (append-nil (get_or qs k []))
          ∙ ap (λ v. get_or qs k [] ++ v) (sym (none-sent k ((l, x) ∷ []) ((λ e. ne (sym e)), tt))))
    ]

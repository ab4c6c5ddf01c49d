-- What joins a term, by the next token and what is read behind it.
use Rattle.std.proofs.Common.{◌≡◌, List, ◌∷◌, Some, sym, ap, ◌∙◌, subst}
use Rattle.abc_reading.specs.Reading.{Outcome, Read, Joins, join_by, joined_by, joined}
use Rattle.abc_reading.proofs.Chain.{Leaves, Ends, joined-step, joined_ends}

module _ {T E A : Type 0} (e : E) (item : List T → Outcome T E A) (joins : Joins T A) (leaves : Leaves item) where
  pub joins_on : (a : A) (ts us : List T) (t : T) (g : A → A → A) (x : Outcome T E A) → ts ≡ t ∷ us → joins t ≡ Some g → item us ≡ x → joined e item joins a ts ≡ joined_by (joined e item joins) a ts g x
  joins_on a ts us t g x whole j r =
      subst (λ (ws : List T). joined e item joins a ws ≡ joined_by (joined e item joins) a ws g x) (sym whole)
      (joined-step e item joins leaves a (t ∷ us) ∙ ap (join_by item (joined e item joins) a t us) j ∙ ap (joined_by (joined e item joins) a (t ∷ us) g) r)

  pub joins_no_more : (a : A) (ts : List T) → Ends joins ts → joined e item joins a ts ≡ Read a ts
  joins_no_more a ts h = joined_ends e item joins leaves a ts h

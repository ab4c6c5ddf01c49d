use Rattle.std.proofs.Common.{◌≡◌, ◌∙◌, ℕ, List, [], ◌∷◌, ◌++◌, inl, inr, refl, ap, sym, append-nil}
use Rattle.std.proofs.lemmas.Slice.Zip.{either_empty_from_Zip}
use Rattle.std.specs.Iterator.Adapters.{zip_first, zip_second}
use Rattle.std.specs.Slice.Iter.{iter_rest}
use Rattle.abc_pred.specs.Maps.{Entries}
use Rattle.abc_term.specs.declared.terms.Component.{Component}
use Rattle.abc_run_text.specs.TextOf.{envs_text}
use Rattle.abc_record_text.proofs.steps.write_envs.Goals as goal

-- Without an environment there is no line.
no-envs : (words : List (List ℕ)) (components : List Component) → envs_text words components [] ≡ []
no-envs words [] = refl
no-envs words (C ∷ components) = refl

pub returns : goal.returns
returns c =
    let words = c.args.names.now in
    let at = c.loop-component.component-iterator in
    let components = iter_rest (zip_first at) in let envs = iter_rest (zip_second at) in
    let done : envs_text words components envs ≡ [] =
    elim (either_empty_from_Zip at c.next.new.self c.next.result c.in-None.is c.next.ensures.steps) [
      | inl e ↦ ap (λ (Cs : List Component). envs_text words Cs envs) e
      | inr e ↦ ap (λ (es : List Entries). envs_text words components es) e ∙ no-envs words components
    ] in
    sym (append-nil c.loop-component.out) ∙ ap (λ (t : List ℕ). c.loop-component.out ++ t) (sym done) ∙ c.loop-component.invariant

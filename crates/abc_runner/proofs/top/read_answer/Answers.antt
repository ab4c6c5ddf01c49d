use Rattle.std.proofs.Common.{ℕ, List, inl, inr, subst}
use Rattle.abc_runner.specs.Answers.{IsOfText}
use Rattle.abc_runner.proofs.Texts.{all_consumed, after_text}
use Rattle.abc_runner.proofs.top.read_answer.Goals as goal

pub returns-in-Ok : goal.returns-in-Ok
returns-in-Ok g c = (
  c.in-Ok.bytes,
  all_consumed _ _ c.in-Ok.bytes _ c.in-Ok.ensures.whole c.in-Ok.ensures.at_end c.in-Ok.ensures.too_long,
  after_text c.args.command c.text_answer.result _ _ _ c.in-Ok.bytes c.in-Ok.ensures.within
      (elim c.in-Ok.ensures.sound [ inl h ↦ cc | inr same ↦ same ]) c.in-Ok.ensures.at_end
      (subst (λ (bytes : List ℕ). IsOfText c.args.command bytes c.text_answer.result) c.as_slice.ensures c.text_answer.ensures),
)

-- Bytes fix what reading them answers, but for want of memory.
use Rattle.std.proofs.Common.{inl, inr, refl, sym, ap, ◌∙◌}
use Rattle.std.specs.Prelude.{Ok, Err}
use Rattle.abc_trace_order.specs.declared.refusal.TraceRefusal.TheVariants as refusal
use Rattle.abc_trace_laws.specs.Laws.{TraceAnswersAreOne, TraceAnswersAreRenumbered}
use Rattle.abc_trace_laws.proofs.OneTrace.{traces_are_one}
use Rattle.abc_trace_laws.proofs.ReadBack.{written_is_read_back}

pub trace_answers_are_one : TraceAnswersAreOne
trace_answers_are_one bytes (Ok t) (Ok u) a b =
    traces_are_one.one t u a.read.formed b.read.formed a.read.numbered b.read.numbered (a.read.text ∙ sym b.read.text)
trace_answers_are_one bytes (Ok t) (Err (refusal.BadLine q)) a b = absurd (b.exact.text (t, a.read.formed, a.read.text))
trace_answers_are_one bytes (Ok t) (Err (refusal.Missing q)) a b = absurd (b.exact.text (t, a.read.formed, a.read.text))
trace_answers_are_one bytes (Ok t) (Err refusal.NoMemory) a b = refl
trace_answers_are_one bytes (Err (refusal.BadLine p)) (Ok u) a b = absurd (a.exact.text (u, b.read.formed, b.read.text))
trace_answers_are_one bytes (Err (refusal.Missing p)) (Ok u) a b = absurd (a.exact.text (u, b.read.formed, b.read.text))
trace_answers_are_one bytes (Err refusal.NoMemory) (Ok u) a b = refl
trace_answers_are_one bytes (Err (refusal.BadLine p)) (Err (refusal.BadLine q)) a b =
    inl (ap refusal.BadLine (sym (b.exact.bad p a.refused)))
trace_answers_are_one bytes (Err (refusal.BadLine p)) (Err (refusal.Missing q)) a b = absurd (b.exact.bad p a.refused)
trace_answers_are_one bytes (Err (refusal.BadLine p)) (Err refusal.NoMemory) a b = inr (inr refl)
trace_answers_are_one bytes (Err (refusal.Missing p)) (Err (refusal.BadLine q)) a b = absurd (b.exact.short p a.refused)
trace_answers_are_one bytes (Err (refusal.Missing p)) (Err (refusal.Missing q)) a b =
    inl (ap refusal.Missing (sym (b.exact.short p a.refused)))
trace_answers_are_one bytes (Err (refusal.Missing p)) (Err refusal.NoMemory) a b = inr (inr refl)
trace_answers_are_one bytes (Err refusal.NoMemory) (Err f) a b = inr (inl refl)

pub trace_answers_are_renumbered : TraceAnswersAreRenumbered
trace_answers_are_renumbered t (Ok u) formed a = written_is_read_back.same t u formed a.read
trace_answers_are_renumbered t (Err (refusal.BadLine place)) formed a = absurd (a.exact.text (t, formed, refl))
trace_answers_are_renumbered t (Err (refusal.Missing place)) formed a = absurd (a.exact.text (t, formed, refl))
trace_answers_are_renumbered t (Err refusal.NoMemory) formed a = refl

use Rattle.std.proofs.Common.{◌≡◌, ◌∙◌, ◌++◌, List, ℕ, flat_map, ap}
use Rattle.std.proofs.lemmas.Result.{on_ok_weaker}
use Rattle.abc_pred.specs.Standing.{expr_of, pred_of}
use Rattle.abc_term.specs.Standing.{exprs_of, process_of}
use Rattle.abc_print.specs.Bytes.{update_bytes, output_bytes, input_bytes, process_bytes}
use Rattle.abc_print.proofs.Joined.{appended-three}
use Rattle.abc_print.proofs.ProcessBytes.{output-process-bytes, input-process-bytes}
use Rattle.abc_print.proofs.processes.+print_process.Goals as goal

pub returns-in_ok-print_updates-in-Output : goal.returns-in_ok-print_updates-in-Output
returns-in_ok-print_updates-in-Output t c =
    let h = c.in-Output in
    let words = c.args.names.now in
    let head : List ℕ = output_bytes words (exprs_of h.exprs) (pred_of h.pred) in
    let updates : List ℕ = flat_map (λ u. update_bytes words (u.name, expr_of u.value)) h.after.updates in
    let then : List ℕ = process_bytes words 2 (process_of h.after.then.value) in
    let form : process_bytes words c.args.asked (process_of c.args.process.now) ≡ head ++ (updates ++ then) =
    ap (λ P. process_bytes words c.args.asked (process_of P)) h.is
    ∙ output-process-bytes words c.args.asked (exprs_of h.exprs) (pred_of h.pred) h.after.updates (process_of h.after.then.value) c.requires in
    let first : c.print_output.new.out ≡ c.args.out.now ++ head =
    c.in_ok-print_output-in-Output.ensures ∙ ap (λ es. c.args.out.now ++ output_bytes words (exprs_of es) (pred_of h.pred)) c.as_slice.ensures in
    let second : c.print_updates.new.out ≡ c.print_output.new.out ++ updates =
    c.in_ok-print_updates-in-Output.ensures
    ∙ ap (λ us. c.print_output.new.out ++ flat_map (λ u. update_bytes words (u.name, expr_of u.value)) us) c.as_slice-in-Output.ensures in
    on_ok_weaker c.print_process.result
    (λ e. appended-three _ _ _ _ head updates then _ first second form
    (e ∙ ap (λ P. c.print_updates.new.out ++ process_bytes words 2 (process_of P)) c.deref.ensures))
    c.print_process.ensures

pub returns-in_ok-print_updates-in-Input : goal.returns-in_ok-print_updates-in-Input
returns-in_ok-print_updates-in-Input t c =
    let h = c.in-Input in
    let words = c.args.names.now in
    let head : List ℕ = input_bytes words (pred_of h.pred) h.variables in
    let updates : List ℕ = flat_map (λ u. update_bytes words (u.name, expr_of u.value)) h.after.updates in
    let then : List ℕ = process_bytes words 2 (process_of h.after.then.value) in
    let form : process_bytes words c.args.asked (process_of c.args.process.now) ≡ head ++ (updates ++ then) =
    ap (λ P. process_bytes words c.args.asked (process_of P)) h.is
    ∙ input-process-bytes words c.args.asked (pred_of h.pred) h.variables h.after.updates (process_of h.after.then.value) c.requires in
    let first : c.print_input.new.out ≡ c.args.out.now ++ head =
    c.in_ok-print_input-in-Input.ensures ∙ ap (λ xs. c.args.out.now ++ input_bytes words (pred_of h.pred) xs) c.as_slice-in-Input.ensures in
    let second : c.print_updates-in-Input.new.out ≡ c.print_input.new.out ++ updates =
    c.in_ok-print_updates-in-Input.ensures
    ∙ ap (λ us. c.print_input.new.out ++ flat_map (λ u. update_bytes words (u.name, expr_of u.value)) us) c.as_slice-in-Input-2.ensures in
    on_ok_weaker c.print_process-in-Input.result
    (λ e. appended-three _ _ _ _ head updates then _ first second form
    (e ∙ ap (λ P. c.print_updates-in-Input.new.out ++ process_bytes words 2 (process_of P)) c.deref-in-Input.ensures))
    c.print_process-in-Input.ensures

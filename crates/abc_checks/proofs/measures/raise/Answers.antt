use Rattle.std.proofs.Common.{◌≡◌, ◌<◌, ℕ, List, length, set, get_or, sym, ◌∙◌, ap, subst, arith}
use Rattle.abc_term.specs.Processes.{Nil}
use Rattle.abc_checks.specs.Tables.{measure_of, cap_of, number_of, bodies, room, IsRising}
use Rattle.abc_checks.proofs.Solving.{rising_on, room_falls, default_number}
use Rattle.abc_checks.proofs.measures.raise.Goals as goal

pub returns-then-index-asked-clause-rising : goal.returns-then-index-asked-clause-rising
returns-then-index-asked-clause-rising c =
    let m = c.args.measure in
    let ds = c.args.places.now.program.now.definitions in
    let t : List ℕ = c.args.table.now.items in
    let lt : c.args.at < length t = omega (arith, c.requires.rising.size, c.requires.within) in
    let asks : c.asked_for-asked.result ≡ measure_of m (number_of ds t) (get_or (bodies ds) c.args.at Nil) =
    c.asked_for-asked.ensures ∙ ap (λ (s : List ℕ). measure_of m (number_of ds s) (get_or (bodies ds) c.args.at Nil)) c.deref.ensures.value in
    subst (λ (n : ℕ). IsRising (measure_of m) ds (set t c.args.at n)) (sym asks) (rising_on m ds t c.args.at lt c.requires.rising)

pub returns-then-index-asked-clause-falls : goal.returns-then-index-asked-clause-falls
returns-then-index-asked-clause-falls c _ =
    let m = c.args.measure in
    let ds = c.args.places.now.program.now.definitions in
    let t : List ℕ = c.args.table.now.items in
    let lt : c.args.at < length t = omega (arith, c.requires.rising.size, c.requires.within) in
    let asks : c.asked_for-asked.result ≡ measure_of m (number_of ds t) (get_or (bodies ds) c.args.at Nil) =
    c.asked_for-asked.ensures ∙ ap (λ (s : List ℕ). measure_of m (number_of ds s) (get_or (bodies ds) c.args.at Nil)) c.deref.ensures.value in
    let here : c.index.result.now ≡ get_or t c.args.at 1 = c.index.ensures ∙ default_number t c.args.at c.index.result.now 1 lt in
    let more : get_or t c.args.at 1 < measure_of m (number_of ds t) (get_or (bodies ds) c.args.at Nil) = omega (arith, here, asks, c.if-index-asked.true) in
    subst (λ (n : ℕ). room (cap_of m) (set t c.args.at n) < room (cap_of m) t) (sym asks) (room_falls m ds t c.args.at lt more)

-- Processes in braces, and prefixes behind heads, are read again on fewer tokens.
use Rattle.std.proofs.Common.{◌≡◌, ℕ, zero, suc, ◌<◌, ◌≤◌, [], ◌∷◌, length, refl, sym, ap, ◌∙◌, subst, arith}
use Rattle.abc_term.specs.Processes.{Process}
use Rattle.abc_term.specs.Processes as P
use Rattle.abc_cause.specs.declared.Cause.TheVariants.{Syntax}
use Rattle.abc_grammar.specs.declared.lexemes.Lexeme.TheVariants as l
use Rattle.abc_text.specs.declared.words.Mark.TheVariants as m
use Rattle.abc_text.specs.declared.words.Keyword.TheVariants as k
use Rattle.abc_grammar.specs.Processes.{IsProcess, IsChoice, IsPrefix}
use Rattle.abc_reading.specs.Reading.{Read, Cut, Refused, ◌>>=◌, mapped, times, again, chain}
use Rattle.abc_reading.proofs.Laws.{Begins, left_of, Owes, Reads, refuse_at_owes, refuse_end_owes}
use Rattle.abc_reading.proofs.Again.{Guarded, again_owes, again-step}
use Rattle.abc_reading.proofs.Chain.{Leaves, reads_leaves, chain-agree}
use Rattle.abc_readers.specs.Operands.{Tokens, Reading, refuse, close_curly}
use Rattle.abc_readers.specs.Processes.{Head, under, condition, guard_of, guard_head, output_of, output_tail, output_head, input_of, input_tail, input_head, Again, process_again, prefix_again, pluses, bars, prefix_by, choice_by, process_by, process_step, process, prefix, choice}
use Rattle.abc_readers.proofs.ProcessReads.{Grammar, nil_prefix, nil_process, IsCondition, condition_reads, OutputTail, output_tail_reads, InputTail, input_tail_reads, prefix_by_reads, choice_by_reads, step_reads}

abbrev Good : (Again → Tokens → Reading Process) → Type 0
Good f = (x : Again) → Reads (Grammar x) (f x)

times_read : (n : ℕ) → Good (times Syntax process_step n)
times_read zero process_again ts = refused ts
  where
    begins : Begins IsProcess []
    begins = (l.Number 0 ∷ [], P.Nil, nil_process)

    refused : (ts : Tokens) → Owes IsProcess (λ us. refuse us) [] ts (refuse ts)
    refused [] = refuse_end_owes IsProcess (λ us. refuse us) [] Syntax begins refl
    refused (t ∷ ts) = refuse_at_owes IsProcess (λ us. refuse us) [] t ts Syntax begins (λ us. refl)
times_read zero prefix_again ts = refused ts
  where
    begins : Begins IsPrefix []
    begins = (l.Number 0 ∷ [], P.Nil, nil_prefix)

    refused : (ts : Tokens) → Owes IsPrefix (λ us. refuse us) [] ts (refuse ts)
    refused [] = refuse_end_owes IsPrefix (λ us. refuse us) [] Syntax begins refl
    refused (t ∷ ts) = refuse_at_owes IsPrefix (λ us. refuse us) [] t ts Syntax begins (λ us. refl)
times_read (suc n) x ts = step_reads (times Syntax process_step n) (times_read n) x ts

-- ---- behind its first token a head is read from fewer
left-mapped : {A B : Type 0} (f : A → B) (y : Reading A) → left_of (mapped f y) ≡ left_of y
left-mapped f (Read a us) = refl
left-mapped f (Cut a us c vs) = refl
left-mapped f (Refused c vs) = refl

guard_leaves : (ts : Tokens) → left_of (guard_head (l.Keyword k.When ∷ ts)) ≤ length ts
unfolding guard_head
guard_leaves ts =
    let e : left_of (mapped guard_of (mapped (λ b. (tt, b)) (condition ts))) ≡ left_of (condition ts) = left-mapped guard_of (mapped (λ b.
    (tt, b)) (condition ts)) ∙ left-mapped (λ b. (tt, b)) (condition ts) in
    let le = reads_leaves IsCondition condition condition_reads ts in
    omega (arith, e, le)

output_leaves : (ts : Tokens) → left_of (output_head (l.Mark m.OpenRound ∷ ts)) ≤ length ts
unfolding output_head
output_leaves ts =
    let e : left_of (mapped output_of (mapped (λ b. (tt, b)) (output_tail ts))) ≡ left_of (output_tail ts) = left-mapped output_of (mapped (λ b.
    (tt, b)) (output_tail ts)) ∙ left-mapped (λ b. (tt, b)) (output_tail ts) in
    let le = reads_leaves OutputTail output_tail output_tail_reads ts in
    omega (arith, e, le)

input_leaves : (ts : Tokens) → left_of (input_head (l.Mark m.Question ∷ ts)) ≤ length ts
unfolding input_head
input_leaves ts =
    let e : left_of (mapped input_of (mapped (λ b. (tt, b)) (input_tail ts))) ≡ left_of (input_tail ts) = left-mapped input_of (mapped (λ b.
    (tt, b)) (input_tail ts)) ∙ left-mapped (λ b. (tt, b)) (input_tail ts) in
    let le = reads_leaves InputTail input_tail input_tail_reads ts in
    omega (arith, e, le)

-- ---- readers that agree on fewer tokens give the same step
module _ (f g : Again → Tokens → Reading Process) (lf : Good f) (n : ℕ) (agree : (x : Again) (us : Tokens) → length us < n → f x us ≡ g x us) where
  behind : (y : Reading Head) → left_of y < n → (y >>= λ h us. mapped (under h) (f prefix_again us)) ≡ (y >>= λ h us. mapped (under h)
      (g prefix_again us))
  behind (Read h us) le = ap (mapped (under h)) (agree prefix_again us le)
  behind (Cut h us c vs) le = refl
  behind (Refused c vs) le = refl

  prefix-agree : (ts : Tokens) → length ts ≤ n → prefix_by f ts ≡ prefix_by g ts
  prefix-agree [] h = refl
  prefix-agree (l.Mark m.OpenCurly ∷ ts) h = ap (λ (y : Reading Process). y >>= close_curly) (agree process_again ts (omega arith))
  prefix-agree (l.Keyword k.When ∷ ts) h = behind (guard_head (l.Keyword k.When ∷ ts)) (let le = guard_leaves ts in omega (arith, le))
  prefix-agree (l.Mark m.OpenRound ∷ ts) h = behind (output_head (l.Mark m.OpenRound ∷ ts)) (let le = output_leaves ts in omega (arith, le))
  prefix-agree (l.Mark m.Question ∷ ts) h = behind (input_head (l.Mark m.Question ∷ ts)) (let le = input_leaves ts in omega (arith, le))
  prefix-agree (t ∷ ts) h = refl

  choice-agree : (ts : Tokens) → length ts ≤ n → choice_by f ts ≡ choice_by g ts
  choice-agree ts h = chain-agree Syntax (prefix_by f) (prefix_by g) pluses (reads_leaves IsPrefix (prefix_by f)
      (prefix_by_reads f lf)) n prefix-agree ts h

  process-agree : (ts : Tokens) → length ts ≤ n → process_by f ts ≡ process_by g ts
  process-agree ts h = ap (λ (y : Reading Process). y >>= λ a us. Read a us)
      (chain-agree Syntax (choice_by f) (choice_by g) bars (reads_leaves IsChoice (choice_by f) (choice_by_reads f lf)) n choice-agree ts h)

process-guarded : Guarded Good process_step
process-guarded f g q r process_again ts agree = process-agree f g q (length ts) (λ x us lt. agree x us lt) ts (omega arith)
process-guarded f g q r prefix_again ts agree = prefix-agree f g q (length ts) (λ x us lt. agree x us lt) ts (omega arith)

pub process_reads : Reads IsProcess process
unfolding process
process_reads ts = again_owes Syntax process_step Good process-guarded times_read IsProcess [] process_again ts (λ n. times_read n process_again ts)

pub prefix_reads : Reads IsPrefix prefix
unfolding prefix
prefix_reads ts = again_owes Syntax process_step Good process-guarded times_read IsPrefix [] prefix_again ts (λ n. times_read n prefix_again ts)

all_read : Good (again Syntax process_step)
unfolding process prefix
all_read process_again = process_reads
all_read prefix_again = prefix_reads

-- what is read in braces, and behind heads, are processes and prefixes again
pub process-eq : (ts : Tokens) → process ts ≡ process_by (again Syntax process_step) ts
unfolding process
process-eq ts = again-step Syntax process_step Good process-guarded times_read all_read process_again ts

pub prefix-eq : (ts : Tokens) → prefix ts ≡ prefix_by (again Syntax process_step) ts
unfolding prefix
prefix-eq ts = again-step Syntax process_step Good process-guarded times_read all_read prefix_again ts

-- prefixes joined by `+`, as they are read again
inner_prefix : (ts : Tokens) → prefix_by (again Syntax process_step) ts ≡ prefix ts
inner_prefix ts = sym (prefix-eq ts)

pub prefix_leaves : Leaves prefix
prefix_leaves = reads_leaves IsPrefix prefix prefix_reads

pub choice-eq : (ts : Tokens) → choice_by (again Syntax process_step) ts ≡ choice ts
unfolding choice
choice-eq ts = chain-agree Syntax (prefix_by (again Syntax process_step)) prefix pluses (reads_leaves IsPrefix (prefix_by
    (again Syntax process_step)) (prefix_by_reads (again Syntax process_step) all_read)) (length ts) (λ us le. inner_prefix us) ts (omega arith)

choice_inner_leaves : Leaves (choice_by (again Syntax process_step))
choice_inner_leaves = reads_leaves IsChoice (choice_by (again Syntax process_step)) (choice_by_reads (again Syntax process_step) all_read)

-- a process is choices joined by `|`
pub process-chain : (ts : Tokens) → process ts ≡ (chain Syntax choice bars ts >>= λ a us. Read a us)
process-chain ts = process-eq ts ∙ ap (λ (y : Reading Process). y >>= λ a us. Read a us) (chain-agree Syntax (choice_by
    (again Syntax process_step)) choice bars choice_inner_leaves (length ts) (λ us le. choice-eq us) ts (omega arith))

pub choice_leaves : Leaves choice
choice_leaves ts = subst (λ (y : Reading Process). left_of y ≤ length ts) (choice-eq ts) (choice_inner_leaves ts)

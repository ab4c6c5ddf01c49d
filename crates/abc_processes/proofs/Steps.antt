-- What the loops of the readers of processes do, by the next token.
use Rattle.std.proofs.Common.{◌≡◌, List, [], ◌∷◌, ◌++◌, Option, Some, None, map, refl, sym, ap, ◌∙◌}
use Rattle.abc_pred.specs.declared.names.Name.{Name}
use Rattle.abc_pred.specs.Terms.{Expr}
use Rattle.abc_term.specs.Processes.{Process, Update}
use Rattle.abc_cause.specs.declared.Cause.TheVariants.{Syntax}
use Rattle.abc_grammar.specs.declared.lexemes.Lexeme.{Lexeme}
use Rattle.abc_grammar.specs.declared.lexemes.Lexeme.TheVariants as l
use Rattle.abc_text.specs.declared.words.Mark.TheVariants as m
use Rattle.abc_grammar.specs.Exprs.{IsExpr}
use Rattle.abc_grammar.specs.Processes.{IsUpdate}
use Rattle.abc_reading.specs.Reading.{Read, Cut, Refused, ◌>>=◌, mapped, again, Joins, and_then, join_by, joined_by, join, joined, chain}
use Rattle.abc_reading.proofs.Chain.{Leaves, reads_leaves, joined-step}
use Rattle.abc_readers.specs.Operands.{Tokens, Reading, alone, commas, close_round}
use Rattle.abc_readers.specs.Preds.{close_square}
use Rattle.abc_readers.specs.Exprs.{whole, whole_expr}
use Rattle.abc_readers.specs.Combining.{one, IsOne, repeat, repeated_on}
use Rattle.abc_readers.specs.Processes.{round_closes, square_closes, a_variable, update, starts_update, under, Again, process_again, prefix_again, pluses, bars, prefix_by, process, prefix, choice}
use Rattle.abc_readers.proofs.OperandReads.{Alone, alone_reads}
use Rattle.abc_readers.proofs.Combined.{repeated-step}
use Rattle.abc_readers.proofs.ProcessReads.{whole_expr_reads, one_variable_reads, update_reads, update_starts}
use Rattle.abc_readers.proofs.ProcessAgain.{prefix-eq, process-chain, prefix_leaves, choice_leaves}
use Rattle.abc_processes.specs.declared.heads.Head.{Head}
use Rattle.abc_processes.specs.Processes.{head_of, under_all, whole_choice}

-- ---- tokens that close
pub one-round_closes : (ts : Tokens) → one round_closes ts ≡ close_round tt ts
one-round_closes [] = refl
one-round_closes (l.Mark m.CloseRound ∷ ts) = refl
one-round_closes (t ∷ ts) = refl

pub one-square_closes : (ts : Tokens) → one square_closes ts ≡ close_square tt ts
one-square_closes [] = refl
one-square_closes (l.Mark m.CloseSquare ∷ ts) = refl
one-square_closes (t ∷ ts) = refl

pub ruleset close_steps = (one-round_closes, one-square_closes)

-- ---- expressions and variables, parted by commas
module _ {A : Type 0} (item : Tokens → Reading A) (leaves : Leaves (λ us. mapped alone (item us))) where
  pub items-step : (a : List A) (ts : Tokens) → joined Syntax (λ us. mapped alone (item us)) commas a ts
      ≡ join (λ us. mapped alone (item us)) commas (joined Syntax (λ us. mapped alone (item us)) commas) a ts
  items-step = joined-step Syntax (λ us. mapped alone (item us)) commas leaves

expr_leaves : Leaves (λ us. mapped alone (whole_expr us))
expr_leaves = reads_leaves (Alone IsExpr whole_expr whole_expr_reads) (λ us. mapped alone (whole_expr us))
    (alone_reads IsExpr whole_expr whole_expr_reads)

variable_leaves : Leaves (λ us. mapped alone (one a_variable us))
variable_leaves = reads_leaves (Alone (IsOne a_variable) (one a_variable) one_variable_reads) (λ us. mapped alone (one a_variable us))
    (alone_reads (IsOne a_variable) (one a_variable) one_variable_reads)

pub exprs-step : (a : List Expr) (ts : Tokens) → joined Syntax (λ us. mapped alone (whole_expr us)) commas a ts
    ≡ join (λ us. mapped alone (whole_expr us)) commas (joined Syntax (λ us. mapped alone (whole_expr us)) commas) a ts
exprs-step = items-step whole_expr expr_leaves

pub variables-step : (a : List Name) (ts : Tokens) → joined Syntax (λ us. mapped alone (one a_variable us)) commas a ts
    ≡ join (λ us. mapped alone (one a_variable us)) commas (joined Syntax (λ us. mapped alone (one a_variable us)) commas) a ts
variables-step = items-step (one a_variable) variable_leaves

pub ruleset list_steps = (exprs-step, variables-step, one-round_closes)

-- ---- updates, one behind another
pub updates-step : (us : List Update) (ts : Tokens) → repeated_on starts_update update us ts
    ≡ repeat starts_update update (repeated_on starts_update update) us ts
updates-step = repeated-step IsUpdate starts_update update update_reads update_starts

pub ruleset update_steps = (updates-step)

-- ---- prefixes: behind a head stands a prefix, and in braces a process
abbrev pub inner : Again → Tokens → Reading Process
inner process_again ts = process ts
inner prefix_again ts = prefix ts

pub prefix-step : (ts : Tokens) → prefix ts ≡ prefix_by inner ts
unfolding process prefix
prefix-step ts = prefix-eq ts

pub ruleset prefix_steps = (prefix-step)

-- ---- heads: the last of several is the innermost
pub under_all-push : (hs : List Head) (h : Head) (A : Process) →
    under_all (map head_of (hs ++ h ∷ [])) A ≡ under_all (map head_of hs) (under (head_of h) A)
under_all-push [] h A = refl
under_all-push (g ∷ hs) h A = ap (under (head_of g)) (under_all-push hs h A)

pub mapped-push : (hs : List Head) (h : Head) (y : Reading Process) →
    mapped (under_all (map head_of (hs ++ h ∷ []))) y ≡ mapped (under_all (map head_of hs)) (mapped (under (head_of h)) y)
mapped-push hs h (Read A us) = ap (λ (B : Process). Read B us) (under_all-push hs h A)
mapped-push hs h (Cut A us c vs) = ap (λ (B : Process). Cut B us c vs) (under_all-push hs h A)
mapped-push hs h (Refused c vs) = refl

pub mapped-none : (y : Reading Process) → mapped (under_all []) y ≡ y
mapped-none (Read A us) = refl
mapped-none (Cut A us c vs) = refl
mapped-none (Refused c vs) = refl

pub ruleset head_steps = (under_all-push, mapped-push, mapped-none)

-- ---- chains of which all is read whole: `read` reads an item whole
again_whole : {A B : Type 0} (y : Reading A) (f : A → Tokens → Reading B) → ((y >>= λ a us. Read a us) >>= f) ≡ (y >>= f)
again_whole (Read a us) f = refl
again_whole (Cut a us c vs) f = refl
again_whole (Refused c vs) f = refl

module _ {A : Type 0} (read : Tokens → Reading A) (joins : Joins Lexeme A) (more : A → Tokens → Reading A) where
  abbrev pub join_whole_by : A → Lexeme → Tokens → Option (A → A → A) → Reading A
  join_whole_by a t ts None = Read a (t ∷ ts)
  join_whole_by a t ts (Some g) = read ts >>= λ b us. more (g a b) us

  abbrev pub join_whole : A → Tokens → Reading A
  join_whole a [] = Read a []
  join_whole a (t ∷ ts) = join_whole_by a t ts (joins t)

module _ {A : Type 0} (item read : Tokens → Reading A) (joins : Joins Lexeme A) (leaves : Leaves item)
    (same : (ts : Tokens) → whole item ts ≡ whole read ts) where
  read_then : (ts : Tokens) (f : A → Tokens → Reading A) → (whole item ts >>= f) ≡ (read ts >>= f)
  read_then ts f = ap (λ (y : Reading A). y >>= f) (same ts) ∙ again_whole (read ts) f

  pub joined-whole : (a : A) (ts : Tokens) → whole (joined Syntax item joins a) ts
      ≡ join_whole read joins (λ b us. whole (joined Syntax item joins b) us) a ts
  joined-whole a ts = ap (λ (y : Reading A). y >>= λ b us. Read b us) (joined-step Syntax item joins leaves a ts) ∙ by ts
    where
      after : (t : Lexeme) (us : Tokens) (g : A → A → A) (y : Reading A) →
          (joined_by (joined Syntax item joins) a (t ∷ us) g y >>= λ b vs. Read b vs)
          ≡ ((y >>= λ b vs. Read b vs) >>= λ b vs. whole (joined Syntax item joins (g a b)) vs)
      after t us g (Read b vs) = refl
      after t us g (Cut b vs c ws) = refl
      after t us g (Refused c ws) = refl

      at : (t : Lexeme) (us : Tokens) (o : Option (A → A → A)) →
          (join_by item (joined Syntax item joins) a t us o >>= λ b vs. Read b vs)
          ≡ join_whole_by read joins (λ b vs. whole (joined Syntax item joins b) vs) a t us o
      at t us None = refl
      at t us (Some g) = after t us g (item us) ∙ read_then us (λ b vs. whole (joined Syntax item joins (g a b)) vs)

      by : (us : Tokens) → (join item joins (joined Syntax item joins) a us >>= λ b vs. Read b vs)
          ≡ join_whole read joins (λ b vs. whole (joined Syntax item joins b) vs) a us
      by [] = refl
      by (t ∷ us) = at t us (joins t)

  pub chain-whole : (ts : Tokens) → whole (chain Syntax item joins) ts ≡ (read ts >>= λ a us. whole (joined Syntax item joins a) us)
  chain-whole ts = by (item ts) ∙ read_then ts (λ a us. whole (joined Syntax item joins a) us)
    where
      by : (y : Reading A) → (and_then y (joined Syntax item joins) >>= λ b vs. Read b vs)
          ≡ ((y >>= λ b vs. Read b vs) >>= λ b vs. whole (joined Syntax item joins b) vs)
      by (Read a us) = refl
      by (Cut a us c vs) = refl
      by (Refused c vs) = refl

-- behind these prefixes, or these choices
pub choices : Process → Tokens → Reading Process
choices A ts = whole (joined Syntax prefix pluses A) ts

pub parallels : Process → Tokens → Reading Process
parallels A ts = whole (joined Syntax choice bars A) ts

pub choices-step : (A : Process) (ts : Tokens) → choices A ts ≡ join_whole prefix pluses choices A ts
unfolding choices
choices-step A ts = joined-whole prefix prefix pluses prefix_leaves (λ us. refl) A ts

pub choice-chain : (ts : Tokens) → whole_choice ts ≡ (prefix ts >>= choices)
unfolding whole_choice choice choices
choice-chain ts = chain-whole prefix prefix pluses prefix_leaves (λ us. refl) ts

same_choice : (ts : Tokens) → whole choice ts ≡ whole whole_choice ts
unfolding whole_choice
same_choice ts = sym (again_whole (choice ts) (λ A us. Read A us))

pub parallels-step : (A : Process) (ts : Tokens) → parallels A ts ≡ join_whole whole_choice bars parallels A ts
unfolding parallels
parallels-step A ts = joined-whole choice whole_choice bars choice_leaves same_choice A ts

pub process-choices : (ts : Tokens) → process ts ≡ (whole_choice ts >>= parallels)
unfolding parallels
process-choices ts = process-chain ts ∙ chain-whole choice whole_choice bars choice_leaves same_choice ts

pub ruleset process_steps = (choices-step, choice-chain, parallels-step, process-choices)

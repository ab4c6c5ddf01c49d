-- In a text of the grammar the first token that stands in a crowded bracket begins a part too many.
use Rattle.std.proofs.Common.{◌≡◌, ℕ, suc, ◌-◌, ◌≤◌, ◌<◌, ◌⊎◌, inl, inr, Bool, true, false, List, [], ◌∷◌, ◌++◌, length, take, drop, get_or, if◌then◌else◌, Option, Some, None, refl, sym, ap, ◌∙◌, subst, append_assoc, append-nil, length-append, arith}
use Rattle.std.specs.Prelude.{All}
use Rattle.std.proofs.Math.Seq.{take-append_seam}
use Rattle.std.proofs.lemmas.List.{length-take}
use Rattle.std.proofs.lemmas.Bool.{cases_lt}
use Rattle.std.proofs.lemmas.List.Elements.{All-push}
use Rattle.abc_pred.specs.declared.names.Name.{Name}
use Rattle.abc_pred.specs.Terms.{Expr, Pred}
use Rattle.abc_value.specs.declared.value.Value.{Value}
use Rattle.abc_cause.specs.declared.Cause.TheVariants as cause
use Rattle.abc_term.specs.Processes.{Process, Update}
use Rattle.abc_term.specs.Processes as P
use Rattle.abc_grammar.specs.declared.lexemes.Lexeme.{Lexeme}
use Rattle.abc_grammar.specs.declared.lexemes.Lexeme.TheVariants as l
use Rattle.abc_text.specs.declared.words.Mark.TheVariants as m
use Rattle.abc_text.specs.declared.words.Keyword.TheVariants as k
use Rattle.abc_grammar.specs.declared.limits.TheConstants.{MOST_PARTS}
use Rattle.abc_grammar.specs.Listed.{AreListed, MayBeListed, AreRepeated, IsName, IsVariable}
use Rattle.abc_grammar.specs.Listed as listed
use Rattle.abc_grammar.specs.Exprs.{IsExpr}
use Rattle.abc_grammar.specs.Preds.{IsPred}
use Rattle.abc_grammar.specs.Plain.{PlainComponent, PlainProgram, plain_program}
use Rattle.abc_grammar.specs.Processes.{IsUpdate, IsProcess, IsChoice, IsPrefix, IsAfter}
use Rattle.abc_grammar.specs.Processes as q
use Rattle.abc_grammar.specs.Programs.{IsDefinition, IsInitial, IsComponent, IsProgram}
use Rattle.abc_grammar.specs.Programs as g
use Rattle.abc_grammar.specs.Limits.{Begins}
use Rattle.abc_grammar.specs.Refusals.{IsSomeProgram}
use Rattle.abc_grammar_laws.specs.Short.{HasShortTuples, AreShort, TuplesAreShort}
use Rattle.abc_grammar_laws.specs.Crowding.{Bracket, Standing, moved, walk, at_start, IsCrowd, IsFirstCrowded, BeginsExtraPart, ExtraPartsAreCrowded}
use Rattle.abc_grammar_laws.proofs.Cuts.{Cut, cut}
use Rattle.abc_grammar_laws.proofs.Places.{Place, regroup, inside, behind_one, behind_two}
use Rattle.abc_grammar_laws.proofs.Walks.{walk_append, IsQuiet, program_flat, Roomy, roomy_none, roomy_any, one_step, Flat, Ended, flat_ended, flat_append, ended_append, behind, quiet_flat, in_round, close_round, listed_within, tuple_flat, expr_ended, variable_ended, pred_flat, process_flat, choice_flat, repeated_flat, definition_flat, component_flat, update_flat, Any, all_any, behind_bracket, may_be_anywhere, name_ended, initial_flat}
use Rattle.abc_grammar_laws.proofs.NoneTooMany.{around, other_end, take_take, none_before}
use Rattle.abc_grammar_laws.proofs.Shorts.{SomeAfter, some_after, after_output, after_input, cut_list, closed_list}

-- a part too many, and the first token in a crowded bracket
pub record Found (all : List Lexeme) : Type 0 where
  pub number : ℕ
  pub extra : BeginsExtraPart all number
  pub crowd : IsCrowd (walk true (Some at_start) (take number all))

-- tokens that have a place, and how they are walked up to it
pub record Stands {A : Type 0} (X : List Lexeme → A → Type 0) (all ts : List Lexeme) : Type 0 where
  pub place : Place X all ts
  pub set : Bool
  pub brackets : List Bracket
  pub roomy : Roomy true brackets
  pub walked : walk true (Some at_start) place.before ≡ Some (false, (set, brackets))

module _ (all : List Lexeme) where
  -- a part of tokens, behind tokens that are walked
  within :
      {A B : Type 0} {X : List Lexeme → A → Type 0} {Y : List Lexeme → B → Type 0}
      (whole_of : List Lexeme → List Lexeme) (left right : List Lexeme) → ((us : List Lexeme) → whole_of us ≡ left ++ us ++ right) →
      ((us : List Lexeme) (a : A) → X us a → (b : B) × Y (whole_of us) b) →
      (ts : List Lexeme) → (s : Stands Y all (whole_of ts)) → (d : Bool) (bs : List Bracket) → Roomy true bs →
      walk true (Some (false, (s.set, s.brackets))) left ≡ Some (false, (d, bs)) → Stands X all ts
  unfolding inside
  within whole_of left right is each ts s d bs roomy e = record {
    place = inside whole_of left right is each ts s.place;
    set = d;
    brackets = bs;
    roomy = roomy;
    walked = walk_append true (Some at_start) s.place.before left ∙ ap (λ (o : Option Standing). walk true o left) s.walked ∙ e;
  }

  -- the number of the token behind a front of all, and the tokens before it
  inner : (front back : List Lexeme) → all ≡ front ++ back → 0 < length back → (length front < length all) × (take (length front) all ≡ front)
  inner front back e some = (
    omega (arith, ap (length {A = Lexeme}) e, length-append front back, some),
    ap (take (length front)) e ∙ take-append_seam front back,
  )

  -- in such a bracket the next token stands crowded
  crowds :
      {A : Type 0} {Item : List Lexeme → A → Type 0} → ((ts : List Lexeme) (a : A) → Item ts a → Ended true ts) →
      (before parts : List Lexeme) (items : List A) (c : Bool) (bs : List Bracket) →
      Roomy true bs → walk true (Some at_start) before ≡ Some (false, (c, bs)) → AreListed Item parts items → length items ≡ MOST_PARTS →
      IsCrowd (walk true (Some at_start) (before ++ (l.Mark m.OpenRound ∷ parts ++ l.Mark m.Comma ∷ [])))
  crowds ended before parts items c bs roomy w h full =
      let e = listed_within true ended h (λ t. omega (arith, full)) false bs in
      let seven : (length items - 1) ≡ 7 = omega (arith, full) in
      subst IsCrowd
      (sym (walk_append true (Some at_start) before (l.Mark m.OpenRound ∷ parts ++ l.Mark m.Comma ∷ [])
      ∙ ap (λ (o : Option Standing). walk true o (l.Mark m.OpenRound ∷ parts ++ l.Mark m.Comma ∷ [])) w
      ∙ one_step true (l.Mark m.OpenRound) (parts ++ l.Mark m.Comma ∷ []) false c bs roomy
      ∙ walk_append true (Some (false, (false, (false, 0) ∷ bs))) parts (l.Mark m.Comma ∷ [])
      ∙ ap (λ (o : Option Standing). walk true o (l.Mark m.Comma ∷ [])) (e.1 ∙ ap (λ (n : ℕ). Some (false, (e.0, (false, n) ∷ bs))) seven)))
      refl

  -- ---- a tuple, or the variables of an input, with a part too many
  found_expr :
      (ts us vs : List Lexeme) (x : Pred) (updates : List Update) (A : Process) → IsPred us x → IsAfter vs updates A →
      Stands IsPrefix all (l.Mark m.OpenRound ∷ ts ++ l.Mark m.CloseRound ∷ l.Mark m.At ∷ l.Mark m.OpenRound ∷ us ++ l.Mark m.CloseRound ∷ l.Mark
      m.Dot ∷ vs) →
      Cut IsExpr MOST_PARTS ts → Found all
  found_expr ts us vs x updates A h i s c =
      let p = s.place in
      let tail : List Lexeme = l.Mark m.CloseRound ∷ l.Mark m.At ∷ l.Mark m.OpenRound ∷ us ++ l.Mark m.CloseRound ∷ l.Mark m.Dot ∷ vs in
      let front : List Lexeme = p.before ++ l.Mark m.OpenRound ∷ c.front ++ l.Mark m.Comma ∷ [] in
      let split :
      p.before ++ (l.Mark m.OpenRound ∷ (c.front ++ l.Mark m.Comma ∷ c.back) ++ l.Mark m.CloseRound ∷ l.Mark m.At ∷ l.Mark m.OpenRound ∷ us ++
      l.Mark m.CloseRound ∷ l.Mark m.Dot ∷ vs) ++ p.after
      ≡ front ++ (c.back ++ (tail ++ p.after)) = simp append_assoc in
      let here = inner front (c.back ++ (tail ++ p.after))
      (p.whole ∙ ap (λ (ws : List Lexeme). p.before ++ (l.Mark m.OpenRound ∷ ws ++ l.Mark m.CloseRound ∷ l.Mark m.At ∷ l.Mark m.OpenRound ∷ us ++
      l.Mark m.CloseRound ∷ l.Mark m.Dot ∷ vs) ++ p.after) c.whole ∙ split)
      (omega (arith, length-append c.back (tail ++ p.after), length-append tail p.after)) in
      let more : List Lexeme = l.Mark m.OpenRound ∷ us ++ l.Mark m.CloseRound ∷ l.Mark m.Dot ∷ vs ++ p.after in
      let ends :
      p.before ++ (l.Mark m.OpenRound ∷ c.front ++ l.Mark m.CloseRound ∷ l.Mark m.At ∷ l.Mark m.OpenRound ∷ us ++ l.Mark m.CloseRound ∷ l.Mark
      m.Dot ∷ vs) ++ p.after
      ≡ (p.before ++ l.Mark m.OpenRound ∷ c.front ++ l.Mark m.CloseRound ∷ l.Mark m.At ∷ []) ++ more = simp append_assoc in
      record {
        number = length front;
        extra = inl (record {
          exists = here.0;
          before = p.before;
          parts = c.front;
          exprs = c.items;
          listed = c.are;
          full = c.many;
          stands = here.1;
          output = (
            more,
            subst IsSomeProgram ends (p.fits _ (P.Output c.items x updates A) (q.output {ts = c.front} {us = us} {vs = vs}
                (listed.some c.are) h i)),
          );
        });
        crowd = subst (λ (ws : List Lexeme). IsCrowd (walk true (Some at_start) ws)) (sym (append_assoc p.before (l.Mark m.OpenRound ∷ c.front)
            (l.Mark m.Comma ∷ [])) ∙ sym here.1)
            (crowds (expr_ended true) p.before c.front c.items s.set s.brackets s.roomy s.walked c.are c.many);
      }

  found_variable :
      (ts us vs : List Lexeme) (x : Pred) (updates : List Update) (A : Process) → IsPred ts x → IsAfter vs updates A →
      Stands IsPrefix all (l.Mark m.Question ∷ l.Mark m.OpenRound ∷ ts ++ l.Mark m.CloseRound ∷ l.Mark m.OpenRound ∷ us ++ l.Mark m.CloseRound ∷
      l.Mark m.Dot ∷ vs) →
      Cut IsVariable MOST_PARTS us → Found all
  found_variable ts us vs x updates A h i s c =
      let p = s.place in
      let question : List Lexeme = l.Mark m.Question ∷ l.Mark m.OpenRound ∷ ts ++ l.Mark m.CloseRound ∷ [] in
      let head : List Lexeme = p.before ++ l.Mark m.Question ∷ l.Mark m.OpenRound ∷ ts ++ l.Mark m.CloseRound ∷ [] in
      let tail : List Lexeme = l.Mark m.CloseRound ∷ l.Mark m.Dot ∷ vs in
      let front : List Lexeme = head ++ l.Mark m.OpenRound ∷ c.front ++ l.Mark m.Comma ∷ [] in
      let open_head : List Lexeme = p.before ++ l.Mark m.Question ∷ l.Mark m.OpenRound ∷ ts in
      let split :
      p.before ++ (l.Mark m.Question ∷ l.Mark m.OpenRound ∷ ts ++ l.Mark m.CloseRound ∷ l.Mark m.OpenRound ∷
      (c.front ++ l.Mark m.Comma ∷ c.back) ++ tail) ++ p.after
      ≡ front ++ (c.back ++ (tail ++ p.after)) =
      regroup p.before (l.Mark m.Question ∷ l.Mark m.OpenRound ∷ ts) (l.Mark m.CloseRound ∷ l.Mark m.OpenRound ∷
      (c.front ++ l.Mark m.Comma ∷ c.back)) tail p.after
      ∙ cut_list open_head c.front c.back (tail ++ p.after) in
      let here = inner front (c.back ++ (tail ++ p.after))
      (p.whole ∙ ap (λ (ws : List Lexeme). p.before ++ (l.Mark m.Question ∷ l.Mark m.OpenRound ∷ ts ++ l.Mark m.CloseRound ∷ l.Mark m.OpenRound ∷
      ws ++ l.Mark m.CloseRound ∷ l.Mark m.Dot ∷ vs) ++ p.after) c.whole ∙ split)
      (omega (arith, length-append c.back (tail ++ p.after), length-append tail p.after)) in
      let more : List Lexeme = vs ++ p.after in
      let ends :
      p.before ++ (l.Mark m.Question ∷ l.Mark m.OpenRound ∷ ts ++ l.Mark m.CloseRound ∷ l.Mark m.OpenRound ∷ c.front ++ tail) ++ p.after
      ≡ (head ++ l.Mark m.OpenRound ∷ c.front ++ l.Mark m.CloseRound ∷ l.Mark m.Dot ∷ []) ++ more =
      regroup p.before (l.Mark m.Question ∷ l.Mark m.OpenRound ∷ ts) (l.Mark m.CloseRound ∷ l.Mark m.OpenRound ∷ c.front) tail p.after
      ∙ closed_list open_head c.front more in
      let asked = behind true (l.Mark m.Question) (l.Mark m.OpenRound ∷ ts ++ l.Mark m.CloseRound ∷ []) (λ w b bs. refl) (in_round true ts
      (flat_ended true ts (pred_flat true h))) in
      let walked : walk true (Some at_start) (p.before ++ question) ≡ Some (false, (false, s.brackets)) =
      walk_append true (Some at_start) p.before question ∙ ap (λ (o : Option Standing). walk true o question) s.walked
      ∙ asked s.set s.brackets s.roomy in
      let same : p.before ++ question ≡ head = sym (append_assoc p.before (l.Mark m.Question ∷ l.Mark m.OpenRound ∷ ts) (l.Mark m.CloseRound ∷ [])) in
      record {
        number = length front;
        extra = inr (record {
          exists = here.0;
          before = head;
          parts = c.front;
          variables = c.items;
          listed = c.are;
          full = c.many;
          stands = here.1;
          input = (
            more,
            subst IsSomeProgram ends (p.fits _ (P.Input x c.items updates A) (q.input {ts = ts} {us = c.front} {vs = vs} h
                (listed.some c.are) i)),
          );
        });
        crowd = subst (λ (ws : List Lexeme). IsCrowd (walk true (Some at_start) ws)) (sym (append_assoc head (l.Mark m.OpenRound ∷ c.front)
            (l.Mark m.Comma ∷ [])) ∙ sym here.1)
            (crowds (variable_ended true) head c.front c.items false s.brackets s.roomy (subst (λ (ws : List Lexeme). walk true
            (Some at_start) ws ≡ Some (false, (false, s.brackets))) same walked) c.are c.many);
      }

  -- a list has a part too many, or is short
  long_or_short : {A : Type 0} {Item : List Lexeme → A → Type 0} {ts : List Lexeme} {items : List A} → MayBeListed Item ts items →
      (Cut Item MOST_PARTS ts → Found all) → Found all ⊎ (length items ≤ MOST_PARTS)
  long_or_short listed.none found = inr (omega arith)
  long_or_short {items = items} (listed.some h) found = by (cases_lt MOST_PARTS (length items))
    where
      by : (MOST_PARTS < length items) ⊎ (length items ≤ MOST_PARTS) → Found all ⊎ (length items ≤ MOST_PARTS)
      by (inl lt) = inl (found (cut MOST_PARTS (omega arith) h lt))
      by (inr le) = inr le

  -- one and then, where it is short, the other
  both : {A B : Type 0} → Found all ⊎ A → (A → Found all ⊎ B) → Found all ⊎ (A × B)
  both (inl f) next = inl f
  both (inr a) next = also a (next a)
    where
      also : {A B : Type 0} → A → Found all ⊎ B → Found all ⊎ (A × B)
      also a (inl f) = inl f
      also a (inr b) = inr (a, b)

  -- ---- what is walked before a part
  joined : (ts : List Lexeme) (t : Lexeme) → IsQuiet true t → Flat true ts → Flat true (ts ++ t ∷ [])
  joined ts t quiet h = flat_append true ts (t ∷ []) (flat_ended true ts h) (quiet_flat true t quiet)

  guarded : (ts : List Lexeme) (x : Pred) → IsPred ts x → Flat true (l.Keyword k.When ∷ l.Mark m.OpenRound ∷ ts ++ l.Mark m.CloseRound ∷ [])
  guarded ts x h = behind true (l.Keyword k.When) (l.Mark m.OpenRound ∷ ts ++ l.Mark m.CloseRound ∷ []) (λ w b bs. refl) (in_round true ts
      (flat_ended true ts (pred_flat true h)))

  -- "(" .. ")" and a mark that stands behind no `set(..)`, at the end
  dotted : (ts : List Lexeme) → Flat true (l.Mark m.OpenRound ∷ ts ++ l.Mark m.CloseRound ∷ []) →
      Flat true (l.Mark m.OpenRound ∷ ts ++ l.Mark m.CloseRound ∷ l.Mark m.Dot ∷ [])
  dotted ts h = close_round true ts (l.Mark m.Dot ∷ []) (λ c bs r.
      walk_append true (Some (false, (c, bs))) (l.Mark m.OpenRound ∷ ts ++ l.Mark m.CloseRound ∷ []) (l.Mark m.Dot ∷ [])
      ∙ ap (λ (o : Option Standing). walk true o (l.Mark m.Dot ∷ [])) (h c bs r) ∙ one_step true (l.Mark m.Dot) [] false false bs r)

  sent :
      (ts us : List Lexeme) (es : List Expr) (x : Pred) → MayBeListed IsExpr ts es → IsPred us x → length es ≤ MOST_PARTS →
      Flat true (l.Mark m.OpenRound ∷ ts ++ l.Mark m.CloseRound ∷ l.Mark m.At ∷ l.Mark m.OpenRound ∷ us ++ l.Mark m.CloseRound ∷ l.Mark m.Dot ∷ [])
  sent ts us es x h i short =
      subst (Flat true) (sym (append_assoc (l.Mark m.OpenRound ∷ ts) (l.Mark m.CloseRound ∷ l.Mark m.At ∷ l.Mark m.OpenRound ∷ us)
      (l.Mark m.CloseRound ∷ l.Mark m.Dot ∷ [])))
      (close_round true ts (l.Mark m.At ∷ l.Mark m.OpenRound ∷ us ++ l.Mark m.CloseRound ∷ l.Mark m.Dot ∷ [])
      (behind_bracket true (l.Mark m.At) (l.Mark m.OpenRound ∷ ts ++ l.Mark m.CloseRound ∷ [])
      (l.Mark m.OpenRound ∷ us ++ l.Mark m.CloseRound ∷ l.Mark m.Dot ∷ []) (λ w bs. refl)
      (tuple_flat true (expr_ended true) h (λ t. short)) (dotted us (in_round true us (flat_ended true us (pred_flat true i))))))

  received :
      (ts us : List Lexeme) (x : Pred) (xs : List Name) → IsPred ts x → MayBeListed IsVariable us xs → length xs ≤ MOST_PARTS →
      Flat true (l.Mark m.Question ∷ l.Mark m.OpenRound ∷ ts ++ l.Mark m.CloseRound ∷ l.Mark m.OpenRound ∷ us ++ l.Mark m.CloseRound ∷ l.Mark m.Dot
      ∷ [])
  received ts us x xs h i short =
      subst (Flat true) (sym (append_assoc (l.Mark m.Question ∷ l.Mark m.OpenRound ∷ ts) (l.Mark m.CloseRound ∷ l.Mark m.OpenRound ∷ us)
      (l.Mark m.CloseRound ∷ l.Mark m.Dot ∷ [])))
      (behind true (l.Mark m.Question) (l.Mark m.OpenRound ∷ ts ++ (l.Mark m.CloseRound ∷ l.Mark m.OpenRound ∷ us ++ l.Mark m.CloseRound ∷ l.Mark
      m.Dot ∷ [])) (λ w b bs. refl)
      (close_round true ts (l.Mark m.OpenRound ∷ us ++ l.Mark m.CloseRound ∷ l.Mark m.Dot ∷ [])
      (flat_append true (l.Mark m.OpenRound ∷ ts ++ l.Mark m.CloseRound ∷ []) (l.Mark m.OpenRound ∷ us ++ l.Mark m.CloseRound ∷ l.Mark m.Dot ∷ [])
      (flat_ended true (l.Mark m.OpenRound ∷ ts ++ l.Mark m.CloseRound ∷ []) (in_round true ts (flat_ended true ts (pred_flat true h))))
      (dotted us (tuple_flat true (variable_ended true) i (λ t. short))))))

  mutual
    process_found : {ts : List Lexeme} {A : Process} → IsProcess ts A → Stands IsProcess all ts → Found all ⊎ HasShortTuples A
    process_found (q.choice {ts} h) s =
        choice_found h (within {X = IsChoice} (λ us. us) [] [] (λ us. sym (append-nil us)) (λ us A i.
        (A, q.choice i)) ts s s.set s.brackets s.roomy refl)
    process_found (q.par {ts} {us} {A} {B} h i) s =
        both (process_found h (within {X = IsProcess} (λ ws. ws ++ l.Mark m.Bar ∷ us) [] (l.Mark m.Bar ∷ us) (λ ws. refl) (λ ws C j.
        (P.Par C B, q.par j i)) ts s s.set s.brackets s.roomy refl))
        (λ short. choice_found i (within {X = IsChoice} (λ ws. ts ++ l.Mark m.Bar ∷ ws) (ts ++ l.Mark m.Bar ∷ []) [] (behind_one ts
        (l.Mark m.Bar)) (λ ws C j. (P.Par A C, q.par h j)) us s false s.brackets s.roomy
        (joined ts (l.Mark m.Bar) (λ w b bs. refl) (process_flat true h (λ _. short)) s.set s.brackets s.roomy)))

    choice_found : {ts : List Lexeme} {A : Process} → IsChoice ts A → Stands IsChoice all ts → Found all ⊎ HasShortTuples A
    choice_found (q.prefix {ts} h) s =
        prefix_found h (within {X = IsPrefix} (λ us. us) [] [] (λ us. sym (append-nil us)) (λ us A i.
        (A, q.prefix i)) ts s s.set s.brackets s.roomy refl)
    choice_found (q.plus {ts} {us} {A} {B} h i) s =
        both (choice_found h (within {X = IsChoice} (λ ws. ws ++ l.Mark m.Plus ∷ us) [] (l.Mark m.Plus ∷ us) (λ ws. refl) (λ ws C j.
        (P.Choice C B, q.plus j i)) ts s s.set s.brackets s.roomy refl))
        (λ short. prefix_found i (within {X = IsPrefix} (λ ws. ts ++ l.Mark m.Plus ∷ ws) (ts ++ l.Mark m.Plus ∷ []) [] (behind_one ts
        (l.Mark m.Plus)) (λ ws C j. (P.Choice A C, q.plus h j)) us s false s.brackets s.roomy
        (joined ts (l.Mark m.Plus) (λ w b bs. refl) (choice_flat true h (λ _. short)) s.set s.brackets s.roomy)))

    prefix_found : {ts : List Lexeme} {A : Process} → IsPrefix ts A → Stands IsPrefix all ts → Found all ⊎ HasShortTuples A
    prefix_found q.nil s = inr tt
    prefix_found q.call s = inr tt
    prefix_found (q.braced {ts} h) s =
        process_found h (within {X = IsProcess} (λ us. l.Mark m.OpenCurly ∷ us ++ l.Mark m.CloseCurly ∷ []) (l.Mark m.OpenCurly ∷ [])
        (l.Mark m.CloseCurly ∷ []) (λ us. refl) (λ us A i. (A, q.braced i)) ts s
        false ((true, 0) ∷ s.brackets) (roomy_any true 0 s.brackets) (one_step true (l.Mark m.OpenCurly) [] false s.set s.brackets s.roomy))
    prefix_found (q.when {ts} {us} {p = x} h i) s =
        let head : List Lexeme = l.Keyword k.When ∷ l.Mark m.OpenRound ∷ ts in
        prefix_found i (within {X = IsPrefix} (λ ws. head ++ l.Mark m.CloseRound ∷ ws) (head ++ l.Mark m.CloseRound ∷ []) [] (behind_one head
        (l.Mark m.CloseRound)) (λ ws A j. (P.When x A, q.when h j)) us s
        false s.brackets s.roomy (guarded ts x h s.set s.brackets s.roomy))
    prefix_found (q.output {ts} {us} {vs} {es} {p = x} {updates} {A} h i j) s =
        let head : List Lexeme = l.Mark m.OpenRound ∷ ts ++ l.Mark m.CloseRound ∷ l.Mark m.At ∷ l.Mark m.OpenRound ∷ us in
        both (long_or_short h (found_expr ts us vs x updates A i j s))
        (λ short. after_found j (within {X = SomeAfter} (λ ws. head ++ l.Mark m.CloseRound ∷ l.Mark m.Dot ∷ ws)
        (head ++ l.Mark m.CloseRound ∷ l.Mark m.Dot ∷ []) [] (behind_two head (l.Mark m.CloseRound) (l.Mark m.Dot))
        (after_output ts us es x h i) vs s
        false s.brackets s.roomy (sent ts us es x h i short s.set s.brackets s.roomy)))
    prefix_found (q.input {ts} {us} {vs} {p = x} {xs} {updates} {A} h i j) s =
        let head : List Lexeme = l.Mark m.Question ∷ l.Mark m.OpenRound ∷ ts ++ l.Mark m.CloseRound ∷ l.Mark m.OpenRound ∷ us in
        both (long_or_short i (found_variable ts us vs x updates A h j s))
        (λ short. after_found j (within {X = SomeAfter} (λ ws. head ++ l.Mark m.CloseRound ∷ l.Mark m.Dot ∷ ws)
        (head ++ l.Mark m.CloseRound ∷ l.Mark m.Dot ∷ []) [] (behind_two head (l.Mark m.CloseRound) (l.Mark m.Dot))
        (after_input ts us x xs h i) vs s
        false s.brackets s.roomy (received ts us x xs h i short s.set s.brackets s.roomy)))

    after_found : {ts : List Lexeme} {us : List Update} {A : Process} → IsAfter ts us A → Stands SomeAfter all ts → Found all ⊎ HasShortTuples A
    after_found (q.after {ts} {us} {updates} h i) s =
        let e = repeated_flat true (Any {A = Update}) (λ vs u j a. update_flat true vs u j) h (all_any updates) s.set s.brackets s.roomy in
        prefix_found i (within {X = IsPrefix} (λ ws. ts ++ ws) ts [] (λ ws. sym (append-nil (ts ++ ws))) (λ ws A j. (
          A,
          some_after
              (ts ++ ws) updates A (q.after h j),
        )) us s e.0 s.brackets s.roomy e.1)

  -- ---- programs
  repeated_found :
      {A : Type 0} {Item : List Lexeme → A → Type 0} {Short : A → Type 0} {ts : List Lexeme} {items : List A} →
      ((us : List Lexeme) (a : A) → Item us a → Stands Item all us → Found all ⊎ Short a) → ((us : List Lexeme) (a : A) → Item us a → Short a →
      Flat true us) →
      AreRepeated Item ts items → Stands (AreRepeated Item) all ts → Found all ⊎ All Short items
  repeated_found each flat listed.none s = inr (λ i d lt. absurd (omega (arith, lt)))
  repeated_found {A} {Item} {Short} each flat (listed.more {ts} {us} {items} {a} h i) s =
      pushed (both (repeated_found {Short = Short} each flat h (within {X = AreRepeated Item} (λ ws. ws ++ us) [] us (λ ws. refl) (λ ws others j.
      (others ++ a ∷ [], listed.more j i)) ts s s.set s.brackets s.roomy refl))
      (λ short. let e = repeated_flat true Short flat h short s.set s.brackets s.roomy in
      each us a i (within {X = Item} (λ ws. ts ++ ws) ts [] (λ ws. sym (append-nil (ts ++ ws))) (λ ws b j.
      (items ++ b ∷ [], listed.more h j)) us s e.0 s.brackets s.roomy e.1)))
    where
      pushed : Found all ⊎ (All Short items × Short a) → Found all ⊎ All Short (items ++ a ∷ [])
      pushed (inl f) = inl f
      pushed (inr p) = inr (All-push Short items a p.0 p.1)

  definition_found : (ts : List Lexeme) (d : Name × Process) → IsDefinition ts d → Stands IsDefinition all ts → Found all ⊎ HasShortTuples d.1
  definition_found _ _ (g.definition {c} {ts} h) s =
      process_found h (within {X = IsProcess} (λ us. l.Keyword k.Def ∷ l.Name c ∷ l.Mark m.Equal ∷ us ++ l.Mark m.Semicolon ∷ [])
      (l.Keyword k.Def ∷ l.Name c ∷ l.Mark m.Equal ∷ []) (l.Mark m.Semicolon ∷ []) (λ us. refl) (λ us A i. ((c, A), g.definition i)) ts s
      false s.brackets s.roomy (headed c s.set s.brackets s.roomy))
    where
      headed : (c : Name) → Flat true (l.Keyword k.Def ∷ l.Name c ∷ l.Mark m.Equal ∷ [])
      headed c = behind true (l.Keyword k.Def) (l.Name c ∷ l.Mark m.Equal ∷ []) (λ w b bs. refl) (behind true (l.Name c) (l.Mark m.Equal ∷ [])
          (λ w b bs. refl) (quiet_flat true (l.Mark m.Equal) (λ w b bs. refl)))

  -- up to the process of a component
  opened :
      (c : Name) (ts us : List Lexeme) (first : List (Name × Value)) (shown : List Name) → AreRepeated IsInitial ts first →
      MayBeListed IsName us shown → (b : Bool) (bs : List Bracket) → Roomy true bs →
      (n : ℕ) × (walk true (Some (false, (b, bs))) (l.Keyword k.Comp ∷ l.Name c ∷ l.Mark m.OpenCurly ∷ ts ++ l.Keyword k.Show ∷ us ++ l.Mark
      m.Semicolon ∷ l.Keyword k.Run ∷ []) ≡ Some (false, (false, (true, n) ∷ bs)))
  opened c ts us first shown h i b bs r =
      let rest = l.Mark m.Semicolon ∷ l.Keyword k.Run ∷ [] in
      let e = repeated_flat true (Any {A = Name × Value}) (λ ws x q a. initial_flat true ws x q) h (all_any first) false ((true, 0) ∷ bs)
      (roomy_any true 0 bs) in
      let f = may_be_anywhere true (name_ended true) i false 0 bs in
      let end = behind true (l.Mark m.Semicolon) (l.Keyword k.Run ∷ []) (λ w d cs. refl) (quiet_flat true (l.Keyword k.Run) (λ w d cs. refl)) in (
        f.1,
        ap (walk true (Some (false, (b, bs)))) (append_assoc (l.Keyword k.Comp ∷ l.Name c ∷ l.Mark m.OpenCurly ∷ ts) (l.Keyword k.Show ∷ us) rest)
            ∙ one_step true (l.Keyword k.Comp) (l.Name c ∷ l.Mark m.OpenCurly ∷ ts ++ (l.Keyword k.Show ∷ us ++ rest)) false b bs r
            ∙ one_step true (l.Name c) (l.Mark m.OpenCurly ∷ ts ++ (l.Keyword k.Show ∷ us ++ rest)) false false bs r
            ∙ one_step true (l.Mark m.OpenCurly) (ts ++ (l.Keyword k.Show ∷ us ++ rest)) false false bs r
            ∙ walk_append true (Some (false, (false, (true, 0) ∷ bs))) ts (l.Keyword k.Show ∷ us ++ rest)
            ∙ ap (λ (o : Option Standing). walk true o (l.Keyword k.Show ∷ us ++ rest)) e.1
            ∙ one_step true (l.Keyword k.Show) (us ++ rest) false e.0 ((true, 0) ∷ bs) (roomy_any true 0 bs)
            ∙ walk_append true (Some (false, (false, (true, 0) ∷ bs))) us rest ∙ ap (λ (o : Option Standing). walk true o rest) f.2
            ∙ end f.0 ((true, f.1) ∷ bs) (roomy_any true f.1 bs),
      )

  component_found : (ts : List Lexeme) (C : PlainComponent) → IsComponent ts C → Stands IsComponent all ts → Found all ⊎ HasShortTuples C.run
  component_found _ _ (g.component {c} {ts} {us} {vs} {first} {shown} {A} h i j) s =
      let head : List Lexeme = l.Keyword k.Comp ∷ l.Name c ∷ l.Mark m.OpenCurly ∷ ts ++ l.Keyword k.Show ∷ us in
      let e = opened c ts us first shown h i s.set s.brackets s.roomy in
      process_found j (within {X = IsProcess} (λ ws. head ++ l.Mark m.Semicolon ∷ l.Keyword k.Run ∷ ws ++ l.Mark m.Semicolon ∷ l.Mark m.CloseCurly
      ∷ []) (head ++ l.Mark m.Semicolon ∷ l.Keyword k.Run ∷ []) (l.Mark m.Semicolon ∷ l.Mark m.CloseCurly ∷ [])
      (λ ws. ap (λ (us : List Lexeme). us ++ l.Mark m.Semicolon ∷ l.Mark m.CloseCurly ∷ []) (sym (append_assoc head
      (l.Mark m.Semicolon ∷ l.Keyword k.Run ∷ []) ws)))
      (λ ws B y. (record { name = c; initial = first; show = shown; run = B }, g.component h i y)) vs s
      false ((true, e.0) ∷ s.brackets) (roomy_any true e.0 s.brackets) e.1)

  program_found : {ts : List Lexeme} {x : PlainProgram} → IsProgram ts x → Stands IsProgram all ts → Found all ⊎ AreShort x
  program_found (g.headed_1 {ts} {us} {definitions} {components} h i) s =
      let head : List Lexeme = l.Keyword k.Abc ∷ l.Number 1 ∷ l.Mark m.Semicolon ∷ [] in
      let begun = behind true (l.Keyword k.Abc) (l.Number 1 ∷ l.Mark m.Semicolon ∷ []) (λ w b bs. refl) (behind true (l.Number 1)
      (l.Mark m.Semicolon ∷ []) (λ w b bs. refl) (quiet_flat true (l.Mark m.Semicolon) (λ w b bs. refl))) in
      made (both (repeated_found {Short = λ d. HasShortTuples d.1} definition_found (λ us d q short. definition_flat true us d q (λ _. short)) h
      (within {X = AreRepeated IsDefinition} (λ ws. l.Keyword k.Abc ∷ l.Number 1 ∷ l.Mark m.Semicolon ∷ ws ++ us) head us (λ ws. refl) (λ ws ds j.
      (record { definitions = ds; components = components }, g.headed_1 j i)) ts s
      false s.brackets s.roomy (begun s.set s.brackets s.roomy)))
      (λ short. let e = ended_append true head ts (flat_ended true head begun) (repeated_flat true (λ (d : Name × Process). HasShortTuples d.1)
      (λ us d q s. definition_flat true us d q (λ _. s)) h short) s.set s.brackets s.roomy in
      repeated_found {Short = λ C. HasShortTuples C.run} component_found (λ us C q short. component_flat true us C q (λ _. short)) i
      (within {X = AreRepeated IsComponent} (λ ws. l.Keyword k.Abc ∷ l.Number 1 ∷ l.Mark m.Semicolon ∷ ts ++ ws) (head ++ ts) [] (λ ws. sym
      (append-nil (head ++ ts ++ ws)))
      (λ ws cs j. (record { definitions = definitions; components = cs }, g.headed_1 h j)) us s e.0 s.brackets s.roomy e.1)))
    where
      made : Found all ⊎ (All (λ d. HasShortTuples d.1) definitions × All (λ C. HasShortTuples C.run) components) →
          Found all ⊎ AreShort (record { definitions = definitions; components = components })
      made (inl f) = inl f
      made (inr p) = inr (record { definitions = p.0; components = p.1 })

  -- a text of the grammar has a part too many, or all its tuples are short
  pub found_or_short : {x : PlainProgram} → IsProgram all x → Found all ⊎ AreShort x
  found_or_short {x} h = program_found h (record {
    place = record {
      before = [];
      after = [];
      whole = sym (append-nil all);
      fits = λ us a i. (a, subst (λ (ws : List Lexeme). IsProgram ws a) (sym (append-nil us)) i);
    };
    set = false;
    brackets = [];
    roomy = roomy_none true;
    walked = refl;
  })

-- ---- the first token in a crowded bracket
-- behind it no token is passed
no_further : (s : Option Standing) (us rest : List Lexeme) (x : Lexeme) → IsCrowd (walk true s us) → walk true s (us ++ x ∷ rest) ≡ None
no_further s us rest x h = walk_append true s us (x ∷ rest) ∙ stuck (walk true s us) h
  where
    stuck : (o : Option Standing) → IsCrowd o → walk true o (x ∷ rest) ≡ None
    stuck None h = refl
    stuck (Some (w, (c, bs))) h = ap (λ (b : Bool). walk true (if b then None else moved x w c bs) rest) h

crowd_some : (o : Option Standing) → IsCrowd o → ¬ (o ≡ None)
crowd_some None h e = h
crowd_some (Some s) h e = cc

-- so there is at most one
one_crowd : (us : List Lexeme) (j : ℕ) → j < length us → IsCrowd (walk true (Some at_start) us) → ¬ IsCrowd (walk true (Some at_start) (take j us))
one_crowd us j lt whole front =
    let x = l.Number 0 in
    crowd_some (walk true (Some at_start) us) whole
    (ap (walk true (Some at_start)) (sym (around us j x lt)) ∙ no_further (Some at_start) (take j us) (drop (suc j) us) (get_or us j x) front)

same_crowd :
    (ts all : List Lexeme) (k j : ℕ) → k ≤ length ts → j ≤ length all → take k ts ≡ take k all → k ≤ length all →
    IsCrowd (walk true (Some at_start) (take k ts)) → IsCrowd (walk true (Some at_start) (take j all)) → j ≡ k
same_crowd ts all k j fits within same enough h q = by (cases_lt j k) (cases_lt k j)
  where
    by : (j < k) ⊎ (k ≤ j) → (k < j) ⊎ (j ≤ k) → j ≡ k
    by (inl lt) o =
        let n = length-take k ts in
        absurd (one_crowd (take k ts) j (omega (arith, n, lt, fits)) h
        (subst (λ (us : List Lexeme). IsCrowd (walk true (Some at_start) us)) (sym (ap (take j) same ∙ take_take all k j (omega arith))) q))
    by (inr le) (inl lt) =
        let n = length-take j all in
        absurd (one_crowd (take j all) k (omega (arith, n, lt, within)) q
        (subst (λ (us : List Lexeme). IsCrowd (walk true (Some at_start) us)) (same ∙ sym (take_take all j k (omega arith))) h))
    by (inr le) (inr ge) = omega arith

abbrev Never : Bool → Type 0
Never true = ⊥
Never false = Unit {0}

apart : ¬ (false ≡ true)
apart e = subst Never e tt

none_some : (r : Standing) → ¬ (None ≡ Some r)
none_some r e = cc

-- what is passed whole has no crowd before a token
not_crowd : (us more : List Lexeme) (r : Bool) → walk true (Some at_start) (us ++ more) ≡ Some (false, (r, [])) →
    ¬ IsCrowd (walk true (Some at_start) us)
not_crowd us [] r e h = apart (subst IsCrowd (ap (walk true (Some at_start)) (sym (append-nil us)) ∙ e) h)
not_crowd us (x ∷ more) r e h = none_some (false, (r, [])) (sym (no_further (Some at_start) us more x h) ∙ e)

extra_fits : (us : List Lexeme) (j : ℕ) → BeginsExtraPart us j → j < length us
extra_fits us j (inl e) = e.exists
extra_fits us j (inr e) = e.exists

pub first_begins : (ts : List Lexeme) (k : ℕ) → IsFirstCrowded ts k → Begins IsSomeProgram (take k ts) → BeginsExtraPart ts k
first_begins ts k h (more, (p, q)) = by (found_or_short (take k ts ++ more) q)
  where
    all : List Lexeme
    all = take k ts ++ more

    long : length (take k ts) ≡ k
    long = let n = length-take k ts in let lt = h.exists in omega (arith, n, lt)

    same : take k ts ≡ take k all
    same = sym (ap (λ (n : ℕ). take n all) (sym long) ∙ take-append_seam (take k ts) more)

    by : Found all ⊎ AreShort p → BeginsExtraPart ts k
    by (inr short) =
        let a = program_flat true all p q (λ t. short) false [] (roomy_none true) in
        absurd (not_crowd (take k ts) more a.0 a.1 h.crowd)
    by (inl f) =
        let n = length-append (take k ts) more in
        let lt = h.exists in
        let fits = extra_fits all f.number f.extra in
        let e = same_crowd ts all k f.number (omega (arith, lt)) (omega (arith, fits)) same (omega (arith, n, long)) h.crowd f.crowd in
        other_end all ts k h.exists (sym same) (subst (BeginsExtraPart all) e f.extra)

pub extra_parts_are_crowded : ExtraPartsAreCrowded
extra_parts_are_crowded = record { none = none_before; first = first_begins }

-- ---- accepted texts
pub tuples_are_short : TuplesAreShort
tuples_are_short bytes ts p h = by (found_or_short h.text.lexemes h.text.grammar)
  where
    by : Found h.text.lexemes ⊎ AreShort (plain_program p) → AreShort (plain_program p)
    by (inl f) = absurd (h.text.within f.number (extra_fits h.text.lexemes f.number f.extra) cause.LongTuple f.extra)
    by (inr short) = short

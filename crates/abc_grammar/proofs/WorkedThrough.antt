-- Whole texts worked through the definitions.
use Rattle.std.proofs.Common.{ℕ, zero, suc, ◌<◌, List, [], ◌∷◌, ◌++◌, None, refl, arith}
use Rattle.std.specs.Prelude.{codes}
use Rattle.abc_cause.specs.declared.CheckCause.{CheckCause}
use Rattle.abc_cause.specs.declared.CheckCause.TheVariants as check
use Rattle.abc_text.specs.declared.lexical.TokenKind.TheVariants.{Word, Number, Symbol}
use Rattle.abc_text.specs.declared.lexical.Token.{Token}
use Rattle.abc_text.specs.Tokens.{skip, number_token, text_token, next, stands_after, Reads}
use Rattle.abc_term.specs.declared.terms.Program.{Program}
use Rattle.abc_term.specs.Processes as term
use Rattle.abc_checks.specs.declared.causes.Site.{Site}
use Rattle.abc_checks.specs.declared.causes.Site.TheVariants.{Definition, Component, Whole}
use Rattle.abc_checks.specs.Sites.{AtSite, ComesBefore}
use Rattle.abc_checks.specs.Facts.{HasFact, IsChecked, IsFirstFact, rank}
use Rattle.abc_grammar.specs.declared.lexemes.Lexeme.{Lexeme}
use Rattle.abc_grammar.specs.declared.lexemes.Lexeme.TheVariants as l
use Rattle.abc_text.specs.declared.words.Mark.TheVariants as m
use Rattle.abc_text.specs.declared.words.Keyword.TheVariants as k
use Rattle.abc_text.specs.Words.{keyword_at, mark_at}
use Rattle.abc_grammar.specs.Listed as listed
use Rattle.abc_grammar.specs.Processes as q
use Rattle.abc_grammar.specs.Programs as g
use Rattle.abc_grammar.specs.Plain.{plain_component}
use Rattle.abc_grammar.specs.Accepted.{IsTextOf}
use Rattle.abc_grammar.specs.Examples.{token}
use Rattle.abc_grammar.specs.WorkedTexts.{idle_text, idle_tokens, idle_component, idle, double_definition, double_definition_tokens, twice_defined, double_component, double_component_tokens, twice_composed, WorkedTexts}
use Rattle.abc_grammar.proofs.Short.{short_within}
use Rattle.abc_grammar.proofs.Worked.{header_of_three}

-- ---- one component
idle_reads : Reads idle_text idle_tokens None
unfolding skip number_token text_token next stands_after keyword_at mark_at
idle_reads = (
  record { token = refl; place = refl },
  (
    record { token = refl; place = refl },
    (
      record { token = refl; place = refl },
      (
        record { token = refl; place = refl },
        (
          record { token = refl; place = refl },
          (
            record { token = refl; place = refl },
            (
              record { token = refl; place = refl },
              (
                record { token = refl; place = refl },
                (record { token = refl; place = refl }, (record { token = refl; place = refl }, (record { token = refl; place = refl }, (record { token = refl; place = refl }, refl)))),
              ),
            ),
          ),
        ),
      ),
    ),
  ),
)

abbrev idle_lexemes : List Lexeme
idle_lexemes =
    l.Keyword k.Abc ∷ l.Number 1 ∷ l.Mark m.Semicolon ∷ l.Keyword k.Comp ∷ l.Name (record { 0 = 0 }) ∷ l.Mark m.OpenCurly ∷ l.Keyword k.Show
    ∷ l.Mark m.Semicolon ∷ l.Keyword k.Run ∷ l.Number 0 ∷ l.Mark m.Semicolon ∷ l.Mark m.CloseCurly ∷ []

idle_is : IsTextOf idle_text idle_tokens idle
unfolding keyword_at mark_at
idle_is = record {
  lexemes = idle_lexemes;
  scanned = record { read = idle_reads; meant = refl };
  grammar = g.headed_1 {ts = []}
      {us = l.Keyword k.Comp ∷ l.Name (record { 0 = 0 }) ∷ l.Mark m.OpenCurly ∷ l.Keyword k.Show ∷ l.Mark m.Semicolon ∷ l.Keyword k.Run ∷ l.Number 0 ∷ l.Mark m.Semicolon ∷ l.Mark m.CloseCurly ∷ []}
      listed.none
      (listed.more {ts = []} listed.none (g.component {c = record { 0 = 0 }} {ts = []} {us = []} {vs = l.Number 0 ∷ []} listed.none listed.none (q.choice (q.prefix q.nil))));
  within = short_within idle_lexemes 12 (omega arith) (omega arith);
  names = refl;
}

-- a fact of definitions and components, where there is one component
at_one : (D C : ℕ → Type 0) (s : Site) → AtSite 0 1 D C s → (C 0 → ⊥) → ⊥
at_one D C (Definition i) h never = let lt = h.0 in absurd (omega (arith, lt))
at_one D C (Component zero) h never = never h.1
at_one D C (Component (suc i)) h never = let lt = h.0 in absurd (omega (arith, lt))
at_one D C Whole h never = h

idle_checked : IsChecked idle
idle_checked check.DoubleName s h = at_one _ _ s h (λ x. (cc))
idle_checked check.UnknownName s h = at_one _ _ s h (λ x. (cc))
idle_checked check.OpenVariable s h = at_one _ _ s h (λ x. (cc))
idle_checked check.Unguarded s h = at_one _ _ s h (λ x. x)
idle_checked check.ParallelCycle s h = at_one _ _ s h (λ x. x)
idle_checked check.TooWide s h = at_one _ _ s h (λ x. let wide = x.2 in absurd (omega (arith, wide)))
idle_checked check.TooManyMoves s h = at_one _ _ s h (λ x. let broad = x.2 in (cc))
idle_checked check.NoComponent (Definition i) h = h
idle_checked check.NoComponent (Component i) h = h
idle_checked check.NoComponent Whole h = absurd (omega (arith, h))
idle_checked check.TooManyComponents (Definition i) h = h
idle_checked check.TooManyComponents (Component i) h = h
idle_checked check.TooManyComponents Whole h = absurd (omega (arith, h))

-- ---- no component
header_tokens : List Token
header_tokens = token Word 0 3 ∷ token Number 4 1 ∷ token Symbol 5 1 ∷ []

nothing : Program
nothing = record { names = []; components = []; definitions = [] }

nothing_is : IsTextOf (codes "abc 1;") header_tokens nothing
unfolding header_tokens nothing keyword_at mark_at skip number_token text_token next stands_after
nothing_is = record {
  lexemes = l.Keyword k.Abc ∷ l.Number 1 ∷ l.Mark m.Semicolon ∷ [];
  scanned = record { read = (record { token = refl; place = refl }, (record { token = refl; place = refl }, (record { token = refl; place = refl }, refl))); meant = refl };
  grammar = g.headed_1 {ts = []} {us = []} listed.none listed.none;
  within = short_within (l.Keyword k.Abc ∷ l.Number 1 ∷ l.Mark m.Semicolon ∷ []) 3 (omega arith) (omega arith);
  names = refl;
}

at_none : (D C : ℕ → Type 0) (s : Site) → AtSite 0 0 D C s → ⊥
at_none D C (Definition i) h = let lt = h.0 in absurd (omega (arith, lt))
at_none D C (Component i) h = let lt = h.0 in absurd (omega (arith, lt))
at_none D C Whole h = h

earlier_causes : (d : CheckCause) → rank d < rank check.NoComponent → (s : Site) → ¬ HasFact d nothing s
unfolding nothing
earlier_causes check.DoubleName lt s h = at_none _ _ s h
earlier_causes check.UnknownName lt s h = at_none _ _ s h
earlier_causes check.OpenVariable lt s h = at_none _ _ s h
earlier_causes check.Unguarded lt s h = at_none _ _ s h
earlier_causes check.ParallelCycle lt s h = at_none _ _ s h
earlier_causes check.TooWide lt s h = at_none _ _ s h
earlier_causes check.TooManyMoves lt s h = at_none _ _ s h
earlier_causes check.NoComponent lt s h = absurd (omega arith)
earlier_causes check.TooManyComponents lt s h = absurd (omega arith)

earlier_sites : (s : Site) → ComesBefore s Whole → ¬ HasFact check.NoComponent nothing s
earlier_sites (Definition i) before h = h
earlier_sites (Component i) before h = h
earlier_sites Whole before h = before

nothing_first : IsFirstFact nothing check.NoComponent Whole
unfolding nothing
nothing_first = record { holds = refl; first_cause = earlier_causes; first_site = earlier_sites }

-- ---- a name twice
double_definition_reads : Reads double_definition double_definition_tokens None
unfolding skip number_token text_token next stands_after keyword_at mark_at
double_definition_reads = (
  record { token = refl; place = refl },
  (
    record { token = refl; place = refl },
    (
      record { token = refl; place = refl },
      (
        record { token = refl; place = refl },
        (
          record { token = refl; place = refl },
          (
            record { token = refl; place = refl },
            (
              record { token = refl; place = refl },
              (
                record { token = refl; place = refl },
                (
                  record { token = refl; place = refl },
                  (
                    record { token = refl; place = refl },
                    (
                      record { token = refl; place = refl },
                      (
                        record { token = refl; place = refl },
                        (record { token = refl; place = refl }, refl),
                      ),
                    ),
                  ),
                ),
              ),
            ),
          ),
        ),
      ),
    ),
  ),
)

abbrev nil_definition : List Lexeme
nil_definition = l.Keyword k.Def ∷ l.Name (record { 0 = 0 }) ∷ l.Mark m.Equal ∷ l.Number 0 ∷ l.Mark m.Semicolon ∷ []

nil_defined : g.IsDefinition nil_definition (record { 0 = 0 }, term.Nil)
nil_defined = g.definition {c = record { 0 = 0 }} {ts = l.Number 0 ∷ []} (q.choice (q.prefix q.nil))

abbrev double_definition_lexemes : List Lexeme
double_definition_lexemes = l.Keyword k.Abc ∷ l.Number 1 ∷ l.Mark m.Semicolon ∷ nil_definition ++ nil_definition

double_definition_is : IsTextOf double_definition double_definition_tokens twice_defined
unfolding keyword_at mark_at
double_definition_is = record {
  lexemes = double_definition_lexemes;
  scanned = record { read = double_definition_reads; meant = refl };
  grammar = g.headed_1 {ts = nil_definition ++ nil_definition} {us = []}
      (listed.more {ts = nil_definition} {us = nil_definition} {items = (record { 0 = 0 }, term.Nil) ∷ []}
      (listed.more {ts = []} {us = nil_definition} {items = []} listed.none nil_defined) nil_defined)
      listed.none;
  within = short_within double_definition_lexemes 13 (omega arith) (omega arith);
  names = refl;
}

-- the first site of a fact of definitions is the second one, where the first has it not
second_definition : (n c : ℕ) (D C : ℕ → Type 0) → ¬ D 0 → (s : Site) → ComesBefore s (Definition 1) → ¬ AtSite n c D C s
second_definition n c D C none (Definition zero) before h = none h.1
second_definition n c D C none (Definition (suc i)) before h = absurd (omega (arith, before))
second_definition n c D C none (Component i) before h = before
second_definition n c D C none Whole before h = before

second_component : (c : ℕ) (D C : ℕ → Type 0) → ¬ C 0 → (s : Site) → ComesBefore s (Component 1) → ¬ AtSite 0 c D C s
second_component c D C none (Definition i) before h = let lt = h.0 in absurd (omega (arith, lt))
second_component c D C none (Component zero) before h = none h.1
second_component c D C none (Component (suc i)) before h = absurd (omega (arith, before))
second_component c D C none Whole before h = before

twice_defined_first : IsFirstFact twice_defined check.DoubleName (Definition 1)
twice_defined_first = record {
  holds = (omega arith, refl);
  first_cause = λ d lt s h. absurd (omega (arith, lt));
  first_site = second_definition 2 0 _ _ (λ h. (cc));
}

double_component_reads : Reads double_component double_component_tokens None
unfolding skip number_token text_token next stands_after keyword_at mark_at
double_component_reads = (
  record { token = refl; place = refl },
  (
    record { token = refl; place = refl },
    (
      record { token = refl; place = refl },
      (
        record { token = refl; place = refl },
        (
          record { token = refl; place = refl },
          (
            record { token = refl; place = refl },
            (
              record { token = refl; place = refl },
              (
                record { token = refl; place = refl },
                (
                  record { token = refl; place = refl },
                  (
                    record { token = refl; place = refl },
                    (
                      record { token = refl; place = refl },
                      (
                        record { token = refl; place = refl },
                        (
                          record { token = refl; place = refl },
                          (
                            record { token = refl; place = refl },
                            (
                              record { token = refl; place = refl },
                              (
                                record { token = refl; place = refl },
                                (
                                  record { token = refl; place = refl },
                                  (
                                    record { token = refl; place = refl },
                                    (
                                      record { token = refl; place = refl },
                                      (record { token = refl; place = refl }, (record { token = refl; place = refl }, refl)),
                                    ),
                                  ),
                                ),
                              ),
                            ),
                          ),
                        ),
                      ),
                    ),
                  ),
                ),
              ),
            ),
          ),
        ),
      ),
    ),
  ),
)

abbrev idle_comp : List Lexeme
idle_comp =
    l.Keyword k.Comp ∷ l.Name (record { 0 = 0 }) ∷ l.Mark m.OpenCurly ∷ l.Keyword k.Show ∷ l.Mark m.Semicolon ∷ l.Keyword k.Run ∷ l.Number
    0 ∷ l.Mark m.Semicolon ∷ l.Mark m.CloseCurly ∷ []

idle_composed : g.IsComponent idle_comp (plain_component idle_component)
idle_composed = g.component {c = record { 0 = 0 }} {ts = []} {us = []} {vs = l.Number 0 ∷ []} listed.none listed.none (q.choice (q.prefix q.nil))

abbrev double_component_lexemes : List Lexeme
double_component_lexemes = l.Keyword k.Abc ∷ l.Number 1 ∷ l.Mark m.Semicolon ∷ idle_comp ++ idle_comp

double_component_is : IsTextOf double_component double_component_tokens twice_composed
unfolding keyword_at mark_at
double_component_is = record {
  lexemes = double_component_lexemes;
  scanned = record { read = double_component_reads; meant = refl };
  grammar = g.headed_1 {ts = []} {us = idle_comp ++ idle_comp} listed.none
      (listed.more {ts = idle_comp} {us = idle_comp} {items = plain_component idle_component ∷ []}
      (listed.more {ts = []} {us = idle_comp} {items = []} listed.none idle_composed) idle_composed);
  within = short_within double_component_lexemes 21 (omega arith) (omega arith);
  names = refl;
}

twice_composed_first : IsFirstFact twice_composed check.DoubleName (Component 1)
twice_composed_first = record {
  holds = (omega arith, refl);
  first_cause = λ d lt s h. absurd (omega (arith, lt));
  first_site = second_component 2 _ _ (λ h. (cc));
}

-- ---- another header
header_reads : Reads (codes "abc 3;") header_tokens None
unfolding header_tokens skip number_token text_token next stands_after keyword_at mark_at
header_reads = (record { token = refl; place = refl }, (record { token = refl; place = refl }, (record { token = refl; place = refl }, refl)))

pub worked_texts : WorkedTexts
unfolding header_tokens keyword_at mark_at double_definition_is double_component_is
worked_texts = record {
  one_component = record { text = idle_is; checked = idle_checked };
  header_of_three = record {
    tokens = header_tokens;
    fault = None;
    lexemes = l.Keyword k.Abc ∷ l.Number 3 ∷ l.Mark m.Semicolon ∷ [];
    scanned = record { read = header_reads; meant = refl };
    number = 1;
    first = header_of_three;
    stands = refl;
  };
  no_component = record {
    tokens = header_tokens;
    program = nothing;
    text = nothing_is;
    site = Whole;
    first = nothing_first;
    stands = refl;
  };
  second_definition = record {
    tokens = double_definition_tokens;
    program = twice_defined;
    text = double_definition_is;
    site = Definition 1;
    first = twice_defined_first;
    stands = refl;
  };
  second_component = record {
    tokens = double_component_tokens;
    program = twice_composed;
    text = double_component_is;
    site = Component 1;
    first = twice_composed_first;
    stands = refl;
  };
}

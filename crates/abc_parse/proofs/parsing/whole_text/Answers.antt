use Rattle.std.proofs.Common.{◌≡◌, Bool, false, List, [], length, take, refl, sym, ap, ◌∙◌, subst}
use Rattle.abc_text.specs.declared.lexical.Token.{Token}
use Rattle.abc_text.specs.declared.lexical.Fault.{Fault}
use Rattle.std.specs.Prelude.{Option}
use Rattle.abc_text.specs.Meanings.{names_behind}
use Rattle.abc_grammar.specs.declared.lexemes.Lexeme.{Lexeme}
use Rattle.abc_grammar.specs.Scanned.{IsScanned}
use Rattle.abc_grammar.specs.Accepted.{is_def, is_comp, places_behind}
use Rattle.abc_parse.proofs.WholeTexts.{all_taken}
use Rattle.abc_parse.proofs.parsing.whole_text.Goals as goal

pub returns : goal.returns
returns c =
    let l = c.args.lexed.now in
    let ts = c.as_slice-tokens.ensures in
    let ls = c.as_slice-lexemes.ensures in
    let all : take (length c.as_slice-tokens.result.now) l.tokens ≡ l.tokens =
    ap (λ (us : List Token). take (length us) l.tokens) ts ∙ all_taken l.tokens in
    let placed = λ (is : Lexeme → Bool).
    ap (λ (us : List Lexeme). places_behind is false us c.as_slice-tokens.result.now) ls
    ∙ ap (λ (us : List Token). places_behind is false l.lexemes us) ts in
    record {
      tokens = l.tokens;
      text = record {
        lexemes = l.lexemes;
        scanned = subst (λ (f : Option Fault). IsScanned [] c.args.bytes.now l.tokens f l.lexemes) c.requires.end c.requires.lexed.scanned;
        grammar = c.requires.program.0;
        within = c.requires.program.1;
        names = sym c.in_ok-names.ensures ∙ ap (λ (us : List Token). names_behind [] c.args.bytes.now us) all;
      };
      places = record {
        definitions = c.in_ok-places.ensures ∙ placed is_def;
        components = c.in_ok-places-2.ensures ∙ placed is_comp;
        end = refl;
      };
    }

use Rattle.std.proofs.Common.{◌≡◌, ℕ, List, ◌++◌, map, take, Bor, sym, ap, ◌∙◌, subst}
use Rattle.std.specs.Prelude.{All}
use Rattle.abc_text.specs.Meanings.{names_behind, StandsIn}
use Rattle.abc_text.specs.Spelling.{IsWord}
use Rattle.std.proofs.lemmas.List.Elements.{All-take}
use Rattle.abc_text.proofs.Standing.{tokens_stand}
use Rattle.abc_lexemes.proofs.NewWords.{known_first, new_are, new_words, if_ok}
use Rattle.abc_lexemes.proofs.naming.new_names.Goals as goal

pub split_at-requires : goal.split_at-requires
split_at-requires c =
    known_first c.args.bytes.now c.args.names.now
    (take c.args.count c.args.lexed.now.tokens) c.first_words-words.result.now c.first_words-words.ensures

pub texts-requires : goal.texts-requires
texts-requires c =
    let stand = All-take (StandsIn c.args.bytes.now) c.args.count c.args.lexed.now.tokens
    (tokens_stand _ _ _ c.requires.lexed.scanned.read) in
    subst (All (λ (w : Bor (List ℕ)). IsWord w.now)) (sym c.split_at.ensures.back)
    (new_words c.args.bytes.now c.args.names.now
    (take c.args.count c.args.lexed.now.tokens) c.first_words-words.result.now stand c.first_words-words.ensures)

pub returns : goal.returns
returns c =
    let front = take c.args.count c.args.lexed.now.tokens in
    let are = new_are c.args.bytes.now c.args.names.now front c.first_words-words.result.now c.split_at.result.1.now
    c.first_words-words.ensures c.split_at.ensures.back in
    if_ok (λ (ts : List (List ℕ)). ts ≡ map (λ w. w.now) c.split_at.result.1.now)
    (λ (more : List (List ℕ)). names_behind c.args.names.now c.args.bytes.now front ≡ c.args.names.now ++ more)
    c.texts.result c.texts.ensures (λ more e. are ∙ ap (λ (ws : List (List ℕ)). c.args.names.now ++ ws) (sym e))

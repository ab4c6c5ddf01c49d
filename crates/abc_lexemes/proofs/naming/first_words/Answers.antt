use Rattle.std.proofs.Common.{ℕ, List, map, take, Bor, sym, ap, ◌∙◌, arith}
use Rattle.std.proofs.lemmas.List.{length-map}
use Rattle.abc_lexemes.proofs.Counted.{front_words, map-take}
use Rattle.abc_lexemes.proofs.naming.first_words.Goals as goal

pub split_at-requires-2 : goal.split_at-requires-2
split_at-requires-2 c =
    let words = front_words c.args.names.now c.args.bytes.now c.args.lexed.now.tokens c.args.count c.args.lexed.now.lexemes c.split_at.result.0.now
    (map (λ w. w.now) c.words.result.now) c.most_named-most.result c.requires.lexed.scanned.meant (c.words.ensures
    ∙ c.requires.lexed.names)
    (c.split_at.ensures.front ∙ ap (take c.args.count) c.as_slice.ensures) c.most_named-most.ensures in
    omega (arith, words.within, length-map c.words.result.now (λ (w : Bor (List ℕ)). w.now))

pub returns : goal.returns
returns c =
    let words = front_words c.args.names.now c.args.bytes.now c.args.lexed.now.tokens c.args.count c.args.lexed.now.lexemes c.split_at.result.0.now
    (map (λ w. w.now) c.words.result.now) c.most_named-most.result c.requires.lexed.scanned.meant (c.words.ensures
    ∙ c.requires.lexed.names)
    (c.split_at.ensures.front ∙ ap (take c.args.count) c.as_slice.ensures) c.most_named-most.ensures in
    ap (map (λ w. w.now)) c.split_at-2.ensures.front ∙ sym (map-take
    (λ w. w.now) c.most_named-most.result c.words.result.now) ∙ words.first

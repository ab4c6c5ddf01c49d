-- A text that is read so far.
use Rattle.std.proofs.Common.{◌≡◌, ℕ, pos, negsuc, zero, suc, ◌+◌, ◌<◌, ◌≤◌, true, false, All, List, [], ◌∷◌, ◌++◌, length, get_or, take, drop, flat_map, refl, ap, sym, subst, ◌∙◌, inl, inr, arith, length-append, append_assoc, length-take-le, take-append-drop, append-nil, add-zero}
use Rattle.std.proofs.Math.Seq.{take-add}
use Rattle.std.proofs.lemmas.Bool.{cases_lt}
use Rattle.std.proofs.lemmas.List.{take_more, drop-drop, drop_at, drop_all, get_or-drop}
use Rattle.std.proofs.lemmas.List.Concat.{flat_map-append}
use Rattle.std.proofs.lemmas.List.Elements.{All-push, All-drop, All-nil}
use Rattle.abc_value.specs.declared.limits.TheConstants.{LONGEST_TEXT}
use Rattle.abc_value.specs.Text.{IsPrintable}
use Rattle.abc_value.specs.declared.scalar.Scalar.{Scalar}
use Rattle.abc_value.specs.declared.scalar.Scalar.TheVariants.{Number, Text, Truth}
use Rattle.abc_value.specs.Literals.{BeginsWith, IsScalar, scalar_text, escaped}
use Rattle.abc_value.specs.Reading.{NoTextEnd, IsScalarFront, NoScalar}
use Rattle.abc_value.proofs.Pieces.{no_quote, same_piece}
use Rattle.abc_value.proofs.Fronts.{fits_pos, first_pos, minus_first, true_first, false_first}

-- a text's bytes as they are written, the closing quote, and what follows
abbrev pub ends : List ℕ → List ℕ → List ℕ
ends t rest = flat_map escaped t ++ 34 ∷ rest

pub record IsTextSoFar (bytes held : List ℕ) (at : ℕ) : Type 0 where
  pub begun : 0 < at
  pub within : at ≤ length bytes
  pub short : length held ≤ LONGEST_TEXT
  pub printable : All IsPrintable held
  pub front : take at bytes ≡ 34 ∷ flat_map escaped held
  pub others : (t rest : List ℕ) → bytes ≡ 34 ∷ ends t rest → (u : List ℕ) × ((t ≡ held ++ u) × (drop at bytes ≡ ends u rest))

pub text_first : (bytes : List ℕ) → get_or bytes 0 0 ≡ 34 → IsTextSoFar bytes [] 1
text_first [] e = absurd (omega arith)
text_first (c ∷ bytes) e = record {
  begun = omega arith;
  within = omega arith;
  short = omega arith;
  printable = All-nil IsPrintable;
  front = ap (λ b. b ∷ []) e;
  others = λ t rest h. (t, (refl, ap (λ l. drop 1 l) h));
}

-- the piece at the front, and what is after it
split_piece : (bytes : List ℕ) (at b n : ℕ) → n ≤ length (drop at bytes) → take n (drop at bytes) ≡ escaped b → drop at bytes ≡ escaped b ++ drop (at + n) bytes
split_piece bytes at b n l e = sym (take-append-drop n (drop at bytes)) ∙ (λ i. e i ++ drop-drop n at bytes i)

pub text_more : (bytes held : List ℕ) (at b n : ℕ) → IsTextSoFar bytes held at → length held < LONGEST_TEXT → IsPrintable b → n ≤ length (drop at bytes) → take n (drop at bytes) ≡ escaped b → at + n ≤ length bytes → IsTextSoFar bytes (held ++ b ∷ []) (at + n)
text_more bytes held at b n so room p l e w = record {
  begun = let g = so.begun in omega arith;
  within = w;
  short = let a = length-append held (b ∷ []) in omega arith;
  printable = All-push IsPrintable held b so.printable p;
  front = take-add at n bytes ∙ (λ i. so.front i ++ e i) ∙ ap (λ t. 34 ∷ t) (ap (λ t. flat_map escaped held ++ t) (sym (append-nil (escaped b))) ∙ sym (flat_map-append escaped held (b ∷ [])));
  others = others;
}
  where
    others : (t rest : List ℕ) → bytes ≡ 34 ∷ ends t rest → (u : List ℕ) × ((t ≡ (held ++ b ∷ []) ++ u) × (drop (at + n) bytes ≡ ends u rest))
    others t rest h = next (so.others t rest h)
      where
        split : drop at bytes ≡ escaped b ++ drop (at + n) bytes
        split = split_piece bytes at b n l e

        next : (u : List ℕ) × ((t ≡ held ++ u) × (drop at bytes ≡ ends u rest)) → (u : List ℕ) × ((t ≡ (held ++ b ∷ []) ++ u) × (drop (at + n) bytes ≡ ends u rest))
        next (([], (f, g))) = absurd (no_quote b (drop (at + n) bytes) (ap (λ l. get_or l 0 0) (sym split ∙ g)))
        next ((c ∷ u), (f, g)) =
            let q = same_piece b c (drop (at + n) bytes) (ends u rest) (sym split ∙ g ∙ append_assoc (escaped c) (flat_map escaped u) (34 ∷ rest)) in
            (u, (f ∙ ap (λ d. held ++ d ∷ u) (sym q.0) ∙ sym (append_assoc held (b ∷ []) u), q.1))

-- ---- the end of the text
opens : (bytes t : List ℕ) (b : BeginsWith bytes (scalar_text (Text t))) → bytes ≡ 34 ∷ ends t b.0
opens bytes t b = b.1 ∙ ap (λ l. 34 ∷ l) (append_assoc (flat_map escaped t) (34 ∷ []) b.0)

pub only_texts : (bytes : List ℕ) → get_or bytes 0 0 ≡ 34 → (y : Scalar) → IsScalar y → BeginsWith bytes (scalar_text y) → (P : Scalar → Type 0) → ((t : List ℕ) → IsScalar (Text t) → BeginsWith bytes (scalar_text (Text t)) → P (Text t)) → P y
only_texts bytes e (Number (pos n)) h b P f = let r = first_pos bytes n (fits_pos n h) b in let r0 = r.0 in let r1 = r.1 in absurd (omega arith)
only_texts bytes e (Number (negsuc n)) h b P f = let r = minus_first bytes n b in absurd (omega arith)
only_texts bytes e (Text t) h b P f = f t h b
only_texts bytes e (Truth true) h b P f = let r = true_first bytes b in absurd (omega arith)
only_texts bytes e (Truth false) h b P f = let r = false_first bytes b in absurd (omega arith)

first_byte : (bytes held : List ℕ) (at : ℕ) → IsTextSoFar bytes held at → get_or bytes 0 0 ≡ 34
first_byte [] held at so = let l = ap length so.front in let w = so.within in let g = so.begun in absurd (omega arith)
first_byte (c ∷ bytes) held zero so = let g = so.begun in absurd (omega arith)
first_byte (c ∷ bytes) held (suc at) so = ap (λ l. get_or l 0 0) so.front

pub text_bad : (bytes held : List ℕ) (at : ℕ) → IsTextSoFar bytes held at → NoTextEnd (drop at bytes) → NoScalar bytes
text_bad bytes held at so none y h b =
    only_texts bytes (first_byte bytes held at so) y h b (λ x. ⊥) (λ t i c.
    let o = so.others t c.0 (opens bytes t c) in
    none o.0 c.0 (unheld t o.0 o.1.0 i.1) o.1.1)
  where
    unheld : (t u : List ℕ) → t ≡ held ++ u → All IsPrintable t → All IsPrintable u
    unheld t u e all = subst (λ l. All IsPrintable l) (ap (λ l. drop (length held) l) e ∙ drop_at held u (length held) refl) (All-drop IsPrintable (length held) t all)

pub text_long : (bytes held : List ℕ) (at b n : ℕ) → IsTextSoFar bytes held at → length held ≡ LONGEST_TEXT → n ≤ length (drop at bytes) → take n (drop at bytes) ≡ escaped b → NoScalar bytes
text_long bytes held at b n so full l e y h s =
    only_texts bytes (first_byte bytes held at so) y h s (λ x. ⊥) (λ t i c.
    let o = so.others t c.0 (opens bytes t c) in
    no_room o.0 c.0 (let f = ap length o.1.0 in let a = length-append held o.0 in let j = i.0 in omega arith) o.1.1)
  where
    no_room : (u rest : List ℕ) → length u ≡ 0 → drop at bytes ≡ ends u rest → ⊥
    no_room [] rest z g = no_quote b (drop (at + n) bytes) (ap (λ l. get_or l 0 0) (sym (split_piece bytes at b n l e) ∙ g))
    no_room (c ∷ u) rest z g = absurd (omega arith)

pub text_end : (bytes held : List ℕ) (at : ℕ) → IsTextSoFar bytes held at → get_or (drop at bytes) 0 0 ≡ 34 → IsScalarFront bytes (Text held) (at + 1)
text_end bytes held at so q = record {
  is_scalar = (so.short, so.printable);
  within = let l = w in omega arith;
  front = front;
  longest = λ y h b. only_texts bytes (first_byte bytes held at so) y h b (λ x. length (scalar_text x) ≤ at + 1) (λ t i c.
      let o = so.others t c.0 (opens bytes t c) in same_length t o.0 c.0 o.1.0 o.1.1);
}
  where
    w : at < length bytes
    w = elim (cases_lt at (length bytes)) [ inl g ↦ g | inr g ↦ let z : get_or (drop at bytes) 0 0 ≡ 0 = ap (λ l. get_or l 0 0) (drop_all at bytes g) in absurd (omega arith) ]

    front : take (at + 1) bytes ≡ scalar_text (Text held)
    front = take_more bytes at 0 w ∙ (λ i. so.front i ++ (at_quote i ∷ []))
      where
        at_quote : get_or bytes at 0 ≡ 34
        at_quote = ap (λ k. get_or bytes k 0) (sym (add-zero at)) ∙ sym (get_or-drop at bytes 0 0) ∙ q

    same_length : (t u rest : List ℕ) → t ≡ held ++ u → drop at bytes ≡ ends u rest → length (scalar_text (Text t)) ≤ at + 1
    same_length t [] rest e g =
        let n = ap length front in let m = length-take-le (at + 1) bytes (let l = w in omega arith) in
        let s : t ≡ held = e ∙ append-nil held in
        subst (λ l. length (scalar_text (Text l)) ≤ at + 1) (sym s) (omega arith)
    same_length t (c ∷ u) rest e g = absurd (no_quote c (ends u rest) (ap (λ l. get_or l 0 0) (sym (append_assoc (escaped c) (flat_map escaped u) (34 ∷ rest)) ∙ sym g) ∙ q))

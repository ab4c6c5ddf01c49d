-- The pieces of a text as it is written.
use Rattle.std.proofs.Common.{◌≡◌, ◌≢◌, ◌⊎◌, ℕ, Bool, true, false, ◌||◌, ◌==◌, if◌then◌else◌, List, [], ◌∷◌, ◌++◌, length, get_or, flat_map, refl, ap, sym, subst, ◌∙◌, inl, inr, arith, length-append, append_assoc}
use Rattle.std.proofs.lemmas.Bool.{eqb-true, eqb-false, or_cases, or_parts}
use Rattle.std.proofs.lemmas.List.Elements.{All-head}
use Rattle.abc_value.specs.Text.{IsPrintable}
use Rattle.abc_value.specs.Literals.{escaped}
use Rattle.abc_value.specs.Reading.{NoTextEnd}

-- a byte that is written with a \ before it
abbrev pub marked : ℕ → Bool
marked b = (b == 34) || (b == 92)

pub marked_cases : (b : ℕ) → marked b ≡ true → (b ≡ 34) ⊎ (b ≡ 92)
marked_cases b h = elim (or_cases (b == 34) (b == 92) h) [ inl e ↦ inl (eqb-true b 34 e) | inr e ↦ inr (eqb-true b 92 e) ]

pub plain : (b : ℕ) → marked b ≡ false → (b ≢ 34) × (b ≢ 92)
plain b h = let p = or_parts (b == 34) (b == 92) h in (eqb-false b 34 p.0, eqb-false b 92 p.1)

-- a byte as it is written does not begin with a quote
pub no_quote : (b : ℕ) (rest : List ℕ) → get_or (escaped b ++ rest) 0 0 ≡ 34 → ⊥
no_quote b rest h0 =
    elim (marked b) as (λ m. marked b ≡ m → get_or ((if m then 92 ∷ (b ∷ []) else b ∷ []) ++ rest) 0 0 ≡ 34 → ⊥) [
      | true ↦ λ e h. omega arith
      | false ↦ λ e h. (plain b e).0 h
    ] refl h0

pub head_is : (b c : ℕ) (s t : List ℕ) → b ∷ s ≡ c ∷ t → b ≡ c
head_is b c s t h = cc

pub tail_is : (b c : ℕ) (s t : List ℕ) → b ∷ s ≡ c ∷ t → s ≡ t
tail_is b c s t h = cc

-- two bytes as they are written are the same byte
pub same_piece : (b c : ℕ) (s t : List ℕ) → escaped b ++ s ≡ escaped c ++ t → (b ≡ c) × (s ≡ t)
same_piece b c s t h0 =
    elim (marked b) as (λ m. marked b ≡ m → (if m then 92 ∷ (b ∷ []) else b ∷ []) ++ s ≡ escaped c ++ t → (b ≡ c) × (s ≡ t)) [
      | true ↦ λ e. elim (marked c) as (λ n. marked c ≡ n → 92 ∷ (b ∷ s) ≡ (if n then 92 ∷ (c ∷ []) else c ∷ []) ++ t → (b ≡ c) × (s ≡ t)) [
        | true ↦ λ f h. let r = tail_is 92 92 (b ∷ s) (c ∷ t) h in (head_is b c s t r, tail_is b c s t r)
        | false ↦ λ f h. absurd ((plain c f).1 (sym (head_is 92 c (b ∷ s) t h)))
      ] refl
      | false ↦ λ e. elim (marked c) as (λ n. marked c ≡ n → b ∷ s ≡ (if n then 92 ∷ (c ∷ []) else c ∷ []) ++ t → (b ≡ c) × (s ≡ t)) [
        | true ↦ λ f h. absurd ((plain b e).1 (head_is b 92 s (c ∷ t) h))
        | false ↦ λ f h. (head_is b c s t h, tail_is b c s t h)
      ] refl
    ] refl h0

-- ---- what stands at the end of a text is unique
pub same_end : (s t u v : List ℕ) → flat_map escaped s ++ 34 ∷ u ≡ flat_map escaped t ++ 34 ∷ v → (s ≡ t) × (u ≡ v)
same_end [] [] u v h = (refl, tail_is 34 34 u v h)
same_end [] (c ∷ t) u v h = absurd (no_quote c (flat_map escaped t ++ 34 ∷ v) (ap (λ l. get_or l 0 0) (sym (append_assoc (escaped c) (flat_map escaped t) (34 ∷ v))) ∙ sym (ap (λ l. get_or l 0 0) h)))
same_end (b ∷ s) [] u v h = absurd (no_quote b (flat_map escaped s ++ 34 ∷ u) (ap (λ l. get_or l 0 0) (sym (append_assoc (escaped b) (flat_map escaped s) (34 ∷ u))) ∙ ap (λ l. get_or l 0 0) h))
same_end (b ∷ s) (c ∷ t) u v h =
    let p = same_piece b c (flat_map escaped s ++ 34 ∷ u) (flat_map escaped t ++ 34 ∷ v) (sym (append_assoc (escaped b) (flat_map escaped s) (34 ∷ u)) ∙ h ∙ append_assoc (escaped c) (flat_map escaped t) (34 ∷ v)) in
    let q = same_end s t u v p.1 in
    ((λ i. p.0 i ∷ q.0 i), q.1)

-- ---- one piece at the front
pub no_end_empty : (bytes : List ℕ) → length bytes ≡ 0 → NoTextEnd bytes
no_end_empty bytes z [] rest p e = let l = ap length e in absurd (omega arith)
no_end_empty bytes z (c ∷ t) rest p e = let l = ap length e in let a = length-append (flat_map escaped (c ∷ t)) (34 ∷ rest) in absurd (omega arith)

-- what the bytes begin with, where a printable byte stands first as it is written
first_piece : (c : ℕ) (rest : List ℕ) → ((get_or (escaped c ++ rest) 0 0 ≡ 92) × ((c ≡ 34) ⊎ (c ≡ 92)) × (get_or (escaped c ++ rest) 1 0 ≡ c)) ⊎ ((get_or (escaped c ++ rest) 0 0 ≡ c) × ((c ≢ 34) × (c ≢ 92)))
first_piece c rest =
    elim (marked c) as (λ m. marked c ≡ m → ((get_or ((if m then 92 ∷ (c ∷ []) else c ∷ []) ++ rest) 0 0 ≡ 92) × ((c ≡ 34) ⊎ (c ≡ 92)) × (get_or ((if m then 92 ∷ (c ∷ []) else c ∷ []) ++ rest) 1 0 ≡ c)) ⊎ ((get_or ((if m then 92 ∷ (c ∷ []) else c ∷ []) ++ rest) 0 0 ≡ c) × ((c ≢ 34) × (c ≢ 92)))) [
      | true ↦ λ e. inl (refl, marked_cases c e, refl)
      | false ↦ λ e. inr (refl, plain c e)
    ] refl

parted : (bytes : List ℕ) (c : ℕ) (t rest : List ℕ) → bytes ≡ flat_map escaped (c ∷ t) ++ 34 ∷ rest → bytes ≡ escaped c ++ (flat_map escaped t ++ 34 ∷ rest)
parted bytes c t rest e = e ∙ append_assoc (escaped c) (flat_map escaped t) (34 ∷ rest)

pub no_end_escape : (bytes : List ℕ) → get_or bytes 0 0 ≡ 92 → (get_or bytes 1 0 ≡ 34 → ⊥) → (get_or bytes 1 0 ≡ 92 → ⊥) → NoTextEnd bytes
no_end_escape bytes f q s [] rest p e = let a = ap (λ l. get_or l 0 0) e in absurd (omega arith)
no_end_escape bytes f q s (c ∷ t) rest p e =
    let all = flat_map escaped t ++ 34 ∷ rest in
    let e0 : get_or bytes 0 0 ≡ get_or (escaped c ++ all) 0 0 = ap (λ l. get_or l 0 0) (parted bytes c t rest e) in
    let e1 : get_or bytes 1 0 ≡ get_or (escaped c ++ all) 1 0 = ap (λ l. get_or l 1 0) (parted bytes c t rest e) in
    elim (first_piece c all) [
      | inl h ↦ elim h.1 [ inl g ↦ q (e1 ∙ h.2 ∙ g) | inr g ↦ s (e1 ∙ h.2 ∙ g) ]
      | inr h ↦ h.1.1 (sym h.0 ∙ sym e0 ∙ f)
    ]

pub no_end_byte : (bytes : List ℕ) → (get_or bytes 0 0 ≡ 34 → ⊥) → (get_or bytes 0 0 ≡ 92 → ⊥) → (IsPrintable (get_or bytes 0 0) → ⊥) → NoTextEnd bytes
no_end_byte bytes q s u [] rest p e = q (ap (λ l. get_or l 0 0) e)
no_end_byte bytes q s u (c ∷ t) rest p e =
    let all = flat_map escaped t ++ 34 ∷ rest in
    let e0 : get_or bytes 0 0 ≡ get_or (escaped c ++ all) 0 0 = ap (λ l. get_or l 0 0) (parted bytes c t rest e) in
    elim (first_piece c all) [
      | inl h ↦ s (e0 ∙ h.0)
      | inr h ↦ u (subst (λ b. IsPrintable b) (sym h.0 ∙ sym e0) (All-head IsPrintable c t p))
    ]

-- How deep brackets stand in a text and in a print, and which tokens they have.
use Rattle.std.proofs.Common.{◌≡◌, ℕ, zero, suc, ◌+◌, ◌-◌, ◌<◌, ◌≤◌, Bool, true, false, List, [], ◌∷◌, ◌++◌, length, take, refl, sym, ap, ◌∙◌, subst, arith}
use Rattle.std.specs.Prelude.{if◌then◌else◌}
use Rattle.std.proofs.lemmas.Bool.{and_from}
use Rattle.std.specs.List.{list_all}
use Rattle.abc_grammar.specs.declared.lexemes.Lexeme.{Lexeme}
use Rattle.abc_grammar.specs.declared.lexemes.Lexeme.TheVariants as l
use Rattle.abc_text.specs.declared.words.Mark.TheVariants as m
use Rattle.abc_grammar.specs.Limits.{At, opens, closes, open_with, open_behind}
use Rattle.abc_grammar.specs.Laws.{Balanced}
use Rattle.abc_grammar.proofs.Balance.{open_behind-append}
use Rattle.abc_grammar_laws.proofs.NoItems.{is_inside, NoItem}
use Rattle.abc_grammar_laws.proofs.NoItems as items
use Rattle.abc_limits.proofs.Passing.{at_is, is_at}

-- ---- room for open brackets
-- Where n brackets are open before these tokens, at most `room` are open at any of them and behind them.
abbrev pub Fits : ℕ → ℕ → List Lexeme → Type 0
Fits room n [] = n ≤ room
Fits room n (t ∷ ts) = (n ≤ room) × Fits room (open_with n t) ts

-- those that are open before the tokens fit
pub fits_start : (room n : ℕ) (ts : List Lexeme) → Fits room n ts → n ≤ room
fits_start room n [] h = h
fits_start room n (t ∷ ts) h = h.0

-- one list behind another
pub fits_append : (room n : ℕ) (ts us : List Lexeme) → Fits room n ts → Fits room (open_behind n ts) us → Fits room n (ts ++ us)
fits_append room n [] us h k = k
fits_append room n (t ∷ ts) us h k = (h.0, fits_append room (open_with n t) ts us h.1 k)

-- the first of two lists
pub fits_front : (room n : ℕ) (ts us : List Lexeme) → Fits room n (ts ++ us) → Fits room n ts
fits_front room n [] us h = fits_start room n us h
fits_front room n (t ∷ ts) us h = (h.0, fits_front room (open_with n t) ts us h.1)

-- the second of two lists
pub fits_back : (room n : ℕ) (ts us : List Lexeme) → Fits room n (ts ++ us) → Fits room (open_behind n ts) us
fits_back room n [] us h = h
fits_back room n (t ∷ ts) us h = fits_back room (open_with n t) ts us h.1

-- one token where fewer are open
step_below : (b c : Bool) (i n : ℕ) → n ≤ i →
    (if b then n + 1 else (if c then n - 1 else n)) ≤ (if b then i + 1 else (if c then i - 1 else i))
step_below true c i n le = omega (arith, le)
step_below false true i n le = omega (arith, le)
step_below false false i n le = le

-- where fewer are open before, fewer are open behind
open_below : (i n : ℕ) (t : Lexeme) → n ≤ i → open_with n t ≤ open_with i t
open_below i n t le = step_below (opens t) (closes t) i n le

-- where fewer are open before them, tokens fit too
pub fits_below : (room i n : ℕ) (ts : List Lexeme) → n ≤ i → Fits room i ts → Fits room n ts
fits_below room i n [] le h = omega (arith, le, h)
fits_below room i n (t ∷ ts) le h = (omega (arith, le, h.0), fits_below room (open_with i t) (open_with n t) ts (open_below i n t le) h.1)

-- what stands behind balanced tokens
behind : (room n : ℕ) (ts us : List Lexeme) → Balanced ts → Fits room n (ts ++ us) → Fits room n us
behind room n ts us h f = subst (λ (i : ℕ). Fits room i us) (h n) (fits_back room n ts us f)

-- tokens behind balanced ones
both_fit : (room n : ℕ) (ts us : List Lexeme) → Balanced ts → Fits room n ts → Fits room n us → Fits room n (ts ++ us)
both_fit room n ts us h f g = fits_append room n ts us f (subst (λ (i : ℕ). Fits room i us) (sym (h n)) g)

-- more room
fits_wider : (room more n : ℕ) (ts : List Lexeme) → room ≤ more → Fits room n ts → Fits more n ts
fits_wider room more n [] le h = omega (arith, le, h)
fits_wider room more n (t ∷ ts) le h = (omega (arith, le, h.0), fits_wider room more (open_with n t) ts le h.1)

-- ---- tokens of terms
-- a token that is no bracket, and begins no definition and no component
abbrev pub Plain : Lexeme → Type 0
Plain t = ((n : ℕ) → open_with n t ≡ n) × (is_inside t ≡ true)

-- a token that opens a bracket and one that closes it
pub record Pair (opener closer : Lexeme) : Type 0 where
  pub adds : (n : ℕ) → open_with n opener ≡ n + 1
  pub returns : (n : ℕ) → open_with (open_with n opener) closer ≡ n
  pub open_inside : is_inside opener ≡ true
  pub close_inside : is_inside closer ≡ true

-- a bracket more and one fewer
one_less : (n : ℕ) → n + 1 - 1 ≡ n
one_less n = omega arith

-- the three kinds of brackets
pub round : Pair (l.Mark m.OpenRound) (l.Mark m.CloseRound)
round = record { adds = λ n. refl; returns = one_less; open_inside = refl; close_inside = refl }

pub square : Pair (l.Mark m.OpenSquare) (l.Mark m.CloseSquare)
square = record { adds = λ n. refl; returns = one_less; open_inside = refl; close_inside = refl }

pub curly : Pair (l.Mark m.OpenCurly) (l.Mark m.CloseCurly)
curly = record { adds = λ n. refl; returns = one_less; open_inside = refl; close_inside = refl }

-- What the tokens of each term are: balanced, with as much room behind fewer open brackets, and none begins a definition or a
-- component.
pub record Closed (ts : List Lexeme) : Type 0 where
  pub balanced : Balanced ts
  pub lower : (room n : ℕ) → Fits (room + 1) (n + 1) ts → Fits room n ts
  pub inside : NoItem ts

-- no tokens
pub closed_none : Closed []
closed_none = record { balanced = λ n. refl; lower = λ room n f. omega (arith, f); inside = refl }

-- behind a token that is no bracket
pub closed_cons : (t : Lexeme) (ts : List Lexeme) → Plain t → Closed ts → Closed (t ∷ ts)
closed_cons t ts p h = record {
  balanced = λ n. ap (λ (i : ℕ). open_behind i ts) (p.0 n) ∙ h.balanced n;
  lower = λ room n f. (
    omega (arith, f.0),
    subst (λ (i : ℕ). Fits room i ts) (sym (p.0 n)) (h.lower room n (subst (λ (i : ℕ). Fits (room + 1) i ts) (p.0 (n + 1)) f.1)),
  );
  inside = and_from (is_inside t) (list_all is_inside ts) p.1 h.inside;
}

-- one list behind another
pub closed_append : (ts us : List Lexeme) → Closed ts → Closed us → Closed (ts ++ us)
closed_append ts us h k = record {
  balanced = λ n. open_behind-append ts us n ∙ ap (λ (i : ℕ). open_behind i us) (h.balanced n) ∙ k.balanced n;
  lower = λ room n f. both_fit room n ts us h.balanced (h.lower room n (fits_front (room + 1) (n + 1) ts us f))
      (k.lower room n (behind (room + 1) (n + 1) ts us h.balanced f));
  inside = items.both ts us h.inside k.inside;
}

-- in brackets, and tokens behind them
pub closed_then : (opener closer : Lexeme) (ts us : List Lexeme) → Pair opener closer → Closed ts → Closed us → Closed (opener ∷ ts ++ closer ∷ us)
closed_then opener closer ts us p h k = record {
  balanced = λ n. open_behind-append ts (closer ∷ us) (open_with n opener)
      ∙ ap (λ (i : ℕ). open_behind i (closer ∷ us)) (h.balanced (open_with n opener)) ∙ ap (λ (i : ℕ). open_behind i us) (p.returns n) ∙ k.balanced n;
  lower = λ room n f.
      let one : open_with (n + 1) opener ≡ open_with n opener + 1 = (let a = p.adds n in let b = p.adds (n + 1) in omega (arith, a, b)) in
      let g = subst (λ (i : ℕ). Fits (room + 1) i (ts ++ closer ∷ us)) one f.1 in
      let i = open_with n opener in
      let back = behind (room + 1) (i + 1) ts (closer ∷ us) h.balanced g in
      let rest = subst (λ (j : ℕ). Fits (room + 1) j us) (ap (λ (j : ℕ). open_with j closer) (sym one) ∙ p.returns (n + 1)) back.1 in (
        omega (arith, f.0),
        both_fit room i ts (closer ∷ us) h.balanced (h.lower room i (fits_front (room + 1) (i + 1) ts (closer ∷ us) g))
            (omega (arith, back.0), subst (λ (j : ℕ). Fits room j us) (sym (p.returns n)) (k.lower room n rest)),
      );
  inside = and_from (is_inside opener) (list_all is_inside (ts ++ closer ∷ us)) p.open_inside
      (items.both ts (closer ∷ us) h.inside (and_from (is_inside closer) (list_all is_inside us) p.close_inside k.inside));
}

-- ---- two lists of tokens
-- Where the first list fits, the second does with so many brackets more.
pub record Less (extra : ℕ) (ts us : List Lexeme) : Type 0 where
  pub text : Closed ts
  pub print : Closed us
  pub fits : (room n : ℕ) → Fits room n ts → Fits (room + extra) n us

module _ (extra : ℕ) where
  -- no tokens
  pub less_none : Less extra [] []
  less_none = record { text = closed_none; print = closed_none; fits = λ room n h. omega (arith, h) }

  -- the same token before both
  pub less_cons : (t : Lexeme) (ts us : List Lexeme) → Plain t → Less extra ts us → Less extra (t ∷ ts) (t ∷ us)
  less_cons t ts us p h = record {
    text = closed_cons t ts p h.text;
    print = closed_cons t us p h.print;
    fits = λ room n f. (
      omega (arith, f.0),
      subst (λ (i : ℕ). Fits (room + extra) i us) (sym (p.0 n)) (h.fits room n (subst (λ (i : ℕ). Fits room i ts) (p.0 n) f.1)),
    );
  }

  -- one list behind another
  pub less_append : (ts us vs ws : List Lexeme) → Less extra ts us → Less extra vs ws → Less extra (ts ++ vs) (us ++ ws)
  less_append ts us vs ws h k = record {
    text = closed_append ts vs h.text k.text;
    print = closed_append us ws h.print k.print;
    fits = λ room n f. let text = h.text in
        let print = h.print in
        both_fit (room + extra) n us ws print.balanced (h.fits room n (fits_front room n ts vs f))
        (k.fits room n (behind room n ts vs text.balanced f));
  }

  -- in the same brackets, and tokens behind them
  pub less_then : (opener closer : Lexeme) (ts us vs ws : List Lexeme) → Pair opener closer → Less extra ts us → Less extra vs ws →
      Less extra (opener ∷ ts ++ closer ∷ vs) (opener ∷ us ++ closer ∷ ws)
  less_then opener closer ts us vs ws p h k = record {
    text = closed_then opener closer ts vs p h.text k.text;
    print = closed_then opener closer us ws p h.print k.print;
    fits = λ room n f. let i = open_with n opener in
        let text = h.text in
        let print = h.print in
        let back = behind room i ts (closer ∷ vs) text.balanced f.1 in
        let rest = k.fits room n (subst (λ (j : ℕ). Fits room j vs) (p.returns n) back.1) in (
          omega (arith, f.0),
          both_fit (room + extra) i us (closer ∷ ws) print.balanced (h.fits room i (fits_front room i ts (closer ∷ vs) f.1))
              (omega (arith, back.0), subst (λ (j : ℕ). Fits (room + extra) j ws) (sym (p.returns n)) rest),
        );
  }

  -- without the brackets of the first list
  pub less_bare : (opener closer : Lexeme) (ts us : List Lexeme) → Pair opener closer → Less extra ts us →
      Less extra (opener ∷ ts ++ closer ∷ []) us
  less_bare opener closer ts us p h = record {
    text = closed_then opener closer ts [] p h.text closed_none;
    print = h.print;
    fits = λ room n f. let i = open_with n opener in
        let one = p.adds n in
        fits_below (room + extra) i n us (omega (arith, one)) (h.fits room i (fits_front room i ts (closer ∷ []) f.1));
  }

-- ---- the limit of open brackets
-- one token where none is too deep
step_fits : (b c : Bool) (room n : ℕ) → n ≤ room → (b ≡ true → n < room) → (if b then n + 1 else (if c then n - 1 else n)) ≤ room
step_fits true c room n le h = let lt = h refl in omega (arith, lt)
step_fits false true room n le h = omega (arith, le)
step_fits false false room n le h = le

-- tokens none of which is too deep fit
pub shallow_fits : (room n : ℕ) (ts : List Lexeme) → n ≤ room →
    ((k : ℕ) → k < length ts → At ts k opens → open_behind n (take k ts) < room) → Fits room n ts
shallow_fits room n [] le h = le
shallow_fits room n (t ∷ ts) le h = (
  le,
  shallow_fits room (open_with n t) ts
      (step_fits (opens t) (closes t) room n le (λ e. h 0 (omega arith) (at_is (t ∷ ts) 0 t opens refl e)))
      (λ k lt a. h (suc k) (omega (arith, lt)) a),
)

-- and the other way round
pub fits_shallow : (room n : ℕ) (ts : List Lexeme) (k : ℕ) → k < length ts → Fits room n ts → At ts k opens →
    open_behind n (take k ts) < room
fits_shallow room n [] k lt f a = absurd (omega (arith, lt))
fits_shallow room n (t ∷ ts) zero lt f a =
    let opening = is_at (t ∷ ts) 0 t opens refl a in
    let e : open_with n t ≡ n + 1 = ap (λ (b : Bool). if b then n + 1 else (if closes t then n - 1 else n)) opening in
    let s = fits_start room (open_with n t) ts f.1 in
    omega (arith, e, s)
fits_shallow room n (t ∷ ts) (suc k) lt f a = fits_shallow room (open_with n t) ts k (omega (arith, lt)) f.1 a

-- with n brackets fewer open, and room for n fewer
lowered : (n room : ℕ) (ts : List Lexeme) → Closed ts → Fits (room + n) n ts → Fits room 0 ts
lowered zero room ts h f = let e : room + 0 ≡ room = omega arith in subst (λ (r : ℕ). Fits r 0 ts) e f
lowered (suc n) room ts h f =
    let e : room + suc n ≡ room + n + 1 = omega arith in
    let i : suc n ≡ n + 1 = omega arith in
    lowered n room ts h (h.lower (room + n) n (subst (λ (r : ℕ). Fits r (n + 1) ts) e (subst (λ (j : ℕ). Fits (room + suc n) j ts) i f)))

-- Tokens in brackets fit with a bracket fewer alone.
pub fits_inside : (room n : ℕ) (ts : List Lexeme) → Closed ts → Fits (room + 1) (n + 1) ts → Fits room 0 ts
fits_inside room n ts h f =
    let le = fits_start (room + 1) (n + 1) ts f in
    let e : room + 1 ≡ room - n + (n + 1) = omega (arith, le) in
    fits_wider (room - n) room 0 ts (omega arith) (lowered (n + 1) (room - n) ts h (subst (λ (r : ℕ). Fits r (n + 1) ts) e f))

-- The first line.
use Rattle.std.proofs.Common.{◌≡◌, ℕ, List, ◌++◌, get_or, decimal, codes, refl, sym, ap, ◌∙◌, subst, arith}
use Rattle.std.proofs.lemmas.List.{append_cancel_left}
use Rattle.abc_shape.specs.declared.shape.Shape.{Shape}
use Rattle.abc_shape.specs.declared.shape.Shape.TheVariants.{Cluster, Ring, Tree}
use Rattle.abc_trace.specs.declared.trace.Head.{Head}
use Rattle.abc_trace.specs.declared.trace.Head.TheVariants.{Solo, Net}
use Rattle.abc_trace.specs.Lines.{spaced, shape_word}
use Rattle.abc_trace.specs.WellFormed.{HeadIsWellFormed}
use Rattle.abc_trace_lines.specs.Plain.{First, head_words}
use Rattle.abc_trace_lines.specs.Fronts.{IsNumberBefore}
use Rattle.abc_trace_lines.specs.Reading.{IsLine, IsTwoNumbers, IsSoloNumbers, IsNetNumbers}
use Rattle.abc_trace_lines.proofs.Numerals.{before_one}
use Rattle.abc_trace_lines.proofs.CountLines.{two_one}

-- ---- what a head has behind abc-trace 1
command : Head → List ℕ
command (Solo limit pick) = codes "solo " ++ spaced (decimal limit) (decimal pick)
command (Net shape limit nodes pick) =
    spaced (shape_word shape) (spaced (decimal limit) (spaced (decimal nodes) (decimal pick)))

head_is : (head : Head) → head_words head ≡ codes "abc-trace 1 " ++ command head
unfolding command
head_is (Solo limit pick) = refl
head_is (Net shape limit nodes pick) = refl

-- ---- the numbers of a head
-- the numbers that are read, where they are past a limit
pub solo_wrong : (bytes : List ℕ) (m n : ℕ) → IsTwoNumbers bytes m n →
    ¬ (HeadIsWellFormed (Solo m n)) → (limit pick : ℕ) → ¬ (IsSoloNumbers bytes limit pick)
solo_wrong bytes m n two wrong limit pick is =
    let mine : IsTwoNumbers bytes limit pick = record {
      first = let h = is.within.1 in omega (arith, h);
      second = let h = is.within.2 in omega (arith, h);
      text = is.text;
    } in
    let same = two_one bytes limit pick m n mine two in
    wrong (subst (λ (k : ℕ). HeadIsWellFormed (Solo m k)) same.1
    (subst (λ (k : ℕ). HeadIsWellFormed (Solo k pick)) same.0 is.within))

-- ---- the numbers of a network
-- those of a network hold the limit before two numbers
net_limit : (shape : Shape) (bytes : List ℕ) (limit nodes pick : ℕ) →
    IsNetNumbers shape bytes limit nodes pick →
    IsNumberBefore 32 bytes limit (spaced (decimal nodes) (decimal pick))
net_limit shape bytes limit nodes pick is =
    record { fits = let h = is.within.1 in omega (arith, h); text = is.text }

net_two : (shape : Shape) (bytes : List ℕ) (limit nodes pick : ℕ) →
    IsNetNumbers shape bytes limit nodes pick →
    IsTwoNumbers (spaced (decimal nodes) (decimal pick)) nodes pick
net_two shape bytes limit nodes pick is = record {
  first = let h = is.within.4 in omega (arith, h);
  second = let h = is.within.2 in omega (arith, h);
  text = refl;
}

-- what stands behind the limit that is read
net_behind : (shape : Shape) (bytes more : List ℕ) (k limit nodes pick : ℕ) →
    IsNumberBefore 32 bytes k more → IsNetNumbers shape bytes limit nodes pick →
    (limit ≡ k) × (spaced (decimal nodes) (decimal pick) ≡ more)
net_behind shape bytes more k limit nodes pick first is =
    before_one 32 bytes (spaced (decimal nodes) (decimal pick)) more limit k refl
    (net_limit shape bytes limit nodes pick is) first

pub net_not_two : (shape : Shape) (bytes more : List ℕ) (k : ℕ) → IsNumberBefore 32 bytes k more →
    ((m n : ℕ) → ¬ (IsTwoNumbers more m n)) → (limit nodes pick : ℕ) →
    ¬ (IsNetNumbers shape bytes limit nodes pick)
net_not_two shape bytes more k first none limit nodes pick is =
    let both = net_behind shape bytes more k limit nodes pick first is in
    none nodes pick (subst (λ (t : List ℕ). IsTwoNumbers t nodes pick) both.1
    (net_two shape bytes limit nodes pick is))

pub net_wrong : (shape : Shape) (bytes more : List ℕ) (k m n : ℕ) → IsNumberBefore 32 bytes k more →
    IsTwoNumbers more m n → ¬ (HeadIsWellFormed (Net shape k m n)) → (limit nodes pick : ℕ) →
    ¬ (IsNetNumbers shape bytes limit nodes pick)
net_wrong shape bytes more k m n first two wrong limit nodes pick is =
    let both = net_behind shape bytes more k limit nodes pick first is in
    let same = two_one more nodes pick m n
    (subst (λ (t : List ℕ). IsTwoNumbers t nodes pick) both.1
    (net_two shape bytes limit nodes pick is)) two in
    wrong (subst (λ (j : ℕ). HeadIsWellFormed (Net shape k m j)) same.1
    (subst (λ (j : ℕ). HeadIsWellFormed (Net shape k j pick)) same.0
    (subst (λ (j : ℕ). HeadIsWellFormed (Net shape j nodes pick)) both.0 is.within)))

-- ---- shapes
-- One shape's word stands at the front.
shape_one : (shape other : Shape) (r s : List ℕ) →
    spaced (shape_word shape) r ≡ spaced (shape_word other) s → (shape ≡ other) × (r ≡ s)
shape_one Cluster Cluster r s e = (refl, append_cancel_left (codes "cluster ") r s e)
shape_one Cluster Ring r s e =
    let f = ap (λ (t : List ℕ). get_or t 0 0) e in absurd (omega (arith, f))
shape_one Cluster Tree r s e =
    let f = ap (λ (t : List ℕ). get_or t 0 0) e in absurd (omega (arith, f))
shape_one Ring Cluster r s e =
    let f = ap (λ (t : List ℕ). get_or t 0 0) e in absurd (omega (arith, f))
shape_one Ring Ring r s e = (refl, append_cancel_left (codes "ring ") r s e)
shape_one Ring Tree r s e = let f = ap (λ (t : List ℕ). get_or t 0 0) e in absurd (omega (arith, f))
shape_one Tree Cluster r s e =
    let f = ap (λ (t : List ℕ). get_or t 0 0) e in absurd (omega (arith, f))
shape_one Tree Ring r s e = let f = ap (λ (t : List ℕ). get_or t 0 0) e in absurd (omega (arith, f))
shape_one Tree Tree r s e = (refl, append_cancel_left (codes "tree ") r s e)

-- ---- the first line
pub head_not : (bytes : List ℕ) → ((more : List ℕ) → ¬ (bytes ≡ codes "abc-trace 1 " ++ more)) →
    (head : Head) → ¬ (IsLine bytes (First head))
head_not bytes none head is = none (command head) (sym is.text ∙ head_is head)

-- ---- one reading
-- the numbers of a network, and their shape aside
nets_one : (limit nodes pick l n p : ℕ) (shape other : Shape) →
    HeadIsWellFormed (Net shape limit nodes pick) → HeadIsWellFormed (Net other l n p) →
    spaced (decimal limit) (spaced (decimal nodes) (decimal pick))
    ≡ spaced (decimal l) (spaced (decimal n) (decimal p)) →
    (limit ≡ l) × (nodes ≡ n) × (pick ≡ p)
nets_one limit nodes pick l n p shape other h k e =
    let text = spaced (decimal limit) (spaced (decimal nodes) (decimal pick)) in
    let left : IsNetNumbers shape text limit nodes pick = record { within = h; text = refl } in
    let right : IsNetNumbers other text l n p = record { within = k; text = e } in
    let both = before_one 32 text (spaced (decimal nodes) (decimal pick))
    (spaced (decimal n) (decimal p)) limit l refl (net_limit shape text limit nodes pick left)
    (net_limit other text l n p right) in
    let two = two_one (spaced (decimal n) (decimal p)) nodes pick n p
    (subst (λ (t : List ℕ). IsTwoNumbers t nodes pick) both.1
    (net_two shape text limit nodes pick left)) (net_two other text l n p right) in
    (both.0, two.0, two.1)

pub heads_one : (h k : Head) → HeadIsWellFormed h → HeadIsWellFormed k →
    head_words h ≡ head_words k → h ≡ k
unfolding command
heads_one h k x y e =
    by h k x y (append_cancel_left (codes "abc-trace 1 ") (command h) (command k)
    (sym (head_is h) ∙ e ∙ head_is k))
  where
    solo_net : (limit pick l n p : ℕ) (shape : Shape) →
        codes "solo " ++ spaced (decimal limit) (decimal pick)
        ≡ spaced (shape_word shape) (spaced (decimal l) (spaced (decimal n) (decimal p))) →
        ⊥
    solo_net limit pick l n p Cluster e =
        let f = ap (λ (t : List ℕ). get_or t 0 0) e in omega (arith, f)
    solo_net limit pick l n p Ring e =
        let f = ap (λ (t : List ℕ). get_or t 0 0) e in omega (arith, f)
    solo_net limit pick l n p Tree e =
        let f = ap (λ (t : List ℕ). get_or t 0 0) e in omega (arith, f)

    two : (limit pick : ℕ) → HeadIsWellFormed (Solo limit pick) →
        IsTwoNumbers (spaced (decimal limit) (decimal pick)) limit pick
    two limit pick x =
        record {
          first = let l = x.1 in omega (arith, l);
          second = let p = x.2 in omega
              (arith, p);
          text = refl;
        }

    by : (h k : Head) → HeadIsWellFormed h → HeadIsWellFormed k → command h ≡ command k → h ≡ k
    by (Solo limit pick) (Solo l p) x y e =
        let same = append_cancel_left (codes "solo ") (spaced (decimal limit) (decimal pick))
        (spaced (decimal l) (decimal p)) e in
        let both = two_one (spaced (decimal l) (decimal p)) limit pick l p
        (subst (λ (t : List ℕ). IsTwoNumbers t limit pick) same (two limit pick x)) (two l p y) in
        (λ i. Solo (both.0 i) (both.1 i))
    by (Solo limit pick) (Net shape l n p) x y e = absurd (solo_net limit pick l n p shape e)
    by (Net shape limit nodes pick) (Solo l p) x y e =
        absurd (solo_net l p limit nodes pick shape (sym e))
    by (Net shape limit nodes pick) (Net other l n p) x y e =
        let shapes = shape_one shape other
        (spaced (decimal limit) (spaced (decimal nodes) (decimal pick)))
        (spaced (decimal l) (spaced (decimal n) (decimal p))) e in
        let numbers = nets_one limit nodes pick l n p shape other x y shapes.1 in
        (λ i. Net (shapes.0 i) (numbers.0 i) (numbers.1 i) (numbers.2 i))

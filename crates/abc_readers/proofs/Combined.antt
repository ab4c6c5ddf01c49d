-- What readers that are put together owe their grammar, and that they read what is of it.
use Rattle.std.proofs.Common.{◌≡◌, ℕ, zero, suc, ◌<◌, Bool, true, false, List, [], ◌∷◌, ◌++◌, length, Option, Some, None, refl, sym, ap, ◌∙◌, subst, append_assoc, append-nil, length-append, arith}
use Rattle.abc_cause.specs.declared.Cause.TheVariants.{Syntax}
use Rattle.abc_grammar.specs.declared.lexemes.Lexeme.{Lexeme}
use Rattle.abc_grammar.specs.declared.lexemes.Lexeme.TheVariants as l
use Rattle.abc_text.specs.declared.words.Mark.TheVariants as m
use Rattle.abc_grammar.specs.Listed.{AreListed, MayBeListed, AreRepeated}
use Rattle.abc_grammar.specs.Listed as gl
use Rattle.abc_reading.specs.Reading.{Read, Cut, Refused, ◌>>=◌, mapped, times}
use Rattle.abc_reading.proofs.Laws.{Begins, first, Owes, Reads, bind_owes, mapped_owes, pure_owes, refuse_owes, take_owes, refuse_at_owes, refuse_end_owes, like_owes, like_end_owes, lead_owes, by_first}
use Rattle.abc_reading.proofs.Again.{Guarded, again_owes, again-step}
use Rattle.abc_readers.specs.Operands.{Tokens, Reading, commas, listed}
use Rattle.abc_readers.specs.Combining.{one, one_by, IsOne, then_read, IsThen, repeat, repeat_by, repeated_on, repeated, closed, closed_by, listed_up, IsClosed}
use Rattle.abc_readers.proofs.OperandReads.{listed_reads}
use Rattle.abc_readers.proofs.OperandWhole.{listed_ends}

-- ---- one token
module _ {A : Type 0} (meaning : Lexeme → Option A) (some : Begins (IsOne meaning) []) where
  pub one_reads : Reads (IsOne meaning) (one meaning)
  one_reads [] = refuse_end_owes (IsOne meaning) (one meaning) [] Syntax some refl
  one_reads (t ∷ ts) = go (meaning t) refl
    where
      go : (o : Option A) → meaning t ≡ o → Owes (IsOne meaning) (one meaning) [] (t ∷ ts) (one_by t ts o)
      go None e = refuse_at_owes (IsOne meaning) (one meaning) [] t ts Syntax some (λ us. ap (one_by t us) e)
      go (Some a) e = take_owes (IsOne meaning) (one meaning) [] t ts a (record { token = t; whole = refl; means = e }) (λ us. ap (one_by t us) e)

pub one_whole : {A : Type 0} (meaning : Lexeme → Option A) (ts : Tokens) (a : A) → IsOne meaning ts a → (rest : Tokens) →
    one meaning (ts ++ rest) ≡ Read a rest
one_whole meaning ts a h rest = ap (λ (us : Tokens). one meaning (us ++ rest)) h.whole ∙ ap (one_by h.token rest) h.means

-- ---- one reader and then another
module _ {A B : Type 0} (R : Tokens → A → Type 0) (S : Tokens → B → Type 0) (f : Tokens → Reading A) (g : Tokens → Reading B) where
  pub then_begins : Begins R [] → Begins S [] → Begins (IsThen R S) []
  then_begins r s = (r.0 ++ s.0, (r.1, s.1), record { front = r.0; back = s.0; whole = refl; left = r.2; right = s.2 })

  pub then_reads : Reads R f → Reads S g → Begins S [] → Reads (IsThen R S) (then_read f g)
  then_reads lf lg s ts = bind_owes R (IsThen R S) f (λ a us. mapped (λ b. (a, b)) (g us)) [] [] ts (f ts) (lf ts)
      (λ a us mid h. mapped_owes S (IsThen R S) g (λ b. (a, b)) [] mid us (g us) (lg us)
      (λ mid' b q. record { front = mid; back = mid'; whole = refl; left = h; right = q }))
      (λ mid b. (b.0 ++ s.0, (b.1, s.1), record { front = mid ++ b.0; back = s.0; whole = sym (append_assoc mid b.0 s.0); left = b.2; right = s.2 }))

-- ---- items one behind another
-- no token, or one that begins no item, follows
abbrev pub NoMore : (Lexeme → Bool) → Tokens → Type 0
NoMore starts [] = Unit {0}
NoMore starts (t ∷ ts) = starts t ≡ false

-- a first token that begins an item
abbrev pub StartsSo : (Lexeme → Bool) → Tokens → Type 0
StartsSo starts [] = ⊥
StartsSo starts (t ∷ ts) = starts t ≡ true

module _ {A : Type 0} (R : Tokens → A → Type 0) (starts : Lexeme → Bool) (item : Tokens →
    Reading A) (law : Reads R item) (some : (ts : Tokens) (a : A) → R ts a → StartsSo starts ts) where
  abbrev Any : (List A → Tokens → Reading (List A)) → Type 0
  Any f = Unit {0}

  not_empty : (ts : Tokens) (a : A) → R ts a → 0 < length ts
  not_empty [] a h = absurd (some [] a h)
  not_empty (t ∷ ts) a h = omega arith

  repeat-guarded : Guarded Any (repeat starts item)
  repeat-guarded f g p q items [] h = refl
  repeat-guarded f g p q items (t ∷ ts) h = go (starts t)
    where
      by : (y : Reading A) → Owes R item [] (t ∷ ts) y → (y >>= λ a us. f (items ++ a ∷ []) us) ≡ (y >>= λ a us. g (items ++ a ∷ []) us)
      by (Read a us) o =
          let n = ap (length {A = Lexeme}) o.whole ∙ length-append {A = Lexeme} o.mid us in
          let k = not_empty o.mid a o.is in
          h (items ++ a ∷ []) us (omega (arith, n, k))
      by (Cut a us c vs) o = refl
      by (Refused c vs) o = refl

      go : (b : Bool) → repeat_by starts item f items (t ∷ ts) b ≡ repeat_by starts item g items (t ∷ ts) b
      go false = refl
      go true = by (item (t ∷ ts)) (law (t ∷ ts))

  pub repeated-step : (items : List A) (ts : Tokens) → repeated_on starts item items ts ≡ repeat starts item (repeated_on starts item) items ts
  repeated-step items ts = again-step Syntax (repeat starts item) Any repeat-guarded (λ n. tt) tt items ts

  times_owe : (n : ℕ) (items : List A) (pre ts : Tokens) → AreRepeated R pre items →
      Owes (AreRepeated R) (times Syntax (repeat starts item) n items) pre ts (times Syntax (repeat starts item) n items ts)
  times_owe zero items pre ts h = refuse_owes (AreRepeated R) (times Syntax (repeat starts item) zero items) pre ts Syntax
      ([], items, rw append-nil h) (λ vs k. refl)
  times_owe (suc n) items pre [] h = pure_owes (AreRepeated R) (times Syntax (repeat starts item) (suc n) items) pre [] items h same
    where
      same : (vs : Tokens) → first vs ≡ first [] → times Syntax (repeat starts item) (suc n) items vs ≡ Read items vs
      same [] k = refl
      same (x ∷ vs) k = absurd (let k' : Some x ≡ None = k in cc)
  times_owe (suc n) items pre (t ∷ ts) h = go (λ more pre' us r. times_owe n more pre' us r) (starts t) refl
    where
      Before : Type 0
      Before = (more : List A) (pre' us : Tokens) → AreRepeated R pre' more → Owes (AreRepeated R) (times Syntax (repeat starts item) n more) pre'
          us (times Syntax (repeat starts item) n more us)

      go : Before → (b : Bool) → starts t ≡ b → Owes (AreRepeated R) (times Syntax (repeat starts item) (suc n) items) pre (t ∷ ts)
          (repeat_by starts item (times Syntax (repeat starts item) n) items (t ∷ ts) b)
      go ih false e = pure_owes (AreRepeated R) (times Syntax (repeat starts item) (suc n) items) pre (t ∷ ts) items h
          (by_first (times Syntax (repeat starts item) (suc n) items) (λ vs. Read items vs) t (λ us. ap (repeat_by starts item (times Syntax
          (repeat starts item) n) items (t ∷ us)) e))
      go ih true e = lead_owes (AreRepeated R) (times Syntax (repeat starts item) (suc n) items) (λ us. item us >>= λ a vs. times Syntax
          (repeat starts item) n (items ++ a ∷ []) vs) pre [] (t ∷ ts)
          (item (t ∷ ts) >>= λ a vs. times Syntax (repeat starts item) n (items ++ a ∷ []) vs)
          (by_first (times Syntax (repeat starts item) (suc n) items) (λ us. item us >>= λ a vs. times Syntax (repeat starts item) n
          (items ++ a ∷ []) vs) t
          (λ us. ap (repeat_by starts item (times Syntax (repeat starts item) n) items (t ∷ us)) e))
          (rw append-nil (bind_owes R (AreRepeated R) item (λ a vs. times Syntax (repeat starts item) n (items ++ a ∷ []) vs) [] pre (t ∷ ts)
          (item (t ∷ ts)) (law (t ∷ ts))
          (λ a us mid r. ih (items ++ a ∷ []) (pre ++ mid) us (gl.more h r))
          (λ mid b. (b.0, items ++ b.1 ∷ [], rw (append_assoc pre mid b.0) (gl.more h b.2)))))

  pub repeated_reads : Reads (AreRepeated R) (repeated starts item)
  repeated_reads ts = again_owes Syntax (repeat starts item) Any repeat-guarded (λ n. tt) (AreRepeated R) [] [] ts (λ n. times_owe n [] [] ts gl.none)

  -- ---- what is repeated is read, where each item is
  module _ (whole : (ts : Tokens) (a : A) → R ts a → (rest : Tokens) → item (ts ++ rest) ≡ Read a rest) where
    one_more : (items : List A) (ts : Tokens) (a : A) (rest : Tokens) → R ts a → repeated_on starts item items (ts ++ rest) ≡ repeated_on starts
        item (items ++ a ∷ []) rest
    one_more items [] a rest h = absurd (some [] a h)
    one_more items (t ∷ ts) a rest h =
        repeated-step items (t ∷ (ts ++ rest)) ∙ ap (repeat_by starts item (repeated_on starts item) items (t ∷ (ts ++ rest))) (some (t ∷ ts) a h)
        ∙ ap (λ (y : Reading A). y >>= λ b us. repeated_on starts item (items ++ b ∷ []) us) (whole (t ∷ ts) a h rest)

    so_many : {ts : Tokens} {items : List A} → AreRepeated R ts items → (rest : Tokens) →
        repeated starts item (ts ++ rest) ≡ repeated_on starts item items rest
    so_many gl.none rest = refl
    so_many (gl.more {ts} {us} {items} {a} h q) rest = ap (repeated starts item) (append_assoc ts us rest) ∙ so_many h (us ++ rest)
        ∙ one_more items us a rest q

    no_more : (items : List A) (rest : Tokens) → NoMore starts rest → repeated_on starts item items rest ≡ Read items rest
    no_more items [] h = repeated-step items []
    no_more items (t ∷ ts) h = repeated-step items (t ∷ ts) ∙ ap (repeat_by starts item (repeated_on starts item) items (t ∷ ts)) h

    pub repeated_whole : (ts : Tokens) (items : List A) → AreRepeated R ts items → (rest : Tokens) → NoMore starts rest →
        repeated starts item (ts ++ rest) ≡ Read items rest
    repeated_whole ts items h rest stop = so_many h rest ∙ no_more items rest stop

-- ---- items parted by commas, up to a token that closes
module _ {A : Type 0} (closes : Lexeme → Option (Unit {0})) (Item : Tokens → A → Type 0) (item : Tokens →
    Reading A) (law : Reads Item item) (some : (t : Lexeme) × (closes t ≡ Some tt)) where
  closing : Begins (IsOne closes) []
  closing = (some.0 ∷ [], tt, record { token = some.0; whole = refl; means = some.1 })

  abbrev closed_so : (front : Tokens) (t : Lexeme) (items : List A) → MayBeListed Item front items → closes t ≡ Some tt →
      IsClosed closes Item (front ++ t ∷ []) items
  closed_so front t items h e = record { front = front; closing = t; whole = refl; listed = h; closer = e }

  up_reads : Reads (IsClosed closes Item) (listed_up closes item)
  up_reads ts = bind_owes (AreListed Item) (IsClosed closes Item) (listed item) (λ items us. mapped (λ u. items) (one closes us)) [] [] ts
      (listed item ts) (listed_reads Item item law ts)
      (λ items us mid h. mapped_owes (IsOne closes) (IsClosed closes Item) (one closes) (λ u. items) [] mid us (one closes us)
      (one_reads closes closing us)
      (λ mid' u q. subst (λ (vs : Tokens). IsClosed closes Item (mid ++ vs) items) (sym q.whole)
      (record { front = mid; closing = q.token; whole = refl; listed = gl.some h; closer = q.means })))
      (λ mid b. (
        b.0 ++ some.0 ∷ [],
        b.1,
        record {
          front = mid ++ b.0;
          closing = some.0;
          whole = sym (append_assoc mid b.0
              (some.0 ∷ []));
          listed = gl.some b.2;
          closer = some.1;
        },
      ))

  pub closed_reads : Reads (IsClosed closes Item) (closed closes item)
  closed_reads [] = like_end_owes (IsClosed closes Item) (closed closes item) (listed_up closes item) (listed_up closes item []) refl (up_reads [])
  closed_reads (t ∷ ts) = go (closes t) refl
    where
      go : (o : Option (Unit {0})) → closes t ≡ o → Owes (IsClosed closes Item) (closed closes item) [] (t ∷ ts) (closed_by closes item t ts o)
      go (Some u) e = take_owes (IsClosed closes Item) (closed closes item) [] t ts []
          (record { front = []; closing = t; whole = refl; listed = gl.none; closer = e }) (λ us. ap (closed_by closes item t us) e)
      go None e = like_owes (IsClosed closes Item) (closed closes item) (listed_up closes item) t ts (listed_up closes item (t ∷ ts)) (λ us. ap
          (closed_by closes item t us) e) (up_reads (t ∷ ts))

  -- ---- what is so is read: no item begins with a token that closes, and the items end before a comma and before a token that closes
  module _ (Stop : Tokens → Type 0) (at_comma : (ts : Tokens) → Stop (l.Mark m.Comma ∷ ts)) (at_close : (t : Lexeme) (ts : Tokens) →
      closes t ≡ Some tt → Stop (t ∷ ts))
      (whole : (ts : Tokens) (a : A) → Item ts a → (rest : Tokens) → Stop rest → item (ts ++ rest) ≡ Read a rest)
      (no_close : (ts : Tokens) (a : A) → Item ts a → (t : Lexeme) × (us : Tokens) × (ts ≡ t ∷ us) × (closes t ≡ None)) (no_comma : (t : Lexeme) →
      closes t ≡ Some tt → commas {A = A} t ≡ None) where
    first_opens : {ts : Tokens} {items : List A} → AreListed Item ts items → (t : Lexeme) × (us : Tokens) × (ts ≡ t ∷ us) × (closes t ≡ None)
    first_opens (gl.one {ts} {a} h) = no_close ts a h
    first_opens (gl.more {ts} {us} h q) = let f = first_opens h in (
      f.0,
      f.1 ++ l.Mark m.Comma ∷ us,
      ap (λ
          (vs : Tokens). vs ++ l.Mark m.Comma ∷ us) f.2,
      f.3,
    )

    begins_list : {ts : Tokens} {items : List A} → AreListed Item ts items → (rest : Tokens) →
        closed closes item (ts ++ rest) ≡ listed_up closes item (ts ++ rest)
    begins_list {ts} h rest =
        let f = first_opens h in
        subst (λ (vs : Tokens). closed closes item (vs ++ rest) ≡ listed_up closes item (vs ++ rest)) (sym f.2) (ap (closed_by closes item f.0
        (f.1 ++ rest)) f.3)

    up_whole : {ts : Tokens} {items : List A} (t : Lexeme) → AreListed Item ts items → closes t ≡ Some tt → (rest : Tokens) →
        listed_up closes item (ts ++ t ∷ rest) ≡ Read items rest
    up_whole {ts} {items} t h e rest =
        ap (λ (y : Reading (List A)). y >>= λ xs us. mapped (λ u. xs) (one closes us)) (listed_ends Item item law Stop at_comma whole h (t ∷ rest)
        (at_close t rest e) (no_comma t e))
        ∙ ap (λ (o : Option (Unit {0})). mapped (λ u. items) (one_by t rest o)) e

    by_list : (front : Tokens) (t : Lexeme) (items : List A) → MayBeListed Item front items → closes t ≡ Some tt → (rest : Tokens) →
        closed closes item (front ++ t ∷ rest) ≡ Read items rest
    by_list front t items gl.none e rest = ap (closed_by closes item t rest) e
    by_list front t items (gl.some h) e rest = begins_list h (t ∷ rest) ∙ up_whole t h e rest

    pub closed_whole : (ts : Tokens) (items : List A) → IsClosed closes Item ts items → (rest : Tokens) →
        closed closes item (ts ++ rest) ≡ Read items rest
    closed_whole ts items h rest =
        ap (closed closes item) (ap (λ (us : Tokens). us ++ rest) h.whole ∙ append_assoc h.front (h.closing ∷ []) rest)
        ∙ by_list h.front h.closing items h.listed h.closer rest

-- Paths of copies are one where each node's links on lead to different places: a law that names no shape.
use Rattle.std.proofs.Common.{◌≡◌, ◌≢◌, ℕ, ◌<◌, List, refl, sym, ◌∙◌, subst, arith}
use Rattle.abc_shape.specs.declared.shape.Shape.TheVariants.{Ring, Tree}
use Rattle.abc_shape.specs.declared.layout.Layout.{Layout}
use Rattle.abc_shape.specs.Plans.{actor_of, home, successor, IsLink}
use Rattle.abc_shape_laws.specs.Copies.{SendsOn, to_agent, to_successor, to_neighbour, Comes, there, onward}
use Rattle.abc_shape_laws.proofs.Links.{numbers-one, ends-one, same-ends}

-- By which rule node k sends on to an actor what came from another.
pub data Rule (p : Layout) (sender from k to : ℕ) : Type 0 where
  agents : p.shape ≢ Tree → to < p.agents → to ≢ sender → Rule p sender from k to
  next : p.shape ≡ Ring → successor p k ≢ home p sender → to ≡ actor_of p (successor p k) → Rule p sender from k to
  others : p.shape ≡ Tree → to ≢ from → Rule p sender from k to

-- A link on which a node sends on, with its other end.
pub record Out (p : Layout) (sender from k link to : ℕ) : Type 0 where
  pub link_is : IsLink p link (actor_of p k) to
  pub rule : Rule p sender from k to

pub out-of : (p : Layout) (s k came link from : ℕ) → IsLink p came from (actor_of p k) → SendsOn p s k came link → (to : ℕ) × Out p s from k link to
out-of p s k came link from r (to_agent i t low ne x) = (i, record { link_is = x; rule = agents t low ne })
out-of p s k came link from r (to_successor t ne x) = (_, record { link_is = x; rule = next t ne refl })
out-of p s k came link from r (to_neighbour f to t r' x ne) =
    (to, record { link_is = x; rule = others t (λ e. ne (e ∙ (numbers-one p came _ _ _ _ r r').0)) })

-- What a shape says: which links may carry the sender's copies, and which actors these lead to.
pub record Flow (p : Layout) (sender : ℕ) : Type 1 where
  pub Fits : ℕ → ℕ → Type 0
  pub Leads : ℕ → ℕ → ℕ → Type 0
  pub arrives : (from to : ℕ) → Fits from to → Leads from to to
  pub fits : (from k link to : ℕ) → Fits from (actor_of p k) → Out p sender from k link to → Fits (actor_of p k) to
  pub behind : (from k link to goal : ℕ) → Fits from (actor_of p k) → Out p sender from k link to → Leads (actor_of p k) to goal →
      Leads from (actor_of p k) goal
  pub leaves : (from k link to : ℕ) → Out p sender from k link to → Leads (actor_of p k) to (actor_of p k) → ⊥
  pub one : (from k link to link' to' goal : ℕ) → Out p sender from k link to → Out p sender from k link' to' →
      Leads (actor_of p k) to goal → Leads (actor_of p k) to' goal → to ≡ to'
  pub not_back : (k came link to : ℕ) → IsLink p came sender (actor_of p k) → Out p sender sender k link to → Leads (actor_of p k) to sender → ⊥

-- A copy comes only to where its link leads.
pub sound : (p : Layout) (s : ℕ) (f : Flow p s) (l : ℕ) (ms : List ℕ) (t : ℕ) → Comes p s l ms t → (from to : ℕ) → IsLink p l from to →
    f.Fits from to → f.Leads from to t
sound p s f l ms t (there link a b r) from to r' fit =
    let same = (numbers-one p _ _ _ _ _ r' r).1 in
    subst (λ (x : ℕ). f.Leads from to x) same (f.arrives from to fit)
sound p s f l ms t (onward link a k n more b r out c) from to r' fit =
    let e = numbers-one p _ _ _ _ _ r r' in
    let came = same-ends p _ _ _ _ _ e.0 refl r in
    let o = out-of p s k _ n from came out in
    let fit' = subst (λ (x : ℕ). f.Fits from x) (sym e.1) fit in
    let on = sound p s f n more b c (actor_of p k) o.0 o.1.link_is (f.fits from k n o.0 fit' o.1) in
    subst (λ (x : ℕ). f.Leads from x b) e.1 (f.behind from k n o.0 b fit' o.1 on)

-- None comes back to a node that sends it on.
stays : (p : Layout) (s : ℕ) (f : Flow p s) (from k came n t : ℕ) (more : List ℕ) → IsLink p came from (actor_of p k) → f.Fits from (actor_of p k) →
    SendsOn p s k came n → Comes p s n more t → t ≡ actor_of p k → ⊥
stays p s f from k came n t more r fit out c e =
    let o = out-of p s k came n from r out in
    let on = sound p s f n more t c (actor_of p k) o.0 o.1.link_is (f.fits from k n o.0 fit o.1) in
    f.leaves from k n o.0 o.1 (subst (λ (x : ℕ). f.Leads (actor_of p k) o.0 x) e on)

-- Two links on which a node sends on, and by which copies come to one place, are one link.
one-link : (p : Layout) (s : ℕ) (f : Flow p s) (from k came n n' t : ℕ) (more more' : List ℕ) → IsLink p came from (actor_of p k) →
    f.Fits from (actor_of p k) →
    SendsOn p s k came n → SendsOn p s k came n' → Comes p s n more t → Comes p s n' more' t → n ≡ n'
one-link p s f from k came n n' t more more' r fit out out' c c' =
    let o = out-of p s k came n from r out in
    let o' = out-of p s k came n' from r out' in
    let on = sound p s f n more t c (actor_of p k) o.0 o.1.link_is (f.fits from k n o.0 fit o.1) in
    let on' = sound p s f n' more' t c' (actor_of p k) o'.0 o'.1.link_is (f.fits from k n' o'.0 fit o'.1) in
    let same = f.one from k n o.0 n' o'.0 t o.1 o'.1 on on' in
    ends-one p n n' _ _ (same-ends p n _ _ _ _ refl same o.1.link_is) o'.1.link_is

pub comes-once : (p : Layout) (s : ℕ) (f : Flow p s) (l : ℕ) (ms ns : List ℕ) (t : ℕ) → Comes p s l ms t → Comes p s l ns t →
    (from to : ℕ) → IsLink p l from to → f.Fits from to → ms ≡ ns
comes-once p s f l ms ns t (there link a b r) (there link' a' b' r') from to x fit = refl
comes-once p s f l ms ns t (there link a b r) (onward link' a' k n more b' r' out c) from to x fit =
    let e = numbers-one p _ _ _ _ _ x r' in
    let same = numbers-one p _ _ _ _ _ r r' in
    absurd (stays p s f a' k link n b more r' (subst (λ (y : ℕ). f.Fits a' y) e.1 (subst (λ (y : ℕ). f.Fits y to) e.0 fit)) out c same.1)
comes-once p s f l ms ns t (onward link a k n more b r out c) (there link' a' b' r') from to x fit =
    let e = numbers-one p _ _ _ _ _ x r in
    let same = numbers-one p _ _ _ _ _ r' r in
    absurd (stays p s f a k link n b more r (subst (λ (y : ℕ). f.Fits a y) e.1 (subst (λ (y : ℕ). f.Fits y to) e.0 fit)) out c same.1)
comes-once p s f l ms ns t (onward link a k n more b r out c) (onward link' a' k' n' more' b' r' out' c') from to x fit =
    let e = numbers-one p _ _ _ _ _ x r in
    let fit' = subst (λ (y : ℕ). f.Fits a y) e.1 (subst (λ (y : ℕ). f.Fits y to) e.0 fit) in
    let node : k' ≡ k = (let same = (numbers-one p _ _ _ _ _ r' r).1 in omega arith) in
    let out'' = subst (λ (y : ℕ). SendsOn p s y link n') node out' in
    let first = one-link p s f a k link n n' b more more' r fit' out out'' c c' in
    let o = out-of p s k link n a r out in
    let c'' = subst (λ (y : ℕ). Comes p s y more' b) (sym first) c' in
    let rest : more ≡ more' = comes-once p s f n more more' b c c'' (actor_of p k) o.0 o.1.link_is (f.fits a k n o.0 fit' o.1) in
    cc

-- Nothing comes back to the sender.
pub comes-not_back : (p : Layout) (s : ℕ) (f : Flow p s) (l k : ℕ) (ms : List ℕ) (t : ℕ) → s < p.agents → IsLink p l s (actor_of p k) →
    f.Fits s (actor_of p k) → Comes p s l ms t → t ≡ s → ⊥
comes-not_back p s f l k ms t low x fit (there link a b r) e = let same = (numbers-one p _ _ _ _ _ r x).1 in omega arith
comes-not_back p s f l k ms t low x fit (onward link a j n more b r out c) e =
    let same = numbers-one p _ _ _ _ _ r x in
    let node : j ≡ k = (let y = same.1 in omega arith) in
    let out' = subst (λ (y : ℕ). SendsOn p s y l n) node out in
    let o = out-of p s k l n s x out' in
    let on = sound p s f n more t c (actor_of p k) o.0 o.1.link_is (f.fits s k n o.0 fit o.1) in
    f.not_back k l n o.0 x o.1 (subst (λ (y : ℕ). f.Leads (actor_of p k) o.0 y) e on)

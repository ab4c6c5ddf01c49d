-- The order and the equality of scalars.
use Rattle.std.proofs.Common.{◌≡◌, true, false, refl, ap, sym, ◌∙◌}
use Rattle.std.specs.declared.cmp.Ordering.TheVariants.{Less, Equal}
use Rattle.std.specs.Ordering.{ordering_reverse, is_eq, eq_by_cmp}
use Rattle.std.specs.Cmp.{IsTotalOrder}
use Rattle.std.proofs.lemmas.Cmp.{int_cmp_total, nat_list_cmp_total, tied_itself}
use Rattle.std.proofs.lemmas.Bool.Decides.{Decides-int_eq}
use Rattle.std.proofs.lemmas.Slice.Eq.{bytes_eq-Decides}
use Rattle.std.proofs.lemmas.Map.Text.{is_eq-slice_cmp}
use Rattle.abc_value.specs.declared.scalar.Scalar.{Scalar}
use Rattle.abc_value.specs.declared.scalar.Scalar.TheVariants.{Number, Text, Truth}
use Rattle.abc_value.specs.Scalars.{scalar_cmp, scalar_eq}

pub antisymm : (x y : Scalar) → scalar_cmp x y ≡ ordering_reverse (scalar_cmp y x)
antisymm (Number m) (Number n) = int_cmp_total.antisymm m n
antisymm (Number m) (Text t) = refl
antisymm (Number m) (Truth c) = refl
antisymm (Text s) (Number n) = refl
antisymm (Text s) (Text t) = nat_list_cmp_total.antisymm s t
antisymm (Text s) (Truth c) = refl
antisymm (Truth b) (Number n) = refl
antisymm (Truth b) (Text t) = refl
antisymm (Truth true) (Truth true) = refl
antisymm (Truth true) (Truth false) = refl
antisymm (Truth false) (Truth true) = refl
antisymm (Truth false) (Truth false) = refl

pub trans : (x y z : Scalar) → scalar_cmp x y ≡ Less → scalar_cmp y z ≡ Less → scalar_cmp x z ≡ Less
trans (Number l) (Number m) (Number n) g h = int_cmp_total.trans l m n g h
trans (Number l) (Text t) (Number n) g h = cc
trans (Number l) (Truth c) (Number n) g h = cc
trans (Number l) y (Text t) g h = refl
trans (Number l) y (Truth c) g h = refl
trans (Text s) (Number m) z g h = cc
trans (Text s) (Text t) (Number n) g h = cc
trans (Text s) (Truth c) (Number n) g h = cc
trans (Text s) (Text t) (Text u) g h = nat_list_cmp_total.trans s t u g h
trans (Text s) (Truth c) (Text u) g h = cc
trans (Text s) y (Truth c) g h = refl
trans (Truth b) (Number m) z g h = cc
trans (Truth b) (Text t) z g h = cc
trans (Truth b) (Truth c) (Number n) g h = cc
trans (Truth b) (Truth c) (Text t) g h = cc
trans (Truth true) (Truth true) (Truth d) g h = cc
trans (Truth true) (Truth false) (Truth d) g h = cc
trans (Truth false) (Truth c) (Truth true) g h = refl
trans (Truth false) (Truth true) (Truth false) g h = cc
trans (Truth false) (Truth false) (Truth false) g h = cc

-- the two tests agree
ties : (x y : Scalar) → scalar_eq x y ≡ eq_by_cmp scalar_cmp x y
ties (Number m) (Number n) = refl
ties (Number m) (Text t) = refl
ties (Number m) (Truth c) = refl
ties (Text s) (Number n) = refl
ties (Text s) (Text t) = sym (is_eq-slice_cmp s t)
ties (Text s) (Truth c) = refl
ties (Truth b) (Number n) = refl
ties (Truth b) (Text t) = refl
ties (Truth true) (Truth true) = refl
ties (Truth true) (Truth false) = refl
ties (Truth false) (Truth true) = refl
ties (Truth false) (Truth false) = refl

-- the test is equality
pub eq_same : (x y : Scalar) → scalar_eq x y ≡ true → x ≡ y
eq_same (Number m) (Number n) h = ap Number ((Decides-int_eq m n).0 h)
eq_same (Number m) (Text t) h = cc
eq_same (Number m) (Truth c) h = cc
eq_same (Text s) (Number n) h = cc
eq_same (Text s) (Text t) h = ap Text ((bytes_eq-Decides s t).0 h)
eq_same (Text s) (Truth c) h = cc
eq_same (Truth b) (Number n) h = cc
eq_same (Truth b) (Text t) h = cc
eq_same (Truth true) (Truth true) h = refl
eq_same (Truth true) (Truth false) h = cc
eq_same (Truth false) (Truth true) h = cc
eq_same (Truth false) (Truth false) h = refl

pub eq_refl : (x : Scalar) → scalar_eq x x ≡ true
eq_refl (Number m) = (Decides-int_eq m m).1 refl
eq_refl (Text s) = (bytes_eq-Decides s s).1 refl
eq_refl (Truth true) = refl
eq_refl (Truth false) = refl

congr : (x y z : Scalar) → scalar_cmp x y ≡ Equal → scalar_cmp x z ≡ scalar_cmp y z
congr x y z h = ap (λ w. scalar_cmp w z) (eq_same x y (ties x y ∙ ap is_eq h))

pub cmp_total : IsTotalOrder scalar_cmp
cmp_total = record { antisymm = antisymm; trans = trans; congr = congr }

pub ties_all : (x y : Scalar) → scalar_eq x y ≡ eq_by_cmp scalar_cmp x y
ties_all = ties

pub equal_same : (x y : Scalar) → scalar_cmp x y ≡ Equal → x ≡ y
equal_same x y h = eq_same x y (ties x y ∙ ap is_eq h)

pub cmp_self : (x : Scalar) → scalar_cmp x x ≡ Equal
cmp_self x = tied_itself cmp_total x

pub less_self : (x : Scalar) → scalar_cmp x x ≡ Less → ⊥
less_self x h = let e = cmp_self x in cc

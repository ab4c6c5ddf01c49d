-- Between two steps all stay, so that runs follow one another.
use Rattle.std.proofs.Common.{◌≡◌, List, [], ◌∷◌, ◌++◌, refl, subst}
use Rattle.abc_packet.specs.declared.choice.Choice.{Choice}
use Rattle.abc_body.specs.Meanings.{Meaning}
use Rattle.abc_body.specs.Multicasts.{AllRest, Runs}

-- Who rests stays.
pub AllRest-stays : {B : Type 0} (S S' : List B) → AllRest S S' → S' ≡ S
AllRest-stays [] [] rest = refl
AllRest-stays [] (b' ∷ S') rest = absurd rest
AllRest-stays (b ∷ S) [] rest = absurd rest
AllRest-stays (b ∷ S) (b' ∷ S') rest = let first = rest.0.1.1 in let others = AllRest-stays S S' rest.1 in cc

-- Who stays rests.
pub AllRest-same : {B : Type 0} (S : List B) → AllRest S S
AllRest-same [] = tt
AllRest-same (b ∷ S) = (([], (refl, refl)), AllRest-same S)

-- A run and then another are one.
pub Runs-append : {B L : Type 0} (m : Meaning B L) (S T U : List B) (cs ds : List Choice) → Runs m S cs T → Runs m T ds U → Runs m S (cs ++ ds) U
Runs-append {B} m S T U [] ds first second = subst (λ (X : List B). Runs m X ds U) (AllRest-stays S T first) second
Runs-append m S T U (c ∷ cs) ds first second = (first.0, first.1, first.2, first.3, Runs-append m first.1 T U cs ds first.4 second)

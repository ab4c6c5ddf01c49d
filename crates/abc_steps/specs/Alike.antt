-- Systems that differ only in how interfaces list the same names.
use Rattle.std.specs.Prelude.{◌≡◌, [], ◌∷◌}
use Rattle.abc_pred.specs.Maps.{ListsTheSame}
use Rattle.abc_term.specs.Processes.{Component, System}

pub record IsAlike (C D : Component) : Type 0 where
  pub env : C.env ≡ D.env
  pub interface : ListsTheSame C.interface D.interface
  pub process : C.process ≡ D.process

abbrev pub AreAlike : System → System → Type 0
AreAlike [] [] = Unit {0}
AreAlike (C ∷ S) (D ∷ T) = IsAlike C D × AreAlike S T
AreAlike [] (D ∷ T) = ⊥
AreAlike (C ∷ S) [] = ⊥

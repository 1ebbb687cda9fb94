-- A countermodel, as a test: `refutes` holds of a finite model that meets the conditions of its logic and has a world where the policy is true and
-- the goal is not.
use Rattle.std.specs.Prelude.{ℕ, ◌<◌, Bool, true, List, [], ◌∷◌, ltb}
use Rattle.scope.specs.Logic.Facts.{Logic}
use Rattle.scope.specs.Logic.Form as F
use Rattle.scope.specs.Logic.Form.{Form, both, negate}
use Rattle.scope.specs.Logic.Models.{Model, ModelOf, Sat, SatAll}
use Rattle.sound.specs.Tests.{alltrue}
use Rattle.sound.specs.Computed.{frame, lawful, eval, eval_all}

-- The conditions of the logic hold, and the model has a world x where the policy is true and the goal is not.
unfoldable pub refutes : Logic → ℕ → ℕ → Model → ℕ → List Form → Form → Bool
refutes l k n m x policy goal =
    alltrue (frame k n m ∷ lawful l k m ∷ ltb x m.worlds ∷ eval_all m x policy ∷ negate (eval m x goal) ∷ [])

-- What a model that refutes meets: the conditions of the logic, and at the world x the policy, and not the goal.
pub record Refuting (l : Logic) (k n : ℕ) (m : Model) (x : ℕ) (policy : List Form) (goal : Form) : Type 0 where
  pub meets : ModelOf l k n m
  pub inside : x < m.worlds
  pub holds : SatAll m x policy
  pub fails : Sat m x goal → ⊥

-- The numbers of a formula, and of several, computed.
unfoldable pub over : ℕ → ℕ → Form → Bool
over k n (F.atom p) = ltb p n
over k n F.top = true
over k n F.bot = true
over k n (F.and f g) = both (over k n f) (over k n g)
over k n (F.or f g) = both (over k n f) (over k n g)
over k n (F.imp f g) = both (over k n f) (over k n g)
over k n (F.says a f) = both (ltb a k) (over k n f)
over k n (F.sf a b) = both (ltb a k) (ltb b k)

unfoldable pub over_all : ℕ → ℕ → List Form → Bool
over_all k n [] = true
over_all k n (f ∷ fs) = both (over k n f) (over_all k n fs)

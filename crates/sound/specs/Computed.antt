-- The frame conditions of Definition 1 and the satisfaction of Definition 2, as tests on a finite model: `frame` for the conditions, `lawful` for
-- what a logic asks beside them, `eval` and `eval_all` for the truth of formulas.
use Rattle.std.specs.Prelude.{ℕ, Bool, true, false}
use mathlib.Core.List.{List, [], ◌∷◌}
use Rattle.scope.specs.Logic.Form as F
use Rattle.scope.specs.Logic.Form.{Form, both, either}
use Rattle.scope.specs.Logic.Facts.{Logic, plain, unit}
use Rattle.scope.specs.Logic.Models.{Model}
use Rattle.sound.specs.Tests.{implies, every, alltrue}

-- Tests over the worlds, pairs of worlds and triples of worlds of a model.
module _ (m : Model) where
  unfoldable pub worlds : (ℕ → Bool) → Bool
  unfolding every
  worlds t = every m.worlds t

  unfoldable pub pairs : (ℕ → ℕ → Bool) → Bool
  unfolding worlds
  pairs t = worlds λ x. worlds λ y. t x y

  unfoldable pub triples : (ℕ → ℕ → ℕ → Bool) → Bool
  unfolding worlds
  triples t = worlds λ x. worlds λ y. worlds λ z. t x y z

-- The frame conditions of Definition 1 for k principals and n atoms, in its order. (mon-sf) is tested a step of ≤ or of S_* at a time.
module _ (k n : ℕ) (m : Model) where
  unfoldable pub conditions : List Bool
  unfolding both implies every worlds pairs triples
  conditions =
      worlds m (λ x. m.le x x) ∷
      triples m (λ x y z. implies (m.le x y) (implies (m.le y z) (m.le x z))) ∷
      every k (λ a. triples m λ x y z. implies (m.le x y) (implies (m.acc a y z) (m.acc a x z))) ∷
      every k (λ a. every k λ b. triples m λ x y z. implies (m.acc b x y) (implies (m.acc a y z) (m.acc a x z))) ∷
      every k (λ a. every k λ b. pairs m λ x y. implies (m.speaks a b x) (implies (m.acc b x y) (m.acc a x y))) ∷
      every k (λ a. worlds m λ x. m.speaks a a x) ∷
      every k (λ a. every k λ b. every k λ c. worlds m λ x. implies (m.speaks a b x) (implies (m.speaks b c x) (m.speaks a c x))) ∷
      every n (λ p. pairs m λ x y. implies (m.h p x) (implies (m.le x y) (m.h p y))) ∷
      every k (λ a. every k λ b. pairs m λ x y. implies (m.speaks a b x) (implies (m.le x y) (m.speaks a b y))) ∷
      every k (λ a. every k λ b. every k λ c. pairs m λ x y. implies (m.speaks a b x) (implies (m.acc c x y) (m.speaks a b y))) ∷
      []

  unfoldable pub frame : Bool
  unfolding alltrue conditions
  frame = alltrue conditions

-- What a logic asks beside the frame conditions: with unit, x S_A y gives x ≤ y.
unfoldable pub lawful : Logic → ℕ → Model → Bool
unfolding every pairs implies
lawful plain k m = true
lawful unit k m = every k λ a. pairs m λ x y. implies (m.acc a x y) (m.le x y)

-- The truth of a formula at a world. The tests in it stay shut for the laws below.
unfoldable pub eval : Model → ℕ → Form → Bool
eval m w (F.atom p) = m.h p w
eval m w F.top = true
eval m w F.bot = false
eval m w (F.and f g) = both (eval m w f) (eval m w g)
eval m w (F.or f g) = either (eval m w f) (eval m w g)
eval m w (F.imp f g) = every m.worlds λ v. implies (m.le w v) (implies (eval m v f) (eval m v g))
eval m w (F.says a f) = every m.worlds λ v. implies (m.acc a w v) (eval m v f)
eval m w (F.sf a b) = m.speaks a b w

-- Every formula of a list is true at a world.
unfoldable pub eval_all : Model → ℕ → List Form → Bool
eval_all m w [] = true
eval_all m w (f ∷ fs) = both (eval m w f) (eval_all m w fs)

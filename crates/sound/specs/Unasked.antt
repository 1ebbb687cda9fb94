-- Conditions on models that Definition 1 of document 000 does not have, and that a reader might slip in, each as a test on a finite model.
use Rattle.std.specs.Prelude.{ℕ, Bool, eqb}
use Rattle.scope.specs.Logic.Form.{both, either, negate}
use Rattle.scope.specs.Logic.Facts.{unit}
use Rattle.scope.specs.Logic.Models.{Model}
use Rattle.sound.specs.Tests.{implies, every}
use Rattle.sound.specs.Computed.{worlds, pairs, triples, lawful}

-- A condition on models over k principals and n atoms, as a test.
abbrev pub Condition : Type 0
Condition = ℕ → ℕ → Model → Bool

module _ (k n : ℕ) (m : Model) where
  -- x ≤ y gives y ≤ x
  unfoldable pub le_symmetric : Bool
  le_symmetric = pairs m λ x y. implies (m.le x y) (m.le y x)

  -- x ≤ y gives x = y
  unfoldable pub le_identity : Bool
  le_identity = pairs m λ x y. implies (m.le x y) (eqb x y)

  -- x ≤ y and y ≤ x give x = y
  unfoldable pub le_antisymmetric : Bool
  le_antisymmetric = pairs m λ x y. implies (m.le x y) (implies (m.le y x) (eqb x y))

  -- x ≤ y or y ≤ x
  unfoldable pub le_total : Bool
  le_total = pairs m λ x y. either (m.le x y) (m.le y x)

  -- every world is above world 0
  unfoldable pub le_rooted : Bool
  le_rooted = worlds m λ x. m.le 0 x

  -- x S_A x
  unfoldable pub acc_reflexive : Bool
  acc_reflexive = every k λ a. worlds m λ x. m.acc a x x

  -- never x S_A x
  unfoldable pub acc_irreflexive : Bool
  acc_irreflexive = every k λ a. worlds m λ x. negate (m.acc a x x)

  -- x S_A y gives y S_A x
  unfoldable pub acc_symmetric : Bool
  acc_symmetric = every k λ a. pairs m λ x y. implies (m.acc a x y) (m.acc a y x)

  -- x S_A y gives x ≤ y, as unit asks
  unfoldable pub acc_within_le : Bool
  acc_within_le = lawful unit k m

  -- x ≤ y gives x S_A y
  unfoldable pub le_within_acc : Bool
  le_within_acc = every k λ a. pairs m λ x y. implies (m.le x y) (m.acc a x y)

  -- x S_A y and y ≤ z give x S_A z
  unfoldable pub acc_carried_right : Bool
  acc_carried_right = every k λ a. triples m λ x y z. implies (m.acc a x y) (implies (m.le y z) (m.acc a x z))

  -- x S_A y gives x S_B y
  unfoldable pub acc_alike : Bool
  acc_alike = every k λ a. every k λ b. pairs m λ x y. implies (m.acc a x y) (m.acc b x y)

  -- some y has x S_A y
  unfoldable pub acc_serial : Bool
  acc_serial = every k λ a. worlds m λ x. negate (worlds m λ y. negate (m.acc a x y))

  -- x S_A y and x S_A z give y = z
  unfoldable pub acc_single : Bool
  acc_single = every k λ a. triples m λ x y z. implies (m.acc a x y) (implies (m.acc a x z) (eqb y z))

  -- x S_A z gives x S_A y and y S_A z for some y
  unfoldable pub acc_dense : Bool
  acc_dense = every k λ a. pairs m λ x z. implies (m.acc a x z) (negate (worlds m λ y. negate (both (m.acc a x y) (m.acc a y z))))

  -- x is in sf(A, B) whenever all y with x S_B y have x S_A y
  unfoldable pub sf_by_within : Bool
  sf_by_within =
      every k λ a. every k λ b. worlds m λ x. implies (worlds m λ y. implies (m.acc b x y) (m.acc a x y)) (m.speaks a b x)

  -- x in sf(A, B) and x S_A y give x S_B y: (basic-sf) the other way round
  unfoldable pub sf_turned : Bool
  sf_turned = every k λ a. every k λ b. pairs m λ x y. implies (m.speaks a b x) (implies (m.acc a x y) (m.acc b x y))

  -- x in sf(A, B) gives x in sf(B, A)
  unfoldable pub sf_symmetric : Bool
  sf_symmetric = every k λ a. every k λ b. worlds m λ x. implies (m.speaks a b x) (m.speaks b a x)

  -- x in sf(A, B) gives y in sf(A, B)
  unfoldable pub sf_everywhere : Bool
  sf_everywhere = every k λ a. every k λ b. pairs m λ x y. implies (m.speaks a b x) (m.speaks a b y)

  -- x in h(p) gives y in h(p)
  unfoldable pub h_everywhere : Bool
  h_everywhere = every n λ p. pairs m λ x y. implies (m.h p x) (m.h p y)

  -- x in h(p) and x S_A y give y in h(p)
  unfoldable pub h_along_acc : Bool
  h_along_acc = every n λ p. every k λ a. pairs m λ x y. implies (m.h p x) (implies (m.acc a x y) (m.h p y))

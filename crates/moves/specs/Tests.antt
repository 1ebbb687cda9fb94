-- The laws by which the check closes what a function answers after its tests: the files of the code name them in their attributes.
use Rattle.std.specs.Prelude.{◌≡◌, refl, Bool, true, false}
use Rattle.std.proofs.Common.{rules, eq-eqb, ne_eqb, le-leb}
use Rattle.std.proofs.lemmas.Bool.{lt-leb}
use Rattle.moves.specs.Steps.{pick}

pub pick_true : {A : Type 0} (b : Bool) (x y : A) → b ≡ true → pick b x y ≡ x
unfolding pick
pick_true b x y e = rw e refl

pub pick_false : {A : Type 0} (b : Bool) (x y : A) → b ≡ false → pick b x y ≡ y
unfolding pick
pick_false b x y e = rw e refl

pub ruleset tests = (rules, eq-eqb, ne_eqb, le-leb, lt-leb, pick_true, pick_false)

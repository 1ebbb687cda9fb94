-- Document 01's cases P2, P5 and P7 are refused for good: their policies do not entail their goals, so no steps at all are a derivation.
-- P5 and P7 leave the count of principals open: any allowed one.
-- `for_good` says it of the cases' own texts.
use Rattle.std.specs.Prelude.{ℕ, ◌<◌, ◌≤◌, Bool, List}
use native.Mathlib.Omega.{arith}
use Rattle.scope.specs.Logic.Form.{Form, atom, says}
use Rattle.scope.specs.Logic.Facts.{Logic, plain}
use Rattle.scope.specs.Limits.{most_principals}
use Rattle.scope.specs.Logic.Obligation.{Obligation, Step, start}
use Rattle.scope.specs.Logic.Derivation.{Derivation}
use Rattle.sound.specs.Over.{Over}
use Rattle.sound.proofs.Refuted.{underived}
use Rattle.sound.specs.Cases.{policy2, model2, policy5, model5, policy7, model7, computed2, computed5, computed7}
use Rattle.sound.specs.Cases.{ForGood, case_of, request_in_case, ReadsTo, text2, text5, text7}

module _ (room : ℕ → List Obligation → Bool) (xs : List Step) where
  pub underived2 : (l : Logic) → Derivation room (start l 2 policy2 (atom 0)) xs → ⊥
  unfolding Over
  underived2 l =
      underived room l 2 1 policy2 (atom 0) xs
      (((omega arith, omega arith), omega arith), ((omega arith, omega arith), ((omega arith, omega arith), tt)))
      (omega arith)
      2
      (omega arith)
      model2
      0
      (computed2 l)

  pub underived5 : (k : ℕ) → 0 < k → k ≤ most_principals → Derivation room (start plain k policy5 (says 0 (atom 0))) xs → ⊥
  unfolding Over
  underived5 k i up =
      underived room plain k 1 policy5 (says 0 (atom 0)) xs (omega arith, tt) (i, omega arith) most_principals up model5 0 computed5

  pub underived7 : (l : Logic) (k : ℕ) → 1 < k → k ≤ most_principals → Derivation room (start l k policy7 (says 0 (atom 0))) xs → ⊥
  unfolding Over
  underived7 l k i up =
      underived room l k 1 policy7 (says 0 (atom 0)) xs
      ((i, (omega arith, omega arith)), tt)
      (omega arith, omega arith)
      most_principals
      up
      model7
      0
      (computed7 l)

good : (i k : ℕ) (policy : List Form) (goal : Form) → ReadsTo i k policy goal →
    ((room : ℕ → List Obligation → Bool) (xs : List Step) → Derivation room (start plain k policy goal) xs → ⊥) → ForGood (case_of i)
good i k policy goal t h =
    record {
      request = request_in_case i;
      reads = t.reads;
      not_derived = λ room xs d. h room xs (rw t.says_so at d);
    }

pub for_good : ForGood (case_of 2) × ForGood (case_of 5) × ForGood (case_of 7)
for_good = (
  good 2 2 policy2 (atom 0) text2 (λ room xs. underived2 room xs plain),
  good 5 1 policy5 (says 0 (atom 0)) text5 (λ room xs. underived5 room xs 1 (omega arith) (omega arith)),
  good 7 2 policy7 (says 0 (atom 0)) text7 (λ room xs. underived7 room xs plain 2 (omega arith) (omega arith)),
)

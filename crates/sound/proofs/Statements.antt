-- What this crate proves: document 01's third demand, and that the models it ranges over are not too few. Each is proved in the file named beside it.
use Rattle.std.specs.Prelude.{ℕ, ◌<◌, Bool, List}
use Rattle.scope.specs.Logic.Facts.{Logic, plain}
use Rattle.scope.specs.Logic.Form.{Form}
use Rattle.scope.specs.Logic.Obligation.{Obligation, Step, start}
use Rattle.scope.specs.Logic.Derivation.{Derivation}
use Rattle.scope.specs.Logic.Models.{Model, ModelOf, Sat, SatAll, Entailed}
use Rattle.sound.specs.Over.{Over, All}
use Rattle.sound.proofs.Sound as Sound
use Rattle.sound.proofs.Cases as Cases
use Rattle.sound.specs.Cases.{case_of, ForGood}
use Rattle.sound.proofs.Witnesses as Witnesses
use Rattle.sound.specs.Witnesses.{Stands, witnesses}

-- What has a derivation, whatever the limits, holds in every finite model of its logic; and where a model refutes, no steps are a derivation (Sound).
module _ (room : ℕ → List Obligation → Bool) (l : Logic) (k n : ℕ) (policy : List Form) (goal : Form) (xs : List Step) where
  pub sound : All (Over k n) policy → Over k n goal → Derivation room (start l k policy goal) xs → Entailed l k n policy goal
  sound = Sound.sound room l k n policy goal xs

  pub refuted : All (Over k n) policy → Over k n goal → (m : Model) → ModelOf l k n m → (x : ℕ) → x < m.worlds → SatAll m x policy →
      (Sat m x goal → ⊥) → Derivation room (start l k policy goal) xs → ⊥
  refuted = Sound.refuted room l k n policy goal xs

-- What plain entails unit does too (Sound).
pub entailed_unit : (l : Logic) (k n : ℕ) (policy : List Form) (goal : Form) → Entailed plain k n policy goal → Entailed l k n policy goal
entailed_unit = Sound.entailed_unit

-- P2, P5 and P7 are refused for good: by their own texts, no steps derive their goals (Cases).
pub for_good : ForGood (case_of 2) × ForGood (case_of 5) × ForGood (case_of 7)
for_good = Cases.for_good

-- Each witness is a model of its logic, breaks the conditions that it names and refutes a goal (Witnesses).
pub all_stand : All Stands witnesses
all_stand = Witnesses.all_stand

-- What this crate proves of the answers about steps, over the relations of Reasons. Each statement is proved in the file named beside it.
use Rattle.std.specs.Prelude.{ℕ, suc, ◌≤◌, ◌<◌, ◌≡◌, List, [], ◌∷◌, ◌↔◌, length}
use Rattle.scope.specs.Call.Answer.{Answer, answer}
use Rattle.scope.specs.Logic.Form.{Form}
use Rattle.scope.specs.Logic.Facts.{plain, unit}
use Rattle.scope.specs.Logic.Obligation.{Obligation, Step, start}
use Rattle.scope.specs.Logic.Derivation.{Rule, Derivation}
use Rattle.scope.specs.Logic.Room.{within, free}
use Rattle.scope.specs.Logic.Walk.{refuse, step_on, walk}
use Rattle.granted.specs.Reasons.{Room, Fits, Unnamed, Named, Unbacked, Backed, Breaks, Settled}
use Rattle.granted.proofs.Refusals as Refusals
use Rattle.granted.proofs.Granted as Granted
use Rattle.granted.proofs.FirstBreak as FirstBreak
use Rattle.granted.proofs.LimitsOnly as LimitsOnly
use Rattle.granted.specs.LimitsOnly.{Limited}
use Rattle.granted.specs.Unit as Unit

-- The refusals of one step, number by number, and no other number (Refusals).
module _ (o : Obligation) (x : Step) where
  pub seven : step_on x o.sequent o.phase ≡ refuse 7 ↔ ¬ Fits o x
  seven = Refusals.seven o x

  pub eight : step_on x o.sequent o.phase ≡ refuse 8 ↔ (Fits o x × Unnamed o x)
  eight = Refusals.eight o x

  pub nine : step_on x o.sequent o.phase ≡ refuse 9 ↔ (Fits o x × Named o x × Unbacked o x)
  nine = Refusals.nine o x

  pub no_other : (k : ℕ) → step_on x o.sequent o.phase ≡ refuse k → (7 ≤ k) × (k ≤ 9)
  no_other = Refusals.no_other o x

  -- A rule applies exactly where nothing stands in the way.
  pub applies : ((os : List Obligation) × Rule o x os) ↔ (Fits o x × Named o x × Backed o x)
  applies = Refusals.applies o x

-- For every room, which tells whether obligations keep the limits:
module _ (room : Room) where
  -- the walk grants exactly what has a derivation (Granted);
  pub granted : (o : Obligation) (xs : List Step) → walk room 0 (o ∷ []) xs ≡ answer 0 0 ↔ Derivation room o xs
  granted = Granted.granted room

  -- a refusal is the first break, with its number and its place (FirstBreak);
  pub first_break : (os : List Obligation) (xs : List Step) (k p : ℕ) →
      ((walk room 0 os xs ≡ answer k p) × ¬ (answer k p ≡ answer 0 0)) ↔ Breaks room os xs k p
  first_break = FirstBreak.first_break room

  pub break_range : (os : List Obligation) (xs : List Step) (k p : ℕ) → Breaks room os xs k p →
      (7 ≤ k) × (k ≤ 12) × (0 < p) × (p ≤ suc (length xs))
  break_range os xs k p b = FirstBreak.break_range b

  -- so the answer is the one that is allowed, and any two that are allowed are equal;
  pub settled : (o : Obligation) (xs : List Step) (a : Answer) → walk room 0 (o ∷ []) xs ≡ a ↔ Settled room o xs a
  settled = FirstBreak.settled room

  pub one_answer : (o : Obligation) (xs : List Step) (a b : Answer) → Settled room o xs a → Settled room o xs b → a ≡ b
  one_answer o xs a b p q = FirstBreak.one_answer room p q

  -- a limit turns an answer into 10 and does nothing else (LimitsOnly).
  pub limits_only : (i : ℕ) (os : List Obligation) (xs : List Step) →
      Limited room i os xs (walk room i os xs) (walk free i os xs)
  limits_only = LimitsOnly.limits_only room

-- Without limits 10 is never the answer.
pub never_ten : (os : List Obligation) (xs : List Step) (p : ℕ) → walk free 0 os xs ≡ answer 10 p → ⊥
never_ten = LimitsOnly.never_ten

-- Unit grants what plain grants, by the same steps (Unit).
pub unit_grants : (k : ℕ) (policy : List Form) (g : Form) (xs : List Step) →
    walk within 0 (start plain k policy g ∷ []) xs ≡ answer 0 0 → walk within 0 (start unit k policy g ∷ []) xs ≡ answer 0 0
unit_grants k policy g xs e =
    (granted within (start unit k policy g) xs).1 (Unit.unit_grants k policy g xs ((granted within (start plain k policy g) xs).0 e))

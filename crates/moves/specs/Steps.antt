-- What each of the eighteen steps comes to on the numbers of a formula's row, tests in the order of the refusals 7, 8, 9, 10.
-- Crate `walks` proves that these are document 01's steps (scope's `step_on` and `within`).
use Rattle.std.specs.Prelude.{ℕ, ◌≡◌, refl, Bool, true, false, List, Option, Some, None, Result, Ok, Err, eqb, leb}
use Rattle.scope.specs.Logic.Facts as Fact
use Rattle.scope.specs.Limits.{most_worlds, most_clauses, most_open, most_chunks}
use Rattle.facts.specs.Rows.{told}
use Rattle.steps.specs.declared.World.{World}
use Rattle.steps.specs.declared.Principal.{Principal}
use Rattle.common.specs.declared.rows.Row.{Row}
use Rattle.common.specs.declared.refused.Refusal.{Refusal}
use Rattle.common.specs.declared.refused.Refusal.TheVariants.{StepMisfit, NoSuchNumber, FactAbsent, LimitPassed}
use Rattle.common.specs.Refused.{number_of, refusal_in}
use Rattle.moves.specs.declared.Lab.{Lab}
use Rattle.moves.specs.declared.Move.{Move}
use Rattle.moves.specs.declared.Move.TheVariants as move

-- Document 01's number of what a step comes to, 0 where it fits.
unfoldable pub number_in : Result Move Refusal → ℕ
number_in (Ok m) = 0
number_in (Err r) = number_of r

-- It is the number of what the code gives back.
pub number_said : (j k : Result Move Refusal) → j ≡ k → refusal_in j ≡ number_in k
unfolding number_in refusal_in
number_said j (Ok m) e = rw e refl
number_said j (Err r) e = rw e refl

-- Shut, so that its two laws fit.
unfoldable pub pick : {A : Type 0} → Bool → A → A → A
pick true x y = x
pick false x y = y

abbrev pub principal : ℕ → Principal
principal a = record { 0 = a }

-- Goal at u, no chunks, no focus.

unfoldable pub and_step : Row → ℕ → Result Move Refusal
and_step r opened =
    pick (eqb r.kind 3) (pick (leb most_open opened) (Err LimitPassed) (Ok (move.Both r.left r.right))) (Err StepMisfit)

unfoldable pub or1_step : Row → Result Move Refusal
or1_step r = pick (eqb r.kind 4) (Ok (move.Go r.left)) (Err StepMisfit)

unfoldable pub or2_step : Row → Result Move Refusal
or2_step r = pick (eqb r.kind 4) (Ok (move.Go r.right)) (Err StepMisfit)

unfoldable pub imp_step : Row → ℕ → Result Move Refusal
imp_step r worlds = pick (eqb r.kind 5) (pick (leb most_worlds worlds) (Err LimitPassed) (Ok (move.Less r.left r.right))) (Err StepMisfit)

unfoldable pub says_step : Row → ℕ → Result Move Refusal
says_step r worlds =
    pick (eqb r.kind 6) (pick (leb most_worlds worlds) (Err LimitPassed) (Ok (move.Speak (principal r.left) r.right))) (Err StepMisfit)

unfoldable pub top_step : Row → Result Move Refusal
top_step r = pick (eqb r.kind 1) (Ok move.Close) (Err StepMisfit)

unfoldable pub sf_step : List ℕ → Row → World → Result Move Refusal
sf_step rows r u = pick (eqb r.kind 7) (pick (told rows (Fact.sf u.0 r.left r.right)) (Ok move.Close) (Err FactAbsent)) (Err StepMisfit)

unfoldable pub if_found : Option Lab → (Lab → Result Move Refusal) → Result Move Refusal
if_found (Some l) j = j l
if_found None j = Err NoSuchNumber

unfoldable pub use_step : Row → Option Lab → Result Move Refusal
use_step r f = pick (eqb r.kind 0) (if_found f (λ clause. Ok (move.Aim clause.form clause.at))) (Err StepMisfit)

-- In focus on a clause at u, aiming at an atom at w.

unfoldable pub left_step : Row → World → Result Move Refusal
left_step r u = pick (eqb r.kind 3) (Ok (move.Aim r.left u)) (Err StepMisfit)

unfoldable pub right_step : Row → World → Result Move Refusal
right_step r u = pick (eqb r.kind 3) (Ok (move.Aim r.right u)) (Err StepMisfit)

unfoldable pub to_imp : List ℕ → Row → World → World → ℕ → ℕ → Result Move Refusal
to_imp rows r u v worlds opened =
    pick (leb worlds v.0) (Err NoSuchNumber)
    (pick (told rows (Fact.le u.0 v.0))
    (pick (leb most_open opened) (Err LimitPassed) (Ok (move.Meet r.left r.right v)))
    (Err FactAbsent))

unfoldable pub to_says : List ℕ → Row → World → World → ℕ → Result Move Refusal
to_says rows r u v worlds =
    pick (leb worlds v.0) (Err NoSuchNumber)
    (pick (told rows (Fact.by r.left u.0 v.0)) (Ok (move.Aim r.right v)) (Err FactAbsent))

unfoldable pub to_step : List ℕ → Row → World → World → ℕ → ℕ → Result Move Refusal
unfolding to_imp to_says
to_step rows r u v worlds opened =
    pick (eqb r.kind 5) (to_imp rows r u v worlds opened)
    (pick (eqb r.kind 6) (to_says rows r u v worlds) (Err StepMisfit))

unfoldable pub hit_step : List ℕ → Row → World → ℕ → World → Result Move Refusal
hit_step rows r u atom w =
    pick (eqb r.kind 0)
    (pick (eqb r.left atom) (pick (told rows (Fact.le u.0 w.0)) (Ok move.Close) (Err FactAbsent)) (Err FactAbsent))
    (Err StepMisfit)

-- Chunks, the latest on top.

unfoldable pub pushed_kind : ℕ → Bool
pushed_kind kind = pick (eqb kind 0) true (pick (eqb kind 5) true (eqb kind 6))

unfoldable pub push_step : Row → ℕ → Result Move Refusal
unfolding pushed_kind
push_step r clauses = pick (pushed_kind r.kind) (pick (leb most_clauses clauses) (Err LimitPassed) (Ok move.Push)) (Err StepMisfit)

unfoldable pub split_step : Row → ℕ → Result Move Refusal
split_step r count = pick (eqb r.kind 3) (pick (leb most_chunks count) (Err LimitPassed) (Ok (move.Split r.left r.right))) (Err StepMisfit)

unfoldable pub case_step : Row → ℕ → Result Move Refusal
case_step r opened = pick (eqb r.kind 4) (pick (leb most_open opened) (Err LimitPassed) (Ok (move.Case r.left r.right))) (Err StepMisfit)

unfoldable pub absurd_step : Row → Result Move Refusal
absurd_step r = pick (eqb r.kind 2) (Ok move.Close) (Err StepMisfit)

unfoldable pub drop_step : Row → Result Move Refusal
drop_step r = pick (eqb r.kind 1) (Ok move.Drop) (Err StepMisfit)

unfoldable pub note_step : Row → Result Move Refusal
note_step r = pick (eqb r.kind 7) (Ok (move.Note (principal r.left) (principal r.right))) (Err StepMisfit)

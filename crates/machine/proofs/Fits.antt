-- A step that fits has room for its move: one that would pass a limit is refused.
use Prim.{Unit}
use Prim.Native.Nat.{ℕ, ◌-◌, ◌<◌}
use mathlib.Core.Path.{◌≡◌, refl, subst}
use mathlib.Core.Bool.{Bool, true, false}
use mathlib.Core.List.{List}
use lib.Dec.{leb}
use borrow.Author.Tests.{leb-false}
use Rattle.scope.specs.Limits.{most_worlds, most_clauses, most_open, most_chunks}
use Rattle.steps.specs.declared.World.{World}
use Rattle.steps.specs.declared.Principal.{Principal}
use Rattle.std.specs.Prelude.{Result, Ok, Err, Option, Some, None}
use Rattle.common.specs.declared.rows.Row.{Row}
use Rattle.common.specs.declared.refused.Refusal.{Refusal}
use Rattle.common.specs.declared.refused.Refusal.TheVariants.{StepMisfit, NoSuchNumber, FactAbsent, LimitPassed}
use Rattle.common.specs.Rows.{row_at}
use Rattle.moves.specs.declared.Lab.{Lab}
use Rattle.moves.specs.declared.Phase.{Phase}
use Rattle.moves.specs.declared.Phase.TheVariants as phase
use Rattle.steps.specs.declared.Step.{Step}
use Rattle.steps.specs.declared.Step.TheVariants as step
use Rattle.moves.specs.declared.Move.{Move}
use Rattle.moves.specs.declared.Move.TheVariants as move
use Rattle.moves.specs.Steps.{pick, if_found, and_step, or1_step, or2_step, imp_step, says_step, top_step, sf_step, use_step, left_step, right_step, to_imp, to_says, to_step, hit_step, push_step, split_step, case_step, absurd_step, drop_step, note_step}
use Rattle.moves.specs.Judge.{find_clause, on_goal, goal_step, on_focus, focus_step, on_chunk, chunk_step, judge_step}
use Rattle.machine.specs.Change.{chunk_count}
use Rattle.machine.specs.Room.{Room}
use Rattle.machine.specs.Tables.{top_chunk}
use Rattle.machine.specs.Machine.{State, current, judged_now}

-- What is asked of an answer: a move has room.
unfoldable pub FitsIn : Result Move Refusal → ℕ → ℕ → ℕ → ℕ → Type 0
unfolding Room
FitsIn (Ok m) worlds clauses chunks opened = Room m worlds clauses chunks opened
FitsIn (Err r) worlds clauses chunks opened = Unit

module _ (w c k n : ℕ) where
  no_move : (r : Refusal) → FitsIn (Err r) w c k n
  unfolding FitsIn
  no_move r = tt

  goes : (f : ℕ) → FitsIn (Ok (move.Go f)) w c k n
  unfolding FitsIn
  goes f = tt

  aims : (f : ℕ) (v : World) → FitsIn (Ok (move.Aim f v)) w c k n
  unfolding FitsIn
  aims f v = tt

  closes : FitsIn (Ok move.Close) w c k n
  unfolding FitsIn
  closes = tt

  drops : FitsIn (Ok move.Drop) w c k n
  unfolding FitsIn
  drops = tt

  notes : (a b : Principal) → FitsIn (Ok (move.Note a b)) w c k n
  unfolding FitsIn
  notes a b = tt

  test : (b : Bool) (x y : Result Move Refusal) → FitsIn x w c k n → FitsIn y w c k n → FitsIn (pick b x y) w c k n
  unfolding pick
  test true x y p q = p
  test false x y p q = q

  -- The test of a limit.
  limit : (most have : ℕ) (m : Move) → (have < most → Room m w c k n) → FitsIn (pick (leb most have) (Err LimitPassed) (Ok m)) w c k n
  unfolding FitsIn pick
  limit most have m free = go (leb most have) refl
    where
      go : (t : Bool) → leb most have ≡ t → FitsIn (pick t (Err LimitPassed) (Ok m)) w c k n
      go true e = tt
      go false e = free (leb-false most have e)

  if_found_lem : (f : Option Lab) → FitsIn (if_found f (λ clause. Ok (move.Aim clause.form clause.at))) w c k n
  unfolding if_found
  if_found_lem (Some l) = aims l.form l.at
  if_found_lem None = no_move NoSuchNumber

  on_and_lem : (r : Row) → FitsIn (and_step r n) w c k n
  unfolding and_step Room
  on_and_lem r = test _ _ _ (limit most_open n (move.Both _ _) (λ h. h)) (no_move StepMisfit)

  on_or1 : (r : Row) → FitsIn (or1_step r) w c k n
  unfolding or1_step
  on_or1 r = test _ _ _ (goes _) (no_move StepMisfit)

  on_or2 : (r : Row) → FitsIn (or2_step r) w c k n
  unfolding or2_step
  on_or2 r = test _ _ _ (goes _) (no_move StepMisfit)

  on_imp_lem : (r : Row) → FitsIn (imp_step r w) w c k n
  unfolding imp_step Room
  on_imp_lem r = test _ _ _ (limit most_worlds w (move.Less _ _) (λ h. h)) (no_move StepMisfit)

  on_says_lem : (r : Row) → FitsIn (says_step r w) w c k n
  unfolding says_step Room
  on_says_lem r = test _ _ _ (limit most_worlds w (move.Speak _ _) (λ h. h)) (no_move StepMisfit)

  on_top_lem : (r : Row) → FitsIn (top_step r) w c k n
  unfolding top_step
  on_top_lem r = test _ _ _ closes (no_move StepMisfit)

  on_sf_lem : (rows : List ℕ) (r : Row) (u : World) → FitsIn (sf_step rows r u) w c k n
  unfolding sf_step
  on_sf_lem rows r u = test _ _ _ (test _ _ _ closes (no_move FactAbsent)) (no_move StepMisfit)

  on_use : (r : Row) (f : Option Lab) → FitsIn (use_step r f) w c k n
  unfolding use_step
  on_use r f = test _ _ _ (if_found_lem f) (no_move StepMisfit)

  on_goal_lem : (forms rows clauses ats : List ℕ) (r : Row) (g : Lab) (x : Step) →
      FitsIn (on_goal forms rows clauses ats r g x w c n) w c k n
  unfolding on_goal
  on_goal_lem forms rows clauses ats r g step.And = on_and_lem r
  on_goal_lem forms rows clauses ats r g step.Or1 = on_or1 r
  on_goal_lem forms rows clauses ats r g step.Or2 = on_or2 r
  on_goal_lem forms rows clauses ats r g step.Imp = on_imp_lem r
  on_goal_lem forms rows clauses ats r g step.Says = on_says_lem r
  on_goal_lem forms rows clauses ats r g step.Top = on_top_lem r
  on_goal_lem forms rows clauses ats r g step.Sf = on_sf_lem rows r g.at
  on_goal_lem forms rows clauses ats r g (step.Use v) = on_use r (find_clause forms clauses ats c v)
  on_goal_lem forms rows clauses ats r g step.Left = no_move StepMisfit
  on_goal_lem forms rows clauses ats r g step.Right = no_move StepMisfit
  on_goal_lem forms rows clauses ats r g (step.To v) = no_move StepMisfit
  on_goal_lem forms rows clauses ats r g step.Hit = no_move StepMisfit
  on_goal_lem forms rows clauses ats r g step.Push = no_move StepMisfit
  on_goal_lem forms rows clauses ats r g step.Split = no_move StepMisfit
  on_goal_lem forms rows clauses ats r g step.Case = no_move StepMisfit
  on_goal_lem forms rows clauses ats r g step.Absurd = no_move StepMisfit
  on_goal_lem forms rows clauses ats r g step.Drop = no_move StepMisfit
  on_goal_lem forms rows clauses ats r g step.Note = no_move StepMisfit

  on_focus_lem : (forms rows : List ℕ) (r : Row) (part target : Lab) (x : Step) → FitsIn (on_focus forms rows r part target x w n) w c k n
  unfolding on_focus Room left_step right_step to_step to_imp to_says hit_step
  on_focus_lem forms rows r part target step.And = no_move StepMisfit
  on_focus_lem forms rows r part target step.Or1 = no_move StepMisfit
  on_focus_lem forms rows r part target step.Or2 = no_move StepMisfit
  on_focus_lem forms rows r part target step.Imp = no_move StepMisfit
  on_focus_lem forms rows r part target step.Says = no_move StepMisfit
  on_focus_lem forms rows r part target step.Top = no_move StepMisfit
  on_focus_lem forms rows r part target step.Sf = no_move StepMisfit
  on_focus_lem forms rows r part target (step.Use v) = no_move StepMisfit
  on_focus_lem forms rows r part target step.Left = test _ _ _ (aims _ _) (no_move StepMisfit)
  on_focus_lem forms rows r part target step.Right = test _ _ _ (aims _ _) (no_move StepMisfit)
  on_focus_lem forms rows r part target (step.To v) = test _ _ _ (test _ _ _ (no_move NoSuchNumber) (test _ _ _ (limit most_open n _ (λ h. h)) (no_move FactAbsent))) (test _ _ _ (test _ _ _ (no_move NoSuchNumber) (test _ _ _ (aims _ _) (no_move FactAbsent))) (no_move StepMisfit))
  on_focus_lem forms rows r part target step.Hit = test _ _ _ (test _ _ _ (test _ _ _ closes (no_move FactAbsent)) (no_move FactAbsent)) (no_move StepMisfit)
  on_focus_lem forms rows r part target step.Push = no_move StepMisfit
  on_focus_lem forms rows r part target step.Split = no_move StepMisfit
  on_focus_lem forms rows r part target step.Case = no_move StepMisfit
  on_focus_lem forms rows r part target step.Absurd = no_move StepMisfit
  on_focus_lem forms rows r part target step.Drop = no_move StepMisfit
  on_focus_lem forms rows r part target step.Note = no_move StepMisfit

  on_chunk_lem : (r : Row) (x : Step) → FitsIn (on_chunk r k x c n) w c k n
  unfolding on_chunk Room push_step split_step case_step absurd_step drop_step note_step
  on_chunk_lem r step.And = no_move StepMisfit
  on_chunk_lem r step.Or1 = no_move StepMisfit
  on_chunk_lem r step.Or2 = no_move StepMisfit
  on_chunk_lem r step.Imp = no_move StepMisfit
  on_chunk_lem r step.Says = no_move StepMisfit
  on_chunk_lem r step.Top = no_move StepMisfit
  on_chunk_lem r step.Sf = no_move StepMisfit
  on_chunk_lem r (step.Use v) = no_move StepMisfit
  on_chunk_lem r step.Left = no_move StepMisfit
  on_chunk_lem r step.Right = no_move StepMisfit
  on_chunk_lem r (step.To v) = no_move StepMisfit
  on_chunk_lem r step.Hit = no_move StepMisfit
  on_chunk_lem r step.Push = test _ _ _ (limit most_clauses c _ (λ h. h)) (no_move StepMisfit)
  on_chunk_lem r step.Split = test _ _ _ (limit most_chunks k _ (λ h. h)) (no_move StepMisfit)
  on_chunk_lem r step.Case = test _ _ _ (limit most_open n _ (λ h. h)) (no_move StepMisfit)
  on_chunk_lem r step.Absurd = test _ _ _ closes (no_move StepMisfit)
  on_chunk_lem r step.Drop = test _ _ _ drops (no_move StepMisfit)
  on_chunk_lem r step.Note = test _ _ _ (notes _ _) (no_move StepMisfit)

judged_room : (forms rows clauses ats : List ℕ) (p : Phase) (top : ℕ) (x : Step) (w c n : ℕ) →
    FitsIn (judge_step forms rows clauses ats p top x w c n) w c (chunk_count p) n
unfolding judge_step goal_step focus_step chunk_step chunk_count
judged_room forms rows clauses ats (phase.Goal g) top x w c n = on_goal_lem w c 0 n forms rows clauses ats _ g x
judged_room forms rows clauses ats (phase.Chunks g k) top x w c n = on_chunk_lem w c k n (row_at forms top) x
judged_room forms rows clauses ats (phase.Focus part target) top x w c n = on_focus_lem w c 0 n forms rows _ part target x

-- What a caller of the judge knows of a move that fits.
pub fits_room : (forms : List ℕ) (s : State) (x : Step) (m : Move) → judged_now forms s x ≡ Ok m →
    Room m (current s).worlds (current s).clauses (chunk_count (current s).phase) s.opened
unfolding FitsIn judged_now
fits_room forms s x m fits =
    let o = current s in
    subst (λ (j : Result Move Refusal). FitsIn j o.worlds o.clauses (chunk_count o.phase) s.opened) fits
    (judged_room forms s.rows s.clauses s.ats o.phase (top_chunk s.stack.chunks (s.opened - 1) o.phase) x o.worlds o.clauses s.opened)

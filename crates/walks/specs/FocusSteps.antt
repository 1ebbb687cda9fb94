-- In focus on a part of a clause: each of the eighteen steps, judged on the part's row, matches document 01's step (`focus_steps`).
use Rattle.std.specs.Prelude.{ℕ, suc, ◌+◌, ◌<◌, ◌≡◌, leb, ltb}
use Rattle.std.proofs.Math.Path.{refl, ap}
use Rattle.std.proofs.Common.{sym, ◌∙◌, arith}
use Rattle.std.proofs.Math.Bool.{true}
use mathlib.Core.List.{List, [], ◌∷◌, ◌++◌, map}
use Rattle.std.proofs.Math.Dec.{eqb}
use Rattle.std.proofs.Math.ListN.{length, length-append}
use Rattle.scope.specs.Logic.Facts.{Fact}
use Rattle.scope.specs.Limits.{most_open}
use Rattle.scope.specs.Logic.Obligation as O
use Rattle.scope.specs.Logic.Obligation.{Lab, lab, Sequent, Phase, goal, focus, Obligation, ob}
use Rattle.scope.specs.Logic.Room.{chunk_count, met_count, open_count, within}
use Rattle.scope.specs.Logic.Walk.{Onward, onto, alone, need, has, step_on}
use Rattle.facts.specs.Rows.{told}
use Rattle.std.specs.Prelude.{Result, Ok, Err}
use Rattle.common.specs.declared.refused.Refusal.{Refusal}
use Rattle.common.specs.declared.refused.Refusal.TheVariants.{NoSuchNumber, FactAbsent, LimitPassed}
use Rattle.moves.specs.declared.Move.{Move}
use Rattle.common.specs.declared.rows.Row as R
use Rattle.moves.specs.declared.Phase.TheVariants as phase
use Rattle.moves.specs.declared.Move.TheVariants as move
use Rattle.steps.specs.declared.Step.{Step}
use Rattle.steps.specs.declared.Step.TheVariants as step
use Rattle.steps.specs.Steps.{step_is}
use Rattle.moves.specs.Steps.{pick, left_step, right_step, to_step, hit_step}
use Rattle.common.specs.Rows.{row_at}
use Rattle.moves.specs.Judge.{on_focus, focus_step}
use Rattle.machine.specs.Change as numbers
use Rattle.machine.specs.Change.{goal_in}
use Rattle.machine.specs.Machine.{Stack}
use Rattle.walks.specs.Trees.{Reading}
use Rattle.machine.specs.Turn.{state_of}
use Rattle.walks.specs.Related.{StackEntry, down_from, seq, Waits, met_in, Standing}
use Rattle.walks.specs.Views.{waits_count}
use Rattle.walks.specs.Moved.{moved_close}
use Rattle.walks.specs.Moves.{moved_aim, moved_meet}
use Rattle.walks.specs.Rooms.{within_true, open_over, met_length, goals_small, goals_open}
use Rattle.walks.specs.Fitting.{alone_within, clauses_few}
use Rattle.walks.specs.Match.{Match, no_room, fits, told_has, misfit, if_room, if_absent, if_below, only_atom, only_and}
use Rattle.walks.specs.Match.{only_imp_says}

module _ {T : Reading} {rows cl ats ch sv : List ℕ} {stack : Stack} {es : List StackEntry} {n m c f u t w q : ℕ} {fs : List Fact}
    {ls : List Lab} (frame : Standing T rows stack n cl ats (phase.Focus (numbers.lab f u) (numbers.lab t w)) m c ch sv fs ls)
    (down : down_from stack n ≡ es) (named : f < T.formulas) (aimed : w < suc m) (atom : q ≡ (row_at T.table t).left)
    (met : List Lab) (waiting : List Obligation)
    (waits : Waits T rows cl ats (suc m) c es (met_in (seq T (suc m) fs ls) (focus (lab (T.tree f) u) q w met) ++ waiting)) where
  abbrev here : Sequent
  here = seq T (suc m) fs ls

  abbrev there : Phase
  there = focus (lab (T.tree f) u) q w met

  abbrev row : R.Row
  row = row_at T.table f

  abbrev Fit : Result Move Refusal → Onward → Type 0
  Fit = Match T (state_of rows stack (suc n) cl ats) waiting

  -- The subgoals met and those that wait lie below.
  count : n ≡ length met + length waiting
  unfolding met_count
  count =
      waits_count stack n down waits ∙ length-append (met_in here there) waiting ∙ ap (λ (k : ℕ). k + length waiting) (met_length here there)

  abbrev on : ℕ → ℕ → List Lab → Phase
  on g v met = focus (lab (T.tree g) v) q w met

  -- The focus goes on, with the same subgoals met.
  goes : (g v : ℕ) → g < T.formulas →
      Fit (Ok (move.Aim g (numbers.world v))) (alone here (on g v met))
  unfolding goal_in met_count chunk_count
  goes g v p =
      fits (alone_within frame (length waiting) (on g v met) (omega arith) (omega (arith, count, frame.room)))
      (moved_aim frame down t refl p aimed atom (lab (T.tree f) u) waits)

  left_fits : Fit (left_step row (numbers.world u)) (step_on O.Left here there)
  unfolding left_step step_on
  left_fits =
      only_and (λ l r. Ok (move.Aim l (numbers.world u))) (λ g h. alone here (focus (lab g u) q w met))
      (λ g h p r. goes g u p) (T.means f named)

  right_fits : Fit (right_step row (numbers.world u)) (step_on O.Right here there)
  unfolding right_step step_on
  right_fits =
      only_and (λ l r. Ok (move.Aim r (numbers.world u))) (λ g h. alone here (focus (lab h u) q w met))
      (λ g h p r. goes h u r) (T.means f named)

  -- A subgoal is met at v.
  meets : (g h v : ℕ) → g < T.formulas → h < T.formulas → v < suc m →
      Fit (pick (leb most_open (suc n)) (Err LimitPassed) (Ok (move.Meet g h (numbers.world v))))
      (alone here (on h v (lab (T.tree g) v ∷ met)))
  unfolding goal_in open_count met_count chunk_count
  meets g h v p r inside =
      if_room most_open (suc n)
      (λ full. no_room (open_over (length waiting) (ob here (on h v (lab (T.tree g) v ∷ met)) ∷ []) (omega (arith, count))))
      (λ free.
      fits
      (alone_within frame (length waiting) (on h v (lab (T.tree g) v ∷ met)) (omega arith) (omega (arith, count)))
      (moved_meet frame down t refl p r inside aimed atom free (lab (T.tree f) u) waits))

  to_fits : (v : ℕ) →
      Fit (to_step rows row (numbers.world u) (numbers.world v) (suc m) (suc n)) (step_on (O.To v) here there)
  unfolding to_step step_on
  to_fits v =
      only_imp_says
      (λ l r.
      pick (leb (suc m) v) (Err NoSuchNumber)
      (pick (told rows (Fact.le u v))
      (pick (leb most_open (suc n)) (Err LimitPassed) (Ok (move.Meet l r (numbers.world v)))) (Err FactAbsent)))
      (λ l r.
      pick (leb (suc m) v) (Err NoSuchNumber)
      (pick (told rows (Fact.by l u v)) (Ok (move.Aim r (numbers.world v))) (Err FactAbsent)))
      (λ g h. need 8 (ltb v (suc m)) (need 9 (has here (Fact.le u v)) (alone here (focus (lab h v) q w (lab g v ∷ met)))))
      (λ a g. need 8 (ltb v (suc m)) (need 9 (has here (Fact.by a u v)) (alone here (focus (lab g v) q w met))))
      (λ g h p r.
      if_below v (suc m)
      (λ inside.
      if_absent (told rows (Fact.le u v)) (has here (Fact.le u v)) (told_has T ls (Fact.le u v) frame.kept inside)
      (meets g h v p r inside)))
      (λ a g p r.
      if_below v (suc m)
      (λ inside.
      if_absent (told rows (Fact.by a u v)) (has here (Fact.by a u v)) (told_has T ls (Fact.by a u v) frame.kept (p, inside))
      (goes g v r)))
      (T.means f named)

  hit_fits : Fit (hit_step rows row (numbers.world u) (row_at T.table t).left (numbers.world w)) (step_on O.Hit here there)
  unfolding hit_step step_on met_in
  hit_fits =
      let goals : List Obligation = map (λ (g : Lab). ob here (goal g)) met in
      let room : within (length waiting) goals ≡ true =
      within_true (length waiting) goals
      (goals_small here frame.kept.worlds (clauses_few frame) met)
      (omega (arith, goals_open here met, count, frame.room)) in
      only_atom
      (λ l r. pick (eqb l (row_at T.table t).left) (pick (told rows (Fact.le u w)) (Ok move.Close) (Err FactAbsent)) (Err FactAbsent))
      (λ r. need 9 (eqb r q) (need 9 (has here (Fact.le u w)) (onto goals)))
      (λ p r e.
      if_absent (eqb p (row_at T.table t).left) (eqb p q) (ap (λ (x : ℕ). eqb p x) (sym atom))
      (if_absent (told rows (Fact.le u w)) (has here (Fact.le u w)) (told_has T ls (Fact.le u w) frame.kept aimed)
      (fits room (moved_close frame down waits))))
      (T.means f named)

  pub focus_steps : (x : Step) →
      Fit (focus_step T.table rows (numbers.lab f u) (numbers.lab t w) x (suc m) (suc n)) (step_on (step_is x) here there)
  unfolding focus_step on_focus step_on step_is
  focus_steps step.And = misfit
  focus_steps step.Or1 = misfit
  focus_steps step.Or2 = misfit
  focus_steps step.Imp = misfit
  focus_steps step.Says = misfit
  focus_steps step.Top = misfit
  focus_steps step.Sf = misfit
  focus_steps (step.Use i) = misfit
  focus_steps step.Left = left_fits
  focus_steps step.Right = right_fits
  focus_steps (step.To v) = to_fits v.0
  focus_steps step.Hit = hit_fits
  focus_steps step.Push = misfit
  focus_steps step.Split = misfit
  focus_steps step.Case = misfit
  focus_steps step.Absurd = misfit
  focus_steps step.Drop = misfit
  focus_steps step.Note = misfit

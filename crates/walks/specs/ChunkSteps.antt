-- With chunks to be worked off: each of the eighteen steps, judged on the topmost chunk's row, matches document 01's step (`chunk_steps`).
use Rattle.std.specs.Prelude.{ℕ, suc, ◌+◌, ◌<◌, ◌≤◌, ◌≡◌, refl, true, List, [], ◌∷◌, ◌++◌, leb, get_or}
use Rattle.std.proofs.Math.Path.{ap}
use Rattle.std.proofs.Common.{◌∙◌, arith}
use Rattle.std.proofs.Math.ListN.{length, length-append}
use Rattle.scope.specs.Logic.Form.{Form}
use Rattle.scope.specs.Logic.Facts.{Fact}
use Rattle.scope.specs.Logic.Obligation as O
use Rattle.scope.specs.Limits.{most_worlds, most_clauses, most_open, most_chunks}
use Rattle.scope.specs.Logic.Obligation.{Lab, lab, Sequent, with_fact, with_clause, Phase, chunks, behind, Obligation, ob}
use Rattle.scope.specs.Logic.Room.{chunk_count, met_count, open_count, within}
use Rattle.scope.specs.Logic.Walk.{Onward, onto, alone, step_on}
use Rattle.std.specs.Prelude.{Result, Ok, Err}
use Rattle.common.specs.declared.refused.Refusal.{Refusal}
use Rattle.common.specs.declared.refused.Refusal.TheVariants.{LimitPassed}
use Rattle.moves.specs.declared.Move.{Move}
use Rattle.common.specs.declared.rows.Row as R
use Rattle.moves.specs.declared.Phase.TheVariants as phase
use Rattle.moves.specs.declared.Move.TheVariants as move
use Rattle.steps.specs.declared.Step.{Step}
use Rattle.steps.specs.declared.Step.TheVariants as step
use Rattle.steps.specs.Steps.{step_is}
use Rattle.moves.specs.Steps.{pick, principal, push_step, split_step, case_step, absurd_step, drop_step, note_step}
use Rattle.common.specs.Rows.{row_at}
use Rattle.moves.specs.Judge.{on_chunk, chunk_step}
use Rattle.machine.specs.Change as numbers
use Rattle.machine.specs.Machine.{Stack}
use Rattle.walks.specs.Trees.{Means, Reading}
use Rattle.machine.specs.Turn.{state_of}
use Rattle.walks.specs.Related.{StackEntry, down_from, chunks_of, Below, seq, Waits, Standing}
use Rattle.walks.specs.Views.{waits_count}
use Rattle.walks.specs.Moved.{moved_close}
use Rattle.walks.specs.Moves.{moved_drop, moved_note, moved_push, moved_split, moved_case}
use Rattle.walks.specs.Rooms.{open_over, clauses_over, chunks_over, chunks_length}
use Rattle.walks.specs.Fitting.{alone_within, pair_within, none_within, one_within, clauses_length, clauses_few}
use Rattle.walks.specs.Match.{Match, no_room, fits, misfit, if_room, only_top, only_bot, only_and, only_or, only_sf}
use Rattle.walks.specs.Match.{only_pushed}

-- The goal behind chunks has as many as there are, and has met no subgoal.
behind_chunks : (cs : List Form) (g : Lab) → chunk_count (behind cs g) ≡ length cs
unfolding chunk_count
behind_chunks [] g = refl
behind_chunks (c ∷ cs) g = refl

behind_met : (cs : List Form) (g : Lab) → met_count (behind cs g) ≡ 0
unfolding met_count
behind_met [] g = refl
behind_met (c ∷ cs) g = refl

module _ {T : Reading} {rows cl ats ch sv : List ℕ} {stack : Stack} {es : List StackEntry} {n m c t u i : ℕ} {fs : List Fact}
    {ls : List Lab} (frame : Standing T rows stack n cl ats (phase.Chunks (numbers.lab t u) (suc i)) m c ch sv fs ls)
    (down : down_from stack n ≡ es) (named : t < T.formulas) (newest : suc u ≡ suc m) (few : i < most_chunks)
    (known : Below T.formulas (suc i) ch) {waiting : List Obligation} (waits : Waits T rows cl ats (suc m) c es waiting) where
  abbrev here : Sequent
  here = seq T (suc m) fs ls

  abbrev aim : Lab
  aim = lab (T.tree t) u

  abbrev rest : List Form
  rest = chunks_of T.tree i ch

  abbrev topmost : ℕ
  topmost = get_or ch i 0

  abbrev row : R.Row
  row = row_at T.table topmost

  abbrev there : Phase
  there = chunks (T.tree topmost) rest aim

  abbrev Fit : Result Move Refusal → Onward → Type 0
  Fit = Match T (state_of rows stack (suc n) cl ats) waiting

  abbrev w : ℕ
  w = length waiting

  count : n ≡ w
  count = waits_count stack n down waits

  means : Means T.principals T.formulas T.tree row.kind row.left row.right (T.tree topmost)
  means = let last : i < suc i = omega arith in T.means topmost (known.each i last)

  -- Without the topmost chunk, in a sequent within the limits.
  behind_within : (s : Sequent) → s.sheet.worlds ≤ most_worlds → length s.clauses ≤ most_clauses → within w (ob s (behind rest aim) ∷ []) ≡ true
  behind_within s h g =
      one_within w s (behind rest aim)
      (record { worlds = h; clauses = g; chunks = omega (arith, behind_chunks rest aim, chunks_length T.tree i ch) })
      (omega (arith, behind_met rest aim, count, frame.room))

  push_fits : Fit (push_step row c) (step_on O.Push here there)
  unfolding push_step step_on
  push_fits =
      let longer : length (ls ++ (lab (T.tree topmost) u ∷ [])) ≡ c + 1 =
      length-append ls (lab (T.tree topmost) u ∷ []) ∙ ap (λ (k : ℕ). k + 1) (clauses_length frame.clauses) in
      only_pushed
      (if_room most_clauses c
      (λ full. no_room (clauses_over w (with_clause here (lab (T.tree topmost) u)) (behind rest aim) (omega arith)))
      (λ free.
      fits (behind_within (with_clause here (lab (T.tree topmost) u)) frame.kept.worlds (omega arith))
      (moved_push frame down named newest few known waits free)))
      means

  split_fits : Fit (split_step row (suc i)) (step_on O.Split here there)
  unfolding split_step step_on chunk_count met_count
  split_fits =
      let long : length rest ≡ i = chunks_length T.tree i ch in
      only_and (λ l r. pick (leb most_chunks (suc i)) (Err LimitPassed) (Ok (move.Split l r))) (λ h k. alone here (chunks h (k ∷ rest) aim))
      (λ h k p q.
      if_room most_chunks (suc i)
      (λ full. no_room (chunks_over w here (chunks (T.tree h) (T.tree k ∷ rest) aim) (omega arith)))
      (λ free.
      fits (alone_within frame w (chunks (T.tree h) (T.tree k ∷ rest) aim) (omega arith) (omega (arith, count, frame.room)))
      (moved_split frame down named newest few known waits p q free)))
      means

  case_fits : Fit (case_step row (suc n)) (step_on O.Case here there)
  unfolding case_step step_on open_count chunk_count met_count
  case_fits =
      let long : length rest ≡ i = chunks_length T.tree i ch in
      only_or (λ l r. pick (leb most_open (suc n)) (Err LimitPassed) (Ok (move.Case l r)))
      (λ h k. onto (ob here (chunks h rest aim) ∷ ob here (chunks k rest aim) ∷ []))
      (λ h k p q.
      if_room most_open (suc n)
      (λ full. no_room (open_over w (ob here (chunks (T.tree h) rest aim) ∷ ob here (chunks (T.tree k) rest aim) ∷ []) (omega (arith, count))))
      (λ free.
      fits
      (pair_within frame w (chunks (T.tree h) rest aim) (chunks (T.tree k) rest aim) (omega arith) (omega arith)
      (omega (arith, count)))
      (moved_case frame down named newest few known waits p q free)))
      means

  absurd_fits : Fit (absurd_step row) (step_on O.Absurd here there)
  unfolding absurd_step step_on
  absurd_fits = only_bot (fits (none_within w (omega (arith, count, frame.room))) (moved_close frame down waits)) means

  drop_fits : Fit (drop_step row) (step_on O.Drop here there)
  unfolding drop_step step_on
  drop_fits = only_top (fits (behind_within here frame.kept.worlds (clauses_few frame)) (moved_drop frame down named newest few known waits)) means

  note_fits : Fit (note_step row) (step_on O.Note here there)
  unfolding note_step step_on
  note_fits =
      only_sf (λ a b. Ok (move.Note (principal a) (principal b))) (λ a b. alone (with_fact here (Fact.sf u a b)) (behind rest aim))
      (λ a b p q.
      fits (behind_within (with_fact here (Fact.sf u a b)) frame.kept.worlds (clauses_few frame))
      (moved_note frame down named newest few known waits p q))
      means

  pub chunk_steps : (x : Step) → Fit (chunk_step T.table topmost (suc i) x c (suc n)) (step_on (step_is x) here there)
  unfolding chunk_step on_chunk step_on step_is
  chunk_steps step.And = misfit
  chunk_steps step.Or1 = misfit
  chunk_steps step.Or2 = misfit
  chunk_steps step.Imp = misfit
  chunk_steps step.Says = misfit
  chunk_steps step.Top = misfit
  chunk_steps step.Sf = misfit
  chunk_steps (step.Use i) = misfit
  chunk_steps step.Left = misfit
  chunk_steps step.Right = misfit
  chunk_steps (step.To v) = misfit
  chunk_steps step.Hit = misfit
  chunk_steps step.Push = push_fits
  chunk_steps step.Split = split_fits
  chunk_steps step.Case = case_fits
  chunk_steps step.Absurd = absurd_fits
  chunk_steps step.Drop = drop_fits
  chunk_steps step.Note = note_fits

-- At a goal without chunks and focus: each of the eighteen steps, judged on the goal's row, matches document 01's step (`goal_steps`).
use Prim.Native.Nat.{ℕ, suc, ◌<◌}
use Rattle.std.specs.Prelude.{◌≡◌, Bool, true, false, eqb, leb, length}
use Rattle.std.proofs.Math.Path.{refl}
use mathlib.Core.List.{List, [], ◌∷◌}
use Rattle.std.proofs.Math.Option.{some}
use native.Mathlib.Omega.{arith}
use Rattle.std.proofs.Math.ListN.{get_or, get_elem?}
use Rattle.std.proofs.Common.{leb-true, leb-false}
use Rattle.scope.specs.Logic.Form.{Form, is_sf}
use Rattle.scope.specs.Logic.Facts.{Fact}
use Rattle.scope.specs.Limits.{most_worlds, most_open}
use Rattle.scope.specs.Logic.Obligation as O
use Rattle.scope.specs.Logic.Obligation.{Lab, lab, Sequent, with_world, Phase, goal, chunks, focus, Obligation, ob}
use Rattle.scope.specs.Logic.Room.{chunk_count, met_count, open_count}
use Rattle.scope.specs.Logic.Walk.{Onward, onto, alone, need, has, step_on, on_clause}
use Rattle.facts.specs.Rows.{told}
use Rattle.std.specs.Prelude.{Result, Ok, Err}
use Rattle.common.specs.declared.refused.Refusal.{Refusal}
use Rattle.common.specs.declared.refused.Refusal.TheVariants.{FactAbsent, LimitPassed}
use Rattle.moves.specs.declared.Move.{Move}
use Rattle.moves.specs.declared.Lab as L
use Rattle.common.specs.declared.rows.Row as R
use Rattle.moves.specs.declared.Phase.TheVariants as phase
use Rattle.moves.specs.declared.Move.TheVariants as move
use Rattle.steps.specs.declared.Step.{Step}
use Rattle.steps.specs.declared.Step.TheVariants as step
use Rattle.steps.specs.Steps.{step_is}
use Rattle.std.specs.Prelude.{Some, None}
use Rattle.moves.specs.Steps.{pick, principal, and_step, or1_step, or2_step, imp_step, says_step, top_step, sf_step, if_found, use_step}
use Rattle.common.specs.Rows.{row_at}
use Rattle.moves.specs.Judge.{find_clause, use_clause, on_goal, goal_step}
use Rattle.machine.specs.Change as numbers
use Rattle.machine.specs.Change.{goal_in}
use Rattle.machine.specs.Machine.{Stack}
use Rattle.walks.specs.Trees.{Reading}
use Rattle.machine.specs.Turn.{state_of}
use Rattle.walks.specs.Related.{StackEntry, down_from, seq, Waits, met_in, Standing}
use Rattle.walks.specs.Views.{waits_count}
use Rattle.walks.specs.Moved.{moved_close}
use Rattle.walks.specs.Moves.{moved_go, moved_aim, moved_both, moved_less, moved_speak}
use Rattle.walks.specs.Rooms.{open_over, worlds_over}
use Rattle.walks.specs.Fitting.{alone_within, pair_within, none_within, one_within, clauses_few, clause_at_lem, clause_past}
use Rattle.walks.specs.Match.{Match, no_room, fits, told_has, misfit, no_clause, if_room, if_absent, only_atom, only_top, only_and}
use Rattle.walks.specs.Match.{only_or, only_imp, only_says, only_sf, sf_kind}

module _ {T : Reading} {rows cl ats ch sv : List ℕ} {stack : Stack} {es : List StackEntry} {n m c f u : ℕ} {fs : List Fact}
    {ls : List Lab} (frame : Standing T rows stack n cl ats (phase.Goal (numbers.lab f u)) m c ch sv fs ls) (down : down_from stack n ≡ es)
    (named : f < T.formulas) (inside : u < suc m) {waiting : List Obligation} (waits : Waits T rows cl ats (suc m) c es waiting) where
  abbrev here : Sequent
  here = seq T (suc m) fs ls

  abbrev Fit : Result Move Refusal → Onward → Type 0
  Fit = Match T (state_of rows stack (suc n) cl ats) waiting

  abbrev there : Phase
  there = goal (lab (T.tree f) u)

  abbrev row : R.Row
  row = row_at T.table f

  abbrev w : ℕ
  w = length waiting

  abbrev at_u : Form → Phase
  at_u g = goal (lab g u)

  count : n ≡ w
  count = waits_count stack n down waits

  and_fits : Fit (and_step row (suc n)) (step_on O.And here there)
  unfolding and_step goal_in step_on open_count met_count chunk_count
  and_fits =
      only_and (λ l r. pick (leb most_open (suc n)) (Err LimitPassed) (Ok (move.Both l r)))
      (λ g h. onto (ob here (at_u g) ∷ ob here (at_u h) ∷ []))
      (λ g h p q.
      if_room most_open (suc n)
      (λ full. no_room (open_over w (ob here (at_u (T.tree g)) ∷ ob here (at_u (T.tree h)) ∷ []) (omega (arith, count))))
      (λ free. fits (pair_within frame w (at_u (T.tree g)) (at_u (T.tree h)) (omega arith) (omega arith) (omega (arith, count)))
      (moved_both frame down refl p q inside free waits)))
      (T.means f named)

  -- A goal in its place.
  goes : (g : ℕ) → g < T.formulas → Fit (Ok (move.Go g)) (alone here (at_u (T.tree g)))
  unfolding goal_in met_count chunk_count
  goes g p =
      fits (alone_within frame w (at_u (T.tree g)) (omega arith) (omega (arith, count, frame.room)))
      (moved_go frame down refl p inside waits)

  or1_fits : Fit (or1_step row) (step_on O.Or1 here there)
  unfolding or1_step step_on
  or1_fits =
      only_or (λ l r. Ok (move.Go l)) (λ g h. alone here (at_u g)) (λ g h p q. goes g p) (T.means f named)

  or2_fits : Fit (or2_step row) (step_on O.Or2 here there)
  unfolding or2_step step_on
  or2_fits =
      only_or (λ l r. Ok (move.Go r)) (λ g h. alone here (at_u h)) (λ g h p q. goes h q) (T.means f named)

  imp_fits : Fit (imp_step row (suc m)) (step_on O.Imp here there)
  unfolding imp_step step_on met_count chunk_count
  imp_fits =
      only_imp (λ l r. pick (leb most_worlds (suc m)) (Err LimitPassed) (Ok (move.Less l r)))
      (λ g h. alone (with_world here (Fact.le u (suc m))) (chunks g [] (lab h (suc m))))
      (λ g h p q.
      if_room most_worlds (suc m)
      (λ full.
      no_room (worlds_over w (with_world here (Fact.le u (suc m))) (chunks (T.tree g) [] (lab (T.tree h) (suc m))) (omega arith)))
      (λ free. fits
      (one_within w (with_world here (Fact.le u (suc m))) (chunks (T.tree g) [] (lab (T.tree h) (suc m)))
      (record { worlds = free; clauses = clauses_few frame; chunks = omega arith }) (omega (arith, count, frame.room)))
      (moved_less frame down inside free waits p q)))
      (T.means f named)

  says_fits : Fit (says_step row (suc m)) (step_on O.Says here there)
  unfolding says_step step_on met_count chunk_count
  says_fits =
      only_says (λ l r. pick (leb most_worlds (suc m)) (Err LimitPassed) (Ok (move.Speak (principal l) r)))
      (λ a g. alone (with_world here (Fact.by a u (suc m))) (goal (lab g (suc m))))
      (λ a g p q.
      if_room most_worlds (suc m)
      (λ full. no_room (worlds_over w (with_world here (Fact.by a u (suc m))) (goal (lab (T.tree g) (suc m))) (omega arith)))
      (λ free. fits
      (one_within w (with_world here (Fact.by a u (suc m))) (goal (lab (T.tree g) (suc m)))
      (record { worlds = free; clauses = clauses_few frame; chunks = omega arith }) (omega (arith, count, frame.room)))
      (moved_speak frame down inside free waits p q)))
      (T.means f named)

  closes : Fit (Ok move.Close) (onto [])
  closes = fits (none_within w (omega (arith, count, frame.room))) (moved_close frame down waits)

  top_fits : Fit (top_step row) (step_on O.Top here there)
  unfolding top_step step_on
  top_fits = only_top closes (T.means f named)

  sf_fits : Fit (sf_step rows row (numbers.world u)) (step_on O.Sf here there)
  unfolding sf_step step_on
  sf_fits =
      only_sf (λ a b. pick (told rows (Fact.sf u a b)) (Ok move.Close) (Err FactAbsent)) (λ a b. need 9 (has here (Fact.sf u a b)) (onto []))
      (λ a b p q. if_absent (told rows (Fact.sf u a b)) (has here (Fact.sf u a b))
      (told_has T ls (Fact.sf u a b) frame.kept (inside, p, q)) closes)
      (T.means f named)

  -- The clause of a number, which is no `sf` line, in focus.
  abbrev into : L.Lab → Result Move Refusal
  into clause = Ok (move.Aim clause.form clause.at)

  abbrev aiming : ℕ → Lab → Onward
  aiming q l = alone here (focus l q u [])

  clause_fits : (i q : ℕ) → q ≡ (row_at T.table f).left →
      Fit (if_found (find_clause T.table cl ats c (record { 0 = i })) into)
      (on_clause (get_elem? ls i) (aiming q))
  unfolding find_clause pick if_found on_clause goal_in met_count chunk_count met_in
  clause_fits i q atom = by_count (leb c i) refl
    where
      number : ℕ
      number = get_or cl i 0

      clause : Lab
      clause = lab (T.tree number) (get_or ats i 0)

      known : i < c → number < T.formulas
      known h = frame.clauses.known.each i h

      by_kind_lem : i < c → (t : Bool) → is_sf (T.tree number) ≡ t →
          Fit (if_found (pick t None (Some (numbers.lab number (get_or ats i 0)))) into)
          (on_clause (some clause) (aiming q))
      by_kind_lem h true e = rw e no_clause
      by_kind_lem h false e =
          rw e
          (fits (alone_within frame w (focus clause q u []) (omega arith) (omega (arith, count, frame.room)))
          (moved_aim frame down f refl (known h) inside atom clause waits))

      by_count : (t : Bool) → leb c i ≡ t →
          Fit
          (if_found
          (pick t None
          (pick (eqb (row_at T.table number).kind 7) None (Some (numbers.lab number (get_or ats i 0)))))
          into)
          (on_clause (get_elem? ls i) (aiming q))
      by_count true e = rw (clause_past i frame.clauses (leb-true c i e)) no_clause
      by_count false e =
          let h : i < c = leb-false c i e in
          rw (clause_at_lem i frame.clauses h)
          (by_kind_lem h (eqb (row_at T.table number).kind 7) (sf_kind (T.means number (known h))))

  use_fits : (i : ℕ) → Fit (use_clause T.table cl ats c row (record { 0 = i })) (step_on (O.Use i) here there)
  unfolding use_clause use_step step_on
  use_fits i =
      only_atom (λ l r. if_found (find_clause T.table cl ats c (record { 0 = i })) into)
      (λ q. on_clause (get_elem? ls i) (aiming q))
      (λ q r e. clause_fits i q e) (T.means f named)

  pub goal_steps : (x : Step) →
      Fit (goal_step T.table rows cl ats (numbers.lab f u) x (suc m) c (suc n)) (step_on (step_is x) here there)
  unfolding goal_step on_goal step_on step_is
  goal_steps step.And = and_fits
  goal_steps step.Or1 = or1_fits
  goal_steps step.Or2 = or2_fits
  goal_steps step.Imp = imp_fits
  goal_steps step.Says = says_fits
  goal_steps step.Top = top_fits
  goal_steps step.Sf = sf_fits
  goal_steps (step.Use i) = use_fits i.0
  goal_steps step.Left = misfit
  goal_steps step.Right = misfit
  goal_steps (step.To v) = misfit
  goal_steps step.Hit = misfit
  goal_steps step.Push = misfit
  goal_steps step.Split = misfit
  goal_steps step.Case = misfit
  goal_steps step.Absurd = misfit
  goal_steps step.Drop = misfit
  goal_steps step.Note = misfit

-- 'The kept facts equal those closed afresh at every step': wherever the machine stands after some steps, document 01's walk stands after the
-- same steps, and the machine's rows, kept closed and given back where a branch ends, tell of each fact what closing the current sequent's
-- own facts from nothing computes (`kept_afresh`); and wherever the walk stands, the machine does (`afresh_kept`).
use Rattle.std.specs.Prelude.{ℕ, suc, ◌≡◌, refl, true, false, List, [], ◌∷◌, ◌++◌, eqb, length}
use Rattle.scope.specs.Logic.Facts.{Fact, is_unit}
use Rattle.scope.specs.Call.Answer.{answer}
use Rattle.scope.specs.Logic.Obligation.{Obligation}
use Rattle.scope.specs.Logic.Room.{within}
use Rattle.scope.specs.Call.Tables.{Lent, request_of}
use Rattle.scope.specs.Call.Checked.{checked}
use Rattle.scope.specs.Call.Judge.{start_of}
use Rattle.scope.specs.Logic.Walk.{Onward, onto, step_on, has}
use Rattle.scope.specs.Tools.Tests.{never}
use Rattle.trip.proofs.Trip.{checked_fine}
use Rattle.facts.specs.Rows.{told}
use Rattle.facts.specs.Kept.{Aimed}
use Rattle.moves.specs.declared.Move.{Move}
use Rattle.std.specs.Prelude.{Result, Ok}
use Rattle.common.specs.declared.refused.Refusal.{Refusal}
use Rattle.steps.specs.Steps.{step_is}
use Rattle.machine.specs.Machine.{State, begun, step_in, judged_now, moved}
use Rattle.walks.specs.Trees.{Reading, unit_of}
use Rattle.walks.specs.Passed.{Passed, unrefused_passed}
use Rattle.walks.specs.Readable.{reading_of}
use Rattle.walks.specs.Related.{Related, now_open}
use Rattle.walks.specs.Match.{Match, no_fit, no_room, fits, told_has}
use Rattle.walks.specs.Ran.{stepped, none_open, some_open}
use Rattle.walks.specs.Simulation.{begins}

-- The machine's record after the first i steps of the tables: each was judged while something was open, and its move was made.
pub data MachineAt (t : Lent) : ℕ → State → Type 0 where
  begin : MachineAt t 0 (begun t.form_table t.policy_table t.policy t.goal)
  make : {i : ℕ} {s : State} {m : Move} → MachineAt t i s → eqb s.opened 0 ≡ false →
      judged_now t.form_table s (step_in t.step_table i) ≡ Ok m → MachineAt t (suc i) (moved (is_unit t.logic) s m)

-- The walk's open obligations after the same steps: each went on to others, within the limits.
pub data WalkAt (t : Lent) : ℕ → List Obligation → Type 0 where
  start : WalkAt t 0 (start_of (request_of t) ∷ [])
  go_on : {i : ℕ} {o : Obligation} {new waiting : List Obligation} → WalkAt t i (o ∷ waiting) →
      step_on (step_is (step_in t.step_table i)) o.sequent o.phase ≡ onto new → within (length waiting) new ≡ true →
      WalkAt t (suc i) (new ++ waiting)

-- Of the current sequent the rows tell what closing afresh computes; every step of the walk that asks for a fact asks `has`.
abbrev pub Afresh : State → Obligation → Type 0
Afresh s o = (f : Fact) → Aimed o.sequent.sheet f → told s.rows f ≡ has o.sequent f

related_same : {T : Reading} {s : State} {o : Obligation} {waiting : List Obligation} → Related T s (o ∷ waiting) → Afresh s o
related_same {T} (now_open {ls} frame down rests waits) f aimed = told_has T ls f frame.kept aimed

-- A step that the machine makes the walk goes on with,
walk_too : {T : Reading} {s : State} {waiting : List Obligation} {j : Result Move Refusal} {on : Onward} → Match T s waiting j on → (m : Move) →
    j ≡ Ok m → (new : List Obligation) × (on ≡ onto new) × (within (length waiting) new ≡ true) × Related T (moved (unit_of T) s m) (new ++ waiting)
walk_too no_fit m e = never cc
walk_too (no_room w) m e = never cc
walk_too (fits {m = k} {os} w r) m e = let a : k ≡ m = cc in (os, refl, w, rw a at r)

-- and a step that the walk goes on with the machine makes.
machine_too : {T : Reading} {s : State} {waiting : List Obligation} {j : Result Move Refusal} {on : Onward} → Match T s waiting j on →
    (new : List Obligation) → on ≡ onto new → within (length waiting) new ≡ true → (m : Move) × (j ≡ Ok m) × Related T (moved (unit_of T) s m) (new ++ waiting)
machine_too no_fit new e w = never cc
machine_too (no_room {os} v) new e w = let a : os ≡ new = cc in never cc
machine_too (fits {m} {os} v r) new e w = let a : os ≡ new = cc in (m, refl, rw a at r)

module _ (t : Lent) (p : Passed t) where
  abbrev T : Reading
  T = reading_of t p

  machine_walks : {i : ℕ} {s : State} → MachineAt t i s → (os : List Obligation) × WalkAt t i os × Related T s os
  machine_walks begin = (start_of (request_of t) ∷ [], start, begins t p)
  machine_walks (make {i} {s} {m} a some e) = on (machine_walks a).0 (machine_walks a).1 (machine_walks a).2
    where
      on : (os : List Obligation) → WalkAt t i os → Related T s os → (os : List Obligation) × WalkAt t (suc i) os × Related T (moved (unit_of T) s m) os
      on [] w r = let z = none_open r in never cc
      on (o ∷ waiting) w r =
          let h = walk_too (stepped r (step_in t.step_table i)) m e in (h.0 ++ waiting, go_on w h.1 h.2, h.3)

  walk_machine : {i : ℕ} {os : List Obligation} → WalkAt t i os → (s : State) × MachineAt t i s × Related T s os
  walk_machine start = (begun t.form_table t.policy_table t.policy t.goal, begin, begins t p)
  walk_machine (go_on {i} {o} {new} {waiting} w e v) =
      let h = walk_machine w in
      let g = machine_too (stepped h.2 (step_in t.step_table i)) new e v in
      (moved (unit_of T) h.0 g.0, make h.1 (some_open h.2) g.1, g.2)

pub kept_afresh : (t : Lent) → checked t ≡ answer 0 0 → {i : ℕ} {s : State} → MachineAt t i s → eqb s.opened 0 ≡ false →
    (o : Obligation) × (waiting : List Obligation) × WalkAt t i (o ∷ waiting) × Afresh s o
kept_afresh t c {i} {s} a some =
    let h = machine_walks t (unrefused_passed t (checked_fine t c).unrefused) a in on h.0 h.1 h.2
  where
    on : {T : Reading} (os : List Obligation) → WalkAt t i os → Related T s os →
        (o : Obligation) × (waiting : List Obligation) × WalkAt t i (o ∷ waiting) × Afresh s o
    on [] w r = let z = none_open r in never cc
    on (o ∷ waiting) w r = (o, waiting, w, related_same r)

pub afresh_kept : (t : Lent) → checked t ≡ answer 0 0 → {i : ℕ} {o : Obligation} {waiting : List Obligation} → WalkAt t i (o ∷ waiting) →
    (s : State) × MachineAt t i s × Afresh s o
afresh_kept t c w =
    let h = walk_machine t (unrefused_passed t (checked_fine t c).unrefused) w in (h.0, h.1, related_same h.2)

-- The walk through the steps over tables of numbers. Crate `walks` proves that it answers as document 01's walk does.
use Rattle.std.specs.Prelude.{ℕ, zero, suc, ◌+◌, ◌-◌, ◌*◌, Bool, List, Result, Ok, Err, get_or, set, replicate, eqb}
use Prim.{Unit, tt}
use Rattle.scope.specs.Limits.{most_principals, most_chunks}
use Rattle.scope.specs.Call.Answer.{Answer, answer}
use Rattle.common.specs.declared.refused.Refusal.{Refusal}
use Rattle.common.specs.declared.refused.Refusal.TheVariants.{AllClosed, LeftOpen}
use Rattle.common.specs.Refused.{number_of}
use Rattle.common.specs.Rows.{row_at}
use Rattle.facts.specs.Rows.{root_rows, noted}
use Rattle.moves.specs.declared.Phase.TheVariants as phase
use Rattle.moves.specs.declared.Move.{Move}
use Rattle.steps.specs.declared.Step.{Step}
use Rattle.steps.specs.Steps.{pair_at, step_from}
use Rattle.moves.specs.Steps.{pick}
use Rattle.moves.specs.Judge.{judge_step}
use Rattle.machine.specs.declared.Obligation.{Obligation}
use Rattle.machine.specs.declared.StepRefusal.{StepRefusal}
use Rattle.machine.specs.Change.{lab, chunk_count, goal_in, change_of}
use Rattle.machine.specs.Tables.{places, clause_places, block, top_chunk, chunks_after, saved_after, rows_after}

-- What the walk writes in place: the rows of facts; the open obligations, the last opened of which is the current one, with their chunks
-- and saved rows; and the clauses.
pub record Stack : Type 0 where
  pub obligations : List Obligation
  pub chunks : List ℕ
  pub saved : List ℕ

pub record State : Type 0 where
  pub rows : List ℕ
  pub stack : Stack
  pub opened : ℕ
  pub clauses : List ℕ
  pub ats : List ℕ

-- The i-th pair of the step table as a step.
unfoldable pub step_in : List ℕ → ℕ → Step
unfolding pair_at step_from
step_in steps i = step_from (pair_at steps i).kind (pair_at steps i).number

-- What stands past the end of the open obligations.
abbrev pub nothing : Obligation
nothing = record { phase = phase.Goal (lab 0 0); worlds = 0; clauses = 0 }

unfoldable pub obligation_at : State → ℕ → Obligation
obligation_at s i = get_or s.stack.obligations i nothing

abbrev pub current : State → Obligation
current s = obligation_at s (s.opened - 1)

-- The move written into the tables, in the logic unit or plain.
unfoldable pub moved : Bool → State → Move → State
unfolding obligation_at change_of chunk_count top_chunk chunks_after saved_after block rows_after goal_in
moved unit s m =
    let o = current s in
    let c = change_of m o s.opened in
    let saved = saved_after s.opened c.opened s.rows o.worlds s.stack.saved in
    record {
      rows = rows_after unit m o (obligation_at s (s.opened - 2)) (block most_principals saved (s.opened - 2)) s.rows;
      stack = record {
        obligations = set (set s.stack.obligations s.opened c.upper) (s.opened - 1) c.lower;
        chunks = chunks_after m (chunk_count o.phase) (s.opened - 1) s.stack.chunks;
        saved = saved;
      };
      opened = c.opened;
      clauses = set s.clauses o.clauses (top_chunk s.stack.chunks (s.opened - 1) o.phase);
      ats = set s.ats o.clauses (goal_in o.phase).at.0;
    }

unfoldable pub judged_now : List ℕ → State → Step → Result Move Refusal
unfolding obligation_at top_chunk judge_step
judged_now forms s x =
    let o = current s in
    let top = top_chunk s.stack.chunks (s.opened - 1) o.phase in
    judge_step forms s.rows s.clauses s.ats o.phase top x o.worlds o.clauses s.opened

abbrev pub refusal_at : Refusal → ℕ → StepRefusal
refusal_at r i = record { refusal = r; step = i + 1 }

abbrev pub Walked : Type 0
Walked = Result Unit StepRefusal

abbrev pub refused_at : Refusal → ℕ → Walked
refused_at r i = Err (refusal_at r i)

unfoldable pub go_on : Result Move Refusal → ℕ → (Move → Walked) → Walked
go_on (Ok m) i next = next m
go_on (Err r) i next = refused_at r i

-- No step is left: 12 where something is open.
abbrev pub ended_at : ℕ → ℕ → Walked
ended_at opened i = pick (eqb opened 0) (Ok tt) (refused_at LeftOpen i)

-- n steps are left, from step number i (from 0) on: 11 where everything is closed.
unfoldable pub ran_from : Bool → List ℕ → List ℕ → ℕ → ℕ → State → Walked
unfolding pick go_on judged_now step_in moved
ran_from unit forms steps zero i s = ended_at s.opened i
ran_from unit forms steps (suc n) i s =
    pick (eqb s.opened 0) (refused_at AllClosed i)
    (go_on (judged_now forms s (step_in steps i)) i (λ m. ran_from unit forms steps n (i + 1) (moved unit s m)))

-- The policy lines from the last back to line 0: each is a clause at world 0, and an `sf` line is noted there.
unfoldable pub line_noted : List ℕ → ℕ → List ℕ → List ℕ
unfolding pick row_at noted
line_noted forms f rows =
    pick (eqb (row_at forms f).kind 7) (noted rows 0 (row_at forms f).left (row_at forms f).right) rows

unfoldable pub lines_noted : List ℕ → List ℕ → ℕ → List ℕ → List ℕ
unfolding line_noted
lines_noted forms lines zero rows = rows
lines_noted forms lines (suc i) rows = lines_noted forms lines i (line_noted forms (get_or lines i 0) rows)

unfoldable pub lines_put : List ℕ → ℕ → List ℕ → List ℕ
lines_put lines zero clauses = clauses
lines_put lines (suc i) clauses = lines_put lines i (set clauses i (get_or lines i 0))

unfoldable pub first : ℕ → ℕ → Obligation
first goal count = record { phase = phase.Goal (lab goal 0); worlds = 1; clauses = count }

abbrev pub first_stack : Obligation → Stack
first_stack o =
    record { obligations = replicate places o; chunks = replicate (places * most_chunks) 0; saved = replicate (places * most_principals) 0 }

unfoldable pub begun : List ℕ → List ℕ → ℕ → ℕ → State
unfolding first lines_noted lines_put root_rows
begun forms lines count goal =
    record {
      rows = lines_noted forms lines count root_rows;
      stack = first_stack (first goal count);
      opened = 1;
      clauses = lines_put lines count (replicate clause_places 0);
      ats = replicate clause_places 0;
    }

-- The answer about the steps, in the logic unit or plain, for any tables and counts.
unfoldable pub ran : Bool → List ℕ → List ℕ → List ℕ → ℕ → ℕ → ℕ → Walked
unfolding ran_from begun
ran unit forms lines steps count goal stepCount = ran_from unit forms steps stepCount 0 (begun forms lines count goal)

-- Document 01's number and place for each of the walk's answers.
unfoldable pub walked_answer : Walked → Answer
walked_answer (Ok u) = answer 0 0
walked_answer (Err r) = answer (number_of r.refusal) r.step

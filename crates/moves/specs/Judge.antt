-- A step on the current obligation, by its phase: the definitions that crate `moves` meets.
use Rattle.std.specs.Prelude.{ℕ, List, Option, Some, None, Result, Err, map, get_or, eqb, leb}
use Rattle.steps.specs.declared.Clause.{Clause}
use Rattle.common.specs.declared.rows.Row.{Row}
use Rattle.common.specs.declared.refused.Refusal.{Refusal}
use Rattle.common.specs.declared.refused.Refusal.TheVariants.{StepMisfit}
use Rattle.common.specs.Rows.{row_at}
use Rattle.moves.specs.declared.Lab.{Lab}
use Rattle.moves.specs.declared.Move.{Move}
use Rattle.moves.specs.declared.Phase.{Phase}
use Rattle.moves.specs.declared.Phase.TheVariants as phase
use Rattle.steps.specs.declared.Step.{Step}
use Rattle.steps.specs.declared.Step.TheVariants as step
use Rattle.moves.specs.Steps.{pick, and_step, or1_step, or2_step, imp_step, says_step, top_step, sf_step, use_step}
use Rattle.moves.specs.Steps.{left_step, right_step, to_step, hit_step, push_step, split_step, case_step, absurd_step, drop_step, note_step}

-- The formulas, and the worlds, of a table of clauses.
abbrev pub forms_of : List Lab → List ℕ
forms_of ls = map (λ l. l.form) ls

abbrev pub ats_of : List Lab → List ℕ
ats_of ls = map (λ l. l.at.0) ls

unfoldable pub find_clause : List ℕ → List ℕ → List ℕ → ℕ → Clause → Option Lab
unfolding row_at pick
find_clause forms clauses ats count n =
    pick (leb count n.0) None
    (pick (eqb (row_at forms (get_or clauses n.0 0)).kind 7) None
    (Some (record { form = get_or clauses n.0 0; at = record { 0 = get_or ats n.0 0 } })))

unfoldable pub use_clause : List ℕ → List ℕ → List ℕ → ℕ → Row → Clause → Result Move Refusal
unfolding find_clause use_step
use_clause forms clauses ats count r n = use_step r (find_clause forms clauses ats count n)

-- r is the row of the goal's formula.
unfoldable pub on_goal : List ℕ → List ℕ → List ℕ → List ℕ → Row → Lab → Step → ℕ → ℕ → ℕ → Result Move Refusal
unfolding and_step or1_step or2_step imp_step says_step top_step sf_step use_clause
on_goal forms rows clauses ats r g step.And worlds count opened = and_step r opened
on_goal forms rows clauses ats r g step.Or1 worlds count opened = or1_step r
on_goal forms rows clauses ats r g step.Or2 worlds count opened = or2_step r
on_goal forms rows clauses ats r g step.Imp worlds count opened = imp_step r worlds
on_goal forms rows clauses ats r g step.Says worlds count opened = says_step r worlds
on_goal forms rows clauses ats r g step.Top worlds count opened = top_step r
on_goal forms rows clauses ats r g step.Sf worlds count opened = sf_step rows r g.at
on_goal forms rows clauses ats r g (step.Use n) worlds count opened = use_clause forms clauses ats count r n
on_goal forms rows clauses ats r g x worlds count opened = Err StepMisfit

unfoldable pub goal_step : List ℕ → List ℕ → List ℕ → List ℕ → Lab → Step → ℕ → ℕ → ℕ → Result Move Refusal
unfolding row_at on_goal
goal_step forms rows clauses ats g x worlds count opened = on_goal forms rows clauses ats (row_at forms g.form) g x worlds count opened

-- r is the row of the formula in focus.
unfoldable pub on_focus : List ℕ → List ℕ → Row → Lab → Lab → Step → ℕ → ℕ → Result Move Refusal
unfolding row_at left_step right_step to_step hit_step
on_focus forms rows r part target step.Left worlds opened = left_step r part.at
on_focus forms rows r part target step.Right worlds opened = right_step r part.at
on_focus forms rows r part target (step.To n) worlds opened = to_step rows r part.at n worlds opened
on_focus forms rows r part target step.Hit worlds opened = hit_step rows r part.at (row_at forms target.form).left target.at
on_focus forms rows r part target x worlds opened = Err StepMisfit

unfoldable pub focus_step : List ℕ → List ℕ → Lab → Lab → Step → ℕ → ℕ → Result Move Refusal
unfolding row_at on_focus
focus_step forms rows part target x worlds opened = on_focus forms rows (row_at forms part.form) part target x worlds opened

-- r is the row of the topmost of count chunks.
unfoldable pub on_chunk : Row → ℕ → Step → ℕ → ℕ → Result Move Refusal
unfolding push_step split_step case_step absurd_step drop_step note_step
on_chunk r count step.Push clauses opened = push_step r clauses
on_chunk r count step.Split clauses opened = split_step r count
on_chunk r count step.Case clauses opened = case_step r opened
on_chunk r count step.Absurd clauses opened = absurd_step r
on_chunk r count step.Drop clauses opened = drop_step r
on_chunk r count step.Note clauses opened = note_step r
on_chunk r count x clauses opened = Err StepMisfit

unfoldable pub chunk_step : List ℕ → ℕ → ℕ → Step → ℕ → ℕ → Result Move Refusal
unfolding row_at on_chunk
chunk_step forms f count x clauses opened = on_chunk (row_at forms f) count x clauses opened

unfoldable pub judge_step : List ℕ → List ℕ → List ℕ → List ℕ → Phase → ℕ → Step → ℕ → ℕ → ℕ → Result Move Refusal
unfolding goal_step focus_step chunk_step
judge_step forms rows clauses ats (phase.Goal g) top x worlds count opened = goal_step forms rows clauses ats g x worlds count opened
judge_step forms rows clauses ats (phase.Chunks g n) top x worlds count opened = chunk_step forms top n x count opened
judge_step forms rows clauses ats (phase.Focus part target) top x worlds count opened = focus_step forms rows part target x worlds opened

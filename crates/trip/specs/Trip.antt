-- From requests to calls on lent tables: what it is to pass the checks (`Fine`), what a written text and what a read one tell.
use Rattle.std.specs.Prelude.{ℕ, ◌≤◌, ◌≡◌, refl, List, [], ◌∷◌, ◌++◌, Bool, true, false, cond, leb, length}
use Rattle.std.proofs.Common.{sym, ◌∙◌}
use Rattle.scope.specs.Call.Result.{result, refused}
use Rattle.scope.specs.Call.Answer.{told, answer}
use Rattle.scope.specs.File.Request.{Request}
use Rattle.scope.specs.File.Refusals.{demand, unit_refusal}
use Rattle.scope.specs.File.Text.{request_text}
use Rattle.scope.specs.File.Reader.{Outcome, read_request}
use Rattle.scope.specs.Call.Tables.{Lent, has_room, request_of}
use Rattle.scope.specs.Call.Checked.{first_met, line_answers, past_zero, checked}
use Rattle.scope.specs.Call.Calls.{reading, lent_after}
use Rattle.scope.specs.Tools.Tests.{never}
use Rattle.trip.specs.File.{Unrefused}
use Rattle.trip.specs.Checks.{met_nothing}

-- Tables that pass every check.
pub record Fine (t : Lent) : Type 0 where
  pub room : has_room (length t.form_table) (length t.policy_table) (length t.step_table) ≡ true
  pub unrefused : Unrefused (request_of t)
  pub past : past_zero t ≡ true

-- The checks in their order.
pub check_law :
    (t : Lent)
    → checked t
    ≡ first_met
    (answer (demand (has_room (length t.form_table) (length t.policy_table) (length t.step_table)) 13 0) 0 ∷
    answer (unit_refusal t.version t.logic) 0 ∷
    (line_answers (request_of t) ++ answer (demand (past_zero t) 3 0) 0 ∷ []))
unfolding checked
check_law t = refl

pub kept_logic : (t : Lent) → unit_refusal (request_of t).version (request_of t).logic ≡ 0 → unit_refusal t.version t.logic ≡ 0
unfolding request_of
kept_logic t e = e

pub unmet : (t : Lent) (place column : ℕ) → checked t ≡ told 0 place column → checked t ≡ answer 0 0
unmet t place column e = check_law t ∙ met_nothing _ place column (sym (check_law t) ∙ e)

-- What a written text tells of the tables.
pub record Wrote (t : Lent) (len : ℕ) (s : List ℕ) : Type 0 where
  pub fine : Fine t
  pub text : request_text (request_of t) ≡ s
  pub fits : length s ≤ len

pub record Got (forms policy steps : ℕ) (s : List ℕ) (q : Request) : Type 0 where
  pub room : has_room forms policy steps ≡ true
  pub request : read_request s ≡ result q

pub got : (forms policy steps : ℕ) (s : List ℕ) (q : Request) → reading forms policy steps s ≡ result q → Got forms policy steps s q
unfolding reading
got f l n s q e = go (has_room f l n) (leb (length s) 65536) refl e
  where
    go :
        (a b : Bool) → has_room f l n ≡ a → cond a (cond b (read_request s) (refused (answer 1 0))) (refused (answer 13 0)) ≡ result q
        → Got f l n s q
    go true true r e' = record { room = r; request = e' }
    go true false r e' = never cc
    go false b r e' = never cc

-- Reading a text with tables lent as long as those of t, and what that leaves in them.
abbrev pub read_for : Lent → List ℕ → Outcome
read_for t s = reading (length t.form_table) (length t.policy_table) (length t.step_table) s

abbrev pub left_for : Lent → List ℕ → Lent
left_for t s = lent_after (length t.form_table) (length t.policy_table) (length t.step_table) (read_for t s)

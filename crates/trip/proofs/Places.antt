-- The place of a reader's refusal is the line that met it: each refusal of a text says what `Where` says (`refused_where`). A text that
-- reads is whole lines, as many as the request has (`read_lines`).
use Rattle.std.specs.Prelude.{ℕ, suc, ◌+◌, ◌≡◌, refl, List, [], ◌∷◌, ◌++◌, Bool, true, false, cond, length}
use Rattle.std.proofs.Common.{sym, ap, ◌∙◌, append-nil, arith}
use Rattle.scope.specs.Call.Result.{result, refused}
use Rattle.scope.specs.Logic.Facts.{Logic, plain}
use Rattle.scope.specs.File.Request.{Request}
use Rattle.scope.specs.Call.Answer.{told, further_down}
use Rattle.scope.specs.File.Line.{Read, ok, bad, line_stop, line, done}
use Rattle.scope.specs.File.Stops.{byte_stop, word_stop}
use Rattle.scope.specs.File.Kinds.{form_kinds, step_kinds}
use Rattle.scope.specs.File.Refusals.{version_refusal, principals_refusal, atoms_refusal, formulas_refusal, form_refusal, clauses_refusal, clause_refusal, goal_refusal, steps_refusal, step_refusal}
use Rattle.scope.specs.File.Text.{version_line, logic_line, principals_line, atoms_line, formulas_line, form_line, clauses_line, clause_line, goal_line, steps_line, step_line}
use Rattle.scope.specs.File.Reader.{form_item, clause_item, step_item, body_lines, read_logic, request_lines, ended, read_request}
use Rattle.scope.specs.Limits.{most_version, most_principals, most_atoms, most_formulas, most_policy_lines, most_steps}
use Rattle.scope.specs.Limits.{version_at, has_logic, logic_at, extra_lines, principals_at, atoms_at, formulas_at, form_at, clauses_at, clause_at, goal_at, steps_at, step_at, end_at}
use Rattle.scope.specs.Tools.Tests.{never}
use Rattle.trip.specs.LineRefusals.{mild_none, count_mild, form_mild, clause_mild, goal_mild, step_mild}
use Rattle.trip.specs.Cuts.{free}
use Rattle.trip.specs.Words.{form_kinds_neat, step_kinds_neat}
use Rattle.trip.specs.LineStops.{number_own, logic_own, row_own}
use Rattle.trip.specs.LinePlaces.{lfs, whole, From, then_from, done_from, from_as, from_told, further_from}
use Rattle.trip.proofs.LinePlaces.{line_from, counted_from}
use Rattle.trip.specs.Places.{Where, of_line, of_rest, behind, behind_told}

-- The lines from `principals=` on, as version 1 counts them; behind them stands the line that `end_at` names.
pub body_from : (version : ℕ) (logic : Logic) →
    From principals_at (λ (q : Request). end_at (length q.forms) (length q.policy) (length q.steps)) (body_lines version logic)
unfolding body_lines line_stop word_stop byte_stop free
body_from version logic =
    then_from (line_from principals_line (number_own "principals=" refl refl) principals_refusal (count_mild 1 most_principals) principals_at) λ principals.
    then_from (line_from atoms_line (number_own "atoms=" refl refl) atoms_refusal (count_mild 1 most_atoms) atoms_at) λ atoms.
    then_from
    (counted_from formulas_line (number_own "formulas=" refl refl) formulas_refusal (count_mild 1 most_formulas) formulas_at (form_item principals atoms) λ before.
    line_from form_line (row_own "form=" form_kinds refl form_kinds_neat refl) (form_refusal principals atoms before) (form_mild principals atoms before) (form_at (length before))) λ forms.
    then_from
    (counted_from clauses_line (number_own "clauses=" refl refl) clauses_refusal (count_mild 0 most_policy_lines) (clauses_at (length forms)) (clause_item forms) λ before.
    from_as (omega arith) (λ x. omega arith) (line_from clause_line (number_own "clause=" refl refl) (clause_refusal forms) (clause_mild forms) (clause_at (length forms) (length before)))) λ lines.
    from_as (omega arith) (λ x. refl)
    (then_from (line_from goal_line (number_own "goal=" refl refl) (goal_refusal forms) (goal_mild forms) (goal_at (length forms) (length lines))) λ goal.
    from_as (omega arith) (λ x. refl)
    (then_from
    (counted_from steps_line (number_own "steps=" refl refl) steps_refusal (count_mild 1 most_steps) (steps_at (length forms) (length lines)) (step_item (length forms) (length lines)) λ before.
    from_as (omega arith) (λ x. omega arith) (line_from step_line (row_own "step=" step_kinds refl step_kinds_neat refl) step_refusal step_mild (step_at (length forms) (length lines) (suc (length before))))) λ steps.
    done_from _ _ _ (omega arith)))

-- The line of the logic, where there is one.
pub logic_from : (version : ℕ) → From logic_at (λ l. logic_at + extra_lines version) (read_logic version)
unfolding read_logic
logic_from version = go (has_logic version)
  where
    go : (b : Bool) → From logic_at (λ l. logic_at + cond b 1 0) (cond b (line logic_line (λ l. 0) logic_at) (done plain))
    go true = line_from logic_line logic_own (λ l. 0) (λ l. mild_none) logic_at
    go false = done_from plain logic_at _ refl

request_from : From version_at behind request_lines
unfolding request_lines line_stop word_stop byte_stop free
request_from =
    then_from (line_from version_line (number_own "version=" refl refl) version_refusal (count_mild 1 most_version) version_at) λ version.
    then_from (logic_from version) λ logic.
    from_told (λ s q rest e. behind_told version logic s q rest e) (further_from (extra_lines version) (body_from version logic))

ended_bad : (x : Read Request) (k i c : ℕ) → x ≡ bad (told k i c) → ended x ≡ refused (told k i c)
unfolding ended
ended_bad x k i c e = rw e

-- Every refusal of a text is met at its place.
pub refused_where : (s : List ℕ) (k i column : ℕ) → read_request s ≡ refused (told k i column) → Where s k i column
unfolding read_request ended further_down
refused_where s k i column e = go (request_lines s) refl e
  where
    go : (x : Read Request) → request_lines s ≡ x → ended x ≡ refused (told k i column) → Where s k i column
    go (bad (told n j m)) d e' =
        let y : n ≡ k = cc in
        let z : j ≡ i = cc in
        let x : m ≡ column = cc in
        let p = request_from.stops s k i column (cc (d, y, z, x)) in
        of_line
        (record { before = p.before; rest = p.rest; parted = p.parted; lines = p.lines; place = omega (arith, p.place) })
        p.number
        (ended_bad (request_lines p.before) 2 i 1 p.short)
        (λ l r c t. ended_bad (request_lines (p.before ++ (l ++ 10 ∷ t))) k i column (p.whatever l r c t))
    go (ok q []) d e' = never cc
    go (ok q (b ∷ rest)) d e' =
        let p = request_from.goes s q (b ∷ rest) d in
        let y : 6 ≡ k = cc in
        let z : behind q ≡ i = cc in
        let w : request_lines p.gone ≡ ok q [] = ap request_lines (sym (append-nil p.gone)) ∙ p.whatever [] in
        of_rest
        (record { before = p.gone; rest = b ∷ rest; parted = p.parted; lines = p.lines; place = omega (arith, p.stands) })
        q
        (sym y)
        (cc)
        (rw w refl)

ended_read : (x : Read Request) (q : Request) → ended x ≡ result q → x ≡ ok q []
unfolding ended
ended_read (ok p []) q e = cc
ended_read (ok p (b ∷ rest)) q e = never cc
ended_read (bad a) q e = never cc

-- A text that reads is whole lines, and the line behind them, where nothing stands, is the one that `behind` names.
pub read_lines : (s : List ℕ) (q : Request) → read_request s ≡ result q →
    (whole s ≡ true) × (behind q ≡ suc (lfs s))
unfolding read_request
read_lines s q e =
    let p = request_from.goes s q [] (ended_read (request_lines s) q e) in
    let z : s ≡ p.gone = p.parted ∙ append-nil p.gone in
    let n : lfs s ≡ lfs p.gone = ap lfs z in
    (ap whole z ∙ p.lines, omega (arith, p.stands))

-- d) 'Tell the clerk which column': what this crate proves of the column that File/Column of scope declares. There is one at most; a line is
-- refused 2 with a column exactly where that is its column; and so is a text, in the line that the place names.
use Rattle.std.specs.Prelude.{ℕ, suc, ◌+◌, ◌≤◌, ◌≡◌, refl, List, [], ◌∷◌, ◌++◌, Bool, true, false, cond, length}
use Rattle.std.proofs.Common.{arith}
use Rattle.scope.specs.Call.Result.{refused}
use Rattle.scope.specs.Call.Answer.{told, further_down}
use Rattle.scope.specs.Logic.Facts.{Logic, plain}
use Rattle.scope.specs.File.Bytes.{bytes}
use Rattle.scope.specs.File.Request.{Request}
use Rattle.scope.specs.File.Stops.{byte_stop, word_stop}
use Rattle.scope.specs.File.Line.{Read, ok, bad, parts, cut, line_stop, line, done}
use Rattle.scope.specs.File.Kinds.{form_kinds, step_kinds}
use Rattle.scope.specs.File.Refusals.{version_refusal, principals_refusal, atoms_refusal, formulas_refusal, form_refusal, clauses_refusal, clause_refusal, goal_refusal, steps_refusal, step_refusal}
use Rattle.scope.specs.File.Text.{version_line, logic_line, principals_line, atoms_line, formulas_line, form_line, clauses_line, clause_line, goal_line, steps_line, step_line}
use Rattle.scope.specs.File.Reader.{form_item, clause_item, step_item, body_lines, read_logic, request_lines, ended, read_request}
use Rattle.scope.specs.File.Column.{Column}
use Rattle.scope.specs.Limits.{most_version, most_principals, most_atoms, most_formulas, most_policy_lines, most_steps}
use Rattle.scope.specs.Limits.{version_at, has_logic, logic_at, extra_lines, principals_at, atoms_at, formulas_at, form_at, clauses_at, clause_at, goal_at, steps_at, step_at, end_at}
use Rattle.scope.specs.Tools.Tests.{never}
use Rattle.trip.specs.Cuts.{free}
use Rattle.trip.specs.Words.{form_kinds_neat, step_kinds_neat}
use Rattle.trip.specs.LineRefusals.{OfLine, shape, in_shape_lem, mild_none, count_mild, form_mild, clause_mild, goal_mild, step_mild}
use Rattle.trip.specs.LineStops.{number_own, logic_own, row_own}
use Rattle.trip.specs.Places.{Before, Where, of_line, of_rest, behind, behind_told}
use Rattle.trip.proofs.Places.{refused_where}
use Rattle.columns.specs.Unique.{one_column}
use Rattle.columns.specs.Small.{form_line_small, step_line_small}
use Rattle.columns.specs.Lines as Lines
use Rattle.columns.specs.Lines.{Told, number_told, row_told}
use Rattle.columns.specs.Texts.{Lined, column_alike, line_lined, then_lined, done_lined, lined_as, lined_told, further_lined, counted_lined}

-- One column at most, whatever the lines of the right shape are.
pub unique : {Whole : List ℕ → Type 0} (s : List ℕ) (n m : ℕ) → Column Whole s n → Column Whole s m → n ≡ m
unique = one_column

-- Each line of the request file (`Told`, in Lines): refused 2 with column c exactly if c is its column; and c is at most 22.
pub version_told : Told version_line
unfolding free
version_told = number_told (bytes "version=") refl (omega arith)

pub logic_told : Told logic_line
logic_told = Lines.logic_told

pub principals_told : Told principals_line
unfolding free
principals_told = number_told (bytes "principals=") refl (omega arith)

pub atoms_told : Told atoms_line
unfolding free
atoms_told = number_told (bytes "atoms=") refl (omega arith)

pub formulas_told : Told formulas_line
unfolding free
formulas_told = number_told (bytes "formulas=") refl (omega arith)

pub form_told : Told form_line
unfolding free form_kinds
form_told = row_told (bytes "form=") form_kinds refl form_kinds_neat (omega arith) form_line_small

pub clauses_told : Told clauses_line
unfolding free
clauses_told = number_told (bytes "clauses=") refl (omega arith)

pub clause_told : Told clause_line
unfolding free
clause_told = number_told (bytes "clause=") refl (omega arith)

pub goal_told : Told goal_line
unfolding free
goal_told = number_told (bytes "goal=") refl (omega arith)

pub steps_told : Told steps_line
unfolding free
steps_told = number_told (bytes "steps=") refl (omega arith)

pub step_told : Told step_line
unfolding free step_kinds
step_told = row_told (bytes "step=") step_kinds refl step_kinds_neat (omega arith) step_line_small

-- The lines of a request from `principals=` on, as version 1 counts them,
body_lined : (version : ℕ) (logic : Logic) →
    Lined (body_lines version logic) principals_at (λ (q : Request). end_at (length q.forms) (length q.policy) (length q.steps))
unfolding body_lines line_stop word_stop byte_stop free
body_lined version logic =
    then_lined (line_lined principals_line (number_own "principals=" refl refl) principals_told principals_refusal (count_mild 1 most_principals) principals_at) λ principals.
    then_lined (line_lined atoms_line (number_own "atoms=" refl refl) atoms_told atoms_refusal (count_mild 1 most_atoms) atoms_at) λ atoms.
    then_lined
    (counted_lined formulas_line (number_own "formulas=" refl refl) formulas_told formulas_refusal (count_mild 1 most_formulas) formulas_at
    (form_item principals atoms) λ before.
    line_lined form_line (row_own "form=" form_kinds refl form_kinds_neat refl) form_told (form_refusal principals atoms before) (form_mild principals atoms before)
    (form_at (length before))) λ forms.
    then_lined
    (counted_lined clauses_line (number_own "clauses=" refl refl) clauses_told clauses_refusal (count_mild 0 most_policy_lines) (clauses_at (length forms))
    (clause_item forms) λ before.
    lined_as (omega arith) (λ x. omega arith)
    (line_lined clause_line (number_own "clause=" refl refl) clause_told (clause_refusal forms) (clause_mild forms) (clause_at (length forms) (length before)))) λ lines.
    lined_as (omega arith) (λ x. refl)
    (then_lined
    (line_lined goal_line (number_own "goal=" refl refl) goal_told (goal_refusal forms) (goal_mild forms) (goal_at (length forms) (length lines))) λ goal.
    lined_as (omega arith) (λ x. refl)
    (then_lined
    (counted_lined steps_line (number_own "steps=" refl refl) steps_told steps_refusal (count_mild 1 most_steps) (steps_at (length forms) (length lines))
    (step_item (length forms) (length lines)) λ before.
    lined_as (omega arith) (λ x. omega arith)
    (line_lined step_line (row_own "step=" step_kinds refl step_kinds_neat refl) step_told step_refusal step_mild
    (step_at (length forms) (length lines) (suc (length before))))) λ steps.
    done_lined _ _ _ (omega arith)))

-- and from the first on.
logic_lined : (version : ℕ) → Lined (read_logic version) logic_at (λ l. logic_at + extra_lines version)
unfolding read_logic
logic_lined version = go (has_logic version)
  where
    go : (b : Bool) → Lined (cond b (line logic_line (λ l. 0) logic_at) (done plain)) logic_at (λ l. logic_at + cond b 1 0)
    go true = line_lined logic_line logic_own logic_told (λ l. 0) (λ l. mild_none) logic_at
    go false = done_lined plain logic_at _ refl

request_lined : Lined request_lines version_at behind
unfolding request_lines line_stop word_stop byte_stop free
request_lined =
    then_lined (line_lined version_line (number_own "version=" refl refl) version_told version_refusal (count_mild 1 most_version) version_at) λ version.
    then_lined (logic_lined version) λ logic.
    lined_told (behind_told version logic) (further_lined (extra_lines version) (body_lined version logic))

-- A line of the right shape for the place i behind the lines before it: its LF is its only one and its last byte, and the text up to it is not
-- refused 2 there.
pub record RightShape (before : List ℕ) (i : ℕ) (t : List ℕ) : Type 0 where
  pub line : List ℕ
  pub ended : cut 10 t ≡ parts line []
  pub shaped : (c : ℕ) → ¬ (read_request (before ++ t) ≡ refused (told 2 i c))

two_back : (x : Read Request) (i c : ℕ) → ended x ≡ refused (told 2 i c) → x ≡ bad (told 2 i c)
unfolding ended further_down
two_back (ok q []) i c e = never cc
two_back (ok q (b ∷ rest)) i c e =
    let z : ◌≡◌ {A = ℕ} 6 2 = cc in
    absurd (omega arith)
two_back (bad a) i c e = cc

two_there : (x : Read Request) (i c : ℕ) → x ≡ bad (told 2 i c) → ended x ≡ refused (told 2 i c)
unfolding ended
two_there x i c e = rw e refl

-- A text that is refused 2 with a column has that column in the line that the place names (`Before` parts the text there), and it is at most 22.
pub text_column :
    (s : List ℕ) (i c : ℕ) → read_request s ≡ refused (told 2 i c) → (b : Before s i) × Column (RightShape b.before i) b.rest c × (c ≤ 22)
unfolding read_request
text_column s i c e =
    let a = request_lined.columned.columns s i c (two_back (request_lines s) i c e) in (
      record { before = a.before; rest = a.rest; parted = a.parted; lines = a.lines; place = omega (arith, a.place) },
      column_alike
          (λ t r.
          record { line = r.bytes; ended = r.ended; shaped = λ n h. r.shaped n (two_back (request_lines (a.before ++ t)) i n h) })
          (λ t r.
          record { bytes = r.line; ended = r.ended; shaped = λ n h. r.shaped n (two_there (request_lines (a.before ++ t)) i n h) })
          a.column,
      a.few,
    )

-- A text with any other refusal has column 0.
pub other_column : (s : List ℕ) (k i c : ℕ) → read_request s ≡ refused (told k i c) → ¬ (k ≡ 2) → c ≡ 0
other_column s k i c e h = go (refused_where s k i c e)
  where
    of : OfLine k c → c ≡ 0
    of (shape z p) = absurd (h z)
    of (in_shape_lem m z) = z

    go : Where s k i c → c ≡ 0
    go (of_line b n d w) = of n
    go (of_rest b q z x d) = x

-- What the place of a reader's refusal says: the line that met it (`Where`). A line's number is 1 and the LFs before it; up to that line
-- nothing is refused, for the text cut off before it is short of just that line; and nothing behind that line matters.
use Rattle.std.specs.Prelude.{ℕ, suc, ◌+◌, ◌≡◌, List, ◌∷◌, ◌++◌, true, length}
use Rattle.std.proofs.Common.{sym, ap}
use Rattle.scope.specs.Call.Result.{result, refused}
use Rattle.scope.specs.Logic.Facts.{Logic}
use Rattle.scope.specs.File.Request.{Request}
use Rattle.scope.specs.Call.Answer.{told}
use Rattle.scope.specs.File.Line.{ok, parts, cut, line, counted, ◌>>=◌, further}
use Rattle.scope.specs.File.Refusals.{principals_refusal, atoms_refusal, formulas_refusal, clauses_refusal, goal_refusal, steps_refusal}
use Rattle.scope.specs.File.Text.{principals_line, atoms_line, formulas_line, clauses_line, goal_line, steps_line}
use Rattle.scope.specs.File.Reader.{form_item, clause_item, step_item, body_lines, read_request}
use Rattle.scope.specs.Limits.{extra_lines, principals_at, atoms_at, formulas_at, clauses_at, goal_at, steps_at, end_at}
use Rattle.trip.specs.LineRefusals.{OfLine}
use Rattle.trip.specs.Several.{after_back, moved_back}
use Rattle.trip.specs.LinePlaces.{lfs, whole}

-- A text parted before its line i.
pub record Before (s : List ℕ) (i : ℕ) : Type 0 where
  pub before : List ℕ
  pub rest : List ℕ
  pub parted : s ≡ before ++ rest
  pub lines : whole before ≡ true
  pub place : i ≡ suc (lfs before)

-- What a refusal k at line i, with a column, says of a text.
pub data Where (s : List ℕ) (k i column : ℕ) : Type 0 where
  -- of the line: cut off before it, the text is short of just that line; and whatever stands behind its LF, the refusal is the same
  of_line :
      (b : Before s i) → OfLine k column → read_request b.before ≡ refused (told 2 i 1) →
      ((l r : List ℕ) → cut 10 b.rest ≡ parts l r → (t : List ℕ) → read_request (b.before ++ (l ++ 10 ∷ t)) ≡ refused (told k i column)) →
      Where s k i column
  -- of what follows the last step: cut off before it, the text reads
  of_rest : (b : Before s i) (q : Request) → k ≡ 6 → column ≡ 0 → read_request b.before ≡ result q → Where s k i column

-- They keep the version that they are told.
same_version : (p q : Request) (r t : List ℕ) → ok p r ≡ ok q t → q.version ≡ p.version
same_version p q r t e =
    let z : p ≡ q = cc in
    ap (λ x. x.version) (sym z)

body_keeps : (version : ℕ) (logic : Logic) (s : List ℕ) (q : Request) (rest : List ℕ) → body_lines version logic s ≡ ok q rest → q.version ≡ version
unfolding body_lines ◌>>=◌
body_keeps version logic s q rest e =
    let p = after_back (line principals_line principals_refusal principals_at s) _ q rest e in
    let a = after_back (line atoms_line atoms_refusal atoms_at p.middle) _ q rest p.ended in
    let f = after_back (counted formulas_line formulas_refusal formulas_at (form_item p.first a.first) a.middle) _ q rest a.ended in
    let nf = length f.first in
    let c = after_back (counted clauses_line clauses_refusal (clauses_at nf) (clause_item f.first) f.middle) _ q rest f.ended in
    let nl = length c.first in
    let g = after_back (line goal_line (goal_refusal f.first) (goal_at nf nl) c.middle) _ q rest c.ended in
    let n = after_back (counted steps_line steps_refusal (steps_at nf nl) (step_item nf nl) g.middle) _ q rest g.ended in
    same_version _ q n.middle rest n.ended

-- The lines of a request, from the first on; the line behind them is one further down in version 2.
abbrev pub behind : Request → ℕ
behind q = end_at (length q.forms) (length q.policy) (length q.steps) + extra_lines q.version

pub behind_told : (version : ℕ) (logic : Logic) (s : List ℕ) (q : Request) (rest : List ℕ) →
    further (extra_lines version) (body_lines version logic) s ≡ ok q rest →
    behind q ≡ end_at (length q.forms) (length q.policy) (length q.steps) + extra_lines version
unfolding further
behind_told version logic s q rest e =
    let k = body_keeps version logic s q rest (moved_back (extra_lines version) (body_lines version logic s) q rest e) in
    ap (λ v. end_at (length q.forms) (length q.policy) (length q.steps) + extra_lines v) k

-- The refusals that a line can meet: 2 where it is out of shape or missing; in shape 3, 4, 15 or 5, whichever line it is.
use Rattle.std.specs.Prelude.{ℕ, zero, suc, ◌<◌, ◌≡◌, refl, List, Bool, true, false, leb, ltb, length}
use Rattle.std.proofs.Common.{arith}
use Rattle.scope.specs.Logic.Form.{both, negate}
use Rattle.scope.specs.Call.Answer.{column_for}
use Rattle.scope.specs.File.Request.{Row, policy_class, goal_class}
use Rattle.scope.specs.File.Kinds.{Kind, kind_in, operands_of, form_kinds, step_kinds}
use Rattle.scope.specs.File.Refusals.{demand, in_range, is_earlier, pass, rest_zero, count_refusal, row_refusal, is_among, first_of, form_refusal, step_refusal, clause_refusal, goal_refusal}

-- 'number outside its range'; 'formula names itself or a later one'; 'two equal `form=` lines'; 'policy line or goal of the wrong class'
pub data InShape (k : ℕ) : Type 0 where
  range : k ≡ 3 → InShape k
  later : k ≡ 4 → InShape k
  twice : k ≡ 15 → InShape k
  class : k ≡ 5 → InShape k

-- With the column: from 1 where the line is out of shape, else 0.
pub data OfLine (k column : ℕ) : Type 0 where
  shape : k ≡ 2 → 0 < column → OfLine k column
  in_shape_lem : InShape k → column ≡ 0 → OfLine k column

-- A refusal of a line in shape, where it has one.
abbrev pub Mild : ℕ → Type 0
Mild n = 0 < n → InShape n

-- It has no column.
shaped_column : (k column : ℕ) → InShape k → column_for k column ≡ 0
unfolding column_for
shaped_column k column (range e) = rw e refl
shaped_column k column (later e) = rw e refl
shaped_column k column (twice e) = rw e refl
shaped_column k column (class e) = rw e refl

pub mild_column : (k column : ℕ) → Mild (suc k) → column_for (suc k) column ≡ 0
mild_column k column m = shaped_column (suc k) column (m (omega arith))

pub shape_column : (k column : ℕ) → k ≡ 2 → OfLine k (column_for k (suc column))
unfolding column_for
shape_column k column e = shape e (rw e (omega arith))

pub mild_none : Mild 0
mild_none h = absurd (omega arith)

mild_demand : (t : Bool) (k n : ℕ) → InShape k → Mild n → Mild (demand t k n)
unfolding demand
mild_demand true k n s m = m
mild_demand false k n s m = λ h. s

mild_first : (k n : ℕ) → Mild k → Mild n → Mild (first_of k n)
unfolding first_of
mild_first zero n p q = q
mild_first (suc k) n p q = p

pub count_mild : (least most n : ℕ) → Mild (count_refusal least most n)
unfolding count_refusal
count_mild least most n = mild_demand (both (leb least n) (leb n most)) 3 0 (range refl) mild_none

pub row_mild : (ks : List Kind) (principals atoms i : ℕ) (r : Row) → Mild (row_refusal ks principals atoms i r)
unfolding row_refusal
row_mild ks principals atoms i r =
    let operands = (kind_in ks r.kind).operands in
    mild_demand (ltb r.kind (length ks)) 3 _ (range refl)
    (mild_demand (rest_zero operands (operands_of r)) 3 _ (range refl)
    (mild_demand (pass (in_range principals atoms) operands (operands_of r)) 3 _ (range refl)
    (mild_demand (pass (is_earlier i) operands (operands_of r)) 4 0 (later refl) mild_none)))

pub form_mild : (principals atoms : ℕ) (before : List Row) (r : Row) → Mild (form_refusal principals atoms before r)
unfolding form_refusal
form_mild principals atoms before r =
    mild_first (row_refusal form_kinds principals atoms (length before) r) _ (row_mild form_kinds principals atoms (length before) r)
    (mild_demand (negate (is_among r before)) 15 0 (twice refl) mild_none)

pub step_mild : (r : Row) → Mild (step_refusal r)
unfolding step_refusal
step_mild r = row_mild step_kinds 0 0 0 r

pub clause_mild : (forms : List Row) (f : ℕ) → Mild (clause_refusal forms f)
unfolding clause_refusal
clause_mild forms f = mild_demand (ltb f (length forms)) 3 _ (range refl) (mild_demand (policy_class forms f) 5 0 (class refl) mild_none)

pub goal_mild : (forms : List Row) (f : ℕ) → Mild (goal_refusal forms f)
unfolding goal_refusal
goal_mild forms f = mild_demand (ltb f (length forms)) 3 _ (range refl) (mild_demand (goal_class forms f) 5 0 (class refl) mild_none)

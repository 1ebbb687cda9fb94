-- 'Of a line in shape': its refusals 3, 4 and 5, and 15 of document 02. Reader, writer and judge alike ask these.
use Rattle.std.specs.Prelude.{ℕ, zero, suc, List, [], ◌∷◌, Bool, true, false, leb, ltb, eqb, length}
use Rattle.scope.specs.Logic.Facts.{Logic, is_unit}
use Rattle.scope.specs.Logic.Form.{both, either, negate}
use Rattle.scope.specs.File.Request.{Row, policy_class, goal_class}
use Rattle.scope.specs.Limits.{most_version, most_principals, most_atoms, most_formulas, most_policy_lines, most_steps, most_step_number}
use Rattle.scope.specs.File.Kinds.{Sort, atom_number, principal_number, formula_number, clause_number, world_number, Kind, kind_in, operands_of, form_kinds, step_kinds}

-- What is demanded, the refusal where it fails, and what is asked after it.
unfoldable pub demand : Bool → ℕ → ℕ → ℕ
demand true k next = next
demand false k next = k

-- 'a count outside the table above'; l) 'a version above 2 or equal to 0'
unfoldable pub count_refusal : ℕ → ℕ → ℕ → ℕ
unfolding both demand
count_refusal least most n = demand (both (leb least n) (leb n most)) 3 0

abbrev pub version_refusal : ℕ → ℕ
version_refusal = count_refusal 1 most_version

-- l) 'unit told with version 1 is 16': of lent tables alone, for a file of version 1 tells no logic.
unfoldable pub unit_refusal : ℕ → Logic → ℕ
unfolding both demand negate
unit_refusal version logic = demand (negate (both (eqb version 1) (is_unit logic))) 16 0

abbrev pub principals_refusal : ℕ → ℕ
principals_refusal = count_refusal 1 most_principals

abbrev pub atoms_refusal : ℕ → ℕ
atoms_refusal = count_refusal 1 most_atoms

abbrev pub formulas_refusal : ℕ → ℕ
formulas_refusal = count_refusal 1 most_formulas

abbrev pub clauses_refusal : ℕ → ℕ
clauses_refusal = count_refusal 0 most_policy_lines

abbrev pub steps_refusal : ℕ → ℕ
steps_refusal = count_refusal 1 most_steps

-- 'a principal or atom number not below its count .. and a step number over 65,535'
unfoldable pub in_range : ℕ → ℕ → Sort → ℕ → Bool
in_range principals atoms atom_number x = ltb x atoms
in_range principals atoms principal_number x = ltb x principals
in_range principals atoms formula_number x = true
in_range principals atoms clause_number x = leb x most_step_number
in_range principals atoms world_number x = leb x most_step_number

-- 'A formula may name only earlier formulas.'
unfoldable pub is_earlier : ℕ → Sort → ℕ → Bool
is_earlier i atom_number x = true
is_earlier i principal_number x = true
is_earlier i formula_number x = ltb x i
is_earlier i clause_number x = true
is_earlier i world_number x = true

-- Every operand that a kind has passes a test.
unfoldable pub pass : (Sort → ℕ → Bool) → List Sort → List ℕ → Bool
unfolding both
pass test [] ns = true
pass test (o ∷ os) [] = true
pass test (o ∷ os) (n ∷ ns) = both (test o n) (pass test os ns)

-- Every operand that a kind lacks is 0.
unfoldable pub rest_zero : List Sort → List ℕ → Bool
unfolding both
rest_zero os [] = true
rest_zero [] (n ∷ ns) = both (eqb n 0) (rest_zero [] ns)
rest_zero (o ∷ os) (n ∷ ns) = rest_zero os ns

-- 3 before 4. The first two are of lent tables alone: 'an unknown kind, or a nonzero unused operand, is 3'.
unfoldable pub row_refusal : List Kind → ℕ → ℕ → ℕ → Row → ℕ
unfolding demand kind_in in_range is_earlier pass rest_zero
row_refusal ks principals atoms i r =
    demand (ltb r.kind (length ks)) 3
    (demand (rest_zero (kind_in ks r.kind).operands (operands_of r)) 3
    (demand (pass (in_range principals atoms) (kind_in ks r.kind).operands (operands_of r)) 3
    (demand (pass (is_earlier i) (kind_in ks r.kind).operands (operands_of r)) 4 0)))

-- 'Two equal `form=` lines': the same kind and the same operands.
unfoldable pub same_row : Row → Row → Bool
unfolding both
same_row a b = both (eqb a.kind b.kind) (both (eqb a.left b.left) (eqb a.right b.right))

unfoldable pub is_among : Row → List Row → Bool
unfolding either same_row
is_among r [] = false
is_among r (x ∷ xs) = either (same_row x r) (is_among r xs)

-- The first refusal that is met, 0 where there is none.
unfoldable pub first_of : ℕ → ℕ → ℕ
first_of zero next = next
first_of (suc k) next = suc k

-- Of a formula behind the formulas before it. 'Refuse the second .. 15 at the line of the second, after 2, 3 and 4 on the same line.'
unfoldable pub form_refusal : ℕ → ℕ → List Row → Row → ℕ
unfolding row_refusal form_kinds demand negate is_among first_of
form_refusal principals atoms before r =
    first_of (row_refusal form_kinds principals atoms (length before) r) (demand (negate (is_among r before)) 15 0)

-- A step names no principal, no atom and no formula.
unfoldable pub step_refusal : Row → ℕ
unfolding row_refusal step_kinds
step_refusal r = row_refusal step_kinds 0 0 0 r

-- 'a `clause=` or `goal=` number not below the count of formulas'; 'policy line or goal of the wrong class'
unfoldable pub clause_refusal : List Row → ℕ → ℕ
unfolding demand policy_class
clause_refusal forms f = demand (ltb f (length forms)) 3 (demand (policy_class forms f) 5 0)

unfoldable pub goal_refusal : List Row → ℕ → ℕ
unfolding demand goal_class
goal_refusal forms f = demand (ltb f (length forms)) 3 (demand (goal_class forms f) 5 0)

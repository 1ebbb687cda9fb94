-- What a row without refusal tells (`row_passed`): its kind is known, it has no operand that its kind lacks, and each operand that its
-- kind has is below what its sort counts.
use Rattle.std.specs.Prelude.{ℕ, zero, suc, ◌<◌, ◌≡◌, refl, Bool, true, false, ltb, length}
use mathlib.Core.List.{List, [], ◌∷◌}
use Rattle.std.proofs.Common.{arith}
use borrow.Author.Tests.{leb-true, ltb-true}
use Rattle.scope.specs.Limits.{most_step_number}
use Rattle.scope.specs.File.Request.{Row}
use Rattle.scope.specs.File.Kinds.{Sort, atom_number, principal_number, formula_number, clause_number, world_number, Kind, kind_in, operands_of, form_kinds}
use Rattle.scope.specs.Logic.Form.{negate}
use Rattle.scope.specs.File.Refusals.{demand, in_range, is_earlier, pass, rest_zero, row_refusal, is_among, first_of, form_refusal}
use Rattle.scope.specs.Tools.Tests.{never, both_true, demand_met}

-- How many numbers of a sort there are for row i.
abbrev pub count_of : ℕ → ℕ → ℕ → Sort → ℕ
count_of principals atoms i atom_number = atoms
count_of principals atoms i principal_number = principals
count_of principals atoms i formula_number = i
count_of principals atoms i clause_number = suc most_step_number
count_of principals atoms i world_number = suc most_step_number

-- Each operand that a kind has is below a count of its sort.
abbrev pub Below : (Sort → ℕ) → List Sort → List ℕ → Type 0
Below count [] ns = Unit
Below count (o ∷ os) [] = Unit
Below count (o ∷ os) (n ∷ ns) = (n < count o) × Below count os ns

pub record Passed (ks : List Kind) (principals atoms i : ℕ) (r : Row) : Type 0 where
  pub known : r.kind < length ks
  pub lacking : rest_zero (kind_in ks r.kind).operands (operands_of r) ≡ true
  pub below : Below (count_of principals atoms i) (kind_in ks r.kind).operands (operands_of r)

module _ (principals atoms i : ℕ) where
  one_below : (o : Sort) (n : ℕ) → in_range principals atoms o n ≡ true → is_earlier i o n ≡ true → n < count_of principals atoms i o
  unfolding in_range is_earlier
  one_below atom_number n p q = ltb-true n atoms p
  one_below principal_number n p q = ltb-true n principals p
  one_below formula_number n p q = ltb-true n i q
  one_below clause_number n p q = omega (arith, leb-true n most_step_number p)
  one_below world_number n p q = omega (arith, leb-true n most_step_number p)

  all_below :
      (os : List Sort) (ns : List ℕ) → pass (in_range principals atoms) os ns ≡ true → pass (is_earlier i) os ns ≡ true
      → Below (count_of principals atoms i) os ns
  unfolding pass
  all_below [] ns p q = tt
  all_below (o ∷ os) [] p q = tt
  all_below (o ∷ os) (n ∷ ns) p q =
      let a = both_true (in_range principals atoms o n) (pass (in_range principals atoms) os ns) p in
      let b = both_true (is_earlier i o n) (pass (is_earlier i) os ns) q in
      (one_below o n a.0 b.0, all_below os ns a.1 b.1)

  pub row_passed : (ks : List Kind) (r : Row) → row_refusal ks principals atoms i r ≡ 0 → Passed ks principals atoms i r
  unfolding row_refusal
  row_passed ks r e =
      let os = (kind_in ks r.kind).operands in
      let a = demand_met (ltb r.kind (length ks)) 2 _ e in
      let b = demand_met (rest_zero os (operands_of r)) 2 _ a.1 in
      let c = demand_met (pass (in_range principals atoms) os (operands_of r)) 2 _ b.1 in
      let d = demand_met (pass (is_earlier i) os (operands_of r)) 3 0 c.1 in
      record { known = ltb-true r.kind (length ks) a.0; lacking = b.0; below = all_below os (operands_of r) c.0 d.0 }

-- A formula without refusal: its row is, and it is none of those before it.
pub record NewRow (principals atoms : ℕ) (before : List Row) (r : Row) : Type 0 where
  pub row : row_refusal form_kinds principals atoms (length before) r ≡ 0
  pub new : is_among r before ≡ false

negate_false : (t : Bool) → negate t ≡ true → t ≡ false
unfolding negate
negate_false true e = never cc
negate_false false e = refl

pub form_passed : (principals atoms : ℕ) (before : List Row) (r : Row) → form_refusal principals atoms before r ≡ 0 → NewRow principals atoms before r
unfolding form_refusal first_of
form_passed principals atoms before r e = go (row_refusal form_kinds principals atoms (length before) r) refl e
  where
    go : (k : ℕ) → row_refusal form_kinds principals atoms (length before) r ≡ k → first_of k (demand (negate (is_among r before)) 15 0) ≡ 0 →
        NewRow principals atoms before r
    go zero row h = record { row = row; new = negate_false (is_among r before) (demand_met (negate (is_among r before)) 14 0 h).0 }
    go (suc k) row h = absurd (omega arith)

-- What is without refusal is small: a count, the number of a policy line or goal, and a row, which can so be said: its kind is known, it
-- has no operand that its kind lacks, and each number has at most five digits.
use Rattle.std.specs.Prelude.{ℕ, ◌<◌, ◌≤◌, ◌≡◌, List, [], ◌∷◌, true, eqb, leb, ltb, length}
use Rattle.std.proofs.Common.{arith, eqb-true, leb-true, ltb-true}
use Rattle.scope.specs.Logic.Form.{both}
use Rattle.scope.specs.File.Request.{Row}
use Rattle.scope.specs.File.Kinds.{Sort, atom_number, principal_number, formula_number, clause_number, world_number, Kind, kind_in}
use Rattle.scope.specs.File.Refusals.{rest_zero, row_refusal, count_refusal, clause_refusal, goal_refusal}
use Rattle.scope.specs.Tools.Tests.{both_true, demand_met}
use Rattle.trip.specs.Words.{Neat, neat_kind}
use Rattle.trip.specs.Rows.{SayableRow}
use Rattle.trip.specs.RowRanges.{count_of, Below, row_passed}

pub record Counted (least most n : ℕ) : Type 0 where
  pub low : least ≤ n
  pub high : n ≤ most

pub count_passed : (least most n : ℕ) → count_refusal least most n ≡ 0 → Counted least most n
unfolding count_refusal
count_passed least most n e =
    let p = both_true (leb least n) (leb n most) (demand_met (both (leb least n) (leb n most)) 2 0 e).0 in
    record { low = leb-true least n p.0; high = leb-true n most p.1 }

-- A policy line or goal without refusal names a formula.
pub clause_named : (forms : List Row) (f : ℕ) → clause_refusal forms f ≡ 0 → f < length forms
unfolding clause_refusal
clause_named forms f e = ltb-true f (length forms) (demand_met (ltb f (length forms)) 2 _ e).0

pub goal_named : (forms : List Row) (f : ℕ) → goal_refusal forms f ≡ 0 → f < length forms
unfolding goal_refusal
goal_named forms f e = ltb-true f (length forms) (demand_met (ltb f (length forms)) 2 _ e).0

-- The counts under which a row is judged are small.
pub record Under (principals atoms i : ℕ) : Type 0 where
  pub principals_small : principals ≤ 100000
  pub atoms_small : atoms ≤ 100000
  pub number_small : i ≤ 100000

count_small : (np na i : ℕ) (o : Sort) → Under np na i → count_of np na i o ≤ 100000
count_small np na i atom_number u = u.atoms_small
count_small np na i principal_number u = u.principals_small
count_small np na i formula_number u = u.number_small
count_small np na i clause_number u = omega arith
count_small np na i world_number u = omega arith

record TwoSmall (l r : ℕ) : Type 0 where
  left : l < 100000
  right : r < 100000

operands_small :
    (count : Sort → ℕ) (l r : ℕ) (os : List Sort) → ((o : Sort) → count o ≤ 100000) → length os ≤ 2 → rest_zero os (l ∷ r ∷ []) ≡ true
    → Below count os (l ∷ r ∷ []) → TwoSmall l r
unfolding rest_zero
operands_small count l r [] u h z b =
    let a = both_true (eqb l 0) (both (eqb r 0) true) z in
    let x = eqb-true l 0 a.0 in
    let y = eqb-true r 0 (both_true (eqb r 0) true a.1).0 in
    record { left = omega arith; right = omega arith }
operands_small count l r (o ∷ []) u h z b =
    let y = eqb-true r 0 (both_true (eqb r 0) true z).0 in
    record { left = omega (arith, u o, b.0); right = omega arith }
operands_small count l r (o ∷ o' ∷ []) u h z b =
    record { left = omega (arith, u o, b.0); right = omega (arith, u o', b.1.0) }
operands_small count l r (o ∷ o' ∷ o'' ∷ os) u h z b = absurd (omega arith)

pub row_sayable :
    (ks : List Kind) (principals atoms i : ℕ) (r : Row) → Neat ks → Under principals atoms i
    → row_refusal ks principals atoms i r ≡ 0 → SayableRow ks r
row_sayable ks np na i r n u e =
    let p = row_passed np na i ks r e in
    let c = neat_kind ks r.kind n p.known in
    let s = operands_small (count_of np na i) r.left r.right (kind_in ks r.kind).operands (λ o. count_small np na i o u) c.few p.lacking p.below in
    record { known = p.known; lacking = p.lacking; left_small = s.left; right_small = s.right }

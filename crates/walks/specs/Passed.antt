-- What the checks of lent tables leave for the walk: few principals and policy lines, each formula's row without refusal, and policy lines
-- and a goal that name formulas.
use Rattle.std.specs.Prelude.{ℕ, ◌<◌, ◌≤◌, ◌≡◌, List, [], length, get_or, take}
use Rattle.std.proofs.Common.{arith, length-take-le}
use Rattle.scope.specs.File.Request.{Row}
use Rattle.scope.specs.File.Kinds.{form_kinds}
use Rattle.scope.specs.File.Refusals.{form_refusal}
use Rattle.scope.specs.Call.Tables.{Lent, form_entry, policy_entry, unpack, request_of}
use Rattle.scope.specs.Tools.Unpack.{unpack_length}
use Rattle.trip.specs.RowRanges as ranges
use Rattle.trip.specs.RowRanges.{row_passed, form_passed}
use Rattle.trip.specs.Small.{count_passed, clause_named, goal_named}
use Rattle.trip.specs.Several.{Each, each_at}
use Rattle.trip.specs.File.{Unrefused}
use Rattle.walks.specs.Unpacked.{row_of, form_at_lem, line_at}

pub record Passed (t : Lent) : Type 0 where
  pub few_principals : t.principals ≤ 16
  pub each_row : (f : ℕ) → f < t.formulas → ranges.Passed form_kinds t.principals t.atoms f (row_of t.form_table f)
  pub few_lines : t.policy ≤ 128
  pub each_line : (i : ℕ) → i < t.policy → get_or t.policy_table i 0 < t.formulas
  pub goal_named : t.goal < t.formulas

row_at_lem : (k n : ℕ) (rs : List Row) → Each (λ before r. form_refusal k n before r ≡ 0) (length rs) [] rs →
    (f : ℕ) (d : Row) → f < length rs → ranges.Passed form_kinds k n f (get_or rs f d)
row_at_lem k n rs each f d h =
    let front : length (take f rs) ≡ f = length-take-le f rs (omega arith) in
    row_passed k n f form_kinds (get_or rs f d) (rw front at (form_passed k n (take f rs) (get_or rs f d) (each_at each d f h)).row)

pub unrefused_passed : (t : Lent) → Unrefused (request_of t) → Passed t
unfolding request_of
unrefused_passed t s =
    let nf = unpack_length form_entry t.formulas t.form_table in
    let nl = unpack_length policy_entry t.policy t.policy_table in
    record {
      few_principals = (count_passed 1 16 t.principals s.principals).high;
      each_row =
          λ f h.
          rw (form_at_lem t.formulas f t.form_table (row_of [] 0) h) at
          (row_at_lem t.principals t.atoms _ s.forms f (row_of [] 0) (rw nf h));
      few_lines = rw nl at (count_passed 0 128 _ s.clauses).high;
      each_line =
          λ i h.
          let low : i < length (unpack policy_entry t.policy t.policy_table) = rw nl h in
          rw (line_at t.policy i t.policy_table h, nf) at
          (clause_named _ _ (each_at s.policy 0 i low));
      goal_named = rw nf at (goal_named _ _ s.goal);
    }

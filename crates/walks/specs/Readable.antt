-- A form table that passed the checks means trees: `row_means` for one row, `passed_means` and `reading_of` for the table.
use Prim.Native.Nat.{ℕ, zero, suc, ◌<◌}
use Rattle.std.specs.Prelude.{◌≡◌, List, [], length, get_or, take}
use Rattle.std.proofs.Common.{arith, get_or-take}
use Rattle.scope.specs.Logic.Form.{Form, top}
use Rattle.scope.specs.File.Request.{Row, row_form, forms_after, formula}
use Rattle.scope.specs.File.Kinds.{kind_in, form_kinds}
use Rattle.scope.specs.Call.Tables.{Lent, form_entry, unpack}
use Rattle.scope.specs.Tools.Unpack.{unpack_length}
use Rattle.trip.specs.RowRanges as ranges
use Rattle.common.specs.Rows.{row_at}
use Rattle.walks.specs.Trees.{Means, means_atom, means_top, means_bot, means_and, means_or, means_imp, means_says, means_sf, Reading}
use Rattle.walks.specs.Trees.{tree_row}
use Rattle.walks.specs.Unpacked.{form_at_lem}
use Rattle.walks.specs.Passed.{Passed}

abbrev row : ℕ → ℕ → ℕ → Row
row kind l r = record { kind = kind; left = l; right = r }

module _ (k atoms : ℕ) (all : List Form) (F i : ℕ) (inside : i < F) where
  abbrev tree : ℕ → Form
  tree x = get_or all x top

  before : (x : ℕ) → x < i → (x < F) × (get_or (take i all) x top ≡ tree x)
  before x h = (omega arith, get_or-take i all x top h)

  row_means : (kind l r : ℕ) → ranges.Passed form_kinds k atoms i (row kind l r) → Means k F tree kind l r (row_form (take i all) (row kind l r))
  unfolding row_form kind_in form_kinds
  row_means zero l r p = means_atom
  row_means (suc zero) l r p = means_top
  row_means (suc (suc zero)) l r p = means_bot
  row_means (suc (suc (suc zero))) l r p =
      let a = before l p.below.0 in
      let b = before r p.below.1.0 in
      rw (a.1, b.1) (means_and a.0 b.0)
  row_means (suc (suc (suc (suc zero)))) l r p =
      let a = before l p.below.0 in
      let b = before r p.below.1.0 in
      rw (a.1, b.1) (means_or a.0 b.0)
  row_means (suc (suc (suc (suc (suc zero))))) l r p =
      let a = before l p.below.0 in
      let b = before r p.below.1.0 in
      rw (a.1, b.1) (means_imp a.0 b.0)
  row_means (suc (suc (suc (suc (suc (suc zero)))))) l r p =
      let b = before r p.below.1.0 in
      rw b.1 (means_says p.below.0 b.0)
  row_means (suc (suc (suc (suc (suc (suc (suc zero))))))) l r p = means_sf p.below.0 p.below.1.0
  row_means (suc (suc (suc (suc (suc (suc (suc (suc kind)))))))) l r p = absurd (omega (arith, p.known))

pub passed_means : (t : Lent) → Passed t → (f : ℕ) → f < t.formulas →
    Means t.principals t.formulas (formula (unpack form_entry t.formulas t.form_table))
    (row_at t.form_table f).kind (row_at t.form_table f).left (row_at t.form_table f).right
    (formula (unpack form_entry t.formulas t.form_table) f)
unfolding formula
passed_means t p f h =
    let rows : List Row = unpack form_entry t.formulas t.form_table in
    let r = row_at t.form_table f in
    let here : f < length (unpack form_entry t.formulas t.form_table) = rw unpack_length h in
    rw (tree_row rows f (row 0 0 0) here, form_at_lem t.formulas f t.form_table (row 0 0 0) h)
    (row_means t.principals t.atoms (forms_after [] rows) t.formulas f h r.kind r.left r.right (p.each_row f h))

-- The reading of the form table of lent tables that passed.
abbrev pub reading_of : (t : Lent) → Passed t → Reading
reading_of t p =
    record {
      logic = t.logic;
      table = t.form_table;
      principals = t.principals;
      formulas = t.formulas;
      tree = formula (unpack form_entry t.formulas t.form_table);
      few = p.few_principals;
      means = passed_means t p;
    }

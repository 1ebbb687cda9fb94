-- A request whose lines are without refusal names only its own principals and atoms.
use Rattle.std.specs.Prelude.{ℕ, ◌≡◌, List, length}
use Rattle.scope.specs.File.Request.{Row}
use Rattle.scope.specs.File.Kinds.{kind_in, form_kinds, operands_of}
use Rattle.scope.specs.File.Refusals.{form_refusal}
use Rattle.trip.specs.Several.{Each, none_left, one_more}
use Rattle.trip.specs.RowRanges.{count_of, Below, Passed, row_passed, form_passed}
use Rattle.sound.specs.Over.{All}
use Rattle.sound.specs.Rows.{RowOk}

of_kind : (k n i : ℕ) (r : Row) → Passed form_kinds k n i r → (c : ℕ) → r.kind ≡ c →
    Below (count_of k n i) (kind_in form_kinds c).operands (operands_of r)
of_kind k n i r p c z = rw z at p.below

row_ok : (k n i : ℕ) (r : Row) → Passed form_kinds k n i r → RowOk k n r
unfolding kind_in form_kinds
row_ok k n i r p =
    record {
      atom_in = λ z. (of_kind k n i r p 0 z).0;
      says_in = λ z. (of_kind k n i r p 6 z).0;
      sf_left_in = λ z. (of_kind k n i r p 7 z).0;
      sf_right_in = λ z. (of_kind k n i r p 7 z).1.0;
    }

row_in : (k n : ℕ) (before : List Row) (r : Row) → form_refusal k n before r ≡ 0 → RowOk k n r
row_in k n before r e = row_ok k n (length before) r (row_passed k n (length before) form_kinds r (form_passed k n before r e).row)

pub rows_in : (k n : ℕ) {c : ℕ} {before rs : List Row} → Each (λ b r. form_refusal k n b r ≡ 0) c before rs → All (RowOk k n) rs
rows_in k n none_left = tt
rows_in k n (one_more {before = b} {x = r} g e) = (row_in k n b r g, rows_in k n e)

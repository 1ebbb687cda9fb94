-- The rows of the formula table as the code has them: three numbers a formula, 0 past the end of the table.
use Rattle.std.specs.Prelude.{ℕ, ◌+◌, ◌*◌, List, [], ◌∷◌, Option, Some, None, get_or, set}
use Rattle.scope.specs.File.Request.{Row as FormRow}
use Rattle.common.specs.declared.rows.Row.{Row}
use Rattle.common.specs.declared.rows.FormKind.{FormKind}
use Rattle.common.specs.declared.rows.FormKind.TheVariants as kind

-- 'Kinds are numbered 0 to 7 in that order.'
unfoldable pub kind_number : FormKind → ℕ
kind_number kind.Atom = 0
kind_number kind.Top = 1
kind_number kind.Bot = 2
kind_number kind.And = 3
kind_number kind.Or = 4
kind_number kind.Imp = 5
kind_number kind.Says = 6
kind_number kind.Sf = 7

-- The kind of a number.
unfoldable pub kind_of : ℕ → Option FormKind
kind_of n =
    get_or
    (Some kind.Atom ∷ Some kind.Top ∷ Some kind.Bot ∷ Some kind.And ∷ Some kind.Or ∷ Some kind.Imp ∷ Some kind.Says ∷ Some kind.Sf ∷ [])
    n None

-- Document 01's row of the same numbers.
abbrev pub as_row : Row → FormRow
as_row r = record { kind = r.kind; left = r.left; right = r.right }

unfoldable pub row_at : List ℕ → ℕ → Row
row_at forms i = record { kind = get_or forms (3 * i) 0; left = get_or forms (3 * i + 1) 0; right = get_or forms (3 * i + 2) 0 }

unfoldable pub row_put : List ℕ → ℕ → Row → List ℕ
row_put forms i r = set (set (set forms (3 * i) r.kind) (3 * i + 1) r.left) (3 * i + 2) r.right

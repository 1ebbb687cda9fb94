-- `RowOk k n r`: the row's atom is below n and its principals are below k.
-- Document 01's other ranges for a row, its kind and its earlier formulas, are not needed here: `formula` reads `top` where they fail.
use Rattle.std.specs.Prelude.{ℕ, ◌<◌, ◌≡◌}
use Rattle.scope.specs.File.Request.{Row}

pub record RowOk (k n : ℕ) (r : Row) : Type 0 where
  -- p ATOM
  pub atom_in : r.kind ≡ 0 → r.left < n
  -- says PRINCIPAL F
  pub says_in : r.kind ≡ 6 → r.left < k
  -- sf PRINCIPAL PRINCIPAL
  pub sf_left_in : r.kind ≡ 7 → r.left < k
  pub sf_right_in : r.kind ≡ 7 → r.right < k

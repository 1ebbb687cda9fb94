-- The last four limits of the table in 'What the numbers count'.
use Rattle.std.specs.Prelude.{ℕ, suc, ◌+◌, Bool, true, List, [], ◌∷◌, length, leb}
use Rattle.scope.specs.Logic.Form.{both}
use Rattle.scope.specs.Limits.{most_worlds, most_clauses, most_open, most_chunks}
use Rattle.scope.specs.Logic.Obligation.{Phase, goal, chunks, focus, Obligation}

unfoldable pub chunk_count : Phase → ℕ
chunk_count (goal g) = 0
chunk_count (chunks c cs g) = suc (length cs)
chunk_count (focus d p w met) = 0

unfoldable pub met_count : Phase → ℕ
met_count (goal g) = 0
met_count (chunks c cs g) = 0
met_count (focus d p w met) = length met

-- Each obligation counts for itself and for the subgoals met in it.
unfoldable pub open_count : List Obligation → ℕ
unfolding met_count
open_count [] = 0
open_count (o ∷ os) = suc (met_count o.phase) + open_count os

-- Worlds, clauses and chunks of each obligation are within the limits.
unfoldable pub small : List Obligation → Bool
unfolding both chunk_count
small [] = true
small (o ∷ os) =
    both
    (both (leb o.sequent.sheet.worlds most_worlds)
    (both (leb (length o.sequent.clauses) most_clauses) (leb (chunk_count o.phase) most_chunks)))
    (small os)

-- Obligations os, with n more waiting behind them, keep the last four limits of the table.
unfoldable pub within : ℕ → List Obligation → Bool
unfolding both small open_count
within n os = both (small os) (leb (open_count os + n) most_open)

-- No limits.
unfoldable pub free : ℕ → List Obligation → Bool
free n os = true

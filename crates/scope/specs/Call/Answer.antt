-- 'What comes back': a refusal number of document 01, 0 where there is none, its place, and the column that d) of document 02 adds. Reader,
-- checks, writer, judge and gate all answer by it.
use Rattle.std.specs.Prelude.{ℕ, ◌+◌, cond, eqb}

pub data Answer : Type 0 where
  told : ℕ → ℕ → ℕ → Answer

-- 'For all other answers it is 0.'
abbrev pub answer : ℕ → ℕ → Answer
answer k place = told k place 0

-- 'for refusal 2 the column'
unfoldable pub column_for : ℕ → ℕ → ℕ
column_for k column = cond (eqb k 2) column 0

-- The same answer about a line that stands n lines further down.
unfoldable pub further_down : ℕ → Answer → Answer
further_down n (told k place column) = told k (place + n) column

unfoldable pub refusal_in : Answer → ℕ
refusal_in (told k p c) = k

unfoldable pub place_in : Answer → ℕ
place_in (told k p c) = p

unfoldable pub column_in : Answer → ℕ
column_in (told k p c) = c

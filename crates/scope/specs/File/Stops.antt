-- How many bytes of a text can stand, computed part by part: the bytes of a key or a word, a number, the items behind a word, the LF. Each
-- part is told how many can stand of what follows it. That the column of d), which is declared in Column, is one more: crate `columns`.
use Rattle.std.specs.Prelude.{ℕ, zero, suc, ◌+◌, List, [], ◌∷◌, cond, eqb, ltb, drop}
use Rattle.scope.specs.File.Number.{is_digit}

-- Nothing follows.
abbrev pub none_stop : List ℕ → ℕ
none_stop s = 0

unfoldable pub byte_stop : ℕ → (List ℕ → ℕ) → List ℕ → ℕ
byte_stop c next [] = 0
byte_stop c next (b ∷ s) = cond (eqb b c) (suc (next s)) 0

-- A key or a word.
unfoldable pub word_stop : List ℕ → (List ℕ → ℕ) → List ℕ → ℕ
unfolding byte_stop
word_stop [] next s = next s
word_stop (c ∷ w) next s = byte_stop c (word_stop w next) s

-- The LF.
unfoldable pub end_stop : List ℕ → ℕ
unfolding byte_stop
end_stop s = byte_stop 10 none_stop s

-- 'A number is 1 to 5 digits, no leading zero but in 0 itself': the most digits of a number with this first byte.
unfoldable pub most_digits : List ℕ → ℕ
most_digits [] = 0
most_digits (b ∷ s) = cond (eqb b 48) 1 5

-- The digits at the front, counted up to a most.
unfoldable pub digits_up_to : ℕ → List ℕ → ℕ
unfolding is_digit
digits_up_to zero s = 0
digits_up_to (suc m) [] = 0
digits_up_to (suc m) (b ∷ s) = cond (is_digit b) (suc (digits_up_to m s)) 0

-- Where the number reader stops: the place of the first byte that cannot go on; the length, where every byte can.
unfoldable pub number_stop : List ℕ → ℕ
unfolding most_digits digits_up_to
number_stop s = digits_up_to (most_digits s) s

-- A number, and what follows it: nothing stands where there is no digit.
unfoldable pub stopped_at : ℕ → (List ℕ → ℕ) → List ℕ → ℕ
stopped_at zero next s = 0
stopped_at (suc k) next s = suc k + next (drop (suc k) s)

unfoldable pub digits_stop : (List ℕ → ℕ) → List ℕ → ℕ
unfolding stopped_at number_stop
digits_stop next s = stopped_at (number_stop s) next s

-- 'Items are parted by one space': after a kind's word a space and a number for each operand, then the LF.
unfoldable pub items_stop : ℕ → List ℕ → ℕ
unfolding byte_stop end_stop digits_stop
items_stop zero s = end_stop s
items_stop (suc n) s = byte_stop 32 (digits_stop (items_stop n)) s

-- Of two the one that goes further.
unfoldable pub larger : ℕ → ℕ → ℕ
larger m n = cond (ltb m n) n m

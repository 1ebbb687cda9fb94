-- 'A number is 1 to 5 digits, no leading zero but in 0 itself.'
use Rattle.std.specs.Prelude.{ℕ, ◌+◌, ◌-◌, ◌*◌, ◌/◌, ◌%◌, List, [], ◌∷◌, Bool, false, cond, not, leb, ltb, eqb, length}
use Rattle.std.proofs.Math.Option.{Option, none, some}
use Rattle.scope.specs.Logic.Form.{both}

unfoldable pub is_digit : ℕ → Bool
unfolding both
is_digit b = both (leb 48 b) (leb b 57)

-- The value of digits that follow those of value v; none where another byte stands among them.
unfoldable pub digits : ℕ → List ℕ → Option ℕ
unfolding is_digit
digits v [] = some v
digits v (b ∷ s) = cond (is_digit b) (digits (v * 10 + (b - 48)) s) none

unfoldable pub leading_zero : List ℕ → Bool
leading_zero [] = false
leading_zero (b ∷ []) = false
leading_zero (b ∷ c ∷ s) = eqb b 48

unfoldable pub number : List ℕ → Option ℕ
unfolding both digits leading_zero
number s = cond (both (leb 1 (length s)) (both (leb (length s) 5) (not (leading_zero s)))) (digits 0 s) none

-- The writing of a number below 100,000.
unfoldable pub digit : ℕ → ℕ
digit n = 48 + n

unfoldable pub numeral : ℕ → List ℕ
unfolding digit
numeral n =
    cond
    (ltb n 10)
    (digit n ∷ [])
    (cond
    (ltb n 100)
    (digit (n / 10) ∷ digit (n % 10) ∷ [])
    (cond
    (ltb n 1000)
    (digit (n / 10 / 10) ∷ digit (n / 10 % 10) ∷ digit (n % 10) ∷ [])
    (cond
    (ltb n 10000)
    (digit (n / 10 / 10 / 10) ∷ digit (n / 10 / 10 % 10) ∷ digit (n / 10 % 10) ∷ digit (n % 10) ∷ [])
    (digit (n / 10 / 10 / 10 / 10) ∷
    digit (n / 10 / 10 / 10 % 10) ∷
    digit (n / 10 / 10 % 10) ∷
    digit (n / 10 % 10) ∷
    digit (n % 10) ∷
    []))))

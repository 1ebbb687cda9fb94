-- The text that the gate program prints: 'it prints the refusal number, the place, and the steps read', and request d)'s '`column=` as its
-- fourth line'. Assumes nothing.
use Rattle.std.specs.Prelude.{ℕ, ◌≡◌, List, [], ◌∷◌, ◌++◌}
use Prim.Native.String.{String}
use Prim.Native.String as Str
use Prim.Native.Char.{code}
use Rattle.io.specs.Digits.{last_digits, IsDigitCount}

abbrev pub bytes : String → List ℕ
bytes Str.[] = []
bytes (Str.◌∷◌ c s) = code c ∷ bytes s

-- A key, a number in decimal with no leading zero, and LF.
pub record Line (key : List ℕ) (number : ℕ) (line : List ℕ) : Type 0 where
  pub places : ℕ
  pub fewest : IsDigitCount 10 1 number places
  pub same : line ≡ key ++ last_digits 10 places number ++ (10 ∷ [])

-- A text that goes on with such a line.
pub record Longer (before key : List ℕ) (number : ℕ) (after : List ℕ) : Type 0 where
  pub line : List ℕ
  pub is : Line key number line
  pub same : after ≡ before ++ line

-- The four lines.
pub record Shown (answer place steps column : ℕ) (text : List ℕ) : Type 0 where
  pub first : List ℕ
  pub second : List ℕ
  pub third : List ℕ
  pub fourth : List ℕ
  pub answer_is : Line (bytes "answer=") answer first
  pub place_is : Line (bytes "place=") place second
  pub steps_is : Line (bytes "steps=") steps third
  pub column_is : Line (bytes "column=") column fourth
  pub same : text ≡ first ++ second ++ third ++ fourth

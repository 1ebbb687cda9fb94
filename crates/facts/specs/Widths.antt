-- What is true of a row of w bits, each law once for every width (`row_laws`), and read off at 32 bits and at 64.
use Rattle.std.specs.Prelude.{ℕ, ◌*◌, ◌^◌, ◌/◌, ◌%◌, ◌<◌, ◌≤◌, Bool, true, false, ◌≡◌, ◌⊎◌, eqb}
use Rattle.std.specs.Int.Bits.{bit_or}
use Rattle.facts.specs.Bits.{when, bit_in, one_in, told_left, told_right, told_either, told_none, told_self, told_only, told_when, bit_shifted, one_shifted, bit_past, one_past}

pub record RowLaws (w : ℕ) : Type 0 where
  -- two rows taken together tell what one of them tells, and nothing else
  pub left : (x y i : ℕ) → bit_in w x i ≡ true → bit_in w (bit_or x y) i ≡ true
  pub right : (x y i : ℕ) → bit_in w y i ≡ true → bit_in w (bit_or x y) i ≡ true
  pub one_of : (x y i : ℕ) → bit_in w (bit_or x y) i ≡ true → (bit_in w x i ≡ true) ⊎ (bit_in w y i ≡ true)
  -- the row of no bits tells nothing, and the row of one bit that bit alone
  pub none : (i : ℕ) → bit_in w 0 i ≡ true → ⊥
  pub self : (i : ℕ) → i < w → bit_in w (one_in w i) i ≡ true
  pub only : (n i : ℕ) → bit_in w (one_in w n) i ≡ true → i ≡ n
  -- a row that is left out tells nothing
  pub if_taken : (t : Bool) (x i : ℕ) → bit_in w (when t x) i ≡ true → (t ≡ true) × (bit_in w x i ≡ true)
  -- shifts compute a bit and the row of one bit, and a number past the width has neither
  pub bit : (row i : ℕ) → i < w → eqb (row / 2 ^ i % 2) 1 ≡ bit_in w row i
  pub one : (i : ℕ) → i < w → 1 * 2 ^ i % 2 ^ w ≡ one_in w i
  pub no_bit : (row i : ℕ) → w ≤ i → false ≡ bit_in w row i
  pub no_one : (i : ℕ) → w ≤ i → 0 ≡ one_in w i

pub row_laws : (w : ℕ) → RowLaws w
row_laws w =
    record {
      left = told_left w;
      right = told_right w;
      one_of = told_either w;
      none = told_none w;
      self = told_self w;
      only = told_only w;
      if_taken = told_when w;
      bit = bit_shifted w;
      one = one_shifted w;
      no_bit = bit_past w;
      no_one = one_past w;
    }

pub rows32 : RowLaws 32
rows32 = row_laws 32

pub rows64 : RowLaws 64
rows64 = row_laws 64

-- One bit of a row of any width, and its laws.
use Rattle.std.specs.Prelude.{ℕ, suc, ◌+◌, ◌*◌, ◌^◌, ◌/◌, ◌%◌, ◌-◌, ◌<◌, ◌≤◌, Bool, ◌≡◌, ◌⊎◌, eqb}
use Rattle.std.proofs.Math.Bool.{true, false}
use Rattle.std.proofs.Math.Path.{refl}
use Rattle.std.proofs.Common.{sym, inl, inr, ⊎_elim, arith, pow_pos, pow-add, mod-eq_of_lt, one-mul, pow-suc, eq-or-lt_of_le, lt-ltb, le-ltb, ltb-true, eq-eqb, eqb-true}
use Rattle.std.specs.Int.Bits.{bit_or, or_step}
use Rattle.std.proofs.lemmas.Nat.{or_shr, shl-shr}
use Rattle.std.proofs.Math.Dec.{ltb}
use Rattle.std.proofs.Math.Pow.{pow-lt}
use Rattle.std.proofs.Math.Nat.{div-eq_of_lt, div_self, mul-mod_left}
use Rattle.std.proofs.lemmas.Bool.{eqb-false}
use Rattle.scope.specs.Logic.Form.{both}
use Rattle.scope.specs.Tools.Tests.{both_true}
use Rattle.facts.specs.Fill.{below_or_past}

-- The row, or the row of no bits.
abbrev pub when : Bool → ℕ → ℕ
when true x = x
when false x = 0

-- The bit of a number in a row of w bits, and the row of w bits with that bit alone.
unfoldable pub bit_in : ℕ → ℕ → ℕ → Bool
unfolding both
bit_in w row i = both (ltb i w) (eqb (row / 2 ^ i % 2) 1)

unfoldable pub one_in : ℕ → ℕ → ℕ
one_in w i = when (ltb i w) (2 ^ i)

-- The bit itself.
pub record Bit (row i : ℕ) : Type 0 where
  pub on : row / 2 ^ i % 2 ≡ 1

pub bit_on : (w row i : ℕ) → bit_in w row i ≡ true → (i < w) × Bit row i
unfolding bit_in
bit_on w row i p =
    let h = both_true (ltb i w) (eqb (row / 2 ^ i % 2) 1) p in
    (ltb-true i w h.0, record { on = eqb-true (row / 2 ^ i % 2) 1 h.1 })

pub on_bit : {w row i : ℕ} → i < w → Bit row i → bit_in w row i ≡ true
unfolding bit_in both
on_bit {w} {row} {i} h b = rw (lt-ltb i w h, eq-eqb (row / 2 ^ i % 2) 1 b.on)

or_left : (x y i : ℕ) → Bit x i → Bit (bit_or x y) i
or_left x y i b = record { on = rw (or_shr x y i) (omega (arith, or_step (x / 2 ^ i) (y / 2 ^ i), b.on)) }

or_right : (x y i : ℕ) → Bit y i → Bit (bit_or x y) i
or_right x y i b = record { on = rw (or_shr x y i) (omega (arith, or_step (x / 2 ^ i) (y / 2 ^ i), b.on)) }

or_either : (x y i : ℕ) → Bit (bit_or x y) i → Bit x i ⊎ Bit y i
or_either x y i b = go (eqb (x / 2 ^ i % 2) 1) refl
  where
    sum : bit_or (x / 2 ^ i) (y / 2 ^ i) % 2 ≡ 1
    sum = rw (or_shr x y i) at b.on

    go : (t : Bool) → eqb (x / 2 ^ i % 2) 1 ≡ t → Bit x i ⊎ Bit y i
    go true e = inl (record { on = eqb-true (x / 2 ^ i % 2) 1 e })
    go false e =
        inr
        (record {
          on = omega (arith, or_step (x / 2 ^ i) (y / 2 ^ i), sum, eqb-false (x / 2 ^ i % 2) 1 e);
        })

zero_none : (i : ℕ) → Bit 0 i → ⊥
zero_none i b = omega (arith, div-eq_of_lt (pow_pos i), b.on)

one_self : (i : ℕ) → Bit (2 ^ i) i
one_self i = record { on = rw (div_self (pow_pos i)) refl }

-- the power above the bit is even there, and the power below it is 0
one_high : (d i : ℕ) → 2 ^ (suc d + i) / 2 ^ i % 2 ≡ 0
one_high d i =
    rw (pow-add 2 (suc d) i) (rw (shl-shr (2 ^ suc d) i) (rw (pow-suc 2 d) (mul-mod_left (2 ^ d) 2)))

one_only : (n i : ℕ) → Bit (2 ^ n) i → i ≡ n
one_only n i b = ⊎_elim low (λ h. ⊎_elim (λ e. sym e) high (eq-or-lt_of_le h)) (below_or_past i n)
  where
    low : i < n → i ≡ n
    low h =
        let sum : suc (n - suc i) + i ≡ n = omega arith in
        let even : 2 ^ n / 2 ^ i % 2 ≡ 0 = rw sum at (one_high (n - suc i) i) in
        absurd (omega (arith, b.on))

    high : n < i → i ≡ n
    high h = absurd (omega (arith, div-eq_of_lt (pow-lt h), b.on))

-- The same of what a row of w bits tells.
module _ (w : ℕ) where
  pub told_left : (x y i : ℕ) → bit_in w x i ≡ true → bit_in w (bit_or x y) i ≡ true
  told_left x y i p = let h = bit_on w x i p in on_bit h.0 (or_left x y i h.1)

  pub told_right : (x y i : ℕ) → bit_in w y i ≡ true → bit_in w (bit_or x y) i ≡ true
  told_right x y i p = let h = bit_on w y i p in on_bit h.0 (or_right x y i h.1)

  pub told_either : (x y i : ℕ) → bit_in w (bit_or x y) i ≡ true → (bit_in w x i ≡ true) ⊎ (bit_in w y i ≡ true)
  told_either x y i p =
      let h = bit_on w (bit_or x y) i p in
      ⊎_elim (λ b. inl (on_bit h.0 b)) (λ b. inr (on_bit h.0 b)) (or_either x y i h.1)

  pub told_none : (i : ℕ) → bit_in w 0 i ≡ true → ⊥
  told_none i p = zero_none i (bit_on w 0 i p).1

  pub told_self : (i : ℕ) → i < w → bit_in w (one_in w i) i ≡ true
  unfolding one_in
  told_self i h = on_bit h (rw (lt-ltb i w h) (one_self i))

  pub told_only : (n i : ℕ) → bit_in w (one_in w n) i ≡ true → i ≡ n
  unfolding one_in
  told_only n i p = go (ltb n w) refl (bit_on w (one_in w n) i p).1
    where
      go : (t : Bool) → ltb n w ≡ t → Bit (when (ltb n w) (2 ^ n)) i → i ≡ n
      go true e b = one_only n i (rw e at b)
      go false e b = absurd (zero_none i (rw e at b))

  pub told_when : (t : Bool) (x i : ℕ) → bit_in w (when t x) i ≡ true → (t ≡ true) × (bit_in w x i ≡ true)
  told_when true x i p = (refl, p)
  told_when false x i p = absurd (told_none i p)

  pub when_told : (t : Bool) (x i : ℕ) → t ≡ true → bit_in w x i ≡ true → bit_in w (when t x) i ≡ true
  when_told t x i e p = rw e p

-- As shifts compute them.
pub bit_shifted : (w row i : ℕ) → i < w → eqb (row / 2 ^ i % 2) 1 ≡ bit_in w row i
unfolding bit_in both
bit_shifted w row i h = rw (lt-ltb i w h)

pub one_shifted : (w i : ℕ) → i < w → 1 * 2 ^ i % 2 ^ w ≡ one_in w i
unfolding one_in
one_shifted w i h = rw (lt-ltb i w h) (rw one-mul (mod-eq_of_lt (pow-lt h)))

-- and past the width.
pub bit_past : (w row i : ℕ) → w ≤ i → false ≡ bit_in w row i
unfolding bit_in both
bit_past w row i h = rw (le-ltb i w h)

pub one_past : (w i : ℕ) → w ≤ i → 0 ≡ one_in w i
unfolding one_in
one_past w i h = rw (le-ltb i w h)

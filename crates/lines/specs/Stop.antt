-- Where the text of a number stops being one, at a place that the code has reached.
use Prim.Native.Nat.{ℕ, suc, ◌+◌, ◌-◌, ◌*◌, ◌≤◌, ◌<◌}
use Rattle.std.proofs.Common.{zero-add, add-one, le-leb, leb-true}
use Rattle.std.proofs.Math.Nat.{sub-zero}
use native.Mathlib.Omega.{arith}
use Rattle.std.specs.Prelude.{◌≡◌, refl, List, [], ◌∷◌, Bool, true, false, cond, not, ◌&&◌, leb, eqb, length, drop, get_or}
use Rattle.std.proofs.Math.Option.{Option, none}
use Rattle.std.proofs.Math.Seq.{drop-cons}
use Rattle.std.proofs.lemmas.Bool.{lt-leb}
use Rattle.std.specs.Char.{is_ascii_digit}
use Rattle.scope.specs.Tools.Tests.{both_true}
use Rattle.scope.specs.Logic.Form.{both}
use Rattle.scope.specs.File.Number.{is_digit, digits, leading_zero, number}
use Rattle.scope.specs.File.Stops.{most_digits, digits_up_to}

pub most_five : (s : List ℕ) → most_digits s ≤ 5
unfolding most_digits
most_five [] = omega arith
most_five (b ∷ s) = go (eqb b 48)
  where
    go : (t : Bool) → cond t 1 5 ≤ 5
    go true = omega arith
    go false = omega arith

-- A digit as the library tests it.
pub digit_same : (b : ℕ) → is_ascii_digit b ≡ is_digit b
unfolding is_digit both
digit_same b = go (leb 48 b)
  where
    go : (t : Bool) → (t && leb b 57) ≡ both t (leb b 57)
    go true = refl
    go false = refl

pub digit_range : (b : ℕ) → is_digit b ≡ true → (48 ≤ b) × (b ≤ 57)
unfolding is_digit
digit_range b e = let t = both_true (leb 48 b) (leb b 57) e in (leb-true 48 b t.0, leb-true b 57 t.1)

-- At a place that is reached: one more digit, or none.
module _ (s : List ℕ) (i : ℕ) (h : i < length s) where
  pub digits_goes : (v : ℕ) → is_digit (get_or s i 0) ≡ true → digits v (drop i s) ≡ digits (v * 10 + (get_or s i 0 - 48)) (drop (i + 1) s)
  unfolding digits
  digits_goes v d = rw (add-one, drop-cons s i 0 h) (rw d refl)

  pub digits_stops : (v : ℕ) → is_digit (get_or s i 0) ≡ false → digits v (drop i s) ≡ none
  unfolding digits
  digits_stops v d = rw (drop-cons s i 0 h) (rw d refl)

  pub counts_on : (m : ℕ) → i < m → is_digit (get_or s i 0) ≡ true
      → digits_up_to (m - i) (drop i s) ≡ suc (digits_up_to (m - (i + 1)) (drop (i + 1) s))
  unfolding digits_up_to
  counts_on m k d =
      let e : m - i ≡ suc (m - suc i) = omega arith in
      rw (add-one, e, drop-cons s i 0 h) (rw d refl)

  pub counts_none : (m : ℕ) → i < m → is_digit (get_or s i 0) ≡ false → digits_up_to (m - i) (drop i s) ≡ 0
  unfolding digits_up_to
  counts_none m k d =
      let e : m - i ≡ suc (m - suc i) = omega arith in
      rw (e, drop-cons s i 0 h) (rw d refl)

pub counts_start : (s : List ℕ) (m : ℕ) → 0 + digits_up_to (m - 0) (drop 0 s) ≡ digits_up_to m s
counts_start s m = rw (zero-add, sub-zero) refl

pub counts_full : (s : List ℕ) (m i : ℕ) → m ≤ i → digits_up_to (m - i) (drop i s) ≡ 0
unfolding digits_up_to
counts_full s m i h = let e : m - i ≡ 0 = omega arith in rw e refl

-- What the count of digits makes of the number.
pub number_long : (s : List ℕ) → most_digits s < length s → number s ≡ none
unfolding number most_digits leading_zero both
number_long [] h = refl
number_long (b ∷ []) h = go (eqb b 48) h
  where
    go : (t : Bool) → cond t 1 5 < 1 → digits 0 (b ∷ []) ≡ none
    go true k = absurd (omega arith)
    go false k = absurd (omega arith)
number_long (b ∷ c ∷ s) h = go (eqb b 48) h
  where
    go : (t : Bool) → cond t 1 5 < suc (suc (length s))
        → cond (both (leb 1 (suc (suc (length s)))) (both (leb (suc (suc (length s))) 5) (not t))) (digits 0 (b ∷ c ∷ s)) none ≡ none
    go true k = go' (leb (suc (suc (length s))) 5) (leb 1 (suc (suc (length s))))
      where
        go' : (x y : Bool) → cond (both y (both x false)) (digits 0 (b ∷ c ∷ s)) none ≡ none
        go' true true = refl
        go' false true = refl
        go' true false = refl
        go' false false = refl
    go false k = rw (lt-leb (suc (suc (length s))) 5 k) (rw (le-leb 1 (suc (suc (length s))) (omega arith)) refl)

pub number_bad : (s : List ℕ) → digits 0 s ≡ none → number s ≡ none
unfolding number
number_bad s e = rw e (go (both (leb 1 (length s)) (both (leb (length s) 5) (not (leading_zero s)))))
  where
    go : (t : Bool) → cond {A = Option ℕ} t none none ≡ none
    go true = refl
    go false = refl

pub number_good : (s : List ℕ) → 0 < length s → length s ≤ most_digits s → number s ≡ digits 0 s
unfolding number most_digits leading_zero both
number_good [] h k = absurd (omega arith)
number_good (b ∷ []) h k = refl
number_good (b ∷ c ∷ s) h k = go (eqb b 48) k
  where
    go : (t : Bool) → suc (suc (length s)) ≤ cond t 1 5
        → cond (both (leb 1 (suc (suc (length s)))) (both (leb (suc (suc (length s))) 5) (not t))) (digits 0 (b ∷ c ∷ s)) none ≡ digits 0 (b ∷ c ∷ s)
    go true k = absurd (omega arith)
    go false k = rw (le-leb (suc (suc (length s))) 5 k, le-leb 1 (suc (suc (length s))) (omega arith)) refl

-- A word as one number. Two words of bytes have the same number only if they are the same.
use Rattle.std.specs.Prelude.{ℕ, zero, suc, ◌+◌, ◌*◌, ◌^◌, ◌≤◌, ◌<◌, ◌≡◌, refl, List, [], ◌∷◌, Bool, true, false, cond, ltb, eqb, length, take, drop, get_or}
use Rattle.std.proofs.Common.{add-one, arith, ap, sym, ◌∙◌, drop_of_length-le, pow-add, drop-cons, ltb-true, ltb-false, lt-ltb, le-ltb, eqb-true, eq-eqb, ne_eqb}
use Rattle.std.proofs.Math.Pow.{pow-lt}
use Rattle.scope.specs.Tools.Tests.{never}
use Rattle.scope.specs.Logic.Form.{both}
use Rattle.scope.specs.File.Kinds.{same}

-- Bytes as digits to the base 256 behind those of code v.
unfoldable pub code_from : ℕ → List ℕ → ℕ
code_from v [] = v
code_from v (b ∷ w) = code_from (v * 256 + b) w

-- A word of at most 7 bytes behind a leading 1, which tells how many there are; 0 for a longer word.
unfoldable pub code_of : List ℕ → ℕ
unfolding code_from
code_of w = cond (ltb 7 (length w)) 0 (code_from 1 w)

-- Words of different lengths are different.
pub same_lengths : (s t : List ℕ) → (length s ≡ length t → ⊥) → same s t ≡ false
unfolding same both
same_lengths [] [] h = absurd (h refl)
same_lengths [] (b ∷ t) h = refl
same_lengths (a ∷ s) [] h = refl
same_lengths (a ∷ s) (b ∷ t) h = go (eqb a b) (same_lengths s t (λ e. h (ap suc e)))
  where
    go : (x : Bool) → same s t ≡ false → both x (same s t) ≡ false
    go true e = e
    go false e = refl

pub same_here : (a b : ℕ) (s t : List ℕ) → eqb a b ≡ true → same (a ∷ s) (b ∷ t) ≡ same s t
unfolding same both
same_here a b s t e = rw e refl

-- Every entry is a byte.
abbrev pub AreBytes : List ℕ → Type 0
AreBytes s = (i : ℕ) → get_or s i 0 < 256

pub bytes_front : (n : ℕ) (s : List ℕ) → AreBytes s → AreBytes (take n s)
bytes_front zero s f i = omega arith
bytes_front (suc n) [] f i = omega arith
bytes_front (suc n) (b ∷ s) f zero = f 0
bytes_front (suc n) (b ∷ s) f (suc i) = bytes_front n s (λ j. f (suc j)) i

-- At a place of the word that is reached: one more digit.
pub code_goes : (w : List ℕ) (v i : ℕ) → i < length w → code_from v (drop i w) ≡ code_from (v * 256 + get_or w i 0) (drop (i + 1) w)
unfolding code_from
code_goes w v i h = rw (add-one, drop-cons w i 0 h) refl

pub code_ends : (w : List ℕ) (v i : ℕ) → length w ≤ i → code_from v (drop i w) ≡ v
unfolding code_from
code_ends w v i h = rw (drop_of_length-le w h) refl

pub code_long : (w : List ℕ) → 7 < length w → 0 ≡ code_of w
unfolding code_of
code_long w h = rw (lt-ltb 7 (length w) h) refl

pub code_short : (w : List ℕ) → length w ≤ 7 → code_of w ≡ code_from 1 w
unfolding code_of
code_short w h = rw (le-ltb 7 (length w) h) refl

-- The code of i bytes is below 2 * 256 ^ i: with one byte more, it fits 64 bits.
pub code_fits : (v i : ℕ) → i < 7 → v < 2 ^ (8 * i + 1) → v < 2 ^ 56
code_fits v i h k =
    let l : 2 ^ (8 * i + 1) < 2 ^ 56 = pow-lt {i = 8 * i + 1} {j = 56} (omega arith) in
    omega (arith, k, l)

pub code_grows : (v i b : ℕ) → v < 2 ^ (8 * i + 1) → b < 256 → v * 256 + b < 2 ^ (8 * (i + 1) + 1)
code_grows v i b h k =
    let e : 8 * (i + 1) + 1 ≡ (8 * i + 1) + 8 = omega arith in
    rw (e, pow-add 2 (8 * i + 1) 8) (omega (arith, h, k))

code_least : (w : List ℕ) (v : ℕ) → v ≤ code_from v w
unfolding code_from
code_least [] v = omega arith
code_least (b ∷ w) v = omega (arith, code_least w (v * 256 + b))

-- As many bytes, the same code: the same bytes, and the same code before them.
record Agree (v u : ℕ) (s t : List ℕ) : Type 0 where
  pub heads : v ≡ u
  pub words : same s t ≡ true

code_agree : (s t : List ℕ) (v u : ℕ) → AreBytes s → AreBytes t → length s ≡ length t → code_from v s ≡ code_from u t → Agree v u s t
unfolding code_from same
code_agree [] [] v u f g l e = record { heads = e; words = refl }
code_agree [] (b ∷ t) v u f g l e = absurd (omega arith)
code_agree (a ∷ s) [] v u f g l e = absurd (omega arith)
code_agree (a ∷ s) (b ∷ t) v u f g l e =
    let more = code_agree s t (v * 256 + a) (u * 256 + b) (λ i. f (suc i)) (λ i. g (suc i)) (omega arith) e in
    let x : a < 256 = f 0 in
    let y : b < 256 = g 0 in
    let h : a ≡ b = omega (arith, x, y, more.heads) in
    record { heads = omega (arith, x, y, more.heads); words = same_here a b s t (eq-eqb a b h) ∙ more.words }

-- More bytes, the same code: then the longer one's code before them is smaller.
code_longer : (s t : List ℕ) (v u : ℕ) → AreBytes s → AreBytes t → length s < length t → code_from v s ≡ code_from u t → u * 256 ≤ v
unfolding code_from
code_longer s [] v u f g l e = absurd (omega arith)
code_longer s (b ∷ t) v u f g l e = go (ltb (length s) (length t)) refl (code_longer s t v (u * 256 + b) f (λ i. g (suc i)))
  where
    go : (c : Bool) → ltb (length s) (length t) ≡ c
        → (length s < length t → code_from v s ≡ code_from (u * 256 + b) t → (u * 256 + b) * 256 ≤ v) → u * 256 ≤ v
    go true c more = omega (arith, more (ltb-true (length s) (length t) c) e)
    go false c more =
        let h : length s ≡ length t = omega (arith, l, ltb-false (length s) (length t) c) in
        omega (arith, (code_agree s t v (u * 256 + b) f (λ i. g (suc i)) h e).heads)

same_code : (s t : List ℕ) (v : ℕ) → same s t ≡ true → code_from v s ≡ code_from v t
unfolding code_from same both
same_code [] [] v e = refl
same_code [] (b ∷ t) v e = never cc
same_code (a ∷ s) [] v e = never cc
same_code (a ∷ s) (b ∷ t) v e = go (eqb a b) refl e (same_code s t)
  where
    go : (c : Bool) → eqb a b ≡ c → both c (same s t) ≡ true → ((u : ℕ) → same s t ≡ true → code_from u s ≡ code_from u t)
        → code_from (v * 256 + a) s ≡ code_from (v * 256 + b) t
    go true c e more = ap (λ x. code_from (v * 256 + x) s) (eqb-true a b c) ∙ more (v * 256 + b) e
    go false c e more = never cc

module _ (s t : List ℕ) (f : AreBytes s) (g : AreBytes t) where
  by_code : eqb (code_from 1 s) (code_from 1 t) ≡ same s t
  by_code = shorter (ltb (length s) (length t)) refl
    where
      different : (length s ≡ length t → ⊥) → (code_from 1 s ≡ code_from 1 t → ⊥) → eqb (code_from 1 s) (code_from 1 t) ≡ same s t
      different l n = ne_eqb (code_from 1 s) (code_from 1 t) n ∙ sym (same_lengths s t l)

      alike : length s ≡ length t → (b c : Bool) → eqb (code_from 1 s) (code_from 1 t) ≡ b → same s t ≡ c → b ≡ c
      alike l true c e h = sym (code_agree s t 1 1 f g l (eqb-true (code_from 1 s) (code_from 1 t) e)).words ∙ h
      alike l false true e h = sym e ∙ eq-eqb (code_from 1 s) (code_from 1 t) (same_code s t 1 h)
      alike l false false e h = refl

      longer : length t ≤ length s → (b : Bool) → ltb (length t) (length s) ≡ b → eqb (code_from 1 s) (code_from 1 t) ≡ same s t
      longer k true e =
          let h = ltb-true (length t) (length s) e in
          different (λ x. omega (arith, x, h)) (λ x. omega (arith, code_longer t s 1 1 g f h (sym x)))
      longer k false e =
          let h = ltb-false (length t) (length s) e in
          alike (omega (arith, h, k)) (eqb (code_from 1 s) (code_from 1 t)) (same s t) refl refl

      shorter : (b : Bool) → ltb (length s) (length t) ≡ b → eqb (code_from 1 s) (code_from 1 t) ≡ same s t
      shorter true e =
          let h = ltb-true (length s) (length t) e in
          different (λ x. omega (arith, x, h)) (λ x. omega (arith, code_longer s t 1 1 f g h x))
      shorter false e = longer (ltb-false (length s) (length t) e) (ltb (length t) (length s)) refl

  -- A word of at most 7 bytes, and any other.
  pub same_codes : length s ≤ 7 → eqb (code_of s) (code_of t) ≡ same s t
  same_codes h = go (ltb 7 (length t)) refl
    where
      go : (b : Bool) → ltb 7 (length t) ≡ b → eqb (code_of s) (code_of t) ≡ same s t
      go true e =
          let k = ltb-true 7 (length t) e in
          rw (code_short s h, sym (code_long t k))
          (ne_eqb (code_from 1 s) 0 (λ x. omega (arith, x, code_least s 1)) ∙ sym (same_lengths s t (λ x. omega (arith, x, h, k))))
      go false e = rw (code_short s h, code_short t (ltb-false 7 (length t) e)) by_code

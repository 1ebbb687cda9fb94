-- The writing of a number reads back, and what reads as a number is its writing.
use Rattle.std.specs.Prelude.{ℕ, ◌+◌, ◌-◌, ◌*◌, ◌/◌, ◌%◌, ◌≤◌, ◌<◌, ◌≡◌, ◌≢◌, List, [], ◌∷◌, Bool, true, false, not, leb, ltb, length}
use Rattle.std.proofs.Math.Path.{refl}
use Rattle.std.proofs.Common.{ap, ◌∙◌, arith, leb-true, ltb-true, ltb-false, lt-ltb, le-ltb, le-leb, ne_eqb}
use Rattle.std.proofs.Math.Option.{some}
use Rattle.std.proofs.lemmas.Bool.{eqb-false, not-true}
use Rattle.scope.specs.Logic.Form.{both}
use Rattle.scope.specs.File.Number.{is_digit, digits, leading_zero, number, digit, numeral}
use Rattle.scope.specs.Tools.Tests.{both_true, both_met, taken}

pub record Digit (b : ℕ) : Type 0 where
  pub low : 48 ≤ b
  pub high : b ≤ 57

pub digit_is : (b : ℕ) → is_digit b ≡ true → Digit b
unfolding is_digit
digit_is b e =
    let p = both_true (leb 48 b) (leb b 57) e in
    record { low = leb-true 48 b p.0; high = leb-true b 57 p.1 }

pub is_digit_lem : (n : ℕ) → n < 10 → is_digit (digit n) ≡ true
unfolding is_digit digit
is_digit_lem n h = both_met (leb 48 (48 + n)) (leb (48 + n) 57) (le-leb 48 (48 + n) (omega arith)) (le-leb (48 + n) 57 (omega arith))

-- One more digit.
pub digits_more : (v n : ℕ) (s : List ℕ) → n < 10 → digits v (digit n ∷ s) ≡ digits (v * 10 + n) s
unfolding digits
digits_more v n s h =
    let d : digit n - 48 ≡ n = unfold digit in (omega arith) in
    rw (is_digit_lem n h, d) refl

pub digits_step : (v b w : ℕ) (s : List ℕ) → digits v (b ∷ s) ≡ some w → Digit b × (digits (v * 10 + (b - 48)) s ≡ some w)
unfolding digits
digits_step v b w s e =
    let p = taken (is_digit b) (digits (v * 10 + (b - 48)) s) w e in
    (digit_is b p.0, p.1)

numeral1 : (n : ℕ) → n < 10 → numeral n ≡ digit n ∷ []
unfolding numeral
numeral1 n h = rw (lt-ltb n 10 h)

numeral2 : (n : ℕ) → 10 ≤ n → n < 100 → numeral n ≡ digit (n / 10) ∷ digit (n % 10) ∷ []
unfolding numeral
numeral2 n l h = rw (le-ltb n 10 l, lt-ltb n 100 h)

numeral3 : (n : ℕ) → 100 ≤ n → n < 1000 → numeral n ≡ digit (n / 10 / 10) ∷ digit (n / 10 % 10) ∷ digit (n % 10) ∷ []
unfolding numeral
numeral3 n l h = rw (le-ltb n 10 (omega arith), le-ltb n 100 l, lt-ltb n 1000 h)

numeral4 :
    (n : ℕ) → 1000 ≤ n → n < 10000
    → numeral n ≡ digit (n / 10 / 10 / 10) ∷ digit (n / 10 / 10 % 10) ∷ digit (n / 10 % 10) ∷ digit (n % 10) ∷ []
unfolding numeral
numeral4 n l h = rw (le-ltb n 10 (omega arith), le-ltb n 100 (omega arith), le-ltb n 1000 l, lt-ltb n 10000 h)

numeral5 :
    (n : ℕ) → 10000 ≤ n
    → numeral n ≡ digit (n / 10 / 10 / 10 / 10) ∷ digit (n / 10 / 10 / 10 % 10) ∷ digit (n / 10 / 10 % 10) ∷ digit (n / 10 % 10) ∷ digit (n % 10) ∷ []
unfolding numeral
numeral5 n l = rw (le-ltb n 10 (omega arith), le-ltb n 100 (omega arith), le-ltb n 1000 (omega arith), le-ltb n 10000 l)

-- A list that is short enough and begins well is read by its digits.
number_digits : (s : List ℕ) → 1 ≤ length s → length s ≤ 5 → leading_zero s ≡ false → number s ≡ digits 0 s
unfolding number
number_digits s l h z =
    let a : leb 1 (length s) ≡ true = le-leb 1 (length s) l in
    let b : leb (length s) 5 ≡ true = le-leb (length s) 5 h in
    let c : not (leading_zero s) ≡ true = ap not z in
    rw
    (both_met (leb 1 (length s)) (both (leb (length s) 5) (not (leading_zero s))) a
    (both_met (leb (length s) 5) (not (leading_zero s)) b c))

no_zero : (a b : ℕ) (s : List ℕ) → 1 ≤ a → leading_zero (digit a ∷ b ∷ s) ≡ false
unfolding leading_zero digit
no_zero a b s h = ne_eqb (48 + a) 48 (λ e. omega arith)

there1 : (a : ℕ) → a < 10 → number (digit a ∷ []) ≡ some (a)
unfolding digits leading_zero
there1 a ha =
    number_digits (digit a ∷ []) (omega arith) (omega arith) refl ∙
    digits_more (0) a ([]) ha ∙
    ap (λ v. some v) (omega arith)

there2 : (a b : ℕ) → 1 ≤ a → a < 10 → b < 10 → number (digit a ∷ digit b ∷ []) ≡ some (a * 10 + b)
unfolding digits leading_zero
there2 a b l ha hb =
    number_digits (digit a ∷ digit b ∷ []) (omega arith) (omega arith) (no_zero a (digit b) ([]) l) ∙
    digits_more (0) a (digit b ∷ []) ha ∙
    digits_more ((0) * 10 + a) b ([]) hb ∙
    ap (λ v. some v) (omega arith)

there3 : (a b c : ℕ) → 1 ≤ a → a < 10 → b < 10 → c < 10 → number (digit a ∷ digit b ∷ digit c ∷ []) ≡ some ((a * 10 + b) * 10 + c)
unfolding digits leading_zero
there3 a b c l ha hb hc =
    number_digits (digit a ∷ digit b ∷ digit c ∷ []) (omega arith) (omega arith) (no_zero a (digit b) (digit c ∷ []) l) ∙
    digits_more (0) a (digit b ∷ digit c ∷ []) ha ∙
    digits_more ((0) * 10 + a) b (digit c ∷ []) hb ∙
    digits_more (((0) * 10 + a) * 10 + b) c ([]) hc ∙
    ap (λ v. some v) (omega arith)

there4 : (a b c d : ℕ) → 1 ≤ a → a < 10 → b < 10 → c < 10 → d < 10 → number (digit a ∷ digit b ∷ digit c ∷ digit d ∷ []) ≡ some (((a * 10 + b) * 10 + c) * 10 + d)
unfolding digits leading_zero
there4 a b c d l ha hb hc hd =
    number_digits (digit a ∷ digit b ∷ digit c ∷ digit d ∷ []) (omega arith) (omega arith) (no_zero a (digit b) (digit c ∷ digit d ∷ []) l) ∙
    digits_more (0) a (digit b ∷ digit c ∷ digit d ∷ []) ha ∙
    digits_more ((0) * 10 + a) b (digit c ∷ digit d ∷ []) hb ∙
    digits_more (((0) * 10 + a) * 10 + b) c (digit d ∷ []) hc ∙
    digits_more ((((0) * 10 + a) * 10 + b) * 10 + c) d ([]) hd ∙
    ap (λ v. some v) (omega arith)

there5 : (a b c d f : ℕ) → 1 ≤ a → a < 10 → b < 10 → c < 10 → d < 10 → f < 10 → number (digit a ∷ digit b ∷ digit c ∷ digit d ∷ digit f ∷ []) ≡ some ((((a * 10 + b) * 10 + c) * 10 + d) * 10 + f)
unfolding digits leading_zero
there5 a b c d f l ha hb hc hd hf =
    number_digits (digit a ∷ digit b ∷ digit c ∷ digit d ∷ digit f ∷ []) (omega arith) (omega arith) (no_zero a (digit b) (digit c ∷ digit d ∷ digit f ∷ []) l) ∙
    digits_more (0) a (digit b ∷ digit c ∷ digit d ∷ digit f ∷ []) ha ∙
    digits_more ((0) * 10 + a) b (digit c ∷ digit d ∷ digit f ∷ []) hb ∙
    digits_more (((0) * 10 + a) * 10 + b) c (digit d ∷ digit f ∷ []) hc ∙
    digits_more ((((0) * 10 + a) * 10 + b) * 10 + c) d (digit f ∷ []) hd ∙
    digits_more (((((0) * 10 + a) * 10 + b) * 10 + c) * 10 + d) f ([]) hf ∙
    ap (λ v. some v) (omega arith)

-- A number below 100,000 reads back from its writing.
there_go :
    (n : ℕ) → n < 100000 → (t1 t2 t3 t4 : Bool) → ltb n 10 ≡ t1 → ltb n 100 ≡ t2 → ltb n 1000 ≡ t3 → ltb n 10000 ≡ t4
    → number (numeral n) ≡ some n
there_go n h true t2 t3 t4 e1 e2 e3 e4 =
    let l = ltb-true n 10 e1 in
    rw (numeral1 n l) (there1 n l)
there_go n h false true t3 t4 e1 e2 e3 e4 =
    let l = ltb-false n 10 e1 in
    let g = ltb-true n 100 e2 in
    rw (numeral2 n l g) (there2 (n / 10) (n % 10) (omega arith) (omega arith) (omega arith) ∙ ap (λ v. some v) (omega arith))
there_go n h false false true t4 e1 e2 e3 e4 =
    let l = ltb-false n 100 e2 in
    let g = ltb-true n 1000 e3 in
    rw (numeral3 n l g)
    (there3 (n / 10 / 10) (n / 10 % 10) (n % 10) (omega arith) (omega arith) (omega arith) (omega arith) ∙ ap (λ v. some v) (omega arith))
there_go n h false false false true e1 e2 e3 e4 =
    let l = ltb-false n 1000 e3 in
    let g = ltb-true n 10000 e4 in
    rw (numeral4 n l g)
    (there4 (n / 10 / 10 / 10) (n / 10 / 10 % 10) (n / 10 % 10) (n % 10) (omega arith) (omega arith) (omega arith) (omega arith) (omega arith) ∙
    ap (λ v. some v) (omega arith))
there_go n h false false false false e1 e2 e3 e4 =
    let l = ltb-false n 10000 e4 in
    rw (numeral5 n l)
    (there5 (n / 10 / 10 / 10 / 10) (n / 10 / 10 / 10 % 10) (n / 10 / 10 % 10) (n / 10 % 10) (n % 10) (omega arith) (omega arith) (omega arith) (omega arith) (omega arith) (omega arith) ∙
    ap (λ v. some v) (omega arith))

pub number_there : (n : ℕ) → n < 100000 → number (numeral n) ≡ some n
number_there n h = there_go n h (ltb n 10) (ltb n 100) (ltb n 1000) (ltb n 10000) refl refl refl refl

-- What reads as a number is its writing.
record Begun (s : List ℕ) (n : ℕ) : Type 0 where
  some_digit : 1 ≤ length s
  few : length s ≤ 5
  well : leading_zero s ≡ false
  value : digits 0 s ≡ some n

begun : (s : List ℕ) (n : ℕ) → number s ≡ some n → Begun s n
unfolding number
begun s n e =
    let p = taken (both (leb 1 (length s)) (both (leb (length s) 5) (not (leading_zero s)))) (digits 0 s) n e in
    let q = both_true (leb 1 (length s)) (both (leb (length s) 5) (not (leading_zero s))) p.0 in
    let r = both_true (leb (length s) 5) (not (leading_zero s)) q.1 in
    record {
      some_digit = leb-true 1 (length s) q.0;
      few = leb-true (length s) 5 r.0;
      well = not-true (leading_zero s) r.1;
      value = p.1;
    }

record ReadsAs (b : ℕ) (x : ℕ) : Type 0 where
  small : x < 10
  is : b ≡ digit x

reads_as : (b : ℕ) → Digit b → ReadsAs b (b - 48)
unfolding digit
reads_as b d = record { small = omega arith; is = omega arith }

first_digit : (b c : ℕ) (s : List ℕ) → leading_zero (b ∷ c ∷ s) ≡ false → Digit b → 1 ≤ b - 48
unfolding leading_zero
first_digit b c s e d =
    let n : b ≢ 48 = eqb-false b 48 e in
    omega arith

last : (v n : ℕ) → digits v [] ≡ some n → v ≡ n
unfolding digits
last v n e = cc

here1 : (a n : ℕ) → a < 10 → 0 * 10 + a ≡ n → digit a ∷ [] ≡ numeral n
here1 a n ha e =
    let ea : n ≡ a = omega arith in
    cc (numeral1 n (omega arith))

here2 : (a b n : ℕ) → 1 ≤ a → a < 10 → b < 10 → (0 * 10 + a) * 10 + b ≡ n → digit a ∷ digit b ∷ [] ≡ numeral n
here2 a b n l ha hb e =
    let ea : n / 10 ≡ a = omega arith in
    let eb : n % 10 ≡ b = omega arith in
    cc (numeral2 n (omega arith) (omega arith))

here3 : (a b c n : ℕ) → 1 ≤ a → a < 10 → b < 10 → c < 10 → ((0 * 10 + a) * 10 + b) * 10 + c ≡ n → digit a ∷ digit b ∷ digit c ∷ [] ≡ numeral n
here3 a b c n l ha hb hc e =
    let ea : n / 10 / 10 ≡ a = omega arith in
    let eb : n / 10 % 10 ≡ b = omega arith in
    let ec : n % 10 ≡ c = omega arith in
    cc (numeral3 n (omega arith) (omega arith))

here4 : (a b c d n : ℕ) → 1 ≤ a → a < 10 → b < 10 → c < 10 → d < 10 → (((0 * 10 + a) * 10 + b) * 10 + c) * 10 + d ≡ n → digit a ∷ digit b ∷ digit c ∷ digit d ∷ [] ≡ numeral n
here4 a b c d n l ha hb hc hd e =
    let ea : n / 10 / 10 / 10 ≡ a = omega arith in
    let eb : n / 10 / 10 % 10 ≡ b = omega arith in
    let ec : n / 10 % 10 ≡ c = omega arith in
    let ed : n % 10 ≡ d = omega arith in
    cc (numeral4 n (omega arith) (omega arith))

here5 : (a b c d f n : ℕ) → 1 ≤ a → a < 10 → b < 10 → c < 10 → d < 10 → f < 10 → ((((0 * 10 + a) * 10 + b) * 10 + c) * 10 + d) * 10 + f ≡ n → digit a ∷ digit b ∷ digit c ∷ digit d ∷ digit f ∷ [] ≡ numeral n
here5 a b c d f n l ha hb hc hd hf e =
    let ea : n / 10 / 10 / 10 / 10 ≡ a = omega arith in
    let eb : n / 10 / 10 / 10 % 10 ≡ b = omega arith in
    let ec : n / 10 / 10 % 10 ≡ c = omega arith in
    let ed : n / 10 % 10 ≡ d = omega arith in
    let ef : n % 10 ≡ f = omega arith in
    cc (numeral5 n (omega arith))

back_go : (s : List ℕ) (n : ℕ) → Begun s n → s ≡ numeral n
back_go [] n w = absurd (omega (arith, w.some_digit))
back_go (x1 ∷ []) n w =
    let p1 = digits_step (0) x1 n ([]) w.value in
    let r1 = reads_as x1 p1.0 in
    let z = last ((0) * 10 + (x1 - 48)) n p1.1 in
    let h = here1 (x1 - 48) n r1.small z in
    cc (h, r1.is)
back_go (x1 ∷ x2 ∷ []) n w =
    let p1 = digits_step (0) x1 n (x2 ∷ []) w.value in
    let r1 = reads_as x1 p1.0 in
    let p2 = digits_step ((0) * 10 + (x1 - 48)) x2 n ([]) p1.1 in
    let r2 = reads_as x2 p2.0 in
    let z = last (((0) * 10 + (x1 - 48)) * 10 + (x2 - 48)) n p2.1 in
    let l = first_digit x1 x2 ([]) w.well p1.0 in
    let h = here2 (x1 - 48) (x2 - 48) n l r1.small r2.small z in
    cc (h, r1.is, r2.is)
back_go (x1 ∷ x2 ∷ x3 ∷ []) n w =
    let p1 = digits_step (0) x1 n (x2 ∷ x3 ∷ []) w.value in
    let r1 = reads_as x1 p1.0 in
    let p2 = digits_step ((0) * 10 + (x1 - 48)) x2 n (x3 ∷ []) p1.1 in
    let r2 = reads_as x2 p2.0 in
    let p3 = digits_step (((0) * 10 + (x1 - 48)) * 10 + (x2 - 48)) x3 n ([]) p2.1 in
    let r3 = reads_as x3 p3.0 in
    let z = last ((((0) * 10 + (x1 - 48)) * 10 + (x2 - 48)) * 10 + (x3 - 48)) n p3.1 in
    let l = first_digit x1 x2 (x3 ∷ []) w.well p1.0 in
    let h = here3 (x1 - 48) (x2 - 48) (x3 - 48) n l r1.small r2.small r3.small z in
    cc (h, r1.is, r2.is, r3.is)
back_go (x1 ∷ x2 ∷ x3 ∷ x4 ∷ []) n w =
    let p1 = digits_step (0) x1 n (x2 ∷ x3 ∷ x4 ∷ []) w.value in
    let r1 = reads_as x1 p1.0 in
    let p2 = digits_step ((0) * 10 + (x1 - 48)) x2 n (x3 ∷ x4 ∷ []) p1.1 in
    let r2 = reads_as x2 p2.0 in
    let p3 = digits_step (((0) * 10 + (x1 - 48)) * 10 + (x2 - 48)) x3 n (x4 ∷ []) p2.1 in
    let r3 = reads_as x3 p3.0 in
    let p4 = digits_step ((((0) * 10 + (x1 - 48)) * 10 + (x2 - 48)) * 10 + (x3 - 48)) x4 n ([]) p3.1 in
    let r4 = reads_as x4 p4.0 in
    let z = last (((((0) * 10 + (x1 - 48)) * 10 + (x2 - 48)) * 10 + (x3 - 48)) * 10 + (x4 - 48)) n p4.1 in
    let l = first_digit x1 x2 (x3 ∷ x4 ∷ []) w.well p1.0 in
    let h = here4 (x1 - 48) (x2 - 48) (x3 - 48) (x4 - 48) n l r1.small r2.small r3.small r4.small z in
    cc (h, r1.is, r2.is, r3.is, r4.is)
back_go (x1 ∷ x2 ∷ x3 ∷ x4 ∷ x5 ∷ []) n w =
    let p1 = digits_step (0) x1 n (x2 ∷ x3 ∷ x4 ∷ x5 ∷ []) w.value in
    let r1 = reads_as x1 p1.0 in
    let p2 = digits_step ((0) * 10 + (x1 - 48)) x2 n (x3 ∷ x4 ∷ x5 ∷ []) p1.1 in
    let r2 = reads_as x2 p2.0 in
    let p3 = digits_step (((0) * 10 + (x1 - 48)) * 10 + (x2 - 48)) x3 n (x4 ∷ x5 ∷ []) p2.1 in
    let r3 = reads_as x3 p3.0 in
    let p4 = digits_step ((((0) * 10 + (x1 - 48)) * 10 + (x2 - 48)) * 10 + (x3 - 48)) x4 n (x5 ∷ []) p3.1 in
    let r4 = reads_as x4 p4.0 in
    let p5 = digits_step (((((0) * 10 + (x1 - 48)) * 10 + (x2 - 48)) * 10 + (x3 - 48)) * 10 + (x4 - 48)) x5 n ([]) p4.1 in
    let r5 = reads_as x5 p5.0 in
    let z = last ((((((0) * 10 + (x1 - 48)) * 10 + (x2 - 48)) * 10 + (x3 - 48)) * 10 + (x4 - 48)) * 10 + (x5 - 48)) n p5.1 in
    let l = first_digit x1 x2 (x3 ∷ x4 ∷ x5 ∷ []) w.well p1.0 in
    let h = here5 (x1 - 48) (x2 - 48) (x3 - 48) (x4 - 48) (x5 - 48) n l r1.small r2.small r3.small r4.small r5.small z in
    cc (h, r1.is, r2.is, r3.is, r4.is, r5.is)
back_go (x1 ∷ x2 ∷ x3 ∷ x4 ∷ x5 ∷ x6 ∷ s) n w = absurd (omega (arith, w.few))

pub number_back : (s : List ℕ) (n : ℕ) → number s ≡ some n → s ≡ numeral n
number_back s n e = back_go s n (begun s n e)

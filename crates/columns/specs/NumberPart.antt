-- A number, and then what no digit begins: the text stops where the number reader stops, or behind that.
use Prim.Native.Nat.{ℕ, zero, suc, ◌+◌, ◌-◌, ◌*◌, ◌≤◌}
use Rattle.std.specs.Prelude.{◌≡◌, Bool, eqb, ltb, drop}
use Rattle.std.proofs.Math.Path.{refl, ap}
use Rattle.std.proofs.Common.{sym, ◌∙◌, ltb-true, ltb-false}
use mathlib.Core.List.{List, [], ◌∷◌, ◌++◌}
use Rattle.std.proofs.Math.Bool.{true, false, cond}
use Rattle.std.proofs.Math.Option.{none, some}
use native.Mathlib.Omega.{arith}
use Rattle.std.proofs.Math.ListN.{length}
use Rattle.scope.specs.Logic.Form.{both}
use Rattle.scope.specs.File.Number.{is_digit, digits, number}
use Rattle.scope.specs.Tools.Tests.{never, both_true, both_met, taken}
use Rattle.scope.specs.File.Stops.{most_digits, digits_up_to, number_stop, stopped_at, digits_stop}
use Rattle.lines.specs.Stop.{number_long, number_good}
use Rattle.scope.specs.File.Column.{Goes}
use Rattle.columns.specs.Laws.{Tells, live, tells_same}

-- A number, and then a text of some kind.
pub record NumberThen (Whole : List ℕ → Type 0) (t : List ℕ) : Type 0 where
  pub digits : List ℕ
  pub value : ℕ
  pub rest : List ℕ
  pub is : t ≡ digits ++ rest
  pub reads : number digits ≡ some value
  pub holds : Whole rest

-- No text of some kind begins with a digit.
abbrev pub Undigited : (List ℕ → Type 0) → Type 0
Undigited P = (b : ℕ) (t : List ℕ) → P (b ∷ t) → is_digit b ≡ false

unfoldable all_digits : List ℕ → Bool
unfolding both
all_digits [] = true
all_digits (b ∷ s) = both (is_digit b) (all_digits s)

-- At most k more digits, and then a text of some kind.
record Digits (P : List ℕ → Type 0) (k : ℕ) (t : List ℕ) : Type 0 where
  more : List ℕ
  rest : List ℕ
  is : t ≡ more ++ rest
  are : all_digits more ≡ true
  few : length more ≤ k
  holds : P rest

unfoldable more_stop : ℕ → (List ℕ → ℕ) → List ℕ → ℕ
unfolding is_digit
more_stop zero f s = f s
more_stop (suc k) f [] = f []
more_stop (suc k) f (b ∷ s) = cond (is_digit b) (suc (more_stop k f s)) (f (b ∷ s))

digits_are : (k : ℕ) (f : List ℕ → ℕ) (s : List ℕ) → more_stop k f s ≡ digits_up_to k s + f (drop (digits_up_to k s) s)
unfolding more_stop digits_up_to
digits_are zero f s = omega arith
digits_are (suc k) f [] = omega arith
digits_are (suc k) f (b ∷ s) = go (is_digit b) (digits_are k f s)
  where
    go :
        (x : Bool) → more_stop k f s ≡ digits_up_to k s + f (drop (digits_up_to k s) s)
        → cond x (suc (more_stop k f s)) (f (b ∷ s)) ≡ cond x (suc (digits_up_to k s)) 0 + f (drop (cond x (suc (digits_up_to k s)) 0) (b ∷ s))
    go true e = rw e (omega arith)
    go false e = omega arith

-- A byte in front is the text's own, or one of the digits.
data First (P : List ℕ → Type 0) (k b : ℕ) (t : List ℕ) : Type 0 where
  at_once : P (b ∷ t) → First P k b t
  one_more : (j : ℕ) → k ≡ suc j → is_digit b ≡ true → Digits P j t → First P k b t

digits_first : (P : List ℕ → Type 0) (k b : ℕ) (t : List ℕ) → Digits P k (b ∷ t) → First P k b t
unfolding all_digits
digits_first P k b t g = go g.more k g.is g.are g.few
  where
    go : (more : List ℕ) (k : ℕ) → b ∷ t ≡ more ++ g.rest → all_digits more ≡ true → length more ≤ k → First P k b t
    go [] k e a h = at_once (rw e g.holds)
    go (c ∷ more) zero e a h = absurd (omega arith)
    go (c ∷ more) (suc k) e a h =
        let p = both_true (is_digit c) (all_digits more) a in
        let x : b ≡ c = cc in
        one_more k refl (rw x p.0) (record { more = more; rest = g.rest; is = cc; are = p.1; few = omega arith; holds = g.holds })

module _ {P : List ℕ → Type 0} {f : List ℕ → ℕ} (d : Tells P f) (u : Undigited P) where
  digits_bounded : (k : ℕ) (s : List ℕ) → more_stop k f s ≤ length s
  unfolding more_stop
  digits_bounded zero s = d.bounded s
  digits_bounded (suc k) [] = d.bounded []
  digits_bounded (suc k) (b ∷ s) = go (is_digit b) (digits_bounded k s) (d.bounded (b ∷ s))
    where
      go :
          (x : Bool) → more_stop k f s ≤ length s → f (b ∷ s) ≤ suc (length s)
          → cond x (suc (more_stop k f s)) (f (b ∷ s)) ≤ suc (length s)
      go true h j = omega arith
      go false h j = j

  digits_there : (k : ℕ) (p r : List ℕ) → Goes (Digits P k) p → length p ≤ more_stop k f (p ++ r)
  unfolding more_stop
  digits_there k [] r g = omega arith
  digits_there zero (b ∷ p) r g = go (digits_first P 0 b (p ++ g.continued) g.whole)
    where
      go : First P 0 b (p ++ g.continued) → suc (length p) ≤ f (b ∷ p ++ r)
      go (at_once h) = d.there (b ∷ p) r (record { continued = g.continued; whole = h })
      go (one_more j e q m) = absurd (omega arith)
  digits_there (suc k) (b ∷ p) r g = go (digits_first P (suc k) b (p ++ g.continued) g.whole) (λ m. digits_there k p r m)
    where
      go :
          First P (suc k) b (p ++ g.continued) → (Goes (Digits P k) p → length p ≤ more_stop k f (p ++ r))
          → suc (length p) ≤ cond (is_digit b) (suc (more_stop k f (p ++ r))) (f (b ∷ p ++ r))
      go (at_once h) ih = rw (u b (p ++ g.continued) h) (d.there (b ∷ p) r (record { continued = g.continued; whole = h }))
      go (one_more j e q m) ih =
          let z : j ≡ k = omega arith in
          let n = ih (record { continued = g.continued; whole = rw z at m }) in
          rw q (omega arith)

  digits_none : (k : ℕ) (p : List ℕ) → Goes P p → Goes (Digits P k) p
  unfolding all_digits
  digits_none k p g =
      record {
        continued = g.continued;
        whole = record { more = []; rest = p ++ g.continued; is = refl; are = refl; few = omega arith; holds = g.whole };
      }

  digits_one : (k b : ℕ) (p : List ℕ) → is_digit b ≡ true → Goes (Digits P k) p → Goes (Digits P (suc k)) (b ∷ p)
  unfolding all_digits
  digits_one k b p q g =
      let w = g.whole in
      record {
        continued = g.continued;
        whole =
            record {
              more = b ∷ w.more;
              rest = w.rest;
              is = ap (λ l. b ∷ l) w.is;
              are = both_met (is_digit b) (all_digits w.more) q w.are;
              few = omega (arith, w.few);
              holds = w.holds;
            };
      }

  digits_back : (k : ℕ) (p r : List ℕ) → length p ≤ more_stop k f (p ++ r) → Goes (Digits P k) p
  unfolding more_stop
  digits_back k [] r h = digits_none k [] (live d)
  digits_back zero (b ∷ p) r h = digits_none 0 (b ∷ p) (d.back (b ∷ p) r h)
  digits_back (suc k) (b ∷ p) r h = go (is_digit b) refl (λ j. digits_back k p r j) h
    where
      go :
          (x : Bool) → is_digit b ≡ x → (length p ≤ more_stop k f (p ++ r) → Goes (Digits P k) p)
          → suc (length p) ≤ cond x (suc (more_stop k f (p ++ r))) (f (b ∷ p ++ r)) → Goes (Digits P (suc k)) (b ∷ p)
      go true q ih j = digits_one k b p q (ih (omega arith))
      go false q ih j = digits_none (suc k) (b ∷ p) (d.back (b ∷ p) r j)

-- How many digits may follow the first: none behind a zero.
abbrev more_digits : ℕ → ℕ
more_digits b = cond (eqb b 48) 0 4

more_most : (b : ℕ) (s : List ℕ) → most_digits (b ∷ s) ≡ suc (more_digits b)
unfolding most_digits
more_most b s = go (eqb b 48)
  where
    go : (x : Bool) → cond x 1 5 ≡ suc (cond x 0 4)
    go true = refl
    go false = refl

unfoldable first_stop : (List ℕ → ℕ) → List ℕ → ℕ
unfolding more_stop
first_stop f [] = 0
first_stop f (b ∷ s) = cond (is_digit b) (suc (more_stop (more_digits b) f s)) 0

number_stop_lem : (f : List ℕ → ℕ) (s : List ℕ) → digits_stop f s ≡ first_stop f s
unfolding digits_stop number_stop most_digits digits_up_to stopped_at first_stop
number_stop_lem f [] = refl
number_stop_lem f (b ∷ s) = rw (more_most b s) (go (is_digit b))
  where
    go :
        (x : Bool)
        → stopped_at (cond x (suc (digits_up_to (more_digits b) s)) 0) f (b ∷ s) ≡ cond x (suc (more_stop (more_digits b) f s)) 0
    go true = rw (digits_are (more_digits b) f s) (omega arith)
    go false = refl

-- A number by its first digit and the others.
digits_all : (v n : ℕ) (s : List ℕ) → digits v s ≡ some n → all_digits s ≡ true
unfolding digits all_digits
digits_all v n [] e = refl
digits_all v n (b ∷ s) e =
    let p = taken (is_digit b) (digits (v * 10 + (b - 48)) s) n e in
    both_met (is_digit b) (all_digits s) p.0 (digits_all (v * 10 + (b - 48)) n s p.1)

digits_on : (v b : ℕ) (s : List ℕ) → is_digit b ≡ true → digits v (b ∷ s) ≡ digits (v * 10 + (b - 48)) s
unfolding digits
digits_on v b s q = rw q

all_digits_lem : (v : ℕ) (s : List ℕ) → all_digits s ≡ true → (n : ℕ) × (digits v s ≡ some n)
unfolding digits all_digits
all_digits_lem v [] e = (v, refl)
all_digits_lem v (b ∷ s) e =
    let p = both_true (is_digit b) (all_digits s) e in
    let m = all_digits_lem (v * 10 + (b - 48)) s p.1 in
    (m.0, digits_on v b s p.0 ∙ m.1)

record Begun (v : List ℕ) (n : ℕ) : Type 0 where
  first : ℕ
  more : List ℕ
  is : v ≡ first ∷ more
  digit : is_digit first ≡ true
  are : all_digits more ≡ true
  few : length more ≤ more_digits first

begun : (v : List ℕ) (n : ℕ) → number v ≡ some n → Begun v n
unfolding all_digits
begun [] n e =
    let z : number [] ≡ none = unfold number both in refl in
    never cc
begun (b ∷ s) n e = go (ltb (most_digits (b ∷ s)) (length (b ∷ s))) refl
  where
    go : (x : Bool) → ltb (most_digits (b ∷ s)) (length (b ∷ s)) ≡ x → Begun (b ∷ s) n
    go true q =
        let z = number_long (b ∷ s) (ltb-true (most_digits (b ∷ s)) (length (b ∷ s)) q) in
        never cc
    go false q =
        let h : length (b ∷ s) ≤ most_digits (b ∷ s) = ltb-false (most_digits (b ∷ s)) (length (b ∷ s)) q in
        let k : suc (length s) ≤ suc (more_digits b) = rw (more_most b s) at h in
        let g = number_good (b ∷ s) (omega arith) h in
        let p = both_true (is_digit b) (all_digits s) (digits_all 0 n (b ∷ s) (sym g ∙ e)) in
        record { first = b; more = s; is = refl; digit = p.0; are = p.1; few = omega (arith, k) }

digits_full : (m : ℕ) (s : List ℕ) → all_digits s ≡ true → length s ≤ m → length s ≡ digits_up_to m s
unfolding all_digits digits_up_to
digits_full zero [] a h = refl
digits_full (suc m) [] a h = refl
digits_full zero (b ∷ s) a h = absurd (omega arith)
digits_full (suc m) (b ∷ s) a h =
    let p = both_true (is_digit b) (all_digits s) a in
    let k = digits_full m s p.1 (omega arith) in
    rw p.0 (ap suc k)

-- Every byte of a number can stand.
pub number_whole : (s : List ℕ) (n : ℕ) → number s ≡ some n → length s ≡ number_stop s
unfolding number_stop all_digits
number_whole s n e =
    let w = begun s n e in
    let f : suc (length w.more) ≤ most_digits (w.first ∷ w.more) = rw (more_most w.first w.more) (omega (arith, w.few)) in
    rw w.is
    (digits_full (most_digits (w.first ∷ w.more)) (w.first ∷ w.more) (both_met (is_digit w.first) (all_digits w.more) w.digit w.are) f)

begun_reads : (b : ℕ) (s : List ℕ) → is_digit b ≡ true → all_digits s ≡ true → length s ≤ more_digits b → (n : ℕ) × (number (b ∷ s) ≡ some n)
unfolding all_digits
begun_reads b s q a h =
    let d = all_digits_lem 0 (b ∷ s) (both_met (is_digit b) (all_digits s) q a) in
    let k : suc (length s) ≤ suc (more_digits b) = omega (arith, h) in
    let m : length (b ∷ s) ≤ most_digits (b ∷ s) = rw (more_most b s) k in
    (d.0, number_good (b ∷ s) (omega arith) m ∙ d.1)

module _ {P : List ℕ → Type 0} {f : List ℕ → ℕ} (d : Tells P f) (u : Undigited P) where
  first_bounded : (s : List ℕ) → first_stop f s ≤ length s
  unfolding first_stop
  first_bounded [] = omega arith
  first_bounded (b ∷ s) = go (is_digit b) (digits_bounded d u (more_digits b) s)
    where
      go : (x : Bool) → more_stop (more_digits b) f s ≤ length s → cond x (suc (more_stop (more_digits b) f s)) 0 ≤ suc (length s)
      go true h = omega arith
      go false h = omega arith

  -- Behind a first digit.
  number_one : (b : ℕ) (p : List ℕ) → is_digit b ≡ true → Goes (Digits P (more_digits b)) p → Goes (NumberThen P) (b ∷ p)
  number_one b p q g =
      let w = g.whole in
      let n = begun_reads b w.more q w.are w.few in
      record {
        continued = g.continued;
        whole = record { digits = b ∷ w.more; value = n.0; rest = w.rest; is = ap (λ l. b ∷ l) w.is; reads = n.1; holds = w.holds };
      }

  first_there : (p r : List ℕ) → Goes (NumberThen P) p → length p ≤ first_stop f (p ++ r)
  unfolding first_stop
  first_there [] r g = omega arith
  first_there (b ∷ p) r g =
      let w = g.whole in
      let n = begun w.digits w.value w.reads in
      let x : b ≡ n.first = cc (w.is, n.is) in
      let y : p ++ g.continued ≡ n.more ++ w.rest = cc (w.is, n.is) in
      let m : Digits P (more_digits b) (p ++ g.continued) =
      record { more = n.more; rest = w.rest; is = y; are = n.are; few = rw x n.few; holds = w.holds } in
      let h = digits_there d u (more_digits b) p r (record { continued = g.continued; whole = m }) in
      let q : is_digit b ≡ true = rw x n.digit in
      rw q (omega (arith, h))

  first_back : (p r : List ℕ) → length p ≤ first_stop f (p ++ r) → Goes (NumberThen P) p
  unfolding first_stop is_digit both
  first_back [] r h =
      let g = number_one 48 [] refl (digits_none d u 0 [] (live d)) in
      record { continued = 48 ∷ g.continued; whole = g.whole }
  first_back (b ∷ p) r h = go (is_digit b) refl h
    where
      go : (x : Bool) → is_digit b ≡ x → suc (length p) ≤ cond x (suc (more_stop (more_digits b) f (p ++ r))) 0 → Goes (NumberThen P) (b ∷ p)
      go true q j = number_one b p q (digits_back d u (more_digits b) p r (omega arith))
      go false q j = absurd (omega arith)

  pub tells_number : Tells (NumberThen P) (digits_stop f)
  tells_number = tells_same (number_stop_lem f) (record { there = first_there; back = first_back; bounded = first_bounded })

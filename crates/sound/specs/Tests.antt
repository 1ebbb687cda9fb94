-- Tests over numbers and their laws: what a test that holds tells, and when it holds.
use Rattle.std.specs.Prelude.{ℕ, zero, suc, ◌<◌, ◌≤◌, ◌≡◌, refl, Bool, true, false, List, [], ◌∷◌, ◌⊎◌}
use Rattle.std.proofs.Common.{inl, inr, ⊎_elim, arith, eq-or-lt_of_le}
use Rattle.scope.specs.Logic.Form.{both, either}
use Rattle.scope.specs.Tools.Tests.{never, both_true, both_met}
use Rattle.sound.specs.Over.{All}

-- Tests that stay shut, so that what they test can be read off them.
unfoldable pub implies : Bool → Bool → Bool
implies true b = b
implies false b = true

-- t holds of every number below n.
unfoldable pub every : ℕ → (ℕ → Bool) → Bool
unfolding both
every zero t = true
every (suc n) t = both (t n) (every n t)

pub either_true : (a b : Bool) → (a ≡ true) ⊎ (b ≡ true) → either a b ≡ true
unfolding either
either_true true b h = refl
either_true false b h = ⊎_elim (λ e. never cc) (λ e. e) h

pub true_either : (a b : Bool) → either a b ≡ true → (a ≡ true) ⊎ (b ≡ true)
unfolding either
true_either true b e = inl refl
true_either false b e = inr e

pub implies_so : (a b : Bool) → implies a b ≡ true → a ≡ true → b ≡ true
unfolding implies
implies_so true b e d = e
implies_so false b e d = never cc

pub so_implies : (a b : Bool) → (a ≡ true → b ≡ true) → implies a b ≡ true
unfolding implies
so_implies true b h = h refl
so_implies false b h = refl

pub every_at : (n : ℕ) (t : ℕ → Bool) → every n t ≡ true → (x : ℕ) → x < n → t x ≡ true
unfolding every
every_at zero t e x i = absurd (omega arith)
every_at (suc n) t e x i =
    let l : x ≤ n = omega arith in
    ⊎_elim (λ q. rw q (both_true (t n) (every n t) e).0) (every_at n t (both_true (t n) (every n t) e).1 x) (eq-or-lt_of_le l)

pub at_every : (n : ℕ) (t : ℕ → Bool) → ((x : ℕ) → x < n → t x ≡ true) → every n t ≡ true
unfolding every
at_every zero t h = refl
at_every (suc n) t h = both_met (t n) (every n t) (h n (omega arith)) (at_every n t (λ x i. h x (omega arith)))

-- Each of a list of tests holds.
unfoldable pub alltrue : List Bool → Bool
unfolding both
alltrue [] = true
alltrue (b ∷ bs) = both b (alltrue bs)

pub each_true : (bs : List Bool) → alltrue bs ≡ true → All (λ (b : Bool). b ≡ true) bs
unfolding alltrue
each_true [] e = tt
each_true (b ∷ bs) e = ((both_true b (alltrue bs) e).0, each_true bs (both_true b (alltrue bs) e).1)

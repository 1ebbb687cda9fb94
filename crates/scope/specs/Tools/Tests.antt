-- Laws of tests, for the proofs of every crate: what a test that passed tells, of `both`, of `demand`, and of the choice between two results.
use Rattle.std.specs.Prelude.{ℕ, ◌+◌, ◌≡◌, refl, Bool, true, false, cond}
use Rattle.std.proofs.Math.Option.{Option, none, some}
use Rattle.std.proofs.Common.{arith}
use Rattle.scope.specs.Logic.Form.{both}
use Rattle.scope.specs.File.Refusals.{demand}

pub never : {A : Type 0} → ◌≡◌ {A = ℕ} 0 1 → A
never z = absurd (omega arith)

pub both_true : (a b : Bool) → both a b ≡ true → (a ≡ true) × (b ≡ true)
unfolding both
both_true true b e = (refl, e)
both_true false b e = never cc

pub both_met : (a b : Bool) → a ≡ true → b ≡ true → both a b ≡ true
unfolding both
both_met a b p q = rw p q

pub both_yes : (b : Bool) → both b true ≡ b
unfolding both
both_yes true = refl
both_yes false = refl

-- A demand under which nothing is refused was met.
pub demand_met : (t : Bool) (k n : ℕ) → demand t (1 + k) n ≡ 0 → (t ≡ true) × (n ≡ 0)
unfolding demand
demand_met true k n e = (refl, e)
demand_met false k n e = absurd (omega arith)

pub demand_passes : (t : Bool) (k n : ℕ) → t ≡ true → demand t k n ≡ n
unfolding demand
demand_passes t k n p = rw p refl

pub demand_both : (a b : Bool) (k next : ℕ) → demand (both a b) k next ≡ demand a k (demand b k next)
unfolding demand both
demand_both true b k next = refl
demand_both false b k next = refl

pub taken : {A : Type 0} (t : Bool) (x : Option A) (a : A) → cond t x none ≡ some a → (t ≡ true) × (x ≡ some a)
taken true x a e = (refl, e)
taken false x a e = never cc

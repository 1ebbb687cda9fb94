-- How far down lines stand.
use Rattle.std.specs.Prelude.{ℕ, ◌≤◌, Bool, true, false, cond}
use Rattle.std.proofs.Common.{arith}
use Rattle.scope.specs.Limits.{has_logic, extra_lines}

pub few_lines : (version : ℕ) → extra_lines version ≤ 1
few_lines version = go (has_logic version)
  where
    go : (b : Bool) → cond b 1 0 ≤ 1
    go true = omega arith
    go false = omega arith

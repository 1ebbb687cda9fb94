-- A demand that is refused is the answer, and one that is met leaves what is asked after it.
use Rattle.std.specs.Prelude.{ℕ, suc, ◌≡◌, refl, Bool, true, false}
use Rattle.std.proofs.Common.{arith}
use Rattle.scope.specs.File.Refusals.{demand}
use Rattle.common.specs.declared.refused.Refusal.{Refusal}
use Rattle.common.specs.Refused.{number_of}
use Rattle.numbering.specs.Refused.{number_some}

pub demand_out : (b : Bool) (k : ℕ) (r : Refusal) (next : ℕ) → number_of r ≡ demand b k 0 → number_of r ≡ demand b k next
unfolding demand
demand_out true k r next e = absurd (number_some r e)
demand_out false k r next e = e

pub demand_go : (b : Bool) (k next : ℕ) → 0 ≡ demand b (suc k) 0 → next ≡ demand b (suc k) next
unfolding demand
demand_go true k next e = refl
demand_go false k next e = absurd (omega arith)

-- What a limit may do to an answer, for every room: the answer is the same as without limits, or it is 10 at the first step that passes the limit.
use Rattle.std.specs.Prelude.{ℕ, suc, ◌+◌, ◌≡◌, List}
use Rattle.scope.specs.Call.Answer.{Answer, answer}
use Rattle.scope.specs.Logic.Obligation.{Obligation, Step}
use Rattle.granted.specs.Reasons.{Room, Breaks}

-- Of the answer a within the room, and the answer b without limits.
pub data Limited (room : Room) (i : ℕ) (os : List Obligation) (xs : List Step) (a b : Answer) : Type 0 where
  same : a ≡ b → Limited room i os xs a b
  cut : {j : ℕ} → a ≡ answer 10 (suc j + i) → Breaks room os xs 10 (suc j) → Limited room i os xs a b

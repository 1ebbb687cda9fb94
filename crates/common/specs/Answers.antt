-- The answer that the code returns and document 01's: the same numbers.
use Rattle.std.specs.Prelude.{◌≡◌, refl}
use Rattle.scope.specs.Call.Answer.{Answer, told}
use Rattle.common.specs.declared.refused.Answer.{Answer as Returned}

abbrev pub answer_of : Answer → Returned
answer_of (told k place column) = record { refusal = k; place = place; column = column }

abbrev pub answer_is : Returned → Answer
answer_is a = told a.refusal a.place a.column

pub answer_back : (a : Answer) → answer_is (answer_of a) ≡ a
answer_back (told k place column) = refl

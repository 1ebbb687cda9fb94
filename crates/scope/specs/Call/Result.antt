-- A result or a refusal: what reading a text, and what writing one, comes to.
use Rattle.std.specs.Prelude.{zero, suc}
use Rattle.scope.specs.Call.Answer.{Answer, told, answer}

pub data Result (A : Type 0) : Type 0 where
  result : A → Result A
  refused : Answer → Result A

-- 'What comes back': 0 at place 0, or the refusal.
unfoldable pub result_answer : {A : Type 0} → Result A → Answer
result_answer (result a) = answer 0 0
result_answer (refused a) = a

-- What is refused before it comes first.
unfoldable pub unless_refused : {A : Type 0} → Answer → Result A → Result A
unless_refused (told zero place column) r = r
unless_refused (told (suc k) place column) r = refused (told (suc k) place column)

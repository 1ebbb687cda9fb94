-- Document 01's number and place in the judge's answer, for each case of what it is made of.
use Rattle.std.specs.Prelude.{Result, Ok, Err, ⊤}
use Rattle.common.specs.declared.refused.Answer.{Answer}
use Rattle.common.specs.Refused.{number_of}
use Rattle.machine.specs.declared.StepRefusal.{StepRefusal}

-- What the checks refuse, and the judge.
unfoldable pub refusal_answer : Result ⊤ Answer → Answer
refusal_answer (Ok u) = record { refusal = 0; place = 0; column = 0 }
refusal_answer (Err a) = a

-- What the walk answers.
unfoldable pub walked_to : Result ⊤ StepRefusal → Answer
walked_to (Ok u) = record { refusal = 0; place = 0; column = 0 }
walked_to (Err r) = record { refusal = number_of r.refusal; place = r.step; column = 0 }

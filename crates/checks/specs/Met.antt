-- The answer of a check as the code gives it: `Ok`, which is document 01's number 0, or a refusal with its number and place.
use Rattle.std.specs.Prelude.{ℕ, zero, suc, ◌+◌, List, Result, Ok, Err, ⊤}
use Rattle.scope.specs.Call.Answer.{Answer, told, answer}
use Rattle.scope.specs.Call.Checked.{first_met}
use Rattle.scope.specs.Call.Tables.{Lent}
use Rattle.scope.specs.File.Kinds.{logic_of}
use Rattle.common.specs.declared.Counts.{Counts}
use Rattle.common.specs.declared.refused.Answer.{Answer as Returned}
use Rattle.common.specs.Answers.{answer_of, answer_is}

abbrev pub Checked : Type 0
Checked = Result ⊤ Returned

abbrev pub Fine : Checked
Fine = Ok tt

-- Document 01's number and place for each case.
unfoldable pub answer_in : Checked → Answer
answer_in (Ok a) = answer 0 0
answer_in (Err r) = answer_is r

-- The case for a number and a place: 0 is no refusal.
unfoldable pub checked_of : Answer → Checked
checked_of (told zero place column) = Ok tt
checked_of (told (suc k) place column) = Err (answer_of (told (suc k) place column))

-- 'The first met is the answer, with no other given.'
unfoldable pub met_in : List Answer → Checked
met_in all = checked_of (first_met all)

-- The same about lines that stand n lines further down.
unfoldable pub down_of : ℕ → Checked → Checked
down_of n (Ok a) = Ok a
down_of n (Err r) = Err (record { refusal = r.refusal; place = r.place + n; column = r.column })

-- Where it is a refusal, its place.
unfoldable pub place_of : Checked → ℕ
place_of (Ok a) = 0
place_of (Err r) = r.place

-- Counts and tables as lent.
abbrev pub lent_with : Counts → List ℕ → List ℕ → List ℕ → Lent
lent_with c forms policy steps =
    record {
      version = c.version;
      logic = logic_of c.logic;
      principals = c.principals;
      atoms = c.atoms;
      formulas = c.formulas;
      policy = c.policy;
      goal = c.goal;
      steps = c.steps;
      form_table = forms;
      policy_table = policy;
      step_table = steps;
    }

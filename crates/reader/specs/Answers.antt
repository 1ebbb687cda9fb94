-- What the answers of the code say of the text that was read.
use Rattle.std.specs.Prelude.{ℕ, ◌≤◌, ◌≡◌, refl, List, length, replicate, Result, Ok, Err, MatchResult}
use Rattle.std.specs.Borrow.{Bor}
use Rattle.scope.specs.Call.Result.{result, refused, result_answer}
use Rattle.scope.specs.Logic.Facts.{Logic, plain, unit}
use Rattle.scope.specs.File.Kinds.{logic_number, logic_of}
use Rattle.scope.specs.File.Request.{Row, Request}
use Rattle.scope.specs.File.Line.{Value, val, out, Read, ok, bad}
use Rattle.scope.specs.File.Reader.{Outcome}
use Rattle.scope.specs.Call.Tables.{Entry, table, form_entry, policy_entry, step_entry}
use Rattle.scope.specs.Call.Answer.{Answer, answer}
use Rattle.scope.specs.Call.Calls.{no_request, request_in}
use Rattle.common.specs.Answers.{answer_of, answer_is, answer_back}
use Rattle.common.specs.Refused.{number_of}
use Rattle.common.specs.declared.Counts.{Counts}
use Rattle.common.specs.declared.refused.Answer.{Answer as Returned}
use Rattle.common.specs.declared.refused.Refusal.{Refusal}
use Rattle.steps.specs.declared.Pair.{Pair}
use Rattle.steps.specs.declared.Step.{Step}
use Rattle.steps.specs.Steps.{pair_of}
use Rattle.reader.specs.Sections.{Told, Counted, Formulas, PolicyRead}
use Rattle.reader.specs.declared.parts.Start.{Start}
use Rattle.reader.specs.declared.parts.Head.{Head}
use Rattle.reader.specs.declared.parts.Policy.{Policy}

-- What the reader answers: version and logic, the counts and the goal, or the refusal and its place.
abbrev pub counts_of : Request → Counts
counts_of q =
    record {
      version = q.version;
      logic = logic_number q.logic;
      principals = q.principals;
      atoms = q.atoms;
      formulas = length q.forms;
      policy = length q.policy;
      goal = q.goal;
      steps = length q.steps;
    }

-- A logic is told by its number again.
pub logic_back : (l : Logic) → logic_of (logic_number l) ≡ l
unfolding logic_of
logic_back plain = refl
logic_back unit = refl

unfoldable pub reading_of : Outcome → Result Counts Returned
reading_of (result q) = Ok (counts_of q)
reading_of (refused a) = Err (answer_of a)

-- Document 01's number and values for each case: 0 at place 0 with the counts and the goal, or the refusal at its place with zeros.
unfoldable pub answer_in : Result Counts Returned → Answer
answer_in (Ok c) = answer 0 0
answer_in (Err r) = answer_is r

unfoldable pub counts_in : Result Counts Returned → Counts
counts_in (Ok c) = c
counts_in (Err r) = counts_of no_request

pub answers_same : (o : Outcome) → answer_in (reading_of o) ≡ result_answer o
unfolding answer_in reading_of result_answer
answers_same (result q) = refl
answers_same (refused z) = answer_back z

pub counts_same : (o : Outcome) → counts_in (reading_of o) ≡ counts_of (request_in o)
unfolding counts_in reading_of request_in
counts_same (result q) = refl
counts_same (refused z) = refl

-- Of the value of a line, seen as a thing of document 01: the thing, or the number of its refusal.
abbrev pub said : {A C : Type 0} → (C → A) → Result C Refusal → Value A
said see (Ok c) = val (see c)
said see (Err r) = out (number_of r)

abbrev pub same : ℕ → ℕ
same n = n

-- A step takes two of a row's three numbers.
abbrev pub pair_row : Pair → Row
pair_row p = record { kind = p.kind; left = p.number; right = 0 }

abbrev pub step_row : Step → Row
step_row x = pair_row (pair_of x)

abbrev pub head_of : Head → Counted
head_of h = record { principals = h.principals; atoms = h.atoms; formulas = h.formulas }

-- Of a line or more: what was read, and the text behind it; or the refusal.
abbrev pub Reads : {A C : Type 0} → (C → A) → Read A → Result (C × Bor (List ℕ)) Returned → Type 0
Reads see r a = MatchResult a (λ p. r ≡ ok (see p.0) p.1.now) (λ z. r ≡ bad (answer_is z))

-- The same where the code has less of the thing than was read.
pub record Given {A C : Type 0} (told : A → C) (r : Read A) (c : C) (rest : List ℕ) : Type 0 where
  pub thing : A
  pub is : r ≡ ok thing rest
  pub seen : c ≡ told thing

abbrev pub Gives : {A C : Type 0} → (A → C) → Read A → Result (C × Bor (List ℕ)) Returned → Type 0
Gives told r a = MatchResult a (λ p. Given told r p.0 p.1.now) (λ z. r ≡ bad (answer_is z))

abbrev pub start_of : Told → Start
start_of t = record { version = t.version; logic = logic_number t.logic }

-- A lent table that is all zero, with room for n numbers. It holds as a call begins and the call writes to the table, so it is no field of a struct.
pub record Zero (n : ℕ) (t : List ℕ) : Type 0 where
  pub room : n ≤ length t
  pub zero : t ≡ replicate (length t) 0

-- Of n lines of one kind, whose things stand in a lent table.
pub record ManyKept {A : Type 0} (e : Entry A) (n : ℕ) (r : Read (List A)) (rest numbers : List ℕ) : Type 0 where
  pub things : List A
  pub is : r ≡ ok things rest
  pub count : length things ≡ n
  pub stored : numbers ≡ table e (length numbers) things

abbrev pub ReadsMany : {A : Type 0} → Entry A → ℕ → Read (List A) → Result (Bor (List ℕ)) Returned → List ℕ → Type 0
ReadsMany e n r a numbers = MatchResult a (λ p. ManyKept e n r p.now numbers) (λ z. r ≡ bad (answer_is z))

-- Of a part with a lent table.
pub record PartKept {A C : Type 0} (told : C → A → Type 0) (put : A → ℕ → List ℕ) (r : Read A) (c : C) (rest numbers : List ℕ) : Type 0 where
  pub thing : A
  pub is : r ≡ ok thing rest
  pub seen : told c thing
  pub stored : numbers ≡ put thing (length numbers)

abbrev pub ReadsPart : {A C : Type 0} → (C → A → Type 0) → (A → ℕ → List ℕ) → Read A → Result (C × Bor (List ℕ)) Returned → List ℕ → Type 0
ReadsPart told put r a numbers = MatchResult a (λ p. PartKept told put r p.0 p.1.now numbers) (λ z. r ≡ bad (answer_is z))

abbrev pub formulas_of : Head → Formulas → Type 0
formulas_of h f = ◌≡◌ {A = Counted} (head_of h) (record { principals = f.principals; atoms = f.atoms; formulas = length f.forms })

abbrev pub forms_of : Formulas → ℕ → List ℕ
forms_of f len = table form_entry len f.forms

abbrev pub policy_of : Policy → PolicyRead → Type 0
policy_of c p = ◌≡◌ {A = Policy} c (record { clauses = length p.policy; goal = p.goal })

abbrev pub lines_of : PolicyRead → ℕ → List ℕ
lines_of p len = table policy_entry len p.policy

abbrev pub count_of : ℕ → List Row → Type 0
count_of n rows = n ≡ length rows

abbrev pub rows_of : List Row → ℕ → List ℕ
rows_of rows len = table step_entry len rows

-- Of a whole text: the counts of its request, which stands in the lent tables; or the refusal.
pub record Kept (o : Outcome) (c : Counts) (forms policy steps : List ℕ) : Type 0 where
  pub request : Request
  pub is : o ≡ result request
  pub counted : c ≡ counts_of request
  pub forms_stored : forms ≡ table form_entry (length forms) request.forms
  pub policy_stored : policy ≡ table policy_entry (length policy) request.policy
  pub steps_stored : steps ≡ table step_entry (length steps) request.steps

abbrev pub Answers : Outcome → Result Counts Returned → List ℕ → List ℕ → List ℕ → Type 0
Answers o a forms policy steps = MatchResult a (λ c. Kept o c forms policy steps) (λ z. o ≡ refused (answer_is z))

-- What a call of the reader and a call of the writer come to: the answer, and what stands in the lent tables and the output after it.
use Rattle.std.specs.Prelude.{ℕ, zero, suc, List, [], cond, leb, length}
use Rattle.scope.specs.Call.Result.{Result, result, refused}
use Rattle.scope.specs.Logic.Facts.{plain}
use Rattle.scope.specs.File.Request.{Request}
use Rattle.scope.specs.Call.Answer.{Answer, told, answer}
use Rattle.scope.specs.Limits.{most_bytes}
use Rattle.scope.specs.File.Text.{request_text}
use Rattle.scope.specs.File.Reader.{Outcome, read_request}
use Rattle.scope.specs.Call.Tables.{Lent, form_entry, policy_entry, step_entry, padded, table, has_room, request_of, lent_of}
use Rattle.scope.specs.Call.Checked.{checked}

-- 'Order: 13, 1, then lines in order.' The tables are lent with these lengths.
unfoldable pub reading : ℕ → ℕ → ℕ → List ℕ → Outcome
unfolding has_room read_request
reading forms policy steps s =
    cond (has_room forms policy steps) (cond (leb (length s) most_bytes) (read_request s) (refused (answer 1 0))) (refused (answer 13 0))

-- 'The counts and the goal come in the answer; after a refusal they are 0.' So do version and logic.
abbrev pub no_request : Request
no_request = record { version = 0; logic = plain; principals = 0; atoms = 0; forms = []; policy = []; goal = 0; steps = [] }

unfoldable pub request_in : Outcome → Request
request_in (result q) = q
request_in (refused a) = no_request

-- The tables as they stand after reading, over the whole lent length: all zero after a refusal.
unfoldable pub form_table_after : ℕ → Outcome → List ℕ
unfolding table request_in
form_table_after len o = table form_entry len (request_in o).forms

unfoldable pub policy_table_after : ℕ → Outcome → List ℕ
unfolding table request_in
policy_table_after len o = table policy_entry len (request_in o).policy

unfoldable pub step_table_after : ℕ → Outcome → List ℕ
unfolding table request_in
step_table_after len o = table step_entry len (request_in o).steps

-- Counts, goal and tables together.
unfoldable pub lent_after : ℕ → ℕ → ℕ → Outcome → Lent
unfolding lent_of request_in
lent_after forms policy steps o = lent_of forms policy steps (request_in o)

abbrev pub Written : Type 0
Written = Result (List ℕ)

-- 'then 14': the output is shorter than the text.
unfoldable pub written_if : Answer → List ℕ → ℕ → Written
written_if (told zero place column) s len = cond (leb (length s) len) (result s) (refused (answer 14 0))
written_if (told (suc k) place column) s len = refused (told (suc k) place column)

-- The output has length len.
unfoldable pub writing : Lent → ℕ → Written
unfolding checked request_of request_text written_if
writing t len = written_if (checked t) (request_text (request_of t)) len

-- 'Its answer gives the text's length, 0 if refused.'
unfoldable pub text_in : Written → List ℕ
text_in (result s) = s
text_in (refused a) = []

-- 'Written bytes are followed by zeros.'
unfoldable pub output_after : ℕ → Written → List ℕ
unfolding padded text_in
output_after len w = padded len (text_in w)

-- What the reader answers, as one record: the refusal, its place and its column, and the counts and the goal, which are 0 after a refusal.
use Rattle.std.specs.Prelude.{◌≡◌, refl, Result, Ok, Err}
use Rattle.scope.specs.Call.Result.{result, refused, result_answer}
use Rattle.scope.specs.Call.Answer.{told, refusal_in, place_in, column_in}
use Rattle.scope.specs.File.Reader.{Outcome}
use Rattle.scope.specs.Call.Calls.{no_request, request_in}
use Rattle.common.specs.declared.Counts.{Counts}
use Rattle.common.specs.declared.refused.Answer.{Answer as Returned}
use Rattle.reader.specs.Answers.{counts_of, reading_of}
use Rattle.peraduksi.specs.declared.Read.{Read}

unfoldable pub read_of : Outcome → Read
unfolding refusal_in place_in column_in result_answer request_in
read_of o =
    record {
      refusal = refusal_in (result_answer o);
      place = place_in (result_answer o);
      column = column_in (result_answer o);
      counts = counts_of (request_in o);
    }

unfoldable pub read_in : Result Counts Returned → Read
read_in (Ok c) = record { refusal = 0; place = 0; column = 0; counts = c }
read_in (Err r) = record { refusal = r.refusal; place = r.place; column = r.column; counts = counts_of no_request }

pub read_in_lem : (o : Outcome) → read_in (reading_of o) ≡ read_of o
unfolding read_in reading_of read_of refusal_in place_in column_in result_answer request_in
read_in_lem (result q) = refl
read_in_lem (refused (told k place column)) = refl

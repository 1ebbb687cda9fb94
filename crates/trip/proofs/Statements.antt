-- The round trip. Over requests: a request without refusal has one text, which reads back. Over calls: what the writer wrote reads back
-- to the very counts, goal and tables, and what the reader read is written again as the very text. Last, tables are refused at the line
-- where their text is, and a text at the line that met the refusal. All of it for all inputs.
use Rattle.std.specs.Prelude.{ℕ, suc, ◌+◌, ◌≤◌, ◌≡◌, List, true, length}
use Rattle.std.proofs.Common.{sym, ap, ◌∙◌, arith}
use Rattle.scope.specs.Call.Result.{result, refused}
use Rattle.scope.specs.Call.Answer.{told, answer}
use Rattle.scope.specs.File.Request.{Request}
use Rattle.scope.specs.File.Text.{request_text}
use Rattle.scope.specs.Limits.{most_bytes, end_at, extra_lines}
use Rattle.scope.specs.File.Reader.{read_request}
use Rattle.scope.specs.Call.Tables.{Lent, request_of}
use Rattle.scope.specs.Call.Checked.{first_met, line_answers, checked}
use Rattle.scope.specs.Call.Calls.{reading, lent_after, writing}
use Rattle.trip.specs.File.{Unrefused}
use Rattle.trip.proofs.Requests.{text_reads, read_unrefused, read_text, same_request}
use Rattle.trip.specs.Fits.{text_fits}
use Rattle.trip.specs.Trip.{Fine, read_for, left_for}
use Rattle.trip.proofs.Trip.{checked_fine, fine_checked, write_again, write_then_read, read_then_write}
use Rattle.trip.specs.LinePlaces.{lfs, whole}
use Rattle.trip.specs.Places.{Where}
use Rattle.trip.proofs.Places.{refused_where, read_lines}
use Rattle.trip.specs.Refused.{Sayable, lines_refused, text_checked, checked_text, text_unwritten, unwritten_text}

-- A request without refusal (`Unrefused`: each line's own refusal is 0) reads back from its text.
pub reads_back : (q : Request) → Unrefused q → read_request (request_text q) ≡ result q
reads_back = text_reads

-- A text that reads well gives a request without refusal, and is its text.
pub is_unrefused : (s : List ℕ) (q : Request) → read_request s ≡ result q → Unrefused q
is_unrefused = read_unrefused

pub is_the_text : (s : List ℕ) (q : Request) → read_request s ≡ result q → s ≡ request_text q
is_the_text = read_text

-- Two texts that read to the same request are the same.
pub one_text : (s t : List ℕ) (q : Request) → read_request s ≡ result q → read_request t ≡ result q → s ≡ t
one_text s t q d e = read_text s q d ∙ sym (read_text t q e)

-- Two requests without refusal that have the same text are the same. So the text of a version 1 request is the text of no version 2 request.
pub one_request : (q r : Request) → Unrefused q → Unrefused r → request_text q ≡ request_text r → q ≡ r
one_request = same_request

pub versions_apart : (q r : Request) → Unrefused q → Unrefused r → q.version ≡ 1 → r.version ≡ 2 → request_text q ≡ request_text r → ⊥
versions_apart q r g h one two e =
    let same = ap (λ x. x.version) (same_request q r g h e) in
    omega (arith, same)

-- The largest text that is written is no file over 65,536 bytes: refusal 1 is never met on it.
pub fits_a_file : (q : Request) → Unrefused q → length (request_text q) ≤ most_bytes
fits_a_file = text_fits

-- The checks pass on exactly the tables that are `Fine`: room for the largest counts, a request without refusal, zeros past the counts.
pub passes_exactly : (t : Lent) → (checked t ≡ answer 0 0 → Fine t) × (Fine t → checked t ≡ answer 0 0)
passes_exactly t = (checked_fine t, fine_checked t)

-- So the writer writes whenever the tables are `Fine` and the output has room for the text.
pub writes :
    (t : Lent) (len : ℕ) → Fine t → length (request_text (request_of t)) ≤ len → writing t len ≡ result (request_text (request_of t))
writes = write_again

-- What was written reads back, in tables lent as long as those of t (`read_for`), to the request of t; and reading leaves counts, goal and
-- tables, over their whole length, as they stand in t (`left_for`).
pub trip_write :
    (t : Lent) (len : ℕ) (s : List ℕ) → writing t len ≡ result s → (read_for t s ≡ result (request_of t)) × (left_for t s ≡ t)
trip_write = write_then_read

-- What was read is written again, from the counts, goal and tables that reading left, as the very text, where the output has room for it.
pub trip_read :
    (forms policy steps len : ℕ) (s : List ℕ) (q : Request) → reading forms policy steps s ≡ result q → length s ≤ len
    → writing (lent_after forms policy steps (result q)) len ≡ result s
trip_read = read_then_write

-- '3, 4 or 5 at the line where the text would have it', in either version: of tables with room whose lines can all be said in shape
-- (`Sayable`), the first refusal that the lines meet is the one that reading their text gives.
pub refused_alike :
    (t : Lent) (k i c : ℕ) → Sayable t → first_met (line_answers (request_of t)) ≡ told (suc k) i c
    → read_request (request_text (request_of t)) ≡ refused (told (suc k) i c)
refused_alike t k i c g e = lines_refused (request_of t) k i c g.in_shape_lem e

-- So the checks refuse such tables at a line exactly if the reader refuses their text there, with the same number. Place 0 is left to what
-- no text has: a nonzero entry past the counts.
pub checks_alike :
    (t : Lent) (k i c : ℕ) → Sayable t
    → (checked t ≡ told (suc k) (suc i) c → read_request (request_text (request_of t)) ≡ refused (told (suc k) (suc i) c)) ×
    (read_request (request_text (request_of t)) ≡ refused (told k i c) → checked t ≡ told k i c)
checks_alike t k i c g = (checked_text t k i c g, text_checked t k i c g)

-- And so does the writer, whatever the length of the output.
pub writes_alike :
    (t : Lent) (len k i c : ℕ) → Sayable t
    → (writing t len ≡ refused (told k (suc i) c) → read_request (request_text (request_of t)) ≡ refused (told k (suc i) c)) ×
    (read_request (request_text (request_of t)) ≡ refused (told k i c) → writing t len ≡ refused (told k i c))
writes_alike t len k i c g = (unwritten_text t len k i c g, text_unwritten t len k i c g)

-- A text refused at a line (`Where`): the line's number is 1 and the LFs before it, what stands before it is whole lines and short of just
-- that line, or for 6 reads, and whatever stands behind that line the refusal and its column are the same. The column is 0 but for 2.
pub placed_right : (s : List ℕ) (k i c : ℕ) → read_request s ≡ refused (told k i c) → Where s k i c
placed_right = refused_where

-- And a text that reads is whole lines, as many as the request has: the line behind them is `end_at`'s, in version 2 one further down.
pub counted_right :
    (s : List ℕ) (q : Request) → read_request s ≡ result q
    → (whole s ≡ true) × (end_at (length q.forms) (length q.policy) (length q.steps) + extra_lines q.version ≡ suc (lfs s))
counted_right = read_lines

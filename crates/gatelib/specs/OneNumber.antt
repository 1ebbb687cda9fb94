-- 'No formula twice': in a request that reads, and in tables that pass their checks, two formula numbers with the same formula are one.
use Rattle.std.specs.Prelude.{ℕ, ◌<◌, ◌≡◌, refl, false, List, length, get_or, take}
use Rattle.std.proofs.Common.{arith, length-take-le}
use Rattle.std.proofs.Math.Option.{Option, none, some}
use Rattle.scope.specs.Call.Result.{result}
use Rattle.scope.specs.Call.Answer.{answer}
use Rattle.scope.specs.Call.Tables.{Lent, request_of}
use Rattle.scope.specs.Call.Checked.{checked}
use Rattle.scope.specs.File.Reader.{read_request}
use Rattle.scope.specs.File.Refusals.{is_among}
use Rattle.scope.specs.File.Request.{Row, Request, formula}
use Rattle.scope.specs.Tools.Tests.{never}
use Rattle.trip.specs.File.{Unrefused}
use Rattle.trip.proofs.Requests.{read_unrefused}
use Rattle.trip.specs.RowRanges.{NewRow, form_passed}
use Rattle.trip.specs.Several.{each_at}
use Rattle.trip.proofs.Trip.{checked_fine}
use Rattle.numbering.specs.Equal.{no_row, NoRepeat, found, among_found, no_repeat}
use Rattle.numbering.specs.Trees.{Fair, one_number}

not_found : (rows : List Row) (r : Row) → is_among r rows ≡ false → found rows r ≡ none
not_found rows r e = go (found rows r) refl
  where
    go : (o : Option ℕ) → found rows r ≡ o → found rows r ≡ none
    go none f = f
    go (some i) f = let t = among_found rows r i f in never cc

module _ (q : Request) (u : Unrefused q) where
  each_new : (i : ℕ) → i < length q.forms → NewRow q.principals q.atoms (take i q.forms) (get_or q.forms i no_row)
  each_new i h = form_passed q.principals q.atoms (take i q.forms) (get_or q.forms i no_row) (each_at u.forms no_row i h)

  fair : Fair q.principals q.atoms q.forms
  fair =
      record {
        each = λ i h.
            let front : length (take i q.forms) ≡ i = length-take-le i q.forms (omega arith) in
            rw front at (each_new i h).row;
      }

  unrepeated : NoRepeat q.forms
  unrepeated = no_repeat q.forms (λ i h. not_found (take i q.forms) (get_or q.forms i no_row) (each_new i h).new)

  pub unrefused_one : (i j : ℕ) → i < length q.forms → j < length q.forms → formula q.forms i ≡ formula q.forms j → i ≡ j
  unrefused_one = one_number q.principals q.atoms q.forms fair unrepeated

pub read_one : (s : List ℕ) (q : Request) → read_request s ≡ result q → (i j : ℕ) → i < length q.forms → j < length q.forms →
    formula q.forms i ≡ formula q.forms j → i ≡ j
read_one s q e = unrefused_one q (read_unrefused s q e)

pub checked_one : (t : Lent) → checked t ≡ answer 0 0 → (i j : ℕ) → i < length (request_of t).forms → j < length (request_of t).forms →
    formula (request_of t).forms i ≡ formula (request_of t).forms j → i ≡ j
checked_one t e = unrefused_one (request_of t) (checked_fine t e).unrefused

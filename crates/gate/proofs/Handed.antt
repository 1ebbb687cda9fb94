-- From the bytes that were read to the file that they are the start of. Assumes nothing.
use Rattle.std.specs.Prelude.{Option, None, Some, IfSome}
use Rattle.std.specs.Io.KnownBytes.{Consumes, IsAtEnd}
use Rattle.std.proofs.Common.{inl, inr, ◌≡◌, ℕ, ◌<◌, ◌≤◌, List, [], ◌++◌, length, take, sym, ap, ◌∙◌, subst, arith, append-nil, length-append, take_all}
use Rattle.std.proofs.lemmas.Bool.{lt-leb}
use Rattle.std.proofs.lemmas.Bool.Decides.{leb_tells}
use Rattle.scope.specs.Limits.{most_bytes}
use Rattle.scope.specs.Call.Calls.{reading}
use Rattle.scope.specs.Call.Tables.{has_room}
use Rattle.scope.specs.Call.Judge.{Printed, gate, prints, printed, printed_after}
use Rattle.gatelib.specs.Printing.{printed_of}
use Rattle.gate.specs.Shown.{Shown}
use Rattle.gate.specs.Answered.{Answered}

-- A file that is too long is answered alike however long it is, so reading it may stop.
long_file : (s : List ℕ) → most_bytes < length s → gate s ≡ prints 1 0 0 0
unfolding gate reading printed_after printed has_room
long_file s long = rw (lt-leb (length s) most_bytes long)

-- The bytes that were read are the whole file, or more than a file may have.
same_answer : (file rest : List ℕ) (n : ℕ) → most_bytes < length file → (n < length file → rest ≡ []) → gate (take n file ++ rest) ≡ gate (take n file)
same_answer file rest n long ends =
    elim (leb_tells (length file) n) [
      | inl full ↦ too_long (full.1)
      | inr less ↦ ap gate (ap (λ (r : List ℕ). take n file ++ r) (ends less.1) ∙ append-nil (take n file))
    ]
  where
    too_long : length file ≤ n → gate (take n file ++ rest) ≡ gate (take n file)
    too_long all =
        let whole = take_all n file all in
        let longer : most_bytes < length (file ++ rest) = omega (arith, length-append file rest) in
        ap (λ (f : List ℕ). gate (f ++ rest)) whole ∙ long_file (file ++ rest) longer ∙ sym (long_file file long) ∙ sym (ap gate whole)

pub answered :
    (known left : Option (List ℕ)) (file text : List ℕ) (n : ℕ) → most_bytes < length file → Consumes known left (take n file)
    → (n < length file → IsAtEnd left) → Answered (take n file) text → IfSome known (λ s. Answered s text)
answered None left file text n long read ends shown = tt
answered (Some xs) None file text n long read ends shown = absurd read
answered (Some xs) (Some ys) file text n long read ends shown =
    let same : gate xs ≡ gate (take n file) = ap gate read ∙ same_answer file ys n long ends in
    subst (λ (p : Printed). Shown (printed_of p).answer (printed_of p).place (printed_of p).steps (printed_of p).column text) (sym same) shown

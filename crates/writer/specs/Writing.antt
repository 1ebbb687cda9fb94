-- What the writer answers, as document 01 says it.
use Rattle.std.specs.Prelude.{ℕ, zero, suc, ◌≤◌, ◌<◌, ◌≡◌, refl, List, [], length, replicate, Err}
use Rattle.std.proofs.Math.Nat.{sub-zero}
use Rattle.std.proofs.Common.{ap, sym, ◌∙◌, le-leb}
use Rattle.std.proofs.lemmas.Bool.{lt-leb}
use Rattle.scope.specs.Call.Result.{result, refused, result_answer}
use Rattle.scope.specs.Tools.Tests.{never}
use Rattle.scope.specs.Call.Answer.{Answer, told, answer, refusal_in, place_in}
use Rattle.scope.specs.File.Text.{request_text}
use Rattle.scope.specs.Call.Tables.{Lent, request_of, padded}
use Rattle.scope.specs.Call.Checked.{checked}
use Rattle.scope.specs.Call.Calls.{Written, written_if, writing, text_in, output_after}
use Rattle.common.specs.Answers.{answer_of, answer_is}
use Rattle.common.specs.declared.refused.Answer.{Answer as Returned}
use Rattle.checks.specs.Met.{Checked, Fine, checked_of}
use Rattle.writer.specs.declared.Writing.{Writing}

-- 'Its answer gives the text's length, 0 if refused.'
unfoldable pub writing_of : Written → Writing
writing_of w = record { refusal = refusal_in (result_answer w); place = place_in (result_answer w); length = length (text_in w) }

unfoldable pub refused_as : Returned → Writing
refused_as a = record { refusal = a.refusal; place = a.place; length = 0 }

-- An output of zeros is what a refusal leaves.
zeros_left : (len : ℕ) (w : Written) → text_in w ≡ [] → replicate len 0 ≡ output_after len w
unfolding output_after padded
zeros_left len w e = rw e (ap (λ (n : ℕ). replicate n 0) (sym (sub-zero len)))

if_refused : (a : Answer) (s : List ℕ) (len : ℕ) (r : Returned) → checked_of a ≡ Err r → written_if a s len ≡ refused (answer_is r)
unfolding checked_of written_if
if_refused (told zero place column) s len r e = never cc
if_refused (told (suc k) place column) s len r e =
    let f : answer_of (told (suc k) place column) ≡ r = cc in
    ap (λ x. refused (answer_is x)) f

if_fits : (a : Answer) (s : List ℕ) (len : ℕ) → checked_of a ≡ Fine → length s ≤ len → written_if a s len ≡ result s
unfolding checked_of written_if
if_fits (told zero place column) s len e h = rw (le-leb (length s) len h) refl
if_fits (told (suc k) place column) s len e h = never cc

if_short : (a : Answer) (s : List ℕ) (len : ℕ) → checked_of a ≡ Fine → len < length s → written_if a s len ≡ refused (answer 14 0)
unfolding checked_of written_if
if_short (told zero place column) s len e h = rw (lt-leb (length s) len h) refl
if_short (told (suc k) place column) s len e h = never cc

pub writing_is : (t : Lent) (len : ℕ) → writing t len ≡ written_if (checked t) (request_text (request_of t)) len
unfolding writing
writing_is t len = refl

-- The three ways in which a call ends: what it answers, and what stands in the output.
pub ends_refused : (t : Lent) (len : ℕ) (c : Checked) (r : Returned) → c ≡ checked_of (checked t) → c ≡ Err r →
    (refused_as r ≡ writing_of (writing t len)) × (replicate len 0 ≡ output_after len (writing t len))
unfolding refused_as writing_of result_answer text_in refusal_in place_in
ends_refused t len c r e f =
    let w : writing t len ≡ refused (answer_is r) =
    writing_is t len ∙ if_refused (checked t) (request_text (request_of t)) len r (sym e ∙ f) in
    (ap writing_of (sym w), zeros_left len (writing t len) (ap text_in w))

pub ends_short : (t : Lent) (len : ℕ) (c : Checked) → c ≡ checked_of (checked t) → c ≡ Fine → len < length (request_text (request_of t)) →
    (record { refusal = 14; place = 0; length = 0 } ≡ writing_of (writing t len)) × (replicate len 0 ≡ output_after len (writing t len))
unfolding writing_of result_answer text_in refusal_in place_in
ends_short t len c e f h =
    let w : writing t len ≡ refused (answer 14 0) = writing_is t len ∙ if_short (checked t) (request_text (request_of t)) len (sym e ∙ f) h in
    (ap writing_of (sym w), zeros_left len (writing t len) (ap text_in w))

pub ends_written : (t : Lent) (len n : ℕ) (c : Checked) → c ≡ checked_of (checked t) → c ≡ Fine →
    n ≡ length (request_text (request_of t)) → length (request_text (request_of t)) ≤ len →
    (record { refusal = 0; place = 0; length = n } ≡ writing_of (writing t len)) × (padded len (request_text (request_of t)) ≡ output_after len (writing t len))
unfolding writing_of result_answer text_in refusal_in place_in output_after
ends_written t len n c e f k h =
    let w : writing t len ≡ result (request_text (request_of t)) = writing_is t len ∙ if_fits (checked t) (request_text (request_of t)) len (sym e ∙ f) h in
    (ap (λ (m : ℕ). record { refusal = 0; place = 0; length = m }) k ∙ ap writing_of (sym w), ap (λ (x : Written). output_after len x) (sym w))

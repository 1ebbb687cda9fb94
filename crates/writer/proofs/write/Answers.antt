use Rattle.std.proofs.Common.{arith, ℕ, ◌+◌, ◌<◌, ◌≤◌, ◌≡◌, ap, ◌∙◌, List, length, replicate}
use Rattle.std.proofs.lemmas.List.Edits.{sets}
use Rattle.scope.specs.File.Text.{request_text}
use Rattle.scope.specs.Call.Tables.{request_of, padded}
use Rattle.common.specs.Refused.{number_of}
use Rattle.checks.specs.Met.{lent_with}
use Rattle.writer.specs.Puts.{puts_zeros}
use Rattle.writer.specs.Writing.{refused_as, ends_refused, ends_short, ends_written}
use Rattle.writer.proofs.write.Goals as goal

-- The text of m bytes ends at n, past the end of an output of len bytes or within it.
too_short : {a len n m : ℕ} → a ≡ len → n ≡ 0 + m → a < n → len < m
too_short e k h = omega arith

long-enough : {a len n m : ℕ} → a ≡ len → n ≡ 0 + m → n ≤ a → (n ≡ m) × (m ≤ len)
long-enough e k h = (omega arith, omega arith)

-- `writer::write` meets its contract: the output is zero first, a refusal leaves it so, and a text that fits stands at its beginning.
pub returns-in-Err : goal.returns-in-Err
returns-in-Err c =
    let a = c.args in
    let t = lent_with a.counts a.forms.now a.policy.now a.steps.now in
    let checks = c.check_tables in
    let all = ends_refused t (length a.out.now) checks.result c.in-Err.answer checks.ensures c.in-Err.is in
    record {
      answered = c.from.ensures ∙ all.0;
      output = c.zero_bytes.ensures ∙ all.1;
    }

pub returns-then-out-length : goal.returns-then-out-length
unfolding refused_as number_of
returns-then-out-length c =
    let a = c.args in
    let t = lent_with a.counts a.forms.now a.policy.now a.steps.now in
    let len = length a.out.now in
    let checks = c.check_tables in
    let put = c.put_request-length in
    let same : length put.new.out ≡ len = put.auto.out ∙ c.zero_bytes.auto.out in
    let short : len < length (request_text (request_of t)) = too_short {m = length (request_text (request_of t))} same put.ensures.counted c.if-out-length.true in
    let all = ends_short t len checks.result checks.ensures c.in_default.is short in
    record {
      answered = c.from-then-out-length.ensures ∙ ap refused_as c.at.ensures ∙ all.0;
      output = c.zero_bytes-then-out-length.ensures ∙ ap (λ (n : ℕ). replicate n 0) same ∙ all.1;
    }

pub returns : goal.returns
returns c =
    let a = c.args in
    let t = lent_with a.counts a.forms.now a.policy.now a.steps.now in
    let len = length a.out.now in
    let text = request_text (request_of t) in
    let zero : c.zero_bytes.new.out ≡ replicate len 0 = c.zero_bytes.ensures in
    let checks = c.check_tables in
    let put = c.put_request-length in
    let same : length put.new.out ≡ len = put.auto.out ∙ c.zero_bytes.auto.out in
    let fits : (put.result ≡ length text) × (length text ≤ len) = long-enough {m = length text} same put.ensures.counted c.if-out-length.false in
    let all = ends_written t len put.result checks.result checks.ensures c.in_default.is fits.0 fits.1 in
    let put-zeros : sets c.zero_bytes.new.out 0 text ≡ padded len text = ap (λ (z : List ℕ). sets z 0 text) zero ∙ puts_zeros len text fits.1 in
    record {
      answered = rw (c.default.ensures.0, c.default.ensures.1.0) all.0;
      output = put.ensures.stored ∙ put-zeros ∙ all.1;
    }

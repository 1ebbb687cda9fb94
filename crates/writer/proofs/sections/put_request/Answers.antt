use Rattle.std.proofs.Common.{arith, ◌+◌, ◌*◌}
use Rattle.scope.specs.File.Text.{request_text}
use Rattle.scope.specs.Call.Tables.{request_of}
use Rattle.checks.specs.Met.{lent_with}
use Rattle.writer.specs.Puts.{Puts, puts_same}
use Rattle.writer.specs.Wrote.{wrote_then}
use Rattle.writer.specs.Sections.{request_text_lem}
use Rattle.writer.proofs.sections.put_request.Goals as goal

-- `writer::sections::put_request` meets its contract: the four sections are the text.
pub returns : goal.returns
returns c =
    let a = c.args in
    let n = a.counts in
    let t = lent_with n a.forms.now a.policy.now a.steps.now in
    let end = c.put_proof.new.self in
    let all = wrote_then (wrote_then (wrote_then c.put_head.ensures c.put_formulas.ensures) c.put_policy.ensures) c.put_proof.ensures in
    let put :
    Puts a.out.now 0 (request_text (request_of t)) (82 + (22 + 45 * n.formulas) + (22 + 22 * n.policy) + (44 + 45 * n.steps)) end.bytes.now end.at =
    puts_same (request_text_lem t) (omega arith) all.puts in
    let same = all.same in
    record { stored = grind (arith, same, put.stored); counted = put.counted; short = put.short }

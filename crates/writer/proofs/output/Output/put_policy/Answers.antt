use Rattle.classes.specs.Rows.{number_at}
use Rattle.std.proofs.Common.{arith}
use Rattle.writer.specs.Sections.{policy_text, lines_none, lines_more, lines_all}
use Rattle.writer.proofs.output.Output.put_policy.Goals as goal

pub loop-i-init : goal.loop-i-init
loop-i-init c = lines_none c.put_count.ensures

pub loop-i-preserved : goal.loop-i-preserved
loop-i-preserved c =
    let t = c.args.policy.now in
    let i = c.loop-i.i in
    lines_more c.loop-i.invariant c.loop-i-test.true (number_at t 1 i 0 i (omega arith) (omega arith))
    (rw (c.value_at.ensures, c.from.ensures) at c.put_count-in-loop-i.ensures)

pub returns : goal.returns
unfolding policy_text
returns c = lines_all c.loop-i.invariant c.loop-i-test.false

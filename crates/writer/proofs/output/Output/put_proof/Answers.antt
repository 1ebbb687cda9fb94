use Rattle.writer.specs.Wrote.{wrote_then}
use Rattle.steps.specs.Steps.{pair_at}
use Rattle.checks.specs.Sections.{step_row_lem}
use Rattle.writer.specs.Lines.{steps_short}
use Rattle.writer.specs.Sections.{proof_text, lines_none, lines_more, lines_all}
use Rattle.writer.proofs.output.Output.put_proof.Goals as goal

pub loop-i-init : goal.loop-i-init
loop-i-init c = lines_none (wrote_then c.put_count.ensures c.put_count-2.ensures)

pub loop-i-preserved : goal.loop-i-preserved
unfolding pair_at
loop-i-preserved c =
    let t = c.args.steps.now in
    lines_more c.loop-i.invariant c.loop-i-test.true (step_row_lem t c.loop-i.i) (rw (c.step_kinds.ensures, c.pair_at-step.ensures) at c.put_row.ensures)

pub returns : goal.returns
unfolding proof_text
returns c = lines_all c.loop-i.invariant c.loop-i-test.false

pub put_row-requires-clause-words_short : goal.put_row-requires-clause-words_short
put_row-requires-clause-words_short c = rw c.step_kinds.ensures steps_short

use Rattle.writer.specs.Wrote.{wrote_then}
use Rattle.writer.specs.Sections.{head_text}
use Rattle.writer.proofs.output.Output.put_head.Goals as goal

-- `writer::output::Output::put_head` meets its contract: the first lines, one behind the other.
pub returns : goal.returns
unfolding head_text
returns c = wrote_then (wrote_then c.put_version.ensures c.put_count.ensures) c.put_count-2.ensures

use Rattle.common.specs.Rows.{row_at}
use Rattle.classes.specs.Rows.{form_row_lem}
use Rattle.writer.specs.Lines.{forms_short}
use Rattle.writer.specs.Sections.{formulas_text, lines_none, lines_more, lines_all}
use Rattle.writer.proofs.output.Output.put_formulas.Goals as goal

pub loop-i-init : goal.loop-i-init
loop-i-init c = lines_none c.put_count.ensures

pub loop-i-preserved : goal.loop-i-preserved
unfolding row_at
loop-i-preserved c =
    let t = c.args.forms.now in
    lines_more c.loop-i.invariant c.loop-i-test.true (form_row_lem t c.loop-i.i) (rw (c.form_kinds.ensures, c.row_at.ensures) at c.put_row.ensures)

pub returns : goal.returns
unfolding formulas_text
returns c = lines_all c.loop-i.invariant c.loop-i-test.false

pub put_row-requires-clause-words_short : goal.put_row-requires-clause-words_short
put_row-requires-clause-words_short c = rw c.form_kinds.ensures forms_short

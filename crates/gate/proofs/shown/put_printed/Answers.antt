-- Each line goes on where the one before ends, from an empty text on (`four_lines`). Assumes nothing.
use Rattle.gate.proofs.Texts.{four_lines}
use Rattle.gate.proofs.shown.put_printed.Goals as goal

pub returns : goal.returns
returns c =
    let printed = c.args.printed in
    four_lines
    printed.answer
    printed.place
    printed.steps
    printed.column
    _
    _
    _
    _
    _
    _
    _
    _
    c.from-answer.ensures
    c.from-place.ensures
    c.from-steps.ensures
    c.from-column.ensures
    c.put_line-first.ensures.longer
    c.put_line-second.ensures.longer
    c.put_line-third.ensures.longer
    c.put_line-fourth.ensures.longer

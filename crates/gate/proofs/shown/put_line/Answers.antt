-- The three calls put the key, the digits and LF one after the other (`line_added`). Assumes nothing.
use lib.ListN.{take}
use Rattle.gate.proofs.Texts.{line_added}
use Rattle.gate.proofs.shown.put_line.Goals as goal

pub returns-clause-longer : goal.returns-clause-longer
returns-clause-longer c =
    let a = c.args in
    let d = c.decimal-places in
    line_added
    (take a.at a.text.now)
    a.key.now
    _
    _
    _
    _
    a.number
    d.result
    d.ensures.len
    d.ensures.digits
    c.put_bytes-after_key.ensures.text_after
    c.put_bytes-after_number.ensures.text_after
    c.put_bytes.ensures.text_after

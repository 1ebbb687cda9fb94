-- `note_line` meets its contract: the row is the definition's, and so is the test of its kind.
use Rattle.common.specs.Rows.{kind_number}
use Rattle.machine.proofs.Turns.{line_sf, line_other}
use Rattle.std.proofs.Common.{◌∙◌}
use Rattle.machine.proofs.begin.note_line.Goals as goal

pub returns-then-is : goal.returns-then-is
unfolding kind_number
returns-then-is c = c.add_note.ensures ∙ line_sf _ _ _ _ _ c.row_at-r.ensures c.is.ensures c.if-is.true

pub returns-else-is : goal.returns-else-is
unfolding kind_number
returns-else-is c = line_other _ _ _ _ _ c.row_at-r.ensures c.is.ensures c.if-is.false

-- `case_top` meets its contract: the copy is the place's chunks one place above, and each call gives a part of the definition.
use Rattle.std.proofs.Common.{arith, ◌≡◌, ◌+◌, ◌*◌, ◌≤◌, ◌∙◌, length}
use Rattle.scope.specs.Limits.{most_chunks}
use Rattle.machine.specs.Tables.{block, put_block, case_chunks}
use Rattle.machine.proofs.Parts.{copied_is}
use Rattle.machine.proofs.blocks.case_top.Goals as goal

pub returns : goal.returns
unfolding case_chunks
returns c =
    let a = c.args in
    let at = c.from-at.result in
    let long : (at + 1) * most_chunks + most_chunks ≤ length a.chunks.now = omega arith in
    let copy : c.copy_within.new.self ≡ put_block most_chunks a.chunks.now (a.place + 1) (block most_chunks a.chunks.now a.place) =
    rw c.from-at.ensures at (c.copy_within.ensures.after ∙ copied_is most_chunks a.chunks.now at long) in
    rw (c.put_chunk.ensures, copy, c.saturating_sub-i.ensures) at c.put_chunk-2.ensures

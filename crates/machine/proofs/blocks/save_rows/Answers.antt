-- `save_rows` meets its contract: the test is the definition's, and the rows and their place are, too.
use Rattle.std.proofs.Common.{arith, refl, sym, ◌≡◌, ◌-◌, ◌∙◌, le-leb}
use Rattle.std.proofs.lemmas.Bool.{lt-leb}
use Rattle.moves.specs.Tests.{pick_true, pick_false}
use Rattle.scope.specs.Limits.{most_principals}
use Rattle.facts.specs.Fill.{fill, fill_more}
use Rattle.facts.specs.Rows.{sf_rows}
use Rattle.machine.specs.Tables.{put_block, saved_after}
use Rattle.machine.proofs.blocks.save_rows.Goals as goal

pub loop-c-init : goal.loop-c-init
unfolding fill
loop-c-init c = refl

pub loop-c-preserved : goal.loop-c-preserved
loop-c-preserved c = fill_more _ _ _ _ c.loop-c.invariant refl refl

pub returns-after-loop-c : goal.returns-after-loop-c
unfolding saved_after put_block
returns-after-loop-c c =
    let a = c.args in
    let done : c.loop-c.c ≡ most_principals = omega arith in
    let there : c.loop-c.saved ≡ put_block most_principals a.saved.now (a.opened - 1) (sf_rows a.facts.now.rows (a.o.worlds - 1)) =
    rw (done, c.from-at.ensures, c.saturating_sub.ensures, c.sf_rows-kept.ensures, c.saturating_sub-then-opened-more.ensures) at c.loop-c.invariant in
    there ∙ sym (pick_false _ _ _ (lt-leb _ _ c.if-opened-more.true))

pub returns-else-opened-more : goal.returns-else-opened-more
unfolding saved_after
returns-else-opened-more c = sym (pick_true _ _ _ (le-leb _ _ c.if-opened-more.false))

-- `put_back` meets its contract: the rows that are read are the place's.
use Rattle.std.proofs.Common.{arith, refl, ◌≡◌}
use Rattle.scope.specs.Limits.{most_principals}
use Rattle.facts.specs.Fill.{fill, fill_front}
use Rattle.machine.specs.Tables.{block}
use Rattle.machine.proofs.blocks.put_back.Goals as goal

pub loop-c-init : goal.loop-c-init
unfolding fill
loop-c-init c = refl

pub loop-c-preserved : goal.loop-c-preserved
loop-c-preserved c = fill_front _ _ _ c.loop-c.invariant refl

pub returns : goal.returns
unfolding block
returns c =
    let done : c.loop-c.c ≡ most_principals = omega arith in
    let read : c.loop-c.kept ≡ block most_principals c.args.saved.now c.args.below = rw (done, c.from-at.ensures) at c.loop-c.invariant in
    rw (read, c.saturating_sub.ensures) at c.put_sf.ensures

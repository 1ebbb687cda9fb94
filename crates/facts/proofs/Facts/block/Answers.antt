-- Within the table each row is read in its turn; a world past the last has none.
use Rattle.std.proofs.Common.{◌≡◌, refl, arith}
use Rattle.facts.specs.Rows.{principals_max}
use Rattle.facts.specs.Fill.{fill, fill_front}
use Rattle.facts.specs.Block.{block_past}
use Rattle.facts.proofs.Facts.block.Goals as goal

pub loop-c-init : goal.loop-c-init
unfolding fill
loop-c-init c = refl

pub loop-c-preserved : goal.loop-c-preserved
loop-c-preserved c = fill_front _ _ _ c.loop-c.invariant refl

pub returns-after-loop-c : goal.returns-after-loop-c
returns-after-loop-c c =
    let done : c.loop-c.c ≡ principals_max = omega arith in
    rw (done, c.place_of-at.ensures) at c.loop-c.invariant

pub returns-else-v-lt-MOST_WORLDS : goal.returns-else-v-lt-MOST_WORLDS
returns-else-v-lt-MOST_WORLDS c = block_past c.args.self.now.rows _ (omega arith)

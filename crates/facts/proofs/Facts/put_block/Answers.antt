-- Within the table each row is put in its turn; a world past the last has none.
use Rattle.std.proofs.Common.{◌≡◌, refl, sym, arith, get_or}
use Rattle.facts.specs.Rows.{principals_max}
use Rattle.facts.specs.Fill.{fill, fill_more, fill_past}
use Rattle.facts.proofs.Facts.put_block.Goals as goal

pub loop-c-init : goal.loop-c-init
unfolding fill
loop-c-init c = refl

pub loop-c-preserved : goal.loop-c-preserved
loop-c-preserved c = fill_more _ _ _ _ c.loop-c.invariant refl refl

pub returns-after-loop-c : goal.returns-after-loop-c
returns-after-loop-c c =
    let done : c.loop-c.c ≡ principals_max = omega arith in
    rw (done, c.place_of-at.ensures) at c.loop-c.invariant

pub returns-else-v-lt-MOST_WORLDS : goal.returns-else-v-lt-MOST_WORLDS
returns-else-v-lt-MOST_WORLDS c = sym (fill_past (λ i. get_or c.args.block i 0) _ principals_max c.args.self.now.rows (omega arith))

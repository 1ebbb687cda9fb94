-- `facts::one_bit` meets its contract: below the width the shift of 1 loses nothing.
use Rattle.facts.specs.Rows.{worlds_max}
use Rattle.facts.specs.Bits.{one_shifted}
use Rattle.facts.proofs.one_bit.Goals as goal

pub returns-then-i-lt-MOST_WORLDS : goal.returns-then-i-lt-MOST_WORLDS
returns-then-i-lt-MOST_WORLDS c = one_shifted worlds_max _ c.if-i-lt-MOST_WORLDS.true

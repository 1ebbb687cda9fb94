-- `numbering::find_row` meets its contract: the way from the slot reached, with the key and the turns left, is the whole way.
use mathlib.Core.Path.{◌≡◌}
use Prim.Native.Nat.{◌-◌}
use Rattle.common.specs.Rows.{as_row}
use Rattle.numbering.specs.Slots.{most_turns, walk, place_in}
use Rattle.numbering.proofs.find_row.Given as goal

abbrev pub invariant-loop-turn : goal.invariant-loop-turn
invariant-loop-turn l =
    walk l.forms l.slots (as_row l.row) (most_turns - l.turn) l.key l.slot ≡ place_in l.forms l.slots (as_row l.row)

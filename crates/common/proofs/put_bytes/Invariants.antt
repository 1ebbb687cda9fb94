-- `common::put_bytes` meets its contract: in turn i what is left of the text, put from there on, gives the whole text put.
use Prim.Native.Nat.{◌+◌}
use mathlib.Core.Path.{◌≡◌}
use lib.ListN.{length, drop}
use lib.Seq.{sets}
use Rattle.common.proofs.put_bytes.Given as goal

abbrev pub invariant-loop-i : goal.invariant-loop-i
invariant-loop-i l = (sets l.out (l.at + l.i) (drop l.i l.text) ≡ sets l.initial.out l.at l.text) × (length l.out ≡ length l.initial.out)

-- `lines::code_of` meets its contract: the digits so far with those left make the code, and i digits take 8 * i + 1 bits.
use Rattle.std.proofs.Common.{◌≡◌, ◌+◌, ◌*◌, ◌^◌, ◌<◌, drop}
use Rattle.lines.specs.Codes.{code_from}
use Rattle.lines.proofs.code_of.Given as goal

abbrev pub invariant-loop-byte : goal.invariant-loop-byte
invariant-loop-byte l =
    (code_from l.code (drop l.byte-index l.word) ≡ code_from 1 l.word) × (l.code < 2 ^ (8 * l.byte-index + 1))

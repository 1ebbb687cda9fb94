use Rattle.std.proofs.Common.{sym, ◌∙◌, arith}
use Rattle.lines.specs.Codes.{code_goes, code_ends, code_long, code_short, code_fits, code_grows}
use Rattle.lines.proofs.code_of.Goals as goal

pub returns-then-word-gt7 : goal.returns-then-word-gt7
returns-then-word-gt7 c = code_long c.args.word.now c.if-word-gt7.true

pub overflow_mul-code : goal.overflow_mul-code
overflow_mul-code c = omega (arith, code_fits c.loop-byte.code c.loop-byte.byte-index (omega arith) c.loop-byte.invariant.1)

pub loop-byte-preserved : goal.loop-byte-preserved
loop-byte-preserved c =
    let b = c.from.ensures in (
      rw b (sym (code_goes c.args.word.now c.loop-byte.code c.loop-byte.byte-index (omega arith)) ∙ c.loop-byte.invariant.0),
      rw b (code_grows c.loop-byte.code c.loop-byte.byte-index _ c.loop-byte.invariant.1 (c.type_inv.word c.loop-byte.byte-index).fits),
    )

pub returns : goal.returns
returns c =
    sym (code_ends c.args.word.now c.loop-byte.code c.loop-byte.byte-index (omega arith)) ∙ c.loop-byte.invariant.0 ∙
    sym (code_short c.args.word.now c.if-word-gt7.false)

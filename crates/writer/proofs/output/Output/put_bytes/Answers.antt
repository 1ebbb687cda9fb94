use Rattle.std.proofs.Common.{arith, add-one, ap, sym, ◌∙◌, take, take-suc, take_all, ℕ}
use Rattle.writer.specs.Wrote.{wrote_then, wrote_same, wrote_none}
use Rattle.writer.proofs.output.Output.put_bytes.Goals as goal

pub loop-byte-init : goal.loop-byte-init
loop-byte-init c = wrote_none c.args.self.now

pub loop-byte-preserved : goal.loop-byte-preserved
loop-byte-preserved c =
    let i = c.loop-byte.byte-index in
    let s = c.args.text.now in
    wrote_same (sym (take-suc s i 0 c.loop-byte-test.true) ∙ ap (λ (k : ℕ). take k s) (sym (add-one i))) (omega arith)
    (wrote_then c.loop-byte.invariant c.put_byte.ensures)

pub returns : goal.returns
returns c = wrote_same (take_all c.loop-byte.byte-index c.args.text.now c.loop-byte-test.false) (omega arith) c.loop-byte.invariant

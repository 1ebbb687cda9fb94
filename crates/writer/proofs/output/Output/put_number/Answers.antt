use Rattle.std.proofs.Common.{arith, ℕ, ◌≡◌, take, add-one, ap, sym, ◌∙◌}
use Rattle.scope.specs.File.Number.{digit}
use Rattle.writer.specs.Wrote.{wrote_then, wrote_same, wrote_none}
use Rattle.writer.specs.Lines.{digits1, digits_at, places, digits_more, all_digits}
use Rattle.writer.proofs.output.Output.put_number.Goals as goal

pub loop-place-init : goal.loop-place-init
unfolding digits_at
loop-place-init c = wrote_none c.args.self.now

pub loop-place-preserved : goal.loop-place-preserved
loop-place-preserved c =
    let i = c.loop-place.place-index in
    let n = c.args.n in
    wrote_same (digits_more places i n c.loop-place-test.true ∙ ap (λ (k : ℕ). digits_at (take k places) n) (sym (add-one i))) (omega arith)
    (wrote_then c.loop-place.invariant c.put_place.ensures)

pub returns : goal.returns
unfolding digits1 digit
returns c =
    let e : c.loop-place.place-index ≡ 4 = omega arith in
    wrote_same (all_digits c.args.n (omega arith)) (omega arith) (wrote_then (rw e at c.loop-place.invariant) c.put_byte.ensures)

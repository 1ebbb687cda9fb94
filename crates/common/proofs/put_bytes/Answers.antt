-- `common::put_bytes` meets its contract: past the end nothing is left to store.
use native.Mathlib.Omega.{arith}
use native.Mathlib.Nat.{add-zero}
use Prim.Native.Nat.{ℕ, ◌+◌}
use mathlib.Core.Path.{refl, ap, ◌∙◌}
use lib.ListN.{drop, length-set}
use lib.Seq.{sets}
use Rattle.common.specs.Puts.{puts_more, puts_all, puts_past}
use Rattle.common.proofs.put_bytes.Goals as goal

pub returns-then-out-at : goal.returns-then-out-at
returns-then-out-at c = puts_past c.args.out.now c.args.at c.args.text.now c.if-out-at.true

pub loop-i-init : goal.loop-i-init
loop-i-init c =
    let a = c.args in
    (ap (λ (k : ℕ). sets a.out.now k a.text.now) (add-zero a.at), refl)

pub returns-then-room-i : goal.returns-then-room-i
returns-then-room-i c =
    let a = c.args in
    let l = c.loop-i in
    puts_past l.out (a.at + l.i) (drop l.i a.text.now) (omega (arith, c.if-room-i.true, l.invariant.1)) ∙ l.invariant.0

pub loop-i-preserved : goal.loop-i-preserved
loop-i-preserved c =
    let a = c.args in
    let l = c.loop-i in (
      puts_more a.out.now l.out a.text.now a.at l.i c.loop-i-test.true l.invariant.0,
      length-set l.out (a.at + l.i) _ ∙ l.invariant.1,
    )

pub returns : goal.returns
returns c =
    let a = c.args in
    let l = c.loop-i in
    puts_all a.out.now l.out a.text.now a.at l.i c.loop-i-test.false l.invariant.0

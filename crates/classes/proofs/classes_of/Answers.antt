use Rattle.std.proofs.Common.{arith, ◌≡◌, ◌+◌, ◌*◌, get_or, take, length, replicate}
use Rattle.scope.specs.Limits.{most_formulas}
use Rattle.common.specs.Rows.{row_at}
use Rattle.classes.specs.Class.{no_class, all_classes}
use Rattle.classes.proofs.Filling.{filled_none, filled_more, filled_whole}
use Rattle.classes.proofs.classes_of.Goals as goal

pub loop-i-init : goal.loop-i-init
loop-i-init c =
    let t = c.args.forms.now in
    let size : length c.args.classes.now ≡ most_formulas = c.told-classes in
    let zero : c.fill.new.self ≡ replicate (length c.args.classes.now) no_class = c.fill.ensures.after (λ y e. e) in
    rw (zero, size) (filled_none t c.min-i-end.result)

pub loop-i-preserved : goal.loop-i-preserved
unfolding row_at
loop-i-preserved c =
    let t = c.args.forms.now in
    let at = c.loop-i in
    let row = c.row_at-row.ensures in
    let left : c.class_before-left.result.now ≡ get_or (take at.i at.classes) (get_or t (3 * at.i + 1) 0) all_classes =
    rw (c.from.ensures, row) at c.class_before-left.ensures in
    let right : c.class_before-right.result.now ≡ get_or (take at.i at.classes) (get_or t (3 * at.i + 2) 0) all_classes =
    rw (c.from.ensures, row) at c.class_before-right.ensures in
    let class = rw (row, left, right) at c.row_class.ensures in
    rw (c.from-in-loop-i.ensures, class) (filled_more t c.min-i-end.result at.i at.classes (omega arith) c.loop-i-test.true at.invariant)

pub returns : goal.returns
returns c =
    filled_whole c.args.forms.now c.args.formulas c.loop-i.i c.loop-i.classes
    (rw c.min-i-end.ensures at c.loop-i.invariant)
    (rw c.min-i-end.ensures at c.loop-i-test.false)

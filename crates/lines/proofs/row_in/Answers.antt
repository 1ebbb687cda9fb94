-- `lines::row_in` meets its contract: the items come off the value one by one.
use Rattle.std.proofs.Common.{ap, sym, ◌∙◌, rules, tests}
use Rattle.common.specs.Kinds.{listed}
use Rattle.lines.specs.Operands.{shown, is_some_shown}
use Rattle.lines.specs.Items.{kind_is, kind_within, first_taken, taken}
use Rattle.lines.specs.Rows.{few_two, row_unknown, left_bad, right_bad, more_items, no_more}
use Rattle.lines.proofs.row_in.Goals as goal

pub returns-in_err-kind : goal.returns-in_err-kind
returns-in_err-kind c =
    let a = first_taken _ _ c.args.value.now c.split-items.ensures.rest c.split-items.ensures.done c.split-items.ensures.closure
    (λ x r q k. search (rules, tests)) c.next.result c.next.new.self c.next.ensures.steps in
    c.from_residual-in_err-kind.ensures ∙
    row_unknown (listed c.args.kinds.now) c.args.value.now c.in_ok-word.word.now (ap shown (sym c.in_ok-word.was) ∙ a.item)
    (sym c.kind_number.ensures ∙ c.in_err-kind.was)

pub bounds-kinds-kind : goal.bounds-kinds-kind
bounds-kinds-kind c =
    kind_within c.args.kinds.now c.in_ok-word.word.now c.in_ok-kind.kind
    (kind_is c.args.kinds.now c.in_ok-word.word.now ∙ sym c.kind_number.ensures ∙ c.in_ok-kind.was)

pub returns-in_err-left : goal.returns-in_err-left
returns-in_err-left c =
    let a = first_taken _ _ c.args.value.now c.split-items.ensures.rest c.split-items.ensures.done c.split-items.ensures.closure
    (λ x r q k. search (rules, tests)) c.next.result c.next.new.self c.next.ensures.steps in
    let x = taken _ _ _ c.next-2.result c.next-2.new.self a.left c.next-2.ensures.steps in
    c.from_residual-in_err-left.ensures ∙
    left_bad c.args.kinds.now (few_two _ c.requires.few) c.args.value.now c.in_ok-word.word.now c.in_ok-kind.kind _ (ap shown (sym c.in_ok-word.was) ∙ a.item)
    (sym c.kind_number.ensures ∙ c.in_ok-kind.was) (shown c.next-2.result) x.item (sym c.operand.ensures ∙ c.in_err-left.was)

pub returns-in_err-right : goal.returns-in_err-right
returns-in_err-right c =
    let a = first_taken _ _ c.args.value.now c.split-items.ensures.rest c.split-items.ensures.done c.split-items.ensures.closure
    (λ x r q k. search (rules, tests)) c.next.result c.next.new.self c.next.ensures.steps in
    let x = taken _ _ _ c.next-2.result c.next-2.new.self a.left c.next-2.ensures.steps in
    let y = taken _ _ _ c.next-3.result c.next-3.new.self x.left c.next-3.ensures.steps in
    c.from_residual-in_err-right.ensures ∙
    right_bad c.args.kinds.now (few_two _ c.requires.few) c.args.value.now c.in_ok-word.word.now c.in_ok-kind.kind _ (ap shown (sym c.in_ok-word.was) ∙ a.item)
    (sym c.kind_number.ensures ∙ c.in_ok-kind.was) (shown c.next-2.result) x.item c.in_ok-left.left (sym c.operand.ensures ∙ c.in_ok-left.was)
    (shown c.next-3.result) y.item (sym c.operand-2.ensures ∙ c.in_err-right.was)

pub returns-then-is_some : goal.returns-then-is_some
returns-then-is_some c =
    let a = first_taken _ _ c.args.value.now c.split-items.ensures.rest c.split-items.ensures.done c.split-items.ensures.closure
    (λ x r q k. search (rules, tests)) c.next.result c.next.new.self c.next.ensures.steps in
    let x = taken _ _ _ c.next-2.result c.next-2.new.self a.left c.next-2.ensures.steps in
    let y = taken _ _ _ c.next-3.result c.next-3.new.self x.left c.next-3.ensures.steps in
    let z = taken _ _ _ c.next-4.result c.next-4.new.self y.left c.next-4.ensures.steps in
    more_items c.args.kinds.now (few_two _ c.requires.few) c.args.value.now c.in_ok-word.word.now c.in_ok-kind.kind _ (ap shown (sym c.in_ok-word.was) ∙ a.item)
    (sym c.kind_number.ensures ∙ c.in_ok-kind.was) (shown c.next-2.result) x.item c.in_ok-left.left (sym c.operand.ensures ∙ c.in_ok-left.was)
    (shown c.next-3.result) y.item c.in_ok-right.right (sym c.operand-2.ensures ∙ c.in_ok-right.was)
    (shown c.next-4.result) z.item (is_some_shown c.next-4.result ∙ sym c.is_some.ensures ∙ c.if-is_some.true)

pub returns : goal.returns
returns c =
    let a = first_taken _ _ c.args.value.now c.split-items.ensures.rest c.split-items.ensures.done c.split-items.ensures.closure
    (λ x r q k. search (rules, tests)) c.next.result c.next.new.self c.next.ensures.steps in
    let x = taken _ _ _ c.next-2.result c.next-2.new.self a.left c.next-2.ensures.steps in
    let y = taken _ _ _ c.next-3.result c.next-3.new.self x.left c.next-3.ensures.steps in
    let z = taken _ _ _ c.next-4.result c.next-4.new.self y.left c.next-4.ensures.steps in
    no_more c.args.kinds.now (few_two _ c.requires.few) c.args.value.now c.in_ok-word.word.now c.in_ok-kind.kind _ (ap shown (sym c.in_ok-word.was) ∙ a.item)
    (sym c.kind_number.ensures ∙ c.in_ok-kind.was) (shown c.next-2.result) x.item c.in_ok-left.left (sym c.operand.ensures ∙ c.in_ok-left.was)
    (shown c.next-3.result) y.item c.in_ok-right.right (sym c.operand-2.ensures ∙ c.in_ok-right.was)
    (shown c.next-4.result) z.item (is_some_shown c.next-4.result ∙ sym c.is_some.ensures ∙ c.if-is_some.false)

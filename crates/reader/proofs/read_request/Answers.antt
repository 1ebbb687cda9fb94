-- `reader::read_request` meets its contract: 13, then 1, then the lines; the tables are zeroed at the start and again after a refusal.
use Rattle.std.proofs.Common.{refl, sym, ap, ◌∙◌}
use Rattle.common.specs.Answers.{answer_is}
use Rattle.common.specs.Refused.{number_of}
use Rattle.reader.specs.Answers.{reading_of}
use Rattle.reader.specs.Outcomes.{refused_reading, kept_reading, no_room, too_long, in_order_lem, forms_clear, lines_clear, steps_clear, forms_kept, lines_kept, steps_kept, zero_is, room_is}
use Rattle.reader.proofs.read_request.Goals as goal

pub returns-then-not-room : goal.returns-then-not-room
unfolding number_of
returns-then-not-room c =
    let o = no_room _ _ _ c.args.text.now (sym c.has_room-room.ensures ∙ c.if-not-room.true) in
    record {
      value = refused_reading _ _ _ o c.at.ensures;
      forms_after = forms_clear _ _ _ _ _ c.clear.ensures.forms_zero refl o;
      policy_after = lines_clear _ _ _ _ _ c.clear.ensures.policy_zero refl o;
      steps_after = steps_clear _ _ _ _ _ c.clear.ensures.steps_zero refl o;
    }

pub returns-then-text-gt-MOST_BYTES : goal.returns-then-text-gt-MOST_BYTES
unfolding number_of
returns-then-text-gt-MOST_BYTES c =
    let o = too_long _ _ _ c.args.text.now (sym c.has_room-room.ensures ∙ c.if-not-room.false) c.if-text-gt-MOST_BYTES.true in
    record {
      value = refused_reading _ _ _ o c.at-then-text-gt-MOST_BYTES.ensures;
      forms_after = forms_clear _ _ _ _ _ c.clear.ensures.forms_zero refl o;
      policy_after = lines_clear _ _ _ _ _ c.clear.ensures.policy_zero refl o;
      steps_after = steps_clear _ _ _ _ _ c.clear.ensures.steps_zero refl o;
    }

pub read_lines-requires : goal.read_lines-requires
read_lines-requires c =
    let r = room_is _ _ _ (sym c.has_room-room.ensures ∙ c.if-not-room.false) in
    record {
      short = c.if-text-gt-MOST_BYTES.false;
      forms_zero = zero_is _ _ _ c.clear.ensures.forms_zero r.form_room;
      policy_zero = zero_is _ _ _ c.clear.ensures.policy_zero r.line_room;
      steps_zero = zero_is _ _ _ c.clear.ensures.steps_zero r.step_room;
    }

pub returns-in-Ok : goal.returns-in-Ok
returns-in-Ok c =
    let order = in_order_lem _ _ _ c.args.text.now (sym c.has_room-room.ensures ∙ c.if-not-room.false) c.if-text-gt-MOST_BYTES.false in
    let k = c.in-Ok.ensures in
    let o = order ∙ k.is in
    record {
      value = kept_reading _ _ _ _ _ k ∙ ap reading_of (sym order);
      forms_after = forms_kept _ _ _ k.request (c.read_lines.auto.forms ∙ c.clear.auto.forms) o k.forms_stored;
      policy_after = lines_kept _ _ _ k.request (c.read_lines.auto.policy ∙ c.clear.auto.policy) o k.policy_stored;
      steps_after = steps_kept _ _ _ k.request (c.read_lines.auto.steps ∙ c.clear.auto.steps) o k.steps_stored;
    }

pub returns-in-Err : goal.returns-in-Err
returns-in-Err c =
    let order = in_order_lem _ _ _ c.args.text.now (sym c.has_room-room.ensures ∙ c.if-not-room.false) c.if-text-gt-MOST_BYTES.false in
    let o = order ∙ c.in-Err.ensures in
    record {
      value = refused_reading _ (answer_is c.in-Err.answer) _ o refl;
      forms_after = forms_clear _ _ _ _ _ c.clear-in-Err.ensures.forms_zero (c.read_lines.auto.forms ∙ c.clear.auto.forms) o;
      policy_after = lines_clear _ _ _ _ _ c.clear-in-Err.ensures.policy_zero (c.read_lines.auto.policy ∙ c.clear.auto.policy) o;
      steps_after = steps_clear _ _ _ _ _ c.clear-in-Err.ensures.steps_zero (c.read_lines.auto.steps ∙ c.clear.auto.steps) o;
    }

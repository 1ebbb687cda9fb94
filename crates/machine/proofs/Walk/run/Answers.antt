use Rattle.std.proofs.Common.{arith, ap, sym, ◌∙◌, ◌≡◌, ◌≢◌, ◌-◌, ◌+◌, ◌<◌, Ok, Err}
use Rattle.common.specs.declared.refused.Refusal.TheVariants.{AllClosed, LeftOpen}
use Rattle.machine.specs.Machine.{State, step_in, judged_now, ran_from}
use Rattle.machine.specs.Turn.{seen}
use Rattle.machine.proofs.Fits.{fits_room}
use Rattle.machine.proofs.Turns.{turn, turn_no, turn_late, ended_open, ended_closed, made_room, refused}
use Rattle.machine.proofs.Walk.run.Goals as goal

pub returns-then-self-eq0 : goal.returns-then-self-eq0
returns-then-self-eq0 c =
    let l = c.loop-i in
    let late : l.i < c.args.total = omega arith in
    refused _ AllClosed l.i _ c.at.ensures (l.invariant.1 ∙ turn_late _ _ _ _ _ (seen l.self) late c.if-self-eq0.true)

pub returns-in-Err : goal.returns-in-Err
returns-in-Err c =
    let l = c.loop-i in
    let a = c.args in
    let s : State = seen l.self in
    let early : l.i < a.total = omega arith in
    let some : s.opened ≢ 0 = c.if-self-eq0.false in
    let r = c.in-Err.refusal in
    let judged : judged_now a.forms.now s (step_in a.steps.now l.i) ≡ Err r = rw c.step_at-x.ensures at (sym c.judged.ensures ∙ c.in-Err.is) in
    refused _ r l.i _ c.at-in-Err.ensures (l.invariant.1 ∙ turn_no a.unit a.forms.now a.steps.now a.total l.i s r early some judged)

pub make-requires-clause-room : goal.make-requires-clause-room
make-requires-clause-room c =
    fits_room c.args.forms.now (seen c.loop-i.self) c.step_at-x.result c.in-Ok.m
    (sym c.judged.ensures ∙ c.in-Ok.is)

pub loop-i-preserved : goal.loop-i-preserved
loop-i-preserved c =
    let l = c.loop-i in
    let a = c.args in
    let s : State = seen l.self in
    let early : l.i < a.total = omega arith in
    let some : s.opened ≢ 0 = c.if-self-eq0.false in
    let judged : judged_now a.forms.now s c.step_at-x.result ≡ Ok c.in-Ok.m =
    sym c.judged.ensures ∙ c.in-Ok.is in
    let fits : judged_now a.forms.now s (step_in a.steps.now l.i) ≡ Ok c.in-Ok.m = rw c.step_at-x.ensures at judged in (
      rw (ap (λ (s : State). s.opened) c.make.ensures)
          (made_room a.unit s c.in-Ok.m _ _ _ (fits_room a.forms.now s _ _ judged) l.invariant.0),
      l.invariant.1 ∙ turn a.unit a.forms.now a.steps.now a.total l.i s c.in-Ok.m early some fits ∙
          ap (ran_from a.unit a.forms.now a.steps.now (a.total - (l.i + 1)) (l.i + 1)) (sym c.make.ensures),
    )

pub returns-then-self-gt0 : goal.returns-then-self-gt0
returns-then-self-gt0 c =
    let l = c.loop-i in
    let done : l.i ≡ c.args.total = omega arith in
    let some : 0 < l.self.opened = omega arith in
    refused _ LeftOpen c.args.total _ c.at-then-self-gt0.ensures (l.invariant.1 ∙ ended_open _ _ _ _ _ (seen l.self) done some)

pub returns : goal.returns
returns c =
    let l = c.loop-i in
    let done : l.i ≡ c.args.total = omega arith in
    let closed : l.self.opened ≡ 0 = omega arith in
    sym (l.invariant.1 ∙ ended_closed _ _ _ _ _ (seen l.self) done closed)

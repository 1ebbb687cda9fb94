-- `columns::number_line` meets its contract: behind the key stand the digits, and behind some digits the LF.
use Rattle.std.proofs.Common.{◌+◌, ◌≡◌, arith, ◌∙◌}
use Rattle.scope.specs.File.Stops.{end_stop, digits_stop}
use Rattle.scope.specs.File.Line.{line_stop}
use Rattle.columns.specs.Places.{stands_is, front_whole, digits_ended}
use Rattle.columns.proofs.number_line.Goals as goal

pub returns : goal.returns
unfolding line_stop
returns c =
    let t = c.args.text.now in
    let front = c.word_stop-front.result in
    let digits = c.number_stop-digits.result in
    let last = c.end_stop.result in
    let n = digits_ended t front digits last c.number_stop-digits.ensures c.if-digits-eq0.false c.end_stop.ensures in
    let e =
    front_whole c.args.key.now t (digits_stop end_stop) front (c.word_stop-front.ensures ∙ stands_is c.args.key.now t) c.if-front-key.false
    (digits + last) n in
    let z : front + digits + last ≡ front + (digits + last) = omega arith in
    z ∙ e

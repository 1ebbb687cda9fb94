use Rattle.std.proofs.Common.{◌≡◌, ◌+◌, ◌-◌, ◌<◌, ap, ◌∙◌, length, get_or, arith}
use Rattle.std.proofs.lemmas.Grind.{common_steps}
use Rattle.lines.specs.Parts.{tail_part}
use Rattle.scope.specs.File.Stops.{number_stop}
use Rattle.trip.specs.LineStops.{number_within}
use Rattle.columns.specs.Places.{part_within, items_goes}
use Rattle.columns.proofs.items_stop.Goals as goal

pub loop-done-preserved : goal.loop-done-preserved
loop-done-preserved c =
    let t = c.args.text.now in
    let at = c.loop-done.at in
    let n = c.args.wanted - c.loop-done._done in
    let k = c.number_stop-digits.result in
    let h : at < length t = grind (arith, common_steps) in
    let b : get_or t at 0 ≡ 32 = grind (arith, common_steps) in
    let p = c.number_stop-digits.ensures ∙ ap number_stop (tail_part (at + 1) t) in
    let e = items_goes t at n (omega arith) h b k p c.if-digits-eq0.false in
    let r : at + (1 + k) ≡ at + 1 + k = omega arith in
    let q : c.args.wanted - (c.loop-done._done + 1) ≡ n - 1 = omega arith in
    rw (r, q) (part_within number_stop number_within t (at + 1) k (omega arith) c.number_stop-digits.ensures, omega (arith, e))

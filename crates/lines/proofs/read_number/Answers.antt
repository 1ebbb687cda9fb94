use Rattle.std.proofs.Common.{◌≡◌, ◌+◌, ◌*◌, ◌^◌, ◌≤◌, ap, sym, ◌∙◌, true, get_or, add-one, arith, eqb-true}
use Rattle.std.proofs.lemmas.Bool.{eqb-false}
use Rattle.std.proofs.Math.Nat.{pow-le-pow_right}
use Rattle.scope.specs.File.Number.{is_digit}
use Rattle.lines.specs.Stop.{most_five, digit_same, digit_range, digits_goes, counts_on}
use Rattle.lines.specs.Answers.{bad_long, bad_digit, bad_empty, good_number}
use Rattle.lines.proofs.read_number.Goals as goal
use Rattle.lines.proofs.read_number.Goals.{then-most-i-via-then-most-i, then-most-i-via-else-most-i+then-not-is_ascii_digit}

pub returns-then-most-i : goal.returns-then-most-i
returns-then-most-i c =
    let t = c.args.text.now in
    let m = c.most_digits-most.result in
    let i = c.loop-i.i in
    elim c.then-most-i.branch [
      | then-most-i-via-then-most-i w ↦ bad_long t m i c.most_digits-most.ensures (omega arith) (omega arith) c.loop-i.invariant.3
      | then-most-i-via-else-most-i+then-not-is_ascii_digit w ↦
          bad_digit t m i c.most_digits-most.ensures c.loop-i.value (omega arith) (omega arith)
          (sym (digit_same (get_or t i 0)) ∙ sym w.is_ascii_digit.ensures.value ∙ w.if-not-is_ascii_digit.true) c.loop-i.invariant.2 c.loop-i.invariant.3
    ]

pub overflow_mul-value : goal.overflow_mul-value
overflow_mul-value c =
    let i = c.loop-i.i in
    let small : i ≤ 4 = omega (arith, c.most_digits-most.ensures, most_five c.args.text.now) in
    let p : 10 ^ i ≤ 10 ^ 4 = pow-le-pow_right {n = 10} (omega arith) small in
    omega (arith, p)

pub overflow_add-value : goal.overflow_add-value
overflow_add-value c =
    let i = c.loop-i.i in
    let small : i ≤ 4 = omega (arith, c.most_digits-most.ensures, most_five c.args.text.now) in
    let p : 10 ^ i ≤ 10 ^ 4 = pow-le-pow_right {n = 10} (omega arith) small in
    omega (arith, p, c.type_inv.text i)

pub loop-i-preserved : goal.loop-i-preserved
loop-i-preserved c =
    let t = c.args.text.now in
    let i = c.loop-i.i in
    let d : is_digit (get_or t i 0) ≡ true =
    sym (digit_same (get_or t i 0)) ∙ sym c.is_ascii_digit.ensures.value ∙ c.if-not-is_ascii_digit.false in
    let p : 10 ^ (i + 1) ≡ 10 * 10 ^ i = omega (arith, ap (λ k. 10 ^ k) (add-one i)) in (
      omega arith,
      omega (arith, digit_range (get_or t i 0) d),
      rw c.from.ensures (sym (digits_goes t i (omega arith) c.loop-i.value d) ∙ c.loop-i.invariant.2),
      omega (arith, counts_on t i (omega arith) c.most_digits-most.result (omega arith) d),
    )

pub returns-then-is_empty : goal.returns-then-is_empty
returns-then-is_empty c = bad_empty c.args.text.now (eqb-true _ _ (sym c.is_empty.ensures ∙ c.if-is_empty.true))

pub returns : goal.returns
returns c =
    let some = eqb-false _ _ (sym c.is_empty.ensures ∙ c.if-is_empty.false) in
    good_number c.args.text.now c.most_digits-most.result c.loop-i.i c.most_digits-most.ensures c.loop-i.value (omega (arith, some))
    (omega arith) (omega arith) (omega arith) c.loop-i.invariant.2

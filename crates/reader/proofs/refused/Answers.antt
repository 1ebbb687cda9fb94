-- `reader::refused` meets its contract: the stop is asked for of a line out of shape alone.
use Rattle.std.proofs.Common.{suc, refl, ap, arith, ◌∙◌, add-one}
use Rattle.common.specs.Answers.{answer_of}
use Rattle.common.specs.Refused.{number_of}
use Rattle.scope.specs.Call.Answer.{told}
use Rattle.reader.specs.Lines.{column_shape, column_else}
use Rattle.reader.proofs.refused.Goals as goal

pub overflow_cast-result : goal.overflow_cast-result
overflow_cast-result g c = omega (arith, c.requires.small c.stop.result (c.args.text, c.stop.ensures, refl))

pub overflow_add-result : goal.overflow_add-result
overflow_add-result g c = omega (arith, c.requires.small c.stop.result (c.args.text, c.stop.ensures, refl))

pub returns-in-Shape : goal.returns-in-Shape
returns-in-Shape g c n only =
    let column = add-one c.stop.result ∙ ap suc (only c.stop.result (c.args.text, c.stop.ensures, refl)) ∙ column_shape c.args.refusal (suc n) c.in-Shape.is in
    λ i. record { refusal = c.number.ensures i; place = c.args.place; column = column i }

pub returns-in_default : goal.returns-in_default
returns-in_default g c n only =
    c.at.ensures ∙ ap (λ k. answer_of (told (number_of c.args.refusal) c.args.place k)) (column_else c.args.refusal (suc n) c.in_default.not-Shape)

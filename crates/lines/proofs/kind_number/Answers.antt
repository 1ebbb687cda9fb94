-- `lines::kind_number` meets its contract: a word has the code of a kind's word only where it is that word.
use Rattle.std.proofs.Common.{arith, sym, ◌∙◌}
use Rattle.common.specs.Kinds.{listed}
use Rattle.lines.specs.Rows.{code_is, code_within}
use Rattle.lines.proofs.kind_number.Goals as goal

pub returns-in_err-at : goal.returns-in_err-at
returns-in_err-at c =
    c.from_residual.ensures ∙ sym c.in_err-at.was ∙ c.find_code.ensures ∙
    code_is (listed c.args.kinds.now) c.requires.few c.args.codes.now c.requires.coded c.args.word.now (λ i. (c.type_inv.word i).fits)
    c.code_of.result c.code_of.ensures

pub overflow_cast-result : goal.overflow_cast-result
overflow_cast-result c =
    omega (
      arith,
      code_within (listed c.args.kinds.now) c.requires.few c.args.codes.now c.requires.coded c.code_of.result c.in_ok-at.at
          (sym c.find_code.ensures ∙ c.in_ok-at.was),
    )

pub returns : goal.returns
returns c =
    sym c.in_ok-at.was ∙ c.find_code.ensures ∙
    code_is (listed c.args.kinds.now) c.requires.few c.args.codes.now c.requires.coded c.args.word.now (λ i. (c.type_inv.word i).fits)
    c.code_of.result c.code_of.ensures

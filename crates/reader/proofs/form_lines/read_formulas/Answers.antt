-- `reader::form_lines::read_formulas` meets its contract: the `form=` lines are read from where the three counts end.
use Rattle.std.proofs.Common.{sym}
use Rattle.std.proofs.lemmas.Result.{err_from_is_err_and}
use Rattle.reader.specs.Joins.{formulas_at_head, formulas_at_forms, formulas_whole}
use Rattle.reader.proofs.form_lines.read_formulas.Goals as goal

pub returns-in_err-head : goal.returns-in_err-head
returns-in_err-head c =
    let out = err_from_is_err_and c.from_residual.result c.from_residual.ensures.1 in
    rw (out.1, out.2) (formulas_at_head c.args.text.now _ c.in_err-head.ensures)

pub returns-in_err-rest : goal.returns-in_err-rest
returns-in_err-rest c =
    let out = err_from_is_err_and c.from_residual-in_err-rest.result c.from_residual-in_err-rest.ensures.1 in
    rw (out.1, out.2) (formulas_at_forms c.args.text.now _ _ c.in_ok-head.ensures _ c.in_err-rest.ensures)

pub returns : goal.returns
returns c =
    let h = c.in_ok-head.head in
    let forms = c.in_ok-rest.ensures in
    record {
      thing = record { principals = h.principals; atoms = h.atoms; forms = forms.things };
      is = formulas_whole c.args.text.now _ _ c.in_ok-head.ensures _ _ forms.is;
      seen = λ i. record { principals = h.principals; atoms = h.atoms; formulas = sym forms.count i };
      stored = forms.stored;
    }

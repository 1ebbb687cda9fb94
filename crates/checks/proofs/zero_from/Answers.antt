-- `checks::zero_from` meets its contract: the rest of the table is looked through, and past its end there is none.
use Rattle.std.proofs.Common.{eqb, drop, length, ◌≡◌, ◌∙◌, arith, rules, tests}
use Rattle.std.proofs.lemmas.Iterator.{YieldsList-from_slice}
use Rattle.std.proofs.lemmas.Iterator.Search.{all_from_yields_List}
use Rattle.std.proofs.lemmas.Slice.{between_to_end}
use Rattle.checks.proofs.zero_from.Goals as goal

pub returns : goal.returns
returns c =
    let t = c.args.table.now in
    let rest : c.in-Some.rest.now ≡ drop c.args.from t =
    c.in-Some.ensures.lookup.0.2 ∙ between_to_end t c.args.from (length t) (omega arith) in
    all_from_yields_List (λ n. eqb n 0) _ _ c.all.result c.all.ensures.ran
    (YieldsList-from_slice (drop c.args.from t) (c.iter.ensures.rest ∙ rest))
    (λ x b q k. search (rules, tests))

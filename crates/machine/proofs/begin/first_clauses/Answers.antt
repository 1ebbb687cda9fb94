use Rattle.std.proofs.Common.{arith, ap, sym, ◌∙◌, ◌≡◌, ◌-◌, ◌<◌, List, ℕ, set}
use Rattle.std.proofs.lemmas.List.{map-set}
use Rattle.moves.specs.declared.Lab.{Lab}
use Rattle.moves.specs.Judge.{forms_of, ats_of}
use Rattle.machine.specs.Tables.{clause_places}
use Rattle.machine.proofs.Turns.{line_put, none_put, zero_put}
use Rattle.machine.proofs.begin.first_clauses.Goals as goal

pub loop-i-preserved : goal.loop-i-preserved
loop-i-preserved c =
    let some : 0 < c.loop-i.i = omega arith in
    let forms : forms_of c.put_at.new.table ≡ set (forms_of c.loop-i.clauses) (c.loop-i.i - 1) c.value_at-form.result =
    ap forms_of c.put_at.ensures ∙ map-set (λ (l : Lab). l.form) _ _ _ in (
      line_put _ _ _ _ _ some c.value_at-form.ensures forms ∙ c.loop-i.invariant.0,
      ap ats_of c.put_at.ensures ∙ map-set (λ (l : Lab). l.at.0) _ _ _ ∙
          ap (λ (ats : List ℕ). set ats (c.loop-i.i - 1) 0) c.loop-i.invariant.1 ∙ zero_put clause_places (c.loop-i.i - 1),
    )

pub returns-clause-forms : goal.returns-clause-forms
returns-clause-forms c =
    let none : c.loop-i.i ≡ 0 = omega arith in
    sym (none_put _ _ _ none) ∙ c.loop-i.invariant.0

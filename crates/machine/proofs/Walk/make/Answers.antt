-- `make` meets its contract: each call writes a table as the definition does.
use Rattle.std.proofs.Common.{ap, refl, ◌∙◌}
use Rattle.std.proofs.lemmas.List.{map-set}
use Rattle.moves.specs.declared.Lab.{Lab}
use Rattle.moves.specs.Judge.{forms_of, ats_of}
use Rattle.machine.specs.Turn.{seen}
use Rattle.machine.proofs.Turns.{moved_is}
use Rattle.machine.proofs.Walk.make.Goals as goal

pub returns : goal.returns
returns c =
    let place = c.saturating_sub-place.ensures in
    let below = c.saturating_sub-below.ensures in
    moved_is _ (seen c.args.self.now) _ _ _ _ _ _ _ _ _ _ _
    (record {
      this = rw place at c.obligation_at-o.ensures;
      topmost = rw place at c.top_chunk.ensures;
      under = rw below at c.obligation_at-next.ensures;
      change = c.change_of-made.ensures;
      kept = c.save_rows.ensures;
      facts = rw below at c.move_rows.ensures;
      held = rw place at c.move_chunks.ensures;
      clause = rw c.from.ensures at (ap forms_of c.put_at.ensures ∙ map-set (λ (l : Lab). l.form) _ _ _);
      world = rw (c.from.ensures, c.goal.ensures) at (ap ats_of c.put_at.ensures ∙ map-set (λ (l : Lab). l.at.0) _ _ _);
      opens = rw (c.from-2.ensures, c.from-3.ensures, place) refl;
    })

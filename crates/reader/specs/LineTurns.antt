-- One turn over `clause=` lines, and one over `step=` lines.
use Rattle.std.specs.Prelude.{ℕ, suc, ◌+◌, ◌*◌, ◌≤◌, ◌<◌, ◌≡◌, List, [], length, set}
use Rattle.std.proofs.Common.{arith, sym, ◌∙◌, length-set}
use Rattle.std.proofs.Math.Path.{ap}
use Rattle.scope.specs.Call.Answer.{Answer}
use Rattle.scope.specs.File.Line.{ok, bad, line, many}
use Rattle.scope.specs.File.Text.{clause_line, step_line}
use Rattle.scope.specs.File.Refusals.{step_refusal}
use Rattle.scope.specs.File.Reader.{step_item}
use Rattle.scope.specs.Call.Tables.{policy_entry, step_entry}
use Rattle.scope.specs.Limits.{most_policy_lines, most_steps, clause_at, step_at}
use Rattle.classes.specs.Class.{policy_in, no_class}
use Rattle.classes.specs.declared.Class.{Class}
use Rattle.refusals.specs.Rows.{class_refusal}
use Rattle.steps.specs.declared.Pair.{Pair}
use Rattle.reader.specs.Answers.{pair_row}
use Rattle.reader.specs.Sections.{classed_item}
use Rattle.reader.specs.Stored.{line_more, step_more}
use Rattle.reader.specs.Turns.{Turns, turn_stops, turn_more}

module _ (classes : List Class) (formulas : ℕ) {n : ℕ} {text numbers s : List ℕ} {i : ℕ}
    (k : Turns policy_entry (classed_item classes formulas) n text numbers s i) (h : i < n) where
  clause_is : classed_item classes formulas k.before s ≡ line clause_line (class_refusal policy_in no_class classes formulas) (clause_at formulas i) s
  clause_is = ap (λ m. line clause_line (class_refusal policy_in no_class classes formulas) (clause_at formulas m) s) k.count

  pub clause_stops : (z : Answer) → line clause_line (class_refusal policy_in no_class classes formulas) (clause_at formulas i) s ≡ bad z
      → many (classed_item classes formulas) n [] text ≡ bad z
  clause_stops z e = turn_stops policy_entry (classed_item classes formulas) n text k h z (clause_is ∙ e)

  pub clause_turn : (f : ℕ) (behind : List ℕ) → line clause_line (class_refusal policy_in no_class classes formulas) (clause_at formulas i) s ≡ ok f behind
      → n ≤ most_policy_lines → most_policy_lines ≤ length numbers → Turns policy_entry (classed_item classes formulas) n text (set numbers i f) behind (i + 1)
  clause_turn f behind e few room =
      turn_more policy_entry (classed_item classes formulas) n text k h f behind (set numbers i f) (clause_is ∙ e) (simp length-set)
      (line_more (length numbers) numbers i k.before f k.stored (sym k.count) (omega arith))

module _ (formulas clauses : ℕ) {n : ℕ} {text numbers s : List ℕ} {i : ℕ}
    (k : Turns step_entry (step_item formulas clauses) n text numbers s i) (h : i < n) where
  step_is : step_item formulas clauses k.before s ≡ line step_line step_refusal (step_at formulas clauses (suc i)) s
  step_is = ap (λ m. line step_line step_refusal (step_at formulas clauses (suc m)) s) k.count

  pub step_stops : (z : Answer) → line step_line step_refusal (step_at formulas clauses (suc i)) s ≡ bad z → many (step_item formulas clauses) n [] text ≡ bad z
  step_stops z e = turn_stops step_entry (step_item formulas clauses) n text k h z (step_is ∙ e)

  -- A step stands in the table as its two numbers.
  pub step_turn : (p : Pair) (behind : List ℕ) → line step_line step_refusal (step_at formulas clauses (suc i)) s ≡ ok (pair_row p) behind
      → n ≤ most_steps → 2 * most_steps ≤ length numbers
      → Turns step_entry (step_item formulas clauses) n text (set (set numbers (2 * i) p.kind) (2 * i + 1) p.number) behind (i + 1)
  step_turn p behind e few room =
      turn_more step_entry (step_item formulas clauses) n text k h (pair_row p) behind (set (set numbers (2 * i) p.kind) (2 * i + 1) p.number)
      (step_is ∙ e) (simp length-set)
      (step_more (length numbers) numbers (2 * i) k.before p.kind p.number 0 k.stored (omega (arith, k.count)) (omega arith))

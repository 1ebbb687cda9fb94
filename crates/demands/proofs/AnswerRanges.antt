-- The judge's and the gate's answers have the numbers, places and columns that specs/AnswerRanges names:
--     judge_range : judge t ≡ told k place column → ByJudging t k place × (column ≡ 0)
--     gate_range : gate s ≡ prints k place n column → ByGate s k place n column
-- So the gate prints no number over 12 but 15 (`gate_number`): never 13 or 14.
use Rattle.std.specs.Prelude.{ℕ, ◌*◌, ◌≡◌, refl, List, length}
use Rattle.std.proofs.Common.{inl, arith}
use Rattle.scope.specs.Call.Result.{refused}
use Rattle.scope.specs.Limits.{most_formulas, most_policy_lines, most_steps}
use Rattle.scope.specs.Call.Answer.{told, answer}
use Rattle.scope.specs.Call.Tables.{Lent}
use Rattle.scope.specs.Call.Judge.{judge, Printed, prints, gate}
use Rattle.demands.specs.Judged.{judge_allowed}
use Rattle.demands.specs.Ranges as Range
use Rattle.demands.specs.Ranges.{Between, between_wider, ByReading, reading_range, where_number}
use Rattle.demands.proofs.Ranges.{with_room}
use Rattle.demands.specs.Gate.{gate_reads, Prints, unread, answered, gate_prints}
use Rattle.demands.specs.AnswerRanges.{ByJudging, about_steps, ByGate, about_steps, at_line, too_long, settled_range, allowed_range, gate_room, steps_number}

pub judge_range : (t : Lent) (k place column : ℕ) → judge t ≡ told k place column → ByJudging t k place × (column ≡ 0)
judge_range t k place column e = allowed_range t (judge t) k place column (judge_allowed t) e

unread_range : (s : List ℕ) (k place column : ℕ) → gate_reads s ≡ refused (told k place column) → ByGate s k place 0 column
unread_range s k place column d = go (reading_range (3 * most_formulas) most_policy_lines (2 * most_steps) s k place column d)
  where
    go : ByReading s k place column → ByGate s k place 0 column
    go (Range.no_room c q x) = absurd (with_room (3 * most_formulas) most_policy_lines (2 * most_steps) s k place column gate_room d c)
    go (Range.too_long c q x) = too_long c q refl x
    go (Range.at_line w) = at_line w refl

prints_range : (s : List ℕ) (p : Printed) (k place n column : ℕ) → Prints s p → p ≡ prints k place n column → ByGate s k place n column
prints_range s p k place n column (unread {k = j} {place = i} {column = m} d) e =
    let z : j ≡ k = cc in
    let y : i ≡ place = cc in
    let x : 0 ≡ n = cc in
    let w : m ≡ column = cc in
    rw (z, y, x, w) at (unread_range s j i m d)
prints_range s p k place n column (answered {q = q} {k = j} {place = i} d f) e =
    let z : j ≡ k = cc in
    let y : i ≡ place = cc in
    let x : length q.steps ≡ n = cc in
    about_steps (rw (z, y, x) at (settled_range q (answer j i) j i 0 f refl).0) (cc)

pub gate_range : (s : List ℕ) (k place n column : ℕ) → gate s ≡ prints k place n column → ByGate s k place n column
gate_range s k place n column e = prints_range s (gate s) k place n column (gate_prints s) e

by_gate_number : {s : List ℕ} {k place n column : ℕ} → ByGate s k place n column → Between 0 12 k
by_gate_number (too_long e p c x) = inl (omega arith)
by_gate_number (at_line w c) = between_wider (omega arith) (omega arith) (where_number w).0
by_gate_number (about_steps a x) = inl (omega (arith, steps_number a))

pub gate_number : (s : List ℕ) (k place n column : ℕ) → gate s ≡ prints k place n column → Between 0 12 k
gate_number s k place n column e = by_gate_number (gate_range s k place n column e)

-- The numbers of refusals before the steps: reading refuses 1 to 6, 13 or 15 (`read_number`), no refusal has number 0 (`reading_firm`), and
-- tables with room are never found too short (`with_room`).
use Rattle.std.specs.Prelude.{ℕ, ◌<◌, ◌≡◌, List, ◌⊎◌}
use Rattle.std.proofs.Common.{inl, inr, arith}
use Rattle.scope.specs.Call.Result.{refused}
use Rattle.scope.specs.Call.Answer.{told}
use Rattle.scope.specs.Call.Calls.{reading}
use Rattle.demands.specs.Ranges.{ByReading, at_line, no_room, too_long, reading_range, Between, between_wider, where_number, some_number}
use Rattle.std.specs.Prelude.{Bool, true, false, cond, leb, length}
use Rattle.scope.specs.File.Reader.{read_request}
use Rattle.scope.specs.Limits.{most_bytes}
use Rattle.scope.specs.Call.Answer.{answer}
use Rattle.scope.specs.Call.Tables.{has_room}
use Rattle.trip.proofs.Places.{refused_where}

not_thirteen : {least most k : ℕ} → most < 13 → Between least most k → k ≡ 13 → ⊥
not_thirteen h (inl b) t = omega arith
not_thirteen h (inr e) t = omega arith

-- Tables with room are never found too short.
pub with_room : (forms lines steps : ℕ) (s : List ℕ) (k place column : ℕ) → has_room forms lines steps ≡ true →
    reading forms lines steps s ≡ refused (told k place column) → k ≡ 13 → ⊥
unfolding reading
with_room f l n s k place column h e t = go (leb (length s) most_bytes) (rw h at e)
  where
    go : (b : Bool) → cond b (read_request s) (refused (answer 1 0)) ≡ refused (told k place column) → ⊥
    go true d = not_thirteen (omega arith) (where_number (refused_where s k place column d)).0 t
    go false d = let z : 1 ≡ k = cc in omega arith

read_by : {s : List ℕ} {k place column : ℕ} → ByReading s k place column → Between 1 6 k ⊎ (k ≡ 13)
read_by (no_room e p c) = inr e
read_by (too_long e p c) = inl (inl (omega arith))
read_by (at_line w) = inl (between_wider (omega arith) (omega arith) (where_number w).0)

pub read_number : (forms lines steps : ℕ) (s : List ℕ) (k place column : ℕ) → reading forms lines steps s ≡ refused (told k place column) →
    Between 1 6 k ⊎ (k ≡ 13)
read_number f l n s k place column e = read_by (reading_range f l n s k place column e)

firm : {s : List ℕ} {k place column : ℕ} → ByReading s k place column → 0 < k
firm (no_room e p c) = omega arith
firm (too_long e p c) = omega arith
firm (at_line w) = some_number (omega arith) (where_number w).0

-- A file that reads to nothing is never taken for granted.
pub reading_firm : (forms lines steps : ℕ) (s : List ℕ) (k place column : ℕ) → reading forms lines steps s ≡ refused (told k place column) → 0 < k
reading_firm f l n s k place column e = firm (reading_range f l n s k place column e)

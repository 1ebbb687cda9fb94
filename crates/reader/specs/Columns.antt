-- The column of a line's refusal, by its number.
use Rattle.std.specs.Prelude.{ℕ, ◌≡◌, refl}
use Rattle.std.proofs.Common.{eq-eqb, ne_eqb}
use Rattle.scope.specs.Call.Answer.{column_for}

pub column_none : (k column : ℕ) → (k ≡ 2 → ⊥) → 0 ≡ column_for k column
unfolding column_for
column_none k column h = rw (ne_eqb k 2 h) refl

pub column_two : (k column : ℕ) → k ≡ 2 → column ≡ column_for k column
unfolding column_for
column_two k column e = rw (eq-eqb k 2 e) refl

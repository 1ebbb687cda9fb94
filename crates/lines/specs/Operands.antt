-- The numbers behind a kind's word, one by one.
use Rattle.std.specs.Prelude.{ℕ, suc, ◌≡◌, refl, List, [], ◌∷◌, Bool, true, false, length, Option as Optional, None, Some}
use Rattle.std.specs.Option.{is_some}
use Rattle.std.proofs.Common.{ap}
use Rattle.std.proofs.Math.Option.{Option, none, some}
use denote.Ref.{Bor}
use Rattle.scope.specs.Tools.Tests.{never}
use Rattle.scope.specs.File.Number.{number}
use Rattle.scope.specs.File.Kinds.{numbers, onto_numbers}
use Rattle.lines.specs.Answers.{kind_answer}

-- The text of an item, where there is one.
abbrev pub shown : Optional (Bor (List ℕ)) → Optional (List ℕ)
shown None = None
shown (Some t) = Some t.now

pub is_some_shown : (r : Optional (Bor (List ℕ))) → is_some (shown r) ≡ is_some r
is_some_shown None = refl
is_some_shown (Some t) = refl

-- A number where one is wanted, and nothing where none is.
unfoldable pub operand_of : Optional (List ℕ) → Bool → Optional ℕ
operand_of None true = None
operand_of None false = Some 0
operand_of (Some t) true = kind_answer (number t)
operand_of (Some t) false = None

-- As many numbers as items.
pub numbers_length : (vs : List (List ℕ)) (ns : List ℕ) → numbers vs ≡ some ns → length ns ≡ length vs
unfolding numbers
numbers_length [] ns e = let f : ns ≡ [] = cc in rw f refl
numbers_length (v ∷ vs) ns e = go (number v) (numbers vs) e (numbers_length vs)
  where
    go : (x : Option ℕ) (m : Option (List ℕ)) → onto_numbers x m ≡ some ns → ((ms : List ℕ) → m ≡ some ms → length ms ≡ length vs)
        → length ns ≡ suc (length vs)
    go none m e f = never cc
    go (some x) none e f = never cc
    go (some x) (some ms) e f = let g : ns ≡ x ∷ ms = cc in rw g (ap suc (f ms refl))

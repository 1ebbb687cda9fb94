-- d) 'for refusal 2 the column, from 1, of the first byte at which the beginning of the line can no longer be the beginning of any line of
-- the right shape for that place; the LF counts as a byte, and a file that ends early gives its last column plus one.'
use Rattle.std.specs.Prelude.{ℕ, suc, ◌≡◌, List, [], ◌∷◌, ◌++◌, length}
use Rattle.std.proofs.Math.Option.{some}
use Rattle.scope.specs.File.Line.{Line, parts, uncut, cut}

-- A line of the right shape: the key, a value in shape, then the LF, which is the line's only one and its last byte.
pub record InShape {A : Type 0} (l : Line A) (t : List ℕ) : Type 0 where
  pub value : List ℕ
  pub thing : A
  pub ends : cut 10 t ≡ parts (l.key ++ value) []
  pub shaped : l.shape.thing value ≡ some thing

-- Bytes that are the beginning of a text of some kind: there is a continuation.
pub record Goes (Whole : List ℕ → Type 0) (s : List ℕ) : Type 0 where
  pub continued : List ℕ
  pub whole : Whole (s ++ continued)

-- The text ends there, or its next byte is one with which the bytes before it cannot go on.
pub data Stops (Whole : List ℕ → Type 0) (before : List ℕ) : List ℕ → Type 0 where
  early : Stops Whole before []
  cannot : {b : ℕ} {rest : List ℕ} → ¬ Goes Whole (before ++ (b ∷ [])) → Stops Whole before (b ∷ rest)

-- The column in a text that begins where the line begins. What stands before it are bytes of the line, the LF not among them.
pub record Column (Whole : List ℕ → Type 0) (s : List ℕ) (n : ℕ) : Type 0 where
  pub before : List ℕ
  pub after : List ℕ
  pub text : s ≡ before ++ after
  pub column : n ≡ suc (length before)
  pub unended : cut 10 before ≡ uncut
  pub goes : Goes Whole before
  pub stops : Stops Whole before after

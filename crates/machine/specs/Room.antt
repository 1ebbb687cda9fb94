-- The room that a move needs: one obligation, one world, one clause or one chunk more.
use Prim.{Unit}
use Rattle.std.specs.Prelude.{ℕ, ◌<◌}
use Rattle.scope.specs.Limits.{most_worlds, most_clauses, most_open, most_chunks}
use Rattle.moves.specs.declared.Move.{Move}
use Rattle.moves.specs.declared.Move.TheVariants as move

unfoldable pub Room : Move → ℕ → ℕ → ℕ → ℕ → Type 0
Room move.Close worlds clauses chunks opened = Unit
Room (move.Go f) worlds clauses chunks opened = Unit
Room (move.Aim f v) worlds clauses chunks opened = Unit
Room (move.Both f h) worlds clauses chunks opened = opened < most_open
Room (move.Meet f h v) worlds clauses chunks opened = opened < most_open
Room (move.Less f h) worlds clauses chunks opened = worlds < most_worlds
Room (move.Speak a f) worlds clauses chunks opened = worlds < most_worlds
Room move.Push worlds clauses chunks opened = clauses < most_clauses
Room move.Drop worlds clauses chunks opened = Unit
Room (move.Note a b) worlds clauses chunks opened = Unit
Room (move.Split f h) worlds clauses chunks opened = chunks < most_chunks
Room (move.Case f h) worlds clauses chunks opened = opened < most_open

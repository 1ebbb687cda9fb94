-- The last four limits, for the obligations that a step puts in the current one's place: `within_true` where all are kept, and a law for
-- each limit that is passed.
use Rattle.std.specs.Prelude.{ℕ, zero, suc, ◌+◌, ◌<◌, ◌≤◌, ◌≡◌, Bool, true, false, List, [], ◌∷◌, map, leb, length}
use Rattle.std.proofs.Math.Path.{refl}
use Rattle.std.proofs.Common.{ap, arith, length-append, le-leb}
use Rattle.std.proofs.lemmas.List.{length-map}
use Rattle.std.proofs.lemmas.Bool.{lt-leb}
use Rattle.scope.specs.Logic.Form.{Form, both}
use Rattle.scope.specs.Limits.{most_worlds, most_clauses, most_open, most_chunks}
use Rattle.scope.specs.Logic.Obligation.{Lab, Sequent, Phase, goal, chunks, focus, Obligation, ob}
use Rattle.scope.specs.Logic.Room.{chunk_count, met_count, open_count, small, within}
use Rattle.walks.specs.Related.{labs, chunks_of, met_in}

-- Worlds, clauses and chunks of an obligation are within the limits.
pub record Small (s : Sequent) (p : Phase) : Type 0 where
  pub worlds : s.sheet.worlds ≤ most_worlds
  pub clauses : length s.clauses ≤ most_clauses
  pub chunks : chunk_count p ≤ most_chunks

pub small_more : (s : Sequent) (p : Phase) (os : List Obligation) → Small s p → small os ≡ true → small (ob s p ∷ os) ≡ true
unfolding small
small_more s p os h e =
    rw (le-leb s.sheet.worlds most_worlds h.worlds, le-leb (length s.clauses) most_clauses h.clauses, le-leb (chunk_count p) most_chunks h.chunks) e

pub within_true : (n : ℕ) (os : List Obligation) → small os ≡ true → open_count os + n ≤ most_open → within n os ≡ true
unfolding within
within_true n os e h = rw (e, le-leb (open_count os + n) most_open h) refl

both_false : (b : Bool) → both b false ≡ false
unfolding both
both_false true = refl
both_false false = refl

pub open_over : (n : ℕ) (os : List Obligation) → most_open < open_count os + n → within n os ≡ false
unfolding within
open_over n os h = rw (lt-leb (open_count os + n) most_open h) (both_false (small os))

small_false : (n : ℕ) (os : List Obligation) → small os ≡ false → within n os ≡ false
unfolding within both
small_false n os e = rw e refl

pub worlds_over : (n : ℕ) (s : Sequent) (p : Phase) → most_worlds < s.sheet.worlds → within n (ob s p ∷ []) ≡ false
worlds_over n s p h = small_false n (ob s p ∷ []) (over h)
  where
    over : most_worlds < s.sheet.worlds → small (ob s p ∷ []) ≡ false
    over h = unfold small in rw (lt-leb s.sheet.worlds most_worlds h) refl

pub clauses_over : (n : ℕ) (s : Sequent) (p : Phase) → most_clauses < length s.clauses → within n (ob s p ∷ []) ≡ false
unfolding small both
clauses_over n s p h = small_false n (ob s p ∷ []) (go (leb s.sheet.worlds most_worlds))
  where
    go : (b : Bool) → both (both b (both (leb (length s.clauses) most_clauses) (leb (chunk_count p) most_chunks))) true ≡ false
    go true = rw (lt-leb (length s.clauses) most_clauses h) refl
    go false = refl

pub chunks_over : (n : ℕ) (s : Sequent) (p : Phase) → most_chunks < chunk_count p → within n (ob s p ∷ []) ≡ false
unfolding small both
chunks_over n s p h = small_false n (ob s p ∷ []) (go (leb s.sheet.worlds most_worlds) (leb (length s.clauses) most_clauses))
  where
    go : (a b : Bool) → both (both a (both b (leb (chunk_count p) most_chunks))) true ≡ false
    go true true = rw (lt-leb (chunk_count p) most_chunks h) refl
    go true false = refl
    go false b = refl

-- How many there are of each.
pub labs_length : (tree : ℕ → Form) (n : ℕ) (cl ats : List ℕ) → length (labs tree n cl ats) ≡ n
unfolding labs
labs_length tree zero cl ats = refl
labs_length tree (suc n) cl ats = rw (length-append, labs_length tree n cl ats) (omega arith)

pub chunks_length : (tree : ℕ → Form) (n : ℕ) (ch : List ℕ) → length (chunks_of tree n ch) ≡ n
unfolding chunks_of
chunks_length tree zero ch = refl
chunks_length tree (suc n) ch = ap suc (chunks_length tree n ch)

pub met_length : (s : Sequent) (p : Phase) → length (met_in s p) ≡ met_count p
unfolding met_in met_count
met_length s (goal g) = refl
met_length s (chunks c cs g) = refl
met_length s (focus d p w met) = length-map met (λ (g : Lab). ob s (goal g))

-- Subgoals that were met, as obligations of their own.
pub goals_small : (s : Sequent) → s.sheet.worlds ≤ most_worlds → length s.clauses ≤ most_clauses → (met : List Lab) →
    small (map (λ (g : Lab). ob s (goal g)) met) ≡ true
unfolding small chunk_count
goals_small s h g [] = refl
goals_small s h g (l ∷ met) =
    small_more s (goal l) (map (λ (g : Lab). ob s (goal g)) met) (record { worlds = h; clauses = g; chunks = omega arith })
    (goals_small s h g met)

pub goals_open : (s : Sequent) (met : List Lab) → open_count (map (λ (g : Lab). ob s (goal g)) met) ≡ length met
unfolding open_count
goals_open s [] = refl
goals_open s (l ∷ met) = rw (goals_open s met) (omega arith)

-- Two requests that differ only in lines that nobody used. What follows for their answers is in proofs/Statements.
use Rattle.std.specs.Prelude.{ℕ, ◌<◌, ◌≡◌, false, List, ◌∷◌, length, get_or}
use Rattle.scope.specs.Logic.Form.{Form, top, is_sf}
use Rattle.scope.specs.File.Request.{Request}
use Rattle.scope.specs.Logic.Obligation.{Step, Use}
use Rattle.scope.specs.Call.Judge.{policy_of, goal_of, steps_of}

-- Among the steps is `use i`.
pub data Used (i : ℕ) : List Step → Type 0 where
  here : {xs : List Step} → Used i (Use i ∷ xs)
  later : {x : Step} {xs : List Step} → Used i xs → Used i (x ∷ xs)

-- What policy line number i means.
unfoldable pub policy_line : Request → ℕ → Form
unfolding policy_of
policy_line q i = get_or (policy_of q) i top

-- Line number i means the same formula in both, or it is an `sf` in neither and no step uses it.
pub data LineAlike (q r : Request) (i : ℕ) : Type 0 where
  same : policy_line q i ≡ policy_line r i → LineAlike q r i
  unused : is_sf (policy_line q i) ≡ false → is_sf (policy_line r i) ≡ false → ¬ Used i (steps_of q) → LineAlike q r i

-- Formulas are compared by what they mean: their numbers may differ, and so may the formulas that an unused line alone needs.
pub record Alike (q r : Request) : Type 0 where
  pub logic : q.logic ≡ r.logic
  pub principals : q.principals ≡ r.principals
  pub atoms : q.atoms ≡ r.atoms
  pub count : length q.policy ≡ length r.policy
  pub policy : (i : ℕ) → i < length q.policy → LineAlike q r i
  pub goal : goal_of q ≡ goal_of r
  pub steps : steps_of q ≡ steps_of r

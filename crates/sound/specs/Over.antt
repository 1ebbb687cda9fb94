-- Over k n f: the formula f names only principals below k and atoms below n.
use Rattle.std.specs.Prelude.{ℕ, zero, suc, ◌<◌, ◌≡◌, List, [], ◌∷◌, ◌++◌}
use Rattle.std.proofs.Math.Option.{some}
use Rattle.std.proofs.Math.ListN.{get_elem?}
use Rattle.scope.specs.Tools.Tests.{never}
use Rattle.scope.specs.Logic.Form.{Form, atom, top, bot, and, or, imp, says, sf}

unfoldable pub Over : ℕ → ℕ → Form → Type 0
Over k n (atom p) = p < n
Over k n top = Unit
Over k n bot = Unit
Over k n (and f g) = Over k n f × Over k n g
Over k n (or f g) = Over k n f × Over k n g
Over k n (imp f g) = Over k n f × Over k n g
Over k n (says a f) = (a < k) × Over k n f
Over k n (sf a b) = (a < k) × (b < k)

-- Each item of a list has a property.
abbrev pub All : {A : Type 0} → (A → Type 0) → List A → Type 0
All P [] = Unit
All P (x ∷ xs) = P x × All P xs

module _ {A : Type 0} where
  pub all_turn : (P Q : A → Type 0) → ((x : A) → P x → Q x) → (xs : List A) → All P xs → All Q xs
  all_turn P Q t [] h = tt
  all_turn P Q t (x ∷ xs) h = (t x h.0, all_turn P Q t xs h.1)

  pub all_append : (P : A → Type 0) (xs ys : List A) → All P xs → All P ys → All P (xs ++ ys)
  all_append P [] ys h i = i
  all_append P (x ∷ xs) ys h i = (h.0, all_append P xs ys h.1 i)

  pub all_place : (P : A → Type 0) (xs : List A) (i : ℕ) (x : A) → get_elem? xs i ≡ some x → All P xs → P x
  all_place P [] i x e h = never cc
  all_place P (y ∷ xs) zero x e h = let z : y ≡ x = cc in rw z at h.0
  all_place P (y ∷ xs) (suc i) x e h = all_place P xs i x e h.1

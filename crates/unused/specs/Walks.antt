-- Twins are walked to the same answer:
--     walk_alike : walk room i os xs ≡ walk room i os' xs
use Rattle.std.specs.Prelude.{ℕ, suc, ◌≡◌, Bool, length}
use Rattle.std.proofs.Math.Path.{refl}
use mathlib.Core.List.{List, [], ◌∷◌, ◌++◌}
use Rattle.scope.specs.Call.Answer.{Answer}
use Rattle.scope.specs.Logic.Obligation.{Obligation, Step}
use Rattle.scope.specs.Logic.Walk.{Onward, after, walk}
use Rattle.unused.specs.Alike.{Used, later}
use Rattle.unused.specs.Twins.{Twins, none, twin, Blind, twins_append, twins_count}
use Rattle.unused.specs.Steps.{Moves, go, stop, step_alike}

module _ {used : ℕ → Type 0} (room : ℕ → List Obligation → Bool) (blind : Blind used room) where
  after_alike : (i : ℕ) {w w' : List Obligation} {m m' : Onward} (next next' : List Obligation → Answer) → Twins used w w' →
      Moves used m m' → ((os os' : List Obligation) → Twins used os os' → next os ≡ next' os') →
      after room i w m next ≡ after room i w' m' next'
  unfolding after
  after_alike i {w} {w'} next next' t (go {os} {os'} m) h =
      rw (twins_count t, blind (length w') os os' m, h (os ++ w) (os' ++ w') (twins_append m t))
  after_alike i next next' t stop h = refl

  pub walk_alike : (i : ℕ) {os os' : List Obligation} (xs : List Step) → Twins used os os' → ((c : ℕ) → Used c xs → used c) →
      walk room i os xs ≡ walk room i os' xs
  unfolding walk
  walk_alike i [] none c = refl
  walk_alike i [] (twin a t) c = refl
  walk_alike i (x ∷ xs) none c = refl
  walk_alike i (x ∷ xs) (twin {s = s} {ds = ds} {p = p} a t) c =
      after_alike i (λ os. walk room (suc i) os xs) (λ os. walk room (suc i) os xs) t (step_alike x xs s ds p a c)
      (λ os os' u. walk_alike (suc i) xs u (λ n v. c n (later v)))

-- One turn of the walk, by the relations: what the arguments about whole walks cite, so that none opens a turn again.
--     turn : Turn room i o waiting x xs (walk room i (o ∷ waiting) (x ∷ xs))
--     walk_on, walk_over, walk_stop : the same from each relation to the walk
use Rattle.std.specs.Prelude.{ℕ, suc, ◌≡◌, refl, Bool, true, false, List, ◌∷◌, ◌++◌, length}
use Rattle.scope.specs.Call.Answer.{Answer, answer}
use Rattle.scope.specs.Logic.Derivation.{Rule}
use Rattle.scope.specs.Logic.Obligation.{Obligation, Step}
use Rattle.scope.specs.Logic.Walk.{Onward, limited, after, walk}
use Rattle.granted.specs.Reasons.{Room, Refuses}
use Rattle.granted.proofs.Steps.{rule_step, refuses_step, Told, ruled, barred, told}

-- The turn goes on by a rule within the room, passes a limit, or is refused.
pub data Turn (room : Room) (i : ℕ) (o : Obligation) (waiting : List Obligation) (x : Step) (xs : List Step) (a : Answer) : Type 0 where
  on : {new : List Obligation} → Rule o x new → room (length waiting) new ≡ true → a ≡ walk room (suc i) (new ++ waiting) xs →
      Turn room i o waiting x xs a
  over : {new : List Obligation} → Rule o x new → room (length waiting) new ≡ false → a ≡ answer 10 (suc i) →
      Turn room i o waiting x xs a
  stop : {k : ℕ} → Refuses o x k → a ≡ answer k (suc i) → Turn room i o waiting x xs a

module _ (room : Room) (i : ℕ) (o : Obligation) (waiting : List Obligation) (x : Step) (xs : List Step) where
  pub walk_on : (new : List Obligation) → Rule o x new → room (length waiting) new ≡ true →
      walk room i (o ∷ waiting) (x ∷ xs) ≡ walk room (suc i) (new ++ waiting) xs
  unfolding walk after limited
  walk_on new r e = rw ((rule_step o x new).0 r, e)

  pub walk_over : (new : List Obligation) → Rule o x new → room (length waiting) new ≡ false →
      walk room i (o ∷ waiting) (x ∷ xs) ≡ answer 10 (suc i)
  unfolding walk after limited
  walk_over new r e = rw ((rule_step o x new).0 r, e)

  pub walk_stop : (k : ℕ) → Refuses o x k → walk room i (o ∷ waiting) (x ∷ xs) ≡ answer k (suc i)
  unfolding walk after
  walk_stop k r = rw ((refuses_step o x k).0 r)

  pub turn : Turn room i o waiting x xs (walk room i (o ∷ waiting) (x ∷ xs))
  turn = go (told o x)
    where
      within : {new : List Obligation} → Rule o x new → (t : Bool) → room (length waiting) new ≡ t →
          Turn room i o waiting x xs (walk room i (o ∷ waiting) (x ∷ xs))
      within {new} r true e = on r e (walk_on new r e)
      within {new} r false e = over r e (walk_over new r e)

      go : {m : Onward} → Told o x m → Turn room i o waiting x xs (walk room i (o ∷ waiting) (x ∷ xs))
      go (ruled {os} r) = within r (room (length waiting) os) refl
      go (barred {k} r) = stop r (walk_stop k r)

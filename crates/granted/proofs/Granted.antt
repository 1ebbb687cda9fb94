-- The walk grants exactly what has a derivation, for every room:
--     granted : walk room 0 (o ∷ []) xs ≡ answer 0 0 ↔ Derivation room o xs
-- From left to right by induction over the steps, for all stacks of obligations; from right to left over the derivation.
use Rattle.std.specs.Prelude.{ℕ, suc, ◌+◌, ◌≡◌, ◌↔◌}
use Rattle.std.proofs.Math.Path.{refl}
use Rattle.std.proofs.Common.{sym, ◌∙◌, length-append}
use mathlib.Core.List.{List, [], ◌∷◌, ◌++◌}
use Rattle.std.proofs.Math.ListN.{length}
use native.Mathlib.Omega.{arith}
use Rattle.scope.specs.Call.Answer.{answer}
use Rattle.scope.specs.Logic.Derivation.{Derives, DerivesAll, step, none, first, Derivation}
use Rattle.scope.specs.Logic.Obligation.{Obligation, Step}
use Rattle.scope.specs.Logic.Walk.{walk}
use Rattle.granted.specs.Reasons.{Room}
use Rattle.granted.proofs.Walks.{Turn, on, over, stop, turn, walk_on}

-- Derivations of obligations and of those waiting behind them come apart where the first ones end.
part : (room : Room) (n : ℕ) (new waiting : List Obligation) (xs rest : List Step) →
    DerivesAll room n (new ++ waiting) xs rest →
    (mid : List Step) × DerivesAll room (length waiting + n) new xs mid × DerivesAll room n waiting mid rest
part room n [] waiting xs rest d = (xs, none, d)
part room n (o ∷ new) waiting xs rest (first {mid} d e) =
    let (end, front, back) = part room n new waiting mid rest e in
    let same : length (new ++ waiting) + n ≡ length new + (length waiting + n) = omega (arith, length-append new waiting) in
    (end, first (rw same at d) front, back)

pub never_granted : (k i : ℕ) → answer k (suc i) ≡ answer 0 0 → ⊥
never_granted k i e = let z : suc i ≡ 0 = cc in omega arith

module _ (room : Room) where
  derives : (i : ℕ) (os : List Obligation) (xs : List Step) → walk room i os xs ≡ answer 0 0 → DerivesAll room 0 os xs []
  unfolding walk
  derives i [] [] e = none
  derives i (o ∷ waiting) [] e = absurd (never_granted 12 i e)
  derives i [] (x ∷ xs) e = absurd (never_granted 11 i e)
  derives i (o ∷ waiting) (x ∷ xs) e = go (turn room i o waiting x xs) (λ new h. derives (suc i) (new ++ waiting) xs h)
    where
      go : Turn room i o waiting x xs (walk room i (o ∷ waiting) (x ∷ xs)) →
          ((new : List Obligation) → walk room (suc i) (new ++ waiting) xs ≡ answer 0 0 → DerivesAll room 0 (new ++ waiting) xs []) →
          DerivesAll room 0 (o ∷ waiting) (x ∷ xs) []
      go (on {new} r t q) later =
          let (mid, front, back) = part room 0 new waiting xs [] (later new (sym q ∙ e)) in
          let same : length waiting ≡ length waiting + 0 = omega arith in
          first (step r (rw same at t) front) back
      go (over r t q) later = absurd (never_granted 10 i (sym q ∙ e))
      go (stop {k} r q) later = absurd (never_granted k i (sym q ∙ e))

  mutual
    -- The steps of a derivation, and then those that grant what waits behind it, grant all.
    wins : {n : ℕ} {o : Obligation} {xs rest : List Step} → Derives room n o xs rest → (waiting : List Obligation) →
        n ≡ length waiting → ((i : ℕ) → walk room i waiting rest ≡ answer 0 0) → (i : ℕ) →
        walk room i (o ∷ waiting) xs ≡ answer 0 0
    wins {o} (step {x} {os} {xs} r t d) waiting l w i =
        walk_on room i o waiting x xs os r (rw l at t) ∙ wins_all d waiting l w (suc i)

    wins_all : {n : ℕ} {os : List Obligation} {xs rest : List Step} → DerivesAll room n os xs rest → (waiting : List Obligation) →
        n ≡ length waiting → ((i : ℕ) → walk room i waiting rest ≡ answer 0 0) → (i : ℕ) →
        walk room i (os ++ waiting) xs ≡ answer 0 0
    wins_all none waiting l w i = w i
    wins_all (first {os} d e) waiting l w i =
        wins d (os ++ waiting) (omega (arith, length-append os waiting)) (λ j. wins_all e waiting l w j) i

  pub granted : (o : Obligation) (xs : List Step) → walk room 0 (o ∷ []) xs ≡ answer 0 0 ↔ Derivation room o xs
  unfolding walk
  granted o xs = (λ e. only (derives 0 (o ∷ []) xs e), λ d. wins d [] refl (λ i. refl) 0)
    where
      only : DerivesAll room 0 (o ∷ []) xs [] → Derives room 0 o xs []
      only (first d none) = d

-- The relation that a walk keeps: obligations that differ only in clauses that no step uses.
--     within_blind : the limits count clauses and see nothing else of them
use Rattle.std.specs.Prelude.{ℕ, zero, suc, ◌≡◌, Bool, List, [], ◌∷◌, ◌++◌, map, length}
use Rattle.std.proofs.Math.Path.{refl}
use Rattle.std.proofs.Common.{ap, length-append, arith}
use Rattle.std.proofs.Math.ListN.{get_elem?}
use Rattle.scope.specs.Logic.Obligation.{Lab, Sequent, Phase, goal, Obligation, ob}
use Rattle.scope.specs.Logic.Room.{open_count, small, within}

-- Clauses in the same number, and the same clause at each number that is used.
pub record Shared (used : ℕ → Type 0) (cs ds : List Lab) : Type 0 where
  pub count : length cs ≡ length ds
  pub at : (i : ℕ) → used i → get_elem? cs i ≡ get_elem? ds i

abbrev pub with_clauses : Sequent → List Lab → Sequent
with_clauses s ds = record { sheet = s.sheet; facts = s.facts; clauses = ds }

-- Obligations one by one in the same phase, with the same worlds and facts.
pub data Twins (used : ℕ → Type 0) : List Obligation → List Obligation → Type 0 where
  none : Twins used [] []
  twin : {s : Sequent} {ds : List Lab} {p : Phase} {os os' : List Obligation} → Shared used s.clauses ds → Twins used os os' →
      Twins used (ob s p ∷ os) (ob (with_clauses s ds) p ∷ os')

-- Limits that do not tell twins apart.
abbrev pub Blind : (ℕ → Type 0) → (ℕ → List Obligation → Bool) → Type 0
Blind used room = (n : ℕ) (os os' : List Obligation) → Twins used os os' → room n os ≡ room n os'

-- A pushed clause takes the same number on both sides.
place_more : (cs ds more : List Lab) (i : ℕ) → length cs ≡ length ds → get_elem? cs i ≡ get_elem? ds i →
    get_elem? (cs ++ more) i ≡ get_elem? (ds ++ more) i
place_more [] [] more i n e = refl
place_more [] (d ∷ ds) more i n e = absurd (omega arith)
place_more (c ∷ cs) [] more i n e = absurd (omega arith)
place_more (c ∷ cs) (d ∷ ds) more zero n e = e
place_more (c ∷ cs) (d ∷ ds) more (suc i) n e = place_more cs ds more i (omega arith) e

module _ {used : ℕ → Type 0} where
  pub shared_more : (cs ds more : List Lab) → Shared used cs ds → Shared used (cs ++ more) (ds ++ more)
  shared_more cs ds more a =
      record {
        count = rw (length-append cs more, length-append ds more, a.count);
        at = λ i u. place_more cs ds more i a.count (a.at i u);
      }

  pub twins_append : {os os' next next' : List Obligation} → Twins used os os' → Twins used next next' →
      Twins used (os ++ next) (os' ++ next')
  twins_append none t = t
  twins_append (twin a r) t = twin a (twins_append r t)

  -- The subgoals met, each in the sequent of its obligation.
  pub twins_met : (s : Sequent) (ds : List Lab) → Shared used s.clauses ds → (met : List Lab) →
      Twins used (map (λ (g : Lab). ob s (goal g)) met) (map (λ (g : Lab). ob (with_clauses s ds) (goal g)) met)
  twins_met s ds a [] = none
  twins_met s ds a (g ∷ met) = twin a (twins_met s ds a met)

  pub twins_count : {os os' : List Obligation} → Twins used os os' → length os ≡ length os'
  twins_count none = refl
  twins_count (twin a r) = ap suc (twins_count r)

  open_same : {os os' : List Obligation} → Twins used os os' → open_count os ≡ open_count os'
  unfolding open_count
  open_same none = refl
  open_same (twin a r) = rw (open_same r)

  small_same : {os os' : List Obligation} → Twins used os os' → small os ≡ small os'
  unfolding small
  small_same none = refl
  small_same (twin a r) = rw (a.count, small_same r)

  pub within_blind : Blind used within
  unfolding within
  within_blind n os os' t = rw (small_same t, open_same t)

-- Document 01's third demand: what has a derivation by the eighteen rules, whatever the limits, is entailed in every model of its logic
-- (`sound`). So where a model refutes, no steps are a derivation (`refuted`).
use Rattle.std.specs.Prelude.{ℕ, ◌<◌, refl, Bool}
use mathlib.Core.List.{List, [], ◌∷◌, map}
use native.Mathlib.Omega.{arith}
use Rattle.scope.specs.Tools.Tests.{never}
use Rattle.scope.specs.Logic.Form as F
use Rattle.scope.specs.Logic.Form.{Form}
use Rattle.scope.specs.Logic.Facts.{Fact, Logic, plain}
use Rattle.scope.specs.Logic.Obligation.{Lab, lab, Obligation, Step, fact_of, root_facts, start}
use Rattle.scope.specs.Logic.Derivation.{Derivation}
use Rattle.scope.specs.Logic.Models.{Model, ModelOf, Sat, SatAll, Entailed}
use Rattle.sound.specs.Over.{Over, All}
use Rattle.sound.specs.Meaning.{HoldsAt, AtWorlds, Meets}
use Rattle.sound.proofs.Steps.{derives_sound}

-- At a world x where the policy holds, the root stands for x, and so does every number.
module _ (k n : ℕ) (m : Model) (x : ℕ) where
  fact_holds : (f : Form) (fs : List Fact) → Over k n f → Sat m x f → All (HoldsAt k n m 1 (λ u. x)) fs →
      All (HoldsAt k n m 1 (λ u. x)) (fact_of f fs)
  unfolding Over Sat
  fact_holds (F.atom p) fs o h r = r
  fact_holds F.top fs o h r = r
  fact_holds F.bot fs o h r = r
  fact_holds (F.and f g) fs o h r = r
  fact_holds (F.or f g) fs o h r = r
  fact_holds (F.imp f g) fs o h r = r
  fact_holds (F.says a f) fs o h r = r
  fact_holds (F.sf a b) fs o h r = ((o.0, o.1, omega arith, h), r)

  facts_root : (policy : List Form) → All (Over k n) policy → SatAll m x policy → All (HoldsAt k n m 1 (λ u. x)) (root_facts policy)
  unfolding SatAll root_facts
  facts_root [] o h = tt
  facts_root (f ∷ fs) o h = fact_holds f (root_facts fs) o.0 h.0 (facts_root fs o.1 h.1)

  clauses_root : (policy : List Form) → All (Over k n) policy → SatAll m x policy →
      All (λ (l : Lab). AtWorlds k n m 1 l × Meets k n m (λ u. x) l) (map (λ (f : Form). lab f 0) policy)
  unfolding SatAll
  clauses_root [] o h = tt
  clauses_root (f ∷ fs) o h = (((omega arith, o.0), h.0), clauses_root fs o.1 h.1)

module _ (room : ℕ → List Obligation → Bool) (l : Logic) (k n : ℕ) (policy : List Form) (goal : Form) (xs : List Step) where
  pub sound : All (Over k n) policy → Over k n goal → Derivation room (start l k policy goal) xs → Entailed l k n policy goal
  unfolding Entailed start
  sound o g d m of x i h =
      derives_sound k n m of.frame d (λ u. x)
      (record {
        counted = refl;
        within = of.within;
        inside = λ u. i;
        facts = facts_root k n m x policy o h;
        clauses = clauses_root k n m x policy o h;
      })
      (omega arith, g)

  pub refuted : All (Over k n) policy → Over k n goal → (m : Model) → ModelOf l k n m → (x : ℕ) → x < m.worlds → SatAll m x policy →
      (Sat m x goal → ⊥) → Derivation room (start l k policy goal) xs → ⊥
  unfolding Entailed
  refuted o g m of x i h r d = r (sound o g d m of x i h)

-- What plain entails unit does, whose models are among those of plain.
pub entailed_unit : (l : Logic) (k n : ℕ) (policy : List Form) (goal : Form) → Entailed plain k n policy goal → Entailed l k n policy goal
unfolding Entailed
entailed_unit l k n policy goal e m of = e m (record { frame = of.frame; within = λ p. never cc })

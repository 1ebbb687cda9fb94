-- What facts, sequents and obligations mean in a model of a logic: ρ takes each world of a sequent to a world of the model, and
-- respects the sequent if its facts and clauses hold there; an obligation is valid if its goal is met wherever its sequent is respected.
use Rattle.std.specs.Prelude.{ℕ, suc, ◌<◌, ◌≡◌, refl, Bool, true, false, List, [], ◌∷◌, map, eqb}
use Rattle.std.proofs.Common.{arith, eq-eqb, ne_eqb}
use Rattle.scope.specs.Logic.Form as F
use Rattle.scope.specs.Logic.Form.{Form}
use Rattle.scope.specs.Logic.Facts.{Fact, le, by, sf, unit}
use Rattle.scope.specs.Logic.Obligation.{Lab, lab, Sequent, with_world, with_fact, with_clause, Phase, goal, chunks, focus, behind, Obligation, ob}
use Rattle.scope.specs.Logic.Models.{Model, Within, Sat}
use Rattle.sound.specs.Over.{Over, All, all_turn, all_append}

-- ρ with the world v in the place w
unfoldable pub put : (ℕ → ℕ) → ℕ → ℕ → ℕ → ℕ
put ρ w v x = elim (eqb x w) [ true ↦ v | false ↦ ρ x ]

pub put_same : (ρ : ℕ → ℕ) (w v : ℕ) → put ρ w v w ≡ v
unfolding put
put_same ρ w v = rw (eq-eqb w w refl, put)

pub put_other : (ρ : ℕ → ℕ) (w v x : ℕ) → x < w → put ρ w v x ≡ ρ x
unfolding put
put_other ρ w v x h = rw (ne_eqb x w (λ e. omega arith), put)

put_inside : (n : ℕ) (ρ : ℕ → ℕ) (w v : ℕ) → ((x : ℕ) → ρ x < n) → v < n → (x : ℕ) → put ρ w v x < n
unfolding put
put_inside n ρ w v i h x = elim (eqb x w) as (λ (t : Bool). elim t [ true ↦ v | false ↦ ρ x ] < n) [ true ↦ h | false ↦ i x ]

-- A derived u S_A v is read as: some world that S_A reaches from ρ u stands below ρ v. Definition 1 does not ask that S_A itself reach
-- up to ρ v, and what holds there by `says` does not need it (`mono`).
pub record SeesBelow (m : Model) (a x y : ℕ) : Type 0 where
  pub mid : ℕ
  pub inside : mid < m.worlds
  pub step : m.acc a x mid ≡ true
  pub below : m.le mid y ≡ true

pub again : {m : Model} {a b x y z : ℕ} (c : SeesBelow m a x y) → m.acc b z c.mid ≡ true → SeesBelow m b z y
again c e = record { mid = c.mid; inside = c.inside; step = e; below = c.below }

module _ (k n : ℕ) (m : Model) where
  -- A fact of a sequent with w worlds, whose worlds ρ takes to worlds of the model. Its bounds are part of its meaning.
  abbrev pub HoldsAt : ℕ → (ℕ → ℕ) → Fact → Type 0
  HoldsAt w ρ (le u v) = (u < w) × (v < w) × (m.le (ρ u) (ρ v) ≡ true)
  HoldsAt w ρ (by a u v) = (a < k) × (u < w) × (v < w) × SeesBelow m a (ρ u) (ρ v)
  HoldsAt w ρ (sf u a b) = (a < k) × (b < k) × (u < w) × (m.speaks a b (ρ u) ≡ true)

  -- A labelled formula is in its bounds, and holds at its world.
  abbrev pub AtWorlds : ℕ → Lab → Type 0
  AtWorlds w l = (l.at < w) × Over k n l.form

  abbrev pub Meets : (ℕ → ℕ) → Lab → Type 0
  Meets ρ l = Sat m (ρ l.at) l.form

  -- ρ respects a sequent: its facts and its clauses hold, and with unit the model meets the condition.
  pub record Respects (s : Sequent) (ρ : ℕ → ℕ) : Type 0 where
    pub counted : s.sheet.principals ≡ k
    pub within : s.sheet.logic ≡ unit → Within k m
    pub inside : (x : ℕ) → ρ x < m.worlds
    pub facts : All (HoldsAt s.sheet.worlds ρ) s.facts
    pub clauses : All (λ (l : Lab). AtWorlds s.sheet.worlds l × Meets ρ l) s.clauses

  -- A goal is met. With chunks: where they hold, the goal is met. In focus: the subgoals are met, and where the clause holds, so does
  -- the atom aimed at.
  abbrev pub ValidIn : Sequent → Phase → Type 0
  ValidIn s (goal g) = (ρ : ℕ → ℕ) → Respects s ρ → AtWorlds s.sheet.worlds g → Meets ρ g
  ValidIn s (chunks c cs g) =
      (ρ : ℕ → ℕ) → Respects s ρ → AtWorlds s.sheet.worlds g →
      All (λ (f : Form). Over k n f × Sat m (ρ g.at) f) (c ∷ cs) → Meets ρ g
  ValidIn s (focus d p w met) =
      (ρ : ℕ → ℕ) → Respects s ρ → AtWorlds s.sheet.worlds d → AtWorlds s.sheet.worlds (lab (F.atom p) w) → All (AtWorlds s.sheet.worlds) met →
      All (Meets ρ) met × (Meets ρ d → Meets ρ (lab (F.atom p) w))

  abbrev pub Valid : Obligation → Type 0
  Valid o = ValidIn o.sequent o.phase

  -- What is so for every model, whatever its frame: the sequent grows, and ρ with it.

  -- A new world of the sequent at the world v of the model changes nothing at the older ones.
  older_fact : (w : ℕ) (ρ : ℕ → ℕ) (v : ℕ) (f : Fact) → HoldsAt w ρ f → HoldsAt (suc w) (put ρ w v) f
  older_fact w ρ v (le x y) h =
      (omega arith, omega arith, rw (put_other ρ w v x h.0, put_other ρ w v y h.1) h.2)
  older_fact w ρ v (by a x y) h =
      (h.0, omega arith, omega arith, rw (put_other ρ w v x h.1, put_other ρ w v y h.2) h.3)
  older_fact w ρ v (sf x a b) h = (h.0, h.1, omega arith, rw (put_other ρ w v x h.2) h.3)

  older_clause : (w : ℕ) (ρ : ℕ → ℕ) (v : ℕ) (l : Lab) → AtWorlds w l × Meets ρ l → AtWorlds (suc w) l × Meets (put ρ w v) l
  older_clause w ρ v l h =
      let i : l.at < w = h.0.0 in
      ((omega arith, h.0.1), rw (put_other ρ w v l.at i) h.1)

  pub with_world_lem : (s : Sequent) (ρ : ℕ → ℕ) (v : ℕ) (f : Fact) → Respects s ρ → v < m.worlds →
      HoldsAt (suc s.sheet.worlds) (put ρ s.sheet.worlds v) f → Respects (with_world s f) (put ρ s.sheet.worlds v)
  with_world_lem s ρ v f r i h =
      record {
        counted = r.counted;
        within = r.within;
        inside = put_inside m.worlds ρ s.sheet.worlds v r.inside i;
        facts =
            (h, all_turn (HoldsAt s.sheet.worlds ρ) (HoldsAt (suc s.sheet.worlds) (put ρ s.sheet.worlds v)) (older_fact s.sheet.worlds ρ v) s.facts r.facts);
        clauses =
            all_turn (λ l. AtWorlds s.sheet.worlds l × Meets ρ l) (λ l. AtWorlds (suc s.sheet.worlds) l × Meets (put ρ s.sheet.worlds v) l)
            (older_clause s.sheet.worlds ρ v)
            s.clauses
            r.clauses;
      }

  pub with_fact_lem : (s : Sequent) (ρ : ℕ → ℕ) (f : Fact) → Respects s ρ → HoldsAt s.sheet.worlds ρ f → Respects (with_fact s f) ρ
  with_fact_lem s ρ f r h = record { counted = r.counted; within = r.within; inside = r.inside; facts = (h, r.facts); clauses = r.clauses }

  pub with_clause_lem : (s : Sequent) (ρ : ℕ → ℕ) (l : Lab) → Respects s ρ → AtWorlds s.sheet.worlds l → Meets ρ l → Respects (with_clause s l) ρ
  with_clause_lem s ρ l r i h =
      record {
        counted = r.counted;
        within = r.within;
        inside = r.inside;
        facts = r.facts;
        clauses = all_append (λ l. AtWorlds s.sheet.worlds l × Meets ρ l) s.clauses (l ∷ []) r.clauses ((i, h), tt);
      }

  -- The goal behind chunks that hold.
  pub meets_behind : (s : Sequent) (cs : List Form) (g : Lab) → ValidIn s (behind cs g) → (ρ : ℕ → ℕ) → Respects s ρ → AtWorlds s.sheet.worlds g →
      All (λ (f : Form). Over k n f × Sat m (ρ g.at) f) cs → Meets ρ g
  meets_behind s [] g v ρ r i h = v ρ r i
  meets_behind s (c ∷ cs) g v ρ r i h = v ρ r i h

  pub meets_met : (s : Sequent) (met : List Lab) → All Valid (map (λ (g : Lab). ob s (goal g)) met) → (ρ : ℕ → ℕ) → Respects s ρ →
      All (AtWorlds s.sheet.worlds) met → All (Meets ρ) met
  meets_met s [] v ρ r i = tt
  meets_met s (g ∷ met) v ρ r i = (v.0 ρ r i.0, meets_met s met v.1 ρ r i.1)

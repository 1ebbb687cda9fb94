-- Document 01's section 'The eighteen steps', as inference rules, and what a derivation is.
use Rattle.std.specs.Prelude.{ℕ, ◌+◌, ◌<◌, ◌≡◌, Bool, true, false, List, [], ◌∷◌, map, length}
use Rattle.std.proofs.Math.Option.{some}
use Rattle.std.proofs.Math.ListN.{get_elem?}
use Rattle.scope.specs.Logic.Form as F
use Rattle.scope.specs.Logic.Form.{Form, is_sf, is_pushed}
use Rattle.scope.specs.Logic.Facts as Fact
use Rattle.scope.specs.Logic.Facts.{Closed, Basis}
use Rattle.scope.specs.Logic.Obligation.{Lab, lab, Sequent, with_world, with_fact, with_clause, goal, chunks, focus, behind, Obligation, ob}
use Rattle.scope.specs.Logic.Obligation.{Step, And, Or1, Or2, Imp, Says, Top, Sf, Use, Left, Right, To, Hit, Push, Split, Case, Absurd, Drop, Note}

-- A fact is among the closed facts of a sequent.
abbrev pub Has : Sequent → Fact.Fact → Type 0
Has s f = Closed s.sheet (Basis s.sheet s.facts) f

-- Rule o x os: the step x fits the obligation o, and the obligations os, first one first, take its place.
pub data Rule : Obligation → Step → List Obligation → Type 0 where
  -- Goal at u, no chunks, no focus.
  -- `and`: both parts, first one first. `or1`, `or2`: that part.
  by_and : {s : Sequent} {f g : Form} {u : ℕ} →
      Rule (ob s (goal (lab (F.and f g) u))) And (ob s (goal (lab f u)) ∷ ob s (goal (lab g u)) ∷ [])
  by_or1 : {s : Sequent} {f g : Form} {u : ℕ} →
      Rule (ob s (goal (lab (F.or f g) u))) Or1 (ob s (goal (lab f u)) ∷ [])
  by_or2 : {s : Sequent} {f g : Form} {u : ℕ} →
      Rule (ob s (goal (lab (F.or f g) u))) Or2 (ob s (goal (lab g u)) ∷ [])
  -- `imp`: new world v, u ≤ v; left part is a chunk at v; goal is the right part at v.
  by_imp : {s : Sequent} {f g : Form} {u : ℕ} →
      Rule (ob s (goal (lab (F.imp f g) u))) Imp
      (ob (with_world s (Fact.le u s.sheet.worlds)) (chunks f [] (lab g s.sheet.worlds)) ∷ [])
  -- `says`: new world v, u S_A v; goal at v.
  by_says : {s : Sequent} {a : ℕ} {f : Form} {u : ℕ} →
      Rule (ob s (goal (lab (F.says a f) u))) Says
      (ob (with_world s (Fact.by a u s.sheet.worlds)) (goal (lab f s.sheet.worlds)) ∷ [])
  -- `top` closes. `sf` closes where the closed facts have it. `bot` has no step.
  by_top : {s : Sequent} {u : ℕ} → Rule (ob s (goal (lab F.top u))) Top []
  by_sf : {s : Sequent} {a b u : ℕ} → Has s (Fact.sf u a b) → Rule (ob s (goal (lab (F.sf a b) u))) Sf []
  -- `use C`, atom goal: focus on clause C.
  by_use : {s : Sequent} {p w c : ℕ} {l : Lab} → get_elem? s.clauses c ≡ some l → is_sf l.form ≡ false →
      Rule (ob s (goal (lab (F.atom p) w))) (Use c) (ob s (focus l p w []) ∷ [])
  -- In focus on a clause at u, aiming at atom p at w.
  -- `left`, `right`: that part of an `and`.
  by_left : {s : Sequent} {f g : Form} {u p w : ℕ} {met : List Lab} →
      Rule (ob s (focus (lab (F.and f g) u) p w met)) Left (ob s (focus (lab f u) p w met) ∷ [])
  by_right : {s : Sequent} {f g : Form} {u p w : ℕ} {met : List Lab} →
      Rule (ob s (focus (lab (F.and f g) u) p w met)) Right (ob s (focus (lab g u) p w met) ∷ [])
  -- `to V` on `imp`: needs u ≤ V; the left part at V is a subgoal, focus goes to the right part at V.
  by_to_imp : {s : Sequent} {f g : Form} {u v p w : ℕ} {met : List Lab} → v < s.sheet.worlds → Has s (Fact.le u v) →
      Rule (ob s (focus (lab (F.imp f g) u) p w met)) (To v) (ob s (focus (lab g v) p w (lab f v ∷ met)) ∷ [])
  -- On `says`: needs u S_A V; focus on the body at V.
  by_to_says : {s : Sequent} {a : ℕ} {f : Form} {u v p w : ℕ} {met : List Lab} → v < s.sheet.worlds → Has s (Fact.by a u v) →
      Rule (ob s (focus (lab (F.says a f) u) p w met)) (To v) (ob s (focus (lab f v) p w met) ∷ [])
  -- `hit` on an atom: the same atom, and u ≤ w. Subgoals met are then proved, last met first, in the sequent that stood at `use`
  -- (which no step in focus changes).
  by_hit : {s : Sequent} {u p w : ℕ} {met : List Lab} → Has s (Fact.le u w) →
      Rule (ob s (focus (lab (F.atom p) u) p w met)) Hit (map (λ (g : Lab). ob s (goal g)) met)
  -- Chunks, the latest on top.
  -- `push` an atom, `imp` or `says`
  by_push : {s : Sequent} {f : Form} {cs : List Form} {g : Lab} → is_pushed f ≡ true →
      Rule (ob s (chunks f cs g)) Push (ob (with_clause s (lab f g.at)) (behind cs g) ∷ [])
  -- `split` an `and`, first part on top
  by_split : {s : Sequent} {f h : Form} {cs : List Form} {g : Lab} →
      Rule (ob s (chunks (F.and f h) cs g)) Split (ob s (chunks f (h ∷ cs) g) ∷ [])
  -- `case` an `or`, two branches, first part first, the rest of the chunks in both
  by_case : {s : Sequent} {f h : Form} {cs : List Form} {g : Lab} →
      Rule (ob s (chunks (F.or f h) cs g)) Case (ob s (chunks f cs g) ∷ ob s (chunks h cs g) ∷ [])
  -- `absurd` closes at `bot`; `drop` a `top`; `note` an `sf` as a fact
  by_absurd : {s : Sequent} {cs : List Form} {g : Lab} → Rule (ob s (chunks F.bot cs g)) Absurd []
  by_drop : {s : Sequent} {cs : List Form} {g : Lab} → Rule (ob s (chunks F.top cs g)) Drop (ob s (behind cs g) ∷ [])
  by_note : {s : Sequent} {a b : ℕ} {cs : List Form} {g : Lab} →
      Rule (ob s (chunks (F.sf a b) cs g)) Note (ob (with_fact s (Fact.sf g.at a b)) (behind cs g) ∷ [])

-- Steps come parent before child, first child first. `Derives room n o xs rest`: the steps xs begin with a derivation of o, and the steps
-- rest are left. room n os tells whether obligations os, with n more waiting behind them, keep the limits.
mutual
  pub data Derives (room : ℕ → List Obligation → Bool) : ℕ → Obligation → List Step → List Step → Type 0 where
    step : {n : ℕ} {o : Obligation} {x : Step} {os : List Obligation} {xs rest : List Step} →
        Rule o x os → room n os ≡ true → DerivesAll room n os xs rest → Derives room n o (x ∷ xs) rest

  pub data DerivesAll (room : ℕ → List Obligation → Bool) : ℕ → List Obligation → List Step → List Step → Type 0 where
    none : {n : ℕ} {xs : List Step} → DerivesAll room n [] xs xs
    first : {n : ℕ} {o : Obligation} {os : List Obligation} {xs mid rest : List Step} →
        Derives room (length os + n) o xs mid → DerivesAll room n os mid rest → DerivesAll room n (o ∷ os) xs rest

-- The steps are a derivation of the obligation, with nothing left over.
abbrev pub Derivation : (ℕ → List Obligation → Bool) → Obligation → List Step → Type 0
Derivation room o xs = Derives room 0 o xs []

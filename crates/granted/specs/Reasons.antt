-- Document 01's table 'What comes back' for the answers about steps, 7 to 12, as relations: no answer is computed here.
-- 'then steps in order, 11 first, else 7, 8, 9, 10; then 12'.
use Rattle.std.specs.Prelude.{ℕ, suc, ◌≤◌, ◌≡◌, Bool, true, false, List, [], ◌∷◌, ◌++◌, length}
use Rattle.std.proofs.Math.Option.{some, none}
use Rattle.std.proofs.Math.ListN.{get_elem?}
use Rattle.scope.specs.Logic.Form as F
use Rattle.scope.specs.Logic.Form.{Form, is_sf}
use Rattle.scope.specs.Logic.Facts as Fact
use Rattle.scope.specs.Call.Answer.{Answer, answer}
use Rattle.scope.specs.Logic.Derivation.{Has, Rule, Derivation}
use Rattle.scope.specs.Logic.Obligation.{Lab, lab, Sequent, Phase, goal, chunks, focus, Obligation, ob}
use Rattle.scope.specs.Logic.Obligation.{Step, And, Or1, Or2, Imp, Says, Top, Sf, Use, Left, Right, To, Hit, Push, Split, Case, Absurd, Drop}
use Rattle.scope.specs.Logic.Obligation.{Note}

-- The step fits the obligation: its phase, and the kind of the formula that is worked on.
pub data Fits : Obligation → Step → Type 0 where
  -- Goal at u, no chunks, no focus. No step fits `bot`.
  fits_and : {s : Sequent} {f g : Form} {u : ℕ} → Fits (ob s (goal (lab (F.and f g) u))) And
  fits_or1 : {s : Sequent} {f g : Form} {u : ℕ} → Fits (ob s (goal (lab (F.or f g) u))) Or1
  fits_or2 : {s : Sequent} {f g : Form} {u : ℕ} → Fits (ob s (goal (lab (F.or f g) u))) Or2
  fits_imp : {s : Sequent} {f g : Form} {u : ℕ} → Fits (ob s (goal (lab (F.imp f g) u))) Imp
  fits_says : {s : Sequent} {a : ℕ} {f : Form} {u : ℕ} → Fits (ob s (goal (lab (F.says a f) u))) Says
  fits_top : {s : Sequent} {u : ℕ} → Fits (ob s (goal (lab F.top u))) Top
  fits_sf : {s : Sequent} {a b u : ℕ} → Fits (ob s (goal (lab (F.sf a b) u))) Sf
  fits_use : {s : Sequent} {p w c : ℕ} → Fits (ob s (goal (lab (F.atom p) w))) (Use c)
  -- In focus on a clause at u, aiming at atom p at w. No step fits a `top`.
  fits_left : {s : Sequent} {f g : Form} {u p w : ℕ} {met : List Lab} → Fits (ob s (focus (lab (F.and f g) u) p w met)) Left
  fits_right : {s : Sequent} {f g : Form} {u p w : ℕ} {met : List Lab} → Fits (ob s (focus (lab (F.and f g) u) p w met)) Right
  fits_to_imp : {s : Sequent} {f g : Form} {u v p w : ℕ} {met : List Lab} →
      Fits (ob s (focus (lab (F.imp f g) u) p w met)) (To v)
  fits_to_says : {s : Sequent} {a : ℕ} {f : Form} {u v p w : ℕ} {met : List Lab} →
      Fits (ob s (focus (lab (F.says a f) u) p w met)) (To v)
  fits_hit : {s : Sequent} {q u p w : ℕ} {met : List Lab} → Fits (ob s (focus (lab (F.atom q) u) p w met)) Hit
  -- Chunks, the latest on top.
  fits_push_atom : {s : Sequent} {p : ℕ} {cs : List Form} {g : Lab} → Fits (ob s (chunks (F.atom p) cs g)) Push
  fits_push_imp : {s : Sequent} {f h : Form} {cs : List Form} {g : Lab} → Fits (ob s (chunks (F.imp f h) cs g)) Push
  fits_push_says : {s : Sequent} {a : ℕ} {f : Form} {cs : List Form} {g : Lab} → Fits (ob s (chunks (F.says a f) cs g)) Push
  fits_split : {s : Sequent} {f h : Form} {cs : List Form} {g : Lab} → Fits (ob s (chunks (F.and f h) cs g)) Split
  fits_case : {s : Sequent} {f h : Form} {cs : List Form} {g : Lab} → Fits (ob s (chunks (F.or f h) cs g)) Case
  fits_absurd : {s : Sequent} {cs : List Form} {g : Lab} → Fits (ob s (chunks F.bot cs g)) Absurd
  fits_drop : {s : Sequent} {cs : List Form} {g : Lab} → Fits (ob s (chunks F.top cs g)) Drop
  fits_note : {s : Sequent} {a b : ℕ} {cs : List Form} {g : Lab} → Fits (ob s (chunks (F.sf a b) cs g)) Note

-- No such world; or the number is no clause: none stands there, or an `sf` line does.
pub data Unnamed : Obligation → Step → Type 0 where
  no_world : {s : Sequent} {p : Phase} {v : ℕ} → s.sheet.worlds ≤ v → Unnamed (ob s p) (To v)
  no_clause_lem : {s : Sequent} {p : Phase} {c : ℕ} → get_elem? s.clauses c ≡ none → Unnamed (ob s p) (Use c)
  sf_line : {s : Sequent} {p : Phase} {c : ℕ} {l : Lab} → get_elem? s.clauses c ≡ some l → is_sf l.form ≡ true →
      Unnamed (ob s p) (Use c)

-- Needed fact absent, or another atom. `hit` asks for u ≤ w and the same atom.
pub data Unbacked : Obligation → Step → Type 0 where
  no_sf : {s : Sequent} {a b u : ℕ} → ¬ Has s (Fact.sf u a b) → Unbacked (ob s (goal (lab (F.sf a b) u))) Sf
  no_le_to : {s : Sequent} {f g : Form} {u v p w : ℕ} {met : List Lab} → ¬ Has s (Fact.le u v) →
      Unbacked (ob s (focus (lab (F.imp f g) u) p w met)) (To v)
  no_by_to : {s : Sequent} {a : ℕ} {f : Form} {u v p w : ℕ} {met : List Lab} → ¬ Has s (Fact.by a u v) →
      Unbacked (ob s (focus (lab (F.says a f) u) p w met)) (To v)
  no_le_hit : {s : Sequent} {q u p w : ℕ} {met : List Lab} → ¬ Has s (Fact.le u w) →
      Unbacked (ob s (focus (lab (F.atom q) u) p w met)) Hit
  other_atom : {s : Sequent} {q u p w : ℕ} {met : List Lab} → ¬ (q ≡ p) →
      Unbacked (ob s (focus (lab (F.atom q) u) p w met)) Hit

-- The world or the clause is there, or the step carries no number.
abbrev pub Named : Obligation → Step → Type 0
Named o x = ¬ Unnamed o x

-- The fact and the atom that the step asks for are there, or it asks for none.
abbrev pub Backed : Obligation → Step → Type 0
Backed o x = ¬ Unbacked o x

-- The refusals of a step by its obligation alone: 7, else 8, else 9.
pub data Refuses : Obligation → Step → ℕ → Type 0 where
  -- 7: step does not fit the obligation
  misfits : {o : Obligation} {x : Step} → ¬ Fits o x → Refuses o x 7
  -- 8: no such world; or the number is no clause
  unnamed : {o : Obligation} {x : Step} → Fits o x → Unnamed o x → Refuses o x 8
  -- 9: needed fact absent, or another atom
  unbacked : {o : Obligation} {x : Step} → Fits o x → Named o x → Unbacked o x → Refuses o x 9

-- A room tells whether obligations, with a number of others waiting behind them, keep the limits.
abbrev pub Room : Type 0
Room = ℕ → List Obligation → Bool

-- Reaches room n os xs os' left: the first n steps of xs lead from the open obligations os, the current one first, to os',
-- each by its rule and within the room, and the steps left are still to come.
pub data Reaches (room : Room) : ℕ → List Obligation → List Step → List Obligation → List Step → Type 0 where
  here : {os : List Obligation} {xs : List Step} → Reaches room 0 os xs os xs
  onward : {n : ℕ} {o : Obligation} {x : Step} {new waiting os' : List Obligation} {xs left : List Step} →
      Rule o x new → room (length waiting) new ≡ true → Reaches room n (new ++ waiting) xs os' left →
      Reaches room (suc n) (o ∷ waiting) (x ∷ xs) os' left

-- Breaks room os xs k place: from the open obligations os the steps xs go well for a while, and then k is met at the place.
-- Steps count from 1.
pub data Breaks (room : Room) : List Obligation → List Step → ℕ → ℕ → Type 0 where
  -- 11: step after everything is closed
  too_long : {n : ℕ} {os : List Obligation} {x : Step} {xs left : List Step} → Reaches room n os xs [] (x ∷ left) →
      Breaks room os xs 11 (suc n)
  -- 7, 8, 9
  refused : {n k : ℕ} {o : Obligation} {os waiting : List Obligation} {x : Step} {xs left : List Step} →
      Reaches room n os xs (o ∷ waiting) (x ∷ left) → Refuses o x k → Breaks room os xs k (suc n)
  -- 10: step fits but would pass one of the last four limits
  too_much : {n : ℕ} {o : Obligation} {os waiting new : List Obligation} {x : Step} {xs left : List Step} →
      Reaches room n os xs (o ∷ waiting) (x ∷ left) → Rule o x new → room (length waiting) new ≡ false →
      Breaks room os xs 10 (suc n)
  -- 12: steps end with something open
  too_short : {n : ℕ} {o : Obligation} {os waiting : List Obligation} {xs : List Step} → Reaches room n os xs (o ∷ waiting) [] →
      Breaks room os xs 12 (suc n)

-- The answers that are allowed for the steps xs on the obligation o: granted, with place 0, or the first break.
pub data Settled (room : Room) (o : Obligation) (xs : List Step) : Answer → Type 0 where
  grants : Derivation room o xs → Settled room o xs (answer 0 0)
  breaks : {k place : ℕ} → Breaks room (o ∷ []) xs k place → Settled room o xs (answer k place)

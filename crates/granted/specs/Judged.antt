-- A step that fits its obligation goes by its rule, or is refused with 8 or with 9, as the table says:
--     fitted : Fits o x → Answered o x (step_on x o.sequent o.phase)
use Rattle.std.specs.Prelude.{ℕ, ◌≤◌, ◌<◌, ◌≡◌, refl, Bool, true, false, List, map, eqb, ltb}
use Rattle.std.proofs.Math.Option.{Option, some, none}
use Rattle.std.proofs.Math.ListN.{get_elem?}
use Rattle.std.proofs.Common.{arith, ltb-true, ltb-false, eqb-true}
use Rattle.std.proofs.lemmas.Bool.{eqb-false}
use Rattle.scope.specs.Logic.Form as F
use Rattle.scope.specs.Logic.Form.{is_sf, negate}
use Rattle.scope.specs.Logic.Facts.{Fact, le, by, sf}
use Rattle.scope.proofs.Closing.Agree.{agree_sound, decide_fact}
use Rattle.scope.specs.Logic.Derivation.{Has, Rule, by_and, by_or1, by_or2, by_imp, by_says, by_top, by_sf, by_use, by_left, by_right, by_to_imp}
use Rattle.scope.specs.Logic.Derivation.{by_to_says, by_hit, by_push, by_split, by_case, by_absurd, by_drop, by_note}
use Rattle.scope.specs.Logic.Obligation.{Lab, lab, Sequent, Phase, goal, focus, Obligation, ob}
use Rattle.scope.specs.Logic.Obligation.{Step, Sf, To, Hit}
use Rattle.scope.specs.Logic.Walk.{Onward, onto, refuse, need, has, on_clause, step_on}
use Rattle.granted.specs.Reasons.{Fits, fits_and, fits_or1, fits_or2, fits_imp, fits_says, fits_top, fits_sf, fits_use, fits_left}
use Rattle.granted.specs.Reasons.{fits_right, fits_to_imp, fits_to_says, fits_hit, fits_push_atom, fits_push_imp, fits_push_says}
use Rattle.granted.specs.Reasons.{fits_split, fits_case, fits_absurd, fits_drop, fits_note}
use Rattle.granted.specs.Reasons.{Unnamed, no_world, no_clause_lem, sf_line, Unbacked, no_sf, no_le_to, no_by_to, no_le_hit, other_atom}

-- A step that fits goes by its rule, or is refused with 8 or 9.
pub data Answered (o : Obligation) (x : Step) : Onward → Type 0 where
  goes : {os : List Obligation} → Rule o x os → Answered o x (onto os)
  eight : Unnamed o x → Answered o x (refuse 8)
  nine : ¬ Unnamed o x → Unbacked o x → Answered o x (refuse 9)

-- Only `use` and `to` carry a number.
sf_named : {o : Obligation} → Unnamed o Sf → ⊥
sf_named n = elim n [ ]

hit_named : {o : Obligation} → Unnamed o Hit → ⊥
hit_named n = elim n [ ]

to_named : {s : Sequent} {p : Phase} {v : ℕ} → v < s.sheet.worlds → Unnamed (ob s p) (To v) → ⊥
to_named h (no_world i) = omega arith

-- The tests that a step makes, each by its two outcomes.
needs : (P : Onward → Type 0) (k : ℕ) (t : Bool) (m : Onward) → (t ≡ true → P m) → (t ≡ false → P (refuse k)) → P (need k t m)
unfolding need
needs P k true m yea nay = yea refl
needs P k false m yea nay = nay refl

worlds : (P : Onward → Type 0) (s : Sequent) (v : ℕ) (m : Onward) → (v < s.sheet.worlds → P m) → (s.sheet.worlds ≤ v → P (refuse 8)) →
    P (need 8 (ltb v s.sheet.worlds) m)
worlds P s v m yea nay = needs P 8 (ltb v s.sheet.worlds) m (λ e. yea (ltb-true v s.sheet.worlds e)) (λ e. nay (ltb-false v s.sheet.worlds e))

clauses : (P : Onward → Type 0) (l : Option Lab) (m : Lab → Onward) →
    ((d : Lab) → l ≡ some d → is_sf d.form ≡ false → P (m d)) → (l ≡ none → P (refuse 8)) →
    ((d : Lab) → l ≡ some d → is_sf d.form ≡ true → P (refuse 8)) → P (on_clause l m)
unfolding on_clause need negate
clauses P none m fine gone line = gone refl
clauses P (some d) m fine gone line = go (is_sf d.form) refl
  where
    go : (t : Bool) → is_sf d.form ≡ t → P (need 8 (negate t) (m d))
    go true e = line d refl e
    go false e = fine d refl e

facts : (P : Onward → Type 0) (s : Sequent) (f : Fact) (m : Onward) → (Has s f → P m) → (¬ Has s f → P (refuse 9)) →
    P (need 9 (has s f) m)
unfolding has
facts P s f m yea nay =
    needs P 9 (has s f) m
    (λ e. yea (agree_sound s.sheet s.facts f e))
    (λ e. nay (decide_fact s.sheet s.facts f e))

same_atom : {s : Sequent} {q u p w : ℕ} {met : List Lab} → q ≡ p → Has s (le u w) →
    Rule (ob s (focus (lab (F.atom q) u) p w met)) Hit (map (λ (g : Lab). ob s (goal g)) met)
same_atom e h = rw e (by_hit h)

pub fitted : {o : Obligation} {x : Step} → Fits o x → Answered o x (step_on x o.sequent o.phase)
unfolding step_on
fitted fits_and = goes by_and
fitted fits_or1 = goes by_or1
fitted fits_or2 = goes by_or2
fitted fits_imp = goes by_imp
fitted fits_says = goes by_says
fitted fits_top = goes by_top
fitted (fits_sf {s} {a} {b} {u}) =
    facts (Answered _ _) s (sf u a b) _ (λ h. goes (by_sf h)) (λ h. nine sf_named (no_sf h))
fitted (fits_use {s} {p} {w} {c}) =
    clauses (Answered _ _) (get_elem? s.clauses c) _ (λ d e n. goes (by_use e n)) (λ e. eight (no_clause_lem e))
    (λ d e n. eight (sf_line e n))
fitted fits_left = goes by_left
fitted fits_right = goes by_right
fitted (fits_to_imp {s} {f} {g} {u} {v}) =
    worlds (Answered _ _) s v _
    (λ i. facts (Answered _ _) s (le u v) _ (λ h. goes (by_to_imp i h)) (λ h. nine (to_named i) (no_le_to h)))
    (λ i. eight (no_world i))
fitted (fits_to_says {s} {a} {f} {u} {v}) =
    worlds (Answered _ _) s v _
    (λ i. facts (Answered _ _) s (by a u v) _ (λ h. goes (by_to_says i h)) (λ h. nine (to_named i) (no_by_to h)))
    (λ i. eight (no_world i))
fitted (fits_hit {s} {q} {u} {p} {w}) =
    needs (Answered _ _) 9 (eqb q p) _
    (λ e. facts (Answered _ _) s (le u w) _ (λ h. goes (same_atom (eqb-true q p e) h)) (λ h. nine hit_named (no_le_hit h)))
    (λ e. nine hit_named (other_atom (eqb-false q p e)))
fitted fits_push_atom = goes (by_push refl)
fitted fits_push_imp = goes (by_push refl)
fitted fits_push_says = goes (by_push refl)
fitted fits_split = goes by_split
fitted fits_case = goes by_case
fitted fits_absurd = goes by_absurd
fitted fits_drop = goes by_drop
fitted fits_note = goes by_note

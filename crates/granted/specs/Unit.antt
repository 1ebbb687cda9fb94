-- Unit grants what plain grants: the same steps derive the same goal, within the same limits.
--     unit_grants : Derivation within (start plain k policy g) xs → Derivation within (start unit k policy g) xs
use Rattle.std.specs.Prelude.{ℕ, ◌+◌, ◌≤◌, ◌≡◌, refl, List, [], ◌∷◌, map, length}
use Rattle.std.proofs.Common.{ap, ◌∙◌, arith}
use Rattle.std.proofs.lemmas.List.{length-map}
use Rattle.scope.specs.Logic.Form.{Form}
use Rattle.scope.specs.Logic.Facts.{Fact, le, by, sf, plain, unit, Sheet, Named, Basis, basis}
use Rattle.scope.proofs.Closing.Laws.{larger}
use Rattle.scope.specs.Logic.Obligation.{Lab, Sequent, goal, Obligation, ob, Step, start}
use Rattle.scope.specs.Logic.Derivation.{Has, Rule, by_and, by_or1, by_or2, by_imp, by_says, by_top, by_sf, by_use, by_left, by_right, by_to_imp}
use Rattle.scope.specs.Logic.Derivation.{by_to_says, by_hit, by_push, by_split, by_case, by_absurd, by_drop, by_note}
use Rattle.scope.specs.Logic.Derivation.{Derives, DerivesAll, step, none, first, Derivation}
use Rattle.scope.specs.Logic.Room.{open_count, small, within}
use Rattle.granted.specs.Reasons.{Room}

-- The same sequent and obligation, judged in unit.
abbrev pub unit_sheet : Sheet → Sheet
unit_sheet s = record { worlds = s.worlds; principals = s.principals; logic = unit }

abbrev pub unit_sequent : Sequent → Sequent
unit_sequent s = record { sheet = unit_sheet s.sheet; facts = s.facts; clauses = s.clauses }

abbrev pub in_unit : Obligation → Obligation
in_unit o = ob (unit_sequent o.sequent) o.phase

-- Limits that do not ask for the logic.
abbrev pub Unasking : Room → Type 0
Unasking room = (n : ℕ) (os : List Obligation) → room n (map in_unit os) ≡ room n os

open_same : (os : List Obligation) → open_count (map in_unit os) ≡ open_count os
unfolding open_count
open_same [] = refl
open_same (o ∷ os) = rw (open_same os)

small_same : (os : List Obligation) → small (map in_unit os) ≡ small os
unfolding small
small_same [] = refl
small_same (o ∷ os) = rw (small_same os)

pub within_unasking : Unasking within
unfolding within
within_unasking n os = rw (small_same os, open_same os)

-- The closed facts of plain are among those of unit,
named_unit : (s : Sheet) (f : Fact) → Named s f → Named (unit_sheet s) f
named_unit s (le u v) n = n
named_unit s (by a u v) n = n
named_unit s (sf u a b) n = n

basis_unit : {s : Sheet} {fs : List Fact} (f : Fact) → Basis s fs f → Basis (unit_sheet s) fs f
basis_unit {s} f (basis i n) = basis i (named_unit s f n)

has_unit : (s : Sequent) {f : Fact} → Has s f → Has (unit_sequent s) f
has_unit s h =
    let w : s.sheet.worlds ≤ s.sheet.worlds = omega arith in
    let p : s.sheet.principals ≤ s.sheet.principals = omega arith in
    larger w p (λ e. refl) basis_unit h

met_unit : (s : Sequent) (met : List Lab) →
    map in_unit (map (λ (g : Lab). ob s (goal g)) met) ≡ map (λ (g : Lab). ob (unit_sequent s) (goal g)) met
met_unit s [] = refl
met_unit s (g ∷ met) = ap (λ os. ob (unit_sequent s) (goal g) ∷ os) (met_unit s met)

-- so each rule applies there too.
rule_unit : {o : Obligation} {x : Step} {os : List Obligation} → Rule o x os → Rule (in_unit o) x (map in_unit os)
rule_unit by_and = by_and
rule_unit by_or1 = by_or1
rule_unit by_or2 = by_or2
rule_unit by_imp = by_imp
rule_unit by_says = by_says
rule_unit by_top = by_top
rule_unit (by_sf {s} h) = by_sf (has_unit s h)
rule_unit (by_use e n) = by_use e n
rule_unit by_left = by_left
rule_unit by_right = by_right
rule_unit (by_to_imp {s} i h) = by_to_imp i (has_unit s h)
rule_unit (by_to_says {s} i h) = by_to_says i (has_unit s h)
rule_unit (by_hit {s} {met} h) = rw (met_unit s met) (by_hit (has_unit s h))
rule_unit (by_push e) = by_push e
rule_unit by_split = by_split
rule_unit by_case = by_case
rule_unit by_absurd = by_absurd
rule_unit by_drop = by_drop
rule_unit by_note = by_note

module _ (room : Room) (blind : Unasking room) where
  mutual
    derives_unit : {n : ℕ} {o : Obligation} {xs rest : List Step} → Derives room n o xs rest → Derives room n (in_unit o) xs rest
    derives_unit (step {n} {os = os} r e d) = step (rule_unit r) (blind n os ∙ e) (all_unit d)

    all_unit : {n : ℕ} {os : List Obligation} {xs rest : List Step} → DerivesAll room n os xs rest → DerivesAll room n (map in_unit os) xs rest
    all_unit none = none
    all_unit (first {n} {os = os} d ds) =
        let same : length os + n ≡ length (map in_unit os) + n = omega (arith, length-map os in_unit) in
        first (rw same at (derives_unit d)) (all_unit ds)

  pub unit_derives : (k : ℕ) (policy : List Form) (g : Form) (xs : List Step) →
      Derivation room (start plain k policy g) xs → Derivation room (start unit k policy g) xs
  unfolding start
  unit_derives k policy g xs d = derives_unit d

pub unit_grants : (k : ℕ) (policy : List Form) (g : Form) (xs : List Step) →
    Derivation within (start plain k policy g) xs → Derivation within (start unit k policy g) xs
unit_grants = unit_derives within within_unasking

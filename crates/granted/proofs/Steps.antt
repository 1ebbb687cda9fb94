-- One step on one obligation. The move that is computed is the rule's, and its refusals are those of document 01's table:
--     rule_step : Rule o x os ↔ step_on x o.sequent o.phase ≡ onto os
--     one_result : Rule o x os → Rule o x os' → os ≡ os'
--     refuses_step : Refuses o x k ↔ step_on x o.sequent o.phase ≡ refuse k
use Rattle.std.specs.Prelude.{ℕ, ◌≡◌, refl, Bool, true, false, List, ◌↔◌, eqb, ltb}
use Rattle.std.proofs.Common.{◌∙◌, subst, arith, lt-ltb, eq-eqb}
use Rattle.std.proofs.Math.Option.{Option, some}
use Rattle.std.proofs.Math.ListN.{get_elem?}
use Rattle.scope.specs.Tools.Tests.{never}
use Rattle.scope.specs.Logic.Form.{is_sf, is_pushed, negate}
use Rattle.scope.specs.Logic.Facts.{Fact, le, by, sf}
use Rattle.scope.proofs.Closing.Agree.{agree_full}
use Rattle.scope.specs.Logic.Derivation.{Has, Rule, by_and, by_or1, by_or2, by_imp, by_says, by_top, by_sf, by_use, by_left, by_right, by_to_imp}
use Rattle.scope.specs.Logic.Derivation.{by_to_says, by_hit, by_push, by_split, by_case, by_absurd, by_drop, by_note}
use Rattle.scope.specs.Logic.Obligation.{Lab, Sequent, Obligation, Step}
use Rattle.scope.specs.Logic.Walk.{Onward, onto, refuse, need, has, on_clause, step_on}
use Rattle.granted.specs.Reasons.{Fits, Unnamed, no_world, no_clause_lem, sf_line, Unbacked, no_sf, no_le_to, no_by_to, no_le_hit}
use Rattle.granted.specs.Reasons.{other_atom, Refuses, misfits, unnamed, unbacked}
use Rattle.granted.specs.Judged.{Answered, goes, eight, nine, fitted}
use Rattle.granted.specs.Fitting.{Fitting, fit, unfit, fits_or_seven}

-- A rule names what there is,
pub rule_named : {o : Obligation} {x : Step} {os : List Obligation} → Unnamed o x → Rule o x os → ⊥
rule_named (no_world h) (by_to_imp i j) = omega arith
rule_named (no_world h) (by_to_says i j) = omega arith
rule_named (no_clause_lem e) (by_use d n) = never cc
rule_named (sf_line {l} e m) (by_use {l = k} d n) =
    let same : l ≡ k = cc in never cc

-- and has its facts, at the same atom.
pub rule_backed : {o : Obligation} {x : Step} {os : List Obligation} → Unbacked o x → Rule o x os → ⊥
rule_backed (no_sf n) (by_sf h) = n h
rule_backed (no_le_to n) (by_to_imp i h) = n h
rule_backed (no_by_to n) (by_to_says i h) = n h
rule_backed (no_le_hit n) (by_hit h) = n h
rule_backed (other_atom n) (by_hit h) = n refl

need_met : (k : ℕ) (t : Bool) (m : Onward) → t ≡ true → need k t m ≡ m
unfolding need
need_met k t m e = rw e

clause_met : (o : Option Lab) (l : Lab) (m : Lab → Onward) → o ≡ some l → is_sf l.form ≡ false → on_clause o m ≡ m l
unfolding on_clause need negate
clause_met o l m e n = rw (e, n)

-- What the move comes to, as a relation.
pub data Told (o : Obligation) (x : Step) : Onward → Type 0 where
  ruled : {os : List Obligation} → Rule o x os → Told o x (onto os)
  barred : {k : ℕ} → Refuses o x k → Told o x (refuse k)

told_onto : {o : Obligation} {x : Step} {m : Onward} {os : List Obligation} → Told o x m → m ≡ onto os → Rule o x os
told_onto {o} {x} {os} (ruled {os = new} r) e =
    let same : new ≡ os = cc in
    subst (λ (l : List Obligation). Rule o x l) same r
told_onto (barred r) e = never cc

told_refuse : {o : Obligation} {x : Step} {m : Onward} {k : ℕ} → Told o x m → m ≡ refuse k → Refuses o x k
told_refuse (ruled r) e = never cc
told_refuse {o} {x} {k} (barred {k = j} r) e =
    let same : j ≡ k = cc in
    subst (λ (n : ℕ). Refuses o x n) same r

-- A step that fits is never refused with 7.
not_seven : {o : Obligation} {x : Step} {m : Onward} → Answered o x m → m ≡ refuse 7 → ⊥
not_seven (goes r) e = never cc
not_seven (eight u) e = let z : ◌≡◌ {A = ℕ} 8 7 = cc in omega arith
not_seven (nine n b) e = let z : ◌≡◌ {A = ℕ} 9 7 = cc in omega arith

told_fit : {o : Obligation} {x : Step} {m : Onward} → Fits o x → Answered o x m → Told o x m
told_fit f (goes r) = ruled r
told_fit f (eight u) = barred (unnamed f u)
told_fit f (nine n b) = barred (unbacked f n b)

fitting_onto : {o : Obligation} {x : Step} {m : Onward} {os : List Obligation} → Fitting o x m → m ≡ onto os → Fits o x
fitting_onto (fit f) e = f
fitting_onto unfit e = never cc

has_full : (s : Sequent) (f : Fact) → Has s f → has s f ≡ true
unfolding has
has_full s f h = agree_full s.sheet s.facts f h

rule_to : {o : Obligation} {x : Step} {os : List Obligation} → Rule o x os → step_on x o.sequent o.phase ≡ onto os
unfolding step_on
rule_to by_and = refl
rule_to by_or1 = refl
rule_to by_or2 = refl
rule_to by_imp = refl
rule_to by_says = refl
rule_to by_top = refl
rule_to (by_sf {s} {a} {b} {u} h) = need_met 9 (has s (sf u a b)) _ (has_full s (sf u a b) h)
rule_to (by_use {s} {p} {w} {c} {l} e n) = clause_met (get_elem? s.clauses c) l _ e n
rule_to by_left = refl
rule_to by_right = refl
rule_to (by_to_imp {s} {f} {g} {u} {v} i h) =
    need_met 8 (ltb v s.sheet.worlds) _ (lt-ltb v s.sheet.worlds i) ∙ need_met 9 (has s (le u v)) _ (has_full s (le u v) h)
rule_to (by_to_says {s} {a} {f} {u} {v} i h) =
    need_met 8 (ltb v s.sheet.worlds) _ (lt-ltb v s.sheet.worlds i) ∙ need_met 9 (has s (by a u v)) _ (has_full s (by a u v) h)
rule_to (by_hit {s} {u} {p} {w} h) =
    need_met 9 (eqb p p) _ (eq-eqb p p refl) ∙ need_met 9 (has s (le u w)) _ (has_full s (le u w) h)
rule_to (by_push {f} e) = need_met 7 (is_pushed f) _ e
rule_to by_split = refl
rule_to by_case = refl
rule_to by_absurd = refl
rule_to by_drop = refl
rule_to by_note = refl

pub rule_fits : {o : Obligation} {x : Step} {os : List Obligation} → Rule o x os → Fits o x
rule_fits {o} {x} r = fitting_onto (fits_or_seven x o.sequent o.phase) (rule_to r)

pub told : (o : Obligation) (x : Step) → Told o x (step_on x o.sequent o.phase)
told o x = go (step_on x o.sequent o.phase) refl (fits_or_seven x o.sequent o.phase)
  where
    go : (m : Onward) → step_on x o.sequent o.phase ≡ m → Fitting o x m → Told o x m
    go m e (fit f) = told_fit f (rw e at (fitted f))
    go m e unfit = barred (misfits (λ f. not_seven (fitted f) e))

-- Of one obligation and step, a refusal that the table allows is the one that the move comes to.
told_refuses : {o : Obligation} {x : Step} {m : Onward} {k : ℕ} → Refuses o x k → Told o x m → m ≡ refuse k
told_refuses (misfits n) (ruled r) = absurd (n (rule_fits r))
told_refuses (misfits n) (barred (misfits l)) = refl
told_refuses (misfits n) (barred (unnamed f u)) = absurd (n f)
told_refuses (misfits n) (barred (unbacked f l b)) = absurd (n f)
told_refuses (unnamed f u) (ruled r) = absurd (rule_named u r)
told_refuses (unnamed f u) (barred (misfits l)) = absurd (l f)
told_refuses (unnamed f u) (barred (unnamed g v)) = refl
told_refuses (unnamed f u) (barred (unbacked g l b)) = absurd (l u)
told_refuses (unbacked f n b) (ruled r) = absurd (rule_backed b r)
told_refuses (unbacked f n b) (barred (misfits l)) = absurd (l f)
told_refuses (unbacked f n b) (barred (unnamed g v)) = absurd (n v)
told_refuses (unbacked f n b) (barred (unbacked g l c)) = refl

pub rule_step : (o : Obligation) (x : Step) (os : List Obligation) → Rule o x os ↔ step_on x o.sequent o.phase ≡ onto os
rule_step o x os = (λ r. rule_to r, λ e. told_onto (told o x) e)

pub refuses_step : (o : Obligation) (x : Step) (k : ℕ) → Refuses o x k ↔ step_on x o.sequent o.phase ≡ refuse k
refuses_step o x k = (λ r. told_refuses r (told o x), λ e. told_refuse (told o x) e)

-- So a step's result is one.
pub one_result : {o : Obligation} {x : Step} {os os' : List Obligation} → Rule o x os → Rule o x os' → os ≡ os'
one_result r r' = let e = rule_to r in let e' = rule_to r' in cc

-- The answers about steps, computed: 'steps in order, 11 first, else 7, 8, 9, 10; then 12'.
use Rattle.std.specs.Prelude.{ℕ, suc, Bool, true, false, List, [], ◌∷◌, ◌++◌, map, length, eqb, ltb}
use Rattle.std.proofs.Math.Option.{Option, some, none}
use Rattle.std.proofs.Math.ListN.{get_elem?}
use Rattle.scope.specs.Logic.Form as F
use Rattle.scope.specs.Logic.Form.{Form, is_sf, is_pushed, negate}
use Rattle.scope.specs.Logic.Facts.{Fact, le, by, sf}
use Rattle.scope.specs.Logic.Held.{holds}
use Rattle.scope.specs.Call.Answer.{Answer, answer}
use Rattle.scope.specs.Logic.Obligation.{Lab, lab, Sequent, with_world, with_fact, with_clause, Phase, goal, chunks, focus, behind, Obligation, ob}
use Rattle.scope.specs.Logic.Obligation.{Step, And, Or1, Or2, Imp, Says, Top, Sf, Use, Left, Right, To, Hit, Push, Split, Case, Absurd, Drop, Note}

-- What a step does to an obligation: the obligations that take its place, first one first, or a refusal.
pub data Onward : Type 0 where
  onto : List Obligation → Onward
  refuse : ℕ → Onward

-- 7: step does not fit the obligation.
abbrev pub misfit : Onward
misfit = refuse 7

-- A test that must hold, or the step is refused: 8, no such world, or the number is no clause; 9, needed fact absent, or another atom.
unfoldable pub need : ℕ → Bool → Onward → Onward
need k true m = m
need k false m = refuse k

-- Each phase has its own steps.
unfoldable pub at_goal : Phase → (Form → ℕ → Onward) → Onward
at_goal (goal g) m = m g.form g.at
at_goal (chunks c cs g) m = misfit
at_goal (focus d p w met) m = misfit

unfoldable pub in_focus : Phase → (Form → ℕ → ℕ → ℕ → List Lab → Onward) → Onward
in_focus (goal g) m = misfit
in_focus (chunks c cs g) m = misfit
in_focus (focus d p w met) m = m d.form d.at p w met

unfoldable pub at_chunk : Phase → (Form → List Form → Lab → Onward) → Onward
at_chunk (goal g) m = misfit
at_chunk (chunks c cs g) m = m c cs g
at_chunk (focus d p w met) m = misfit

-- By the kind of a formula, in document 01's order: p, top, bot, and, or, imp, says, sf.
unfoldable pub by_kind : Form → (ℕ → Onward) → Onward → Onward → (Form → Form → Onward) → (Form → Form → Onward) →
    (Form → Form → Onward) → (ℕ → Form → Onward) → (ℕ → ℕ → Onward) → Onward
by_kind (F.atom p) at_p at_top at-bot at-and at-or at-imp at-says at_sf = at_p p
by_kind F.top at_p at_top at-bot at-and at-or at-imp at-says at_sf = at_top
by_kind F.bot at_p at_top at-bot at-and at-or at-imp at-says at_sf = at-bot
by_kind (F.and f g) at_p at_top at-bot at-and at-or at-imp at-says at_sf = at-and f g
by_kind (F.or f g) at_p at_top at-bot at-and at-or at-imp at-says at_sf = at-or f g
by_kind (F.imp f g) at_p at_top at-bot at-and at-or at-imp at-says at_sf = at-imp f g
by_kind (F.says a f) at_p at_top at-bot at-and at-or at-imp at-says at_sf = at-says a f
by_kind (F.sf a b) at_p at_top at-bot at-and at-or at-imp at-says at_sf = at_sf a b

-- A formula of one kind, or the step does not fit.
unfoldable pub on_atom : Form → (ℕ → Onward) → Onward
unfolding by_kind
on_atom f m = by_kind f m misfit misfit (λ f g. misfit) (λ f g. misfit) (λ f g. misfit) (λ a f. misfit) (λ a b. misfit)

unfoldable pub on_top : Form → Onward → Onward
unfolding by_kind
on_top f m = by_kind f (λ p. misfit) m misfit (λ f g. misfit) (λ f g. misfit) (λ f g. misfit) (λ a f. misfit) (λ a b. misfit)

unfoldable pub on_bot : Form → Onward → Onward
unfolding by_kind
on_bot f m = by_kind f (λ p. misfit) misfit m (λ f g. misfit) (λ f g. misfit) (λ f g. misfit) (λ a f. misfit) (λ a b. misfit)

unfoldable pub on_and : Form → (Form → Form → Onward) → Onward
unfolding by_kind
on_and f m = by_kind f (λ p. misfit) misfit misfit m (λ f g. misfit) (λ f g. misfit) (λ a f. misfit) (λ a b. misfit)

unfoldable pub on_or : Form → (Form → Form → Onward) → Onward
unfolding by_kind
on_or f m = by_kind f (λ p. misfit) misfit misfit (λ f g. misfit) m (λ f g. misfit) (λ a f. misfit) (λ a b. misfit)

unfoldable pub on_imp : Form → (Form → Form → Onward) → Onward
unfolding by_kind
on_imp f m = by_kind f (λ p. misfit) misfit misfit (λ f g. misfit) (λ f g. misfit) m (λ a f. misfit) (λ a b. misfit)

unfoldable pub on_says : Form → (ℕ → Form → Onward) → Onward
unfolding by_kind
on_says f m = by_kind f (λ p. misfit) misfit misfit (λ f g. misfit) (λ f g. misfit) (λ f g. misfit) m (λ a b. misfit)

unfoldable pub on_sf : Form → (ℕ → ℕ → Onward) → Onward
unfolding by_kind
on_sf f m = by_kind f (λ p. misfit) misfit misfit (λ f g. misfit) (λ f g. misfit) (λ f g. misfit) (λ a f. misfit) m

-- `to` goes on from an `imp` and from a `says`.
unfoldable pub on_imp_says : Form → (Form → Form → Onward) → (ℕ → Form → Onward) → Onward
unfolding by_kind
on_imp_says f m n = by_kind f (λ p. misfit) misfit misfit (λ f g. misfit) (λ f g. misfit) m n (λ a b. misfit)

unfoldable pub on_pushed : Form → Onward → Onward
unfolding need is_pushed
on_pushed f m = need 7 (is_pushed f) m

-- The clause of a number; an `sf` line is no clause to use.
unfoldable pub on_clause : Option Lab → (Lab → Onward) → Onward
unfolding need is_sf negate
on_clause none m = refuse 8
on_clause (some l) m = need 8 (negate (is_sf l.form)) (m l)

-- A fact among the closed facts of a sequent, computed.
unfoldable pub has : Sequent → Fact → Bool
unfolding holds
has s f = holds s.sheet s.facts f

abbrev pub alone : Sequent → Phase → Onward
alone s p = onto (ob s p ∷ [])

-- The eighteen steps, each within a phase.
unfoldable pub step_on : Step → Sequent → Phase → Onward
unfolding at_goal in_focus at_chunk on_atom on_top on_bot on_and on_or on_imp on_says on_sf on_imp_says on_pushed on_clause need has
step_on And s p = at_goal p λ f u. on_and f λ g h. onto (ob s (goal (lab g u)) ∷ ob s (goal (lab h u)) ∷ [])
step_on Or1 s p = at_goal p λ f u. on_or f λ g h. alone s (goal (lab g u))
step_on Or2 s p = at_goal p λ f u. on_or f λ g h. alone s (goal (lab h u))
step_on Imp s p = at_goal p λ f u. on_imp f λ g h. alone (with_world s (le u s.sheet.worlds)) (chunks g [] (lab h s.sheet.worlds))
step_on Says s p = at_goal p λ f u. on_says f λ a g. alone (with_world s (by a u s.sheet.worlds)) (goal (lab g s.sheet.worlds))
step_on Top s p = at_goal p λ f u. on_top f (onto [])
step_on Sf s p = at_goal p λ f u. on_sf f λ a b. need 9 (has s (sf u a b)) (onto [])
step_on (Use c) s p = at_goal p λ f w. on_atom f λ q. on_clause (get_elem? s.clauses c) λ l. alone s (focus l q w [])
step_on Left s p = in_focus p λ f u q w met. on_and f λ g h. alone s (focus (lab g u) q w met)
step_on Right s p = in_focus p λ f u q w met. on_and f λ g h. alone s (focus (lab h u) q w met)
step_on (To v) s p =
    in_focus p λ f u q w met.
    on_imp_says f
    (λ g h. need 8 (ltb v s.sheet.worlds) (need 9 (has s (le u v)) (alone s (focus (lab h v) q w (lab g v ∷ met)))))
    (λ a g. need 8 (ltb v s.sheet.worlds) (need 9 (has s (by a u v)) (alone s (focus (lab g v) q w met))))
step_on Hit s p =
    in_focus p λ f u q w met.
    on_atom f λ r. need 9 (eqb r q) (need 9 (has s (le u w)) (onto (map (λ (g : Lab). ob s (goal g)) met)))
step_on Push s p = at_chunk p λ f cs g. on_pushed f (alone (with_clause s (lab f g.at)) (behind cs g))
step_on Split s p = at_chunk p λ f cs g. on_and f λ h k. alone s (chunks h (k ∷ cs) g)
step_on Case s p = at_chunk p λ f cs g. on_or f λ h k. onto (ob s (chunks h cs g) ∷ ob s (chunks k cs g) ∷ [])
step_on Absurd s p = at_chunk p λ f cs g. on_bot f (onto [])
step_on Drop s p = at_chunk p λ f cs g. on_top f (alone s (behind cs g))
step_on Note s p = at_chunk p λ f cs g. on_sf f λ a b. alone (with_fact s (sf g.at a b)) (behind cs g)

-- 10: step fits but would pass a limit.
unfoldable pub limited : Bool → ℕ → Answer → Answer
limited true i go = go
limited false i go = answer 10 (suc i)

unfoldable pub after : (ℕ → List Obligation → Bool) → ℕ → List Obligation → Onward → (List Obligation → Answer) → Answer
unfolding limited
after room i waiting (refuse k) go = answer k (suc i)
after room i waiting (onto os) go = limited (room (length waiting) os) i (go (os ++ waiting))

-- The answer for the open obligations, the current one first, and the steps left, when i steps are done.
unfoldable pub walk : (ℕ → List Obligation → Bool) → ℕ → List Obligation → List Step → Answer
unfolding step_on after
walk room i [] [] = answer 0 0
walk room i [] (x ∷ xs) = answer 11 (suc i)
walk room i (o ∷ waiting) [] = answer 12 (suc i)
walk room i (o ∷ waiting) (x ∷ xs) =
    after room i waiting (step_on x o.sequent o.phase) λ next. walk room (suc i) next xs

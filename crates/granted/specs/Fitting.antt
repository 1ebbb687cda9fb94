-- A step fits its obligation, or the move that is computed is refusal 7:
--     fits_or_seven : (x : Step) (s : Sequent) (p : Phase) → Fitting (ob s p) x (step_on x s p)
-- Each handler of the walk (a phase, a kind of formula) has one lemma; the eighteen steps are then a line each.
use Rattle.std.specs.Prelude.{ℕ, List}
use Rattle.scope.specs.Logic.Form as F
use Rattle.scope.specs.Logic.Form.{Form}
use Rattle.scope.specs.Logic.Obligation.{Lab, lab, Sequent, Phase, goal, chunks, focus, Obligation, ob}
use Rattle.scope.specs.Logic.Obligation.{Step, And, Or1, Or2, Imp, Says, Top, Sf, Use, Left, Right, To, Hit, Push, Split, Case, Absurd, Drop}
use Rattle.scope.specs.Logic.Obligation.{Note}
use Rattle.scope.specs.Logic.Walk.{Onward, refuse, at_goal, in_focus, at_chunk, by_kind, on_atom, on_top, on_bot, on_and, on_or, on_imp, on_says, on_sf}
use Rattle.scope.specs.Logic.Walk.{on_imp_says, on_pushed, step_on}
use Rattle.granted.specs.Reasons.{Fits, fits_and, fits_or1, fits_or2, fits_imp, fits_says, fits_top, fits_sf, fits_use, fits_left}
use Rattle.granted.specs.Reasons.{fits_right, fits_to_imp, fits_to_says, fits_hit, fits_push_atom, fits_push_imp, fits_push_says}
use Rattle.granted.specs.Reasons.{fits_split, fits_case, fits_absurd, fits_drop, fits_note}

pub data Fitting (o : Obligation) (x : Step) : Onward → Type 0 where
  fit : {m : Onward} → Fits o x → Fitting o x m
  unfit : Fitting o x (refuse 7)

-- Each phase has its own steps: in the other two a step does not fit.

at_goal_lem : (x : Step) (s : Sequent) (m : Form → ℕ → Onward) →
    ((f : Form) (u : ℕ) → Fitting (ob s (goal (lab f u))) x (m f u)) → (p : Phase) → Fitting (ob s p) x (at_goal p m)
unfolding at_goal
at_goal_lem x s m h (goal g) = h g.form g.at
at_goal_lem x s m h (chunks c cs g) = unfit
at_goal_lem x s m h (focus d q w met) = unfit

in_focus_lem : (x : Step) (s : Sequent) (m : Form → ℕ → ℕ → ℕ → List Lab → Onward) →
    ((f : Form) (u q w : ℕ) (met : List Lab) → Fitting (ob s (focus (lab f u) q w met)) x (m f u q w met)) → (p : Phase) →
    Fitting (ob s p) x (in_focus p m)
unfolding in_focus
in_focus_lem x s m h (goal g) = unfit
in_focus_lem x s m h (chunks c cs g) = unfit
in_focus_lem x s m h (focus d q w met) = h d.form d.at q w met

at_chunk_lem : (x : Step) (s : Sequent) (m : Form → List Form → Lab → Onward) →
    ((f : Form) (cs : List Form) (g : Lab) → Fitting (ob s (chunks f cs g)) x (m f cs g)) → (p : Phase) →
    Fitting (ob s p) x (at_chunk p m)
unfolding at_chunk
at_chunk_lem x s m h (goal g) = unfit
at_chunk_lem x s m h (chunks c cs g) = h c cs g
at_chunk_lem x s m h (focus d q w met) = unfit

-- Each kind of formula: `at f` is the obligation that has the formula f in the place that the step works on.
module _ (x : Step) (at : Form → Obligation) where
  by_kind_lem : {mp : ℕ → Onward} {mt mb : Onward} {ma mo mi : Form → Form → Onward} {ms : ℕ → Form → Onward} {mf : ℕ → ℕ → Onward} →
      ((p : ℕ) → Fitting (at (F.atom p)) x (mp p)) → Fitting (at F.top) x mt → Fitting (at F.bot) x mb →
      ((f g : Form) → Fitting (at (F.and f g)) x (ma f g)) → ((f g : Form) → Fitting (at (F.or f g)) x (mo f g)) →
      ((f g : Form) → Fitting (at (F.imp f g)) x (mi f g)) → ((a : ℕ) (f : Form) → Fitting (at (F.says a f)) x (ms a f)) →
      ((a b : ℕ) → Fitting (at (F.sf a b)) x (mf a b)) → (f : Form) → Fitting (at f) x (by_kind f mp mt mb ma mo mi ms mf)
  unfolding by_kind
  by_kind_lem hp ht hb ha ho hi hs hf (F.atom p) = hp p
  by_kind_lem hp ht hb ha ho hi hs hf F.top = ht
  by_kind_lem hp ht hb ha ho hi hs hf F.bot = hb
  by_kind_lem hp ht hb ha ho hi hs hf (F.and f g) = ha f g
  by_kind_lem hp ht hb ha ho hi hs hf (F.or f g) = ho f g
  by_kind_lem hp ht hb ha ho hi hs hf (F.imp f g) = hi f g
  by_kind_lem hp ht hb ha ho hi hs hf (F.says a f) = hs a f
  by_kind_lem hp ht hb ha ho hi hs hf (F.sf a b) = hf a b

  on_atom_lem : (m : ℕ → Onward) → ((p : ℕ) → Fits (at (F.atom p)) x) → (f : Form) → Fitting (at f) x (on_atom f m)
  unfolding on_atom
  on_atom_lem m h f = by_kind_lem (λ p. fit (h p)) unfit unfit (λ f g. unfit) (λ f g. unfit) (λ f g. unfit) (λ a f. unfit) (λ a b. unfit) f

  on_top_lem : (m : Onward) → Fits (at F.top) x → (f : Form) → Fitting (at f) x (on_top f m)
  unfolding on_top
  on_top_lem m h f = by_kind_lem (λ p. unfit) (fit h) unfit (λ f g. unfit) (λ f g. unfit) (λ f g. unfit) (λ a f. unfit) (λ a b. unfit) f

  on_bot_lem : (m : Onward) → Fits (at F.bot) x → (f : Form) → Fitting (at f) x (on_bot f m)
  unfolding on_bot
  on_bot_lem m h f = by_kind_lem (λ p. unfit) unfit (fit h) (λ f g. unfit) (λ f g. unfit) (λ f g. unfit) (λ a f. unfit) (λ a b. unfit) f

  on_and_lem : (m : Form → Form → Onward) → ((f g : Form) → Fits (at (F.and f g)) x) → (f : Form) → Fitting (at f) x (on_and f m)
  unfolding on_and
  on_and_lem m h f = by_kind_lem (λ p. unfit) unfit unfit (λ f g. fit (h f g)) (λ f g. unfit) (λ f g. unfit) (λ a f. unfit) (λ a b. unfit) f

  on_or_lem : (m : Form → Form → Onward) → ((f g : Form) → Fits (at (F.or f g)) x) → (f : Form) → Fitting (at f) x (on_or f m)
  unfolding on_or
  on_or_lem m h f = by_kind_lem (λ p. unfit) unfit unfit (λ f g. unfit) (λ f g. fit (h f g)) (λ f g. unfit) (λ a f. unfit) (λ a b. unfit) f

  on_imp_lem : (m : Form → Form → Onward) → ((f g : Form) → Fits (at (F.imp f g)) x) → (f : Form) → Fitting (at f) x (on_imp f m)
  unfolding on_imp
  on_imp_lem m h f = by_kind_lem (λ p. unfit) unfit unfit (λ f g. unfit) (λ f g. unfit) (λ f g. fit (h f g)) (λ a f. unfit) (λ a b. unfit) f

  on_says_lem : (m : ℕ → Form → Onward) → ((a : ℕ) (f : Form) → Fits (at (F.says a f)) x) → (f : Form) → Fitting (at f) x (on_says f m)
  unfolding on_says
  on_says_lem m h f = by_kind_lem (λ p. unfit) unfit unfit (λ f g. unfit) (λ f g. unfit) (λ f g. unfit) (λ a f. fit (h a f)) (λ a b. unfit) f

  on_sf_lem : (m : ℕ → ℕ → Onward) → ((a b : ℕ) → Fits (at (F.sf a b)) x) → (f : Form) → Fitting (at f) x (on_sf f m)
  unfolding on_sf
  on_sf_lem m h f = by_kind_lem (λ p. unfit) unfit unfit (λ f g. unfit) (λ f g. unfit) (λ f g. unfit) (λ a f. unfit) (λ a b. fit (h a b)) f

  on_imp_says_lem : (m : Form → Form → Onward) (n : ℕ → Form → Onward) → ((f g : Form) → Fits (at (F.imp f g)) x) →
      ((a : ℕ) (f : Form) → Fits (at (F.says a f)) x) → (f : Form) → Fitting (at f) x (on_imp_says f m n)
  unfolding on_imp_says
  on_imp_says_lem m n h i f =
      by_kind_lem (λ p. unfit) unfit unfit (λ f g. unfit) (λ f g. unfit) (λ f g. fit (h f g)) (λ a f. fit (i a f)) (λ a b. unfit) f

  on_pushed_lem : (m : Onward) → ((p : ℕ) → Fits (at (F.atom p)) x) → ((f g : Form) → Fits (at (F.imp f g)) x) →
      ((a : ℕ) (f : Form) → Fits (at (F.says a f)) x) → (f : Form) → Fitting (at f) x (on_pushed f m)
  unfolding on_pushed
  on_pushed_lem m h i j (F.atom p) = fit (h p)
  on_pushed_lem m h i j F.top = unfit
  on_pushed_lem m h i j F.bot = unfit
  on_pushed_lem m h i j (F.and f g) = unfit
  on_pushed_lem m h i j (F.or f g) = unfit
  on_pushed_lem m h i j (F.imp f g) = fit (i f g)
  on_pushed_lem m h i j (F.says a f) = fit (j a f)
  on_pushed_lem m h i j (F.sf a b) = unfit

-- The obligations that have a formula in the place that a step works on.

abbrev goal_at : Sequent → ℕ → Form → Obligation
goal_at s u f = ob s (goal (lab f u))

abbrev focus_at : Sequent → ℕ → ℕ → ℕ → List Lab → Form → Obligation
focus_at s u q w met f = ob s (focus (lab f u) q w met)

abbrev chunk_at : Sequent → List Form → Lab → Form → Obligation
chunk_at s cs g f = ob s (chunks f cs g)

pub fits_or_seven : (x : Step) (s : Sequent) (p : Phase) → Fitting (ob s p) x (step_on x s p)
unfolding step_on
fits_or_seven And s p = at_goal_lem And s _ (λ f u. on_and_lem And (goal_at s u) _ (λ g h. fits_and) f) p
fits_or_seven Or1 s p = at_goal_lem Or1 s _ (λ f u. on_or_lem Or1 (goal_at s u) _ (λ g h. fits_or1) f) p
fits_or_seven Or2 s p = at_goal_lem Or2 s _ (λ f u. on_or_lem Or2 (goal_at s u) _ (λ g h. fits_or2) f) p
fits_or_seven Imp s p = at_goal_lem Imp s _ (λ f u. on_imp_lem Imp (goal_at s u) _ (λ g h. fits_imp) f) p
fits_or_seven Says s p = at_goal_lem Says s _ (λ f u. on_says_lem Says (goal_at s u) _ (λ a g. fits_says) f) p
fits_or_seven Top s p = at_goal_lem Top s _ (λ f u. on_top_lem Top (goal_at s u) _ fits_top f) p
fits_or_seven Sf s p = at_goal_lem Sf s _ (λ f u. on_sf_lem Sf (goal_at s u) _ (λ a b. fits_sf) f) p
fits_or_seven (Use c) s p = at_goal_lem (Use c) s _ (λ f u. on_atom_lem (Use c) (goal_at s u) _ (λ q. fits_use) f) p
fits_or_seven Left s p = in_focus_lem Left s _ (λ f u q w met. on_and_lem Left (focus_at s u q w met) _ (λ g h. fits_left) f) p
fits_or_seven Right s p = in_focus_lem Right s _ (λ f u q w met. on_and_lem Right (focus_at s u q w met) _ (λ g h. fits_right) f) p
fits_or_seven (To v) s p =
    in_focus_lem (To v) s _
    (λ f u q w met. on_imp_says_lem (To v) (focus_at s u q w met) _ _ (λ g h. fits_to_imp) (λ a g. fits_to_says) f) p
fits_or_seven Hit s p = in_focus_lem Hit s _ (λ f u q w met. on_atom_lem Hit (focus_at s u q w met) _ (λ r. fits_hit) f) p
fits_or_seven Push s p =
    at_chunk_lem Push s _
    (λ f cs g. on_pushed_lem Push (chunk_at s cs g) _ (λ q. fits_push_atom) (λ h k. fits_push_imp) (λ a h. fits_push_says) f) p
fits_or_seven Split s p = at_chunk_lem Split s _ (λ f cs g. on_and_lem Split (chunk_at s cs g) _ (λ h k. fits_split) f) p
fits_or_seven Case s p = at_chunk_lem Case s _ (λ f cs g. on_or_lem Case (chunk_at s cs g) _ (λ h k. fits_case) f) p
fits_or_seven Absurd s p = at_chunk_lem Absurd s _ (λ f cs g. on_bot_lem Absurd (chunk_at s cs g) _ fits_absurd f) p
fits_or_seven Drop s p = at_chunk_lem Drop s _ (λ f cs g. on_top_lem Drop (chunk_at s cs g) _ fits_drop f) p
fits_or_seven Note s p = at_chunk_lem Note s _ (λ f cs g. on_sf_lem Note (chunk_at s cs g) _ (λ a b. fits_note) f) p

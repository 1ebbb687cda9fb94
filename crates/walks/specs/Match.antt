-- A step judged on numbers matches document 01's step on trees: the same refusal, or 10 where the obligations pass a limit, or a move after
-- which the record stands for them. `only_and` and its like: a step for one kind of formula is selected by the row's kind number.
use Rattle.std.specs.Prelude.{ℕ, ◌<◌, ◌≤◌, ◌≡◌, Bool, List, ◌++◌, eqb, ltb, length}
use Rattle.std.proofs.Math.Path.{refl}
use Rattle.std.proofs.Common.{sym, leb-true, leb-false, lt-ltb, le-ltb}
use Rattle.std.proofs.Math.Bool.{true, false}
use Rattle.std.proofs.Math.Dec.{leb}
use Rattle.scope.specs.Logic.Form.{Form, is_sf}
use Rattle.scope.specs.Logic.Facts.{Fact}
use Rattle.scope.specs.Logic.Held.{holds}
use Rattle.scope.proofs.Closing.Agree.{agree_sound, agree_full}
use Rattle.scope.specs.Logic.Obligation.{Lab, Obligation}
use Rattle.scope.specs.Logic.Room.{within}
use Rattle.scope.specs.Logic.Walk.{Onward, onto, refuse, need, has, on_atom, on_top, on_bot, on_and, on_or, on_imp, on_says, on_sf, on_imp_says, on_pushed}
use Rattle.scope.specs.Tools.Tests.{never}
use Rattle.facts.specs.Rows.{told}
use Rattle.facts.specs.Kept.{Kept, Aimed, basis_among}
use Rattle.std.specs.Prelude.{Result, Ok, Err}
use Rattle.common.specs.Refused.{number_of}
use Rattle.common.specs.declared.refused.Refusal.{Refusal}
use Rattle.common.specs.declared.refused.Refusal.TheVariants.{StepMisfit, NoSuchNumber, FactAbsent, LimitPassed}
use Rattle.moves.specs.declared.Move.{Move}
use Rattle.moves.specs.Steps.{pick, pushed_kind}
use Rattle.machine.specs.Machine.{State, moved}
use Rattle.walks.specs.Trees.{Means, by_means, Reading, unit_of}
use Rattle.walks.specs.Related.{Related, sheet_of, seq}

pub data Match (T : Reading) (s : State) (waiting : List Obligation) : Result Move Refusal → Onward → Type 0 where
  no_fit : {r : Refusal} → Match T s waiting (Err r) (refuse (number_of r))
  no_room : {os : List Obligation} → within (length waiting) os ≡ false → Match T s waiting (Err LimitPassed) (onto os)
  fits : {m : Move} {os : List Obligation} → within (length waiting) os ≡ true → Related T (moved (unit_of T) s m) (os ++ waiting) →
      Match T s waiting (Ok m) (onto os)

-- Two tests that are true alike.
alike : (a b : Bool) → (a ≡ true → b ≡ true) → (b ≡ true → a ≡ true) → a ≡ b
alike true b f g = sym (f refl)
alike false true f g = g refl
alike false false f g = refl

-- The rows tell what the computed facts of the sequent say.
pub told_has : (T : Reading) {n : ℕ} {fs : List Fact} {rows : List ℕ} (ls : List Lab) (f : Fact) → Kept (sheet_of T n) fs rows →
    Aimed (sheet_of T n) f → told rows f ≡ has (seq T n fs ls) f
unfolding has
told_has T {n} {fs} {rows} ls f kept aimed =
    alike (told rows f) (holds (sheet_of T n) fs f)
    (λ e. agree_full (sheet_of T n) fs f ((basis_among kept.made).0 (kept.right f aimed e)))
    (λ e. kept.whole f ((basis_among kept.made).1 (agree_sound (sheet_of T n) fs f e)))

module _ {T : Reading} {s : State} {waiting : List Obligation} where
  -- A step that does not fit, and one that names no clause and no world.
  pub misfit : Match T s waiting (Err StepMisfit) (refuse 7)
  unfolding number_of
  misfit = no_fit

  pub no_clause : Match T s waiting (Err NoSuchNumber) (refuse 8)
  unfolding number_of
  no_clause = no_fit

  -- The limit is tested last.
  pub if_room : (a b : ℕ) {j : Result Move Refusal} {mv : Onward} → (a ≤ b → Match T s waiting (Err LimitPassed) mv) → (b < a → Match T s waiting j mv) →
      Match T s waiting (pick (leb a b) (Err LimitPassed) j) mv
  unfolding pick
  if_room a b {j} {mv} full free = go (leb a b) refl
    where
      go : (t : Bool) → leb a b ≡ t → Match T s waiting (pick t (Err LimitPassed) j) mv
      go true e = full (leb-true a b e)
      go false e = free (leb-false a b e)

  pub if_need : (r : Refusal) (a b : Bool) {j : Result Move Refusal} {mv : Onward} → a ≡ b → Match T s waiting j mv →
      Match T s waiting (pick a j (Err r)) (need (number_of r) b mv)
  unfolding pick need
  if_need r true true e m = m
  if_need r true false e m = never cc
  if_need r false true e m = never cc
  if_need r false false e m = no_fit

  pub if_absent : (a b : Bool) {j : Result Move Refusal} {mv : Onward} → a ≡ b → Match T s waiting j mv →
      Match T s waiting (pick a j (Err FactAbsent)) (need 9 b mv)
  unfolding number_of
  if_absent = if_need FactAbsent

  pub if_below : (v n : ℕ) {j : Result Move Refusal} {mv : Onward} → (v < n → Match T s waiting j mv) →
      Match T s waiting (pick (leb n v) (Err NoSuchNumber) j) (need 8 (ltb v n) mv)
  unfolding pick need
  if_below v n {j} {mv} m = go (leb n v) refl
    where
      go : (t : Bool) → leb n v ≡ t → Match T s waiting (pick t (Err NoSuchNumber) j) (need 8 (ltb v n) mv)
      go true e = rw (le-ltb v n (leb-true n v e)) no_clause
      go false e = rw (lt-ltb v n (leb-false n v e)) (m (leb-false n v e))

  module _ {kind l r : ℕ} {t : Form} where
    -- The atom is the row's own number.
    pub only_atom : (j : ℕ → ℕ → Result Move Refusal) (mv : ℕ → Onward) → ((p r : ℕ) → p ≡ l → Match T s waiting (j p r) (mv p)) →
        Means T.principals T.formulas T.tree kind l r t → Match T s waiting (pick (eqb kind 0) (j l r) (Err StepMisfit)) (on_atom t mv)
    unfolding pick on_atom
    only_atom j mv m means =
        by_means (λ k i r t. i ≡ l → Match T s waiting (pick (eqb k 0) (j i r) (Err StepMisfit)) (on_atom t mv))
        m (λ l r e. misfit) (λ l r e. misfit) (λ f g p q e. misfit) (λ f g p q e. misfit) (λ f g p q e. misfit) (λ a g p q e. misfit)
        (λ a b p q e. misfit) means refl

    pub only_top : {j : Result Move Refusal} {mv : Onward} → Match T s waiting j mv →
        Means T.principals T.formulas T.tree kind l r t → Match T s waiting (pick (eqb kind 1) j (Err StepMisfit)) (on_top t mv)
    unfolding pick on_top
    only_top {j} {mv} m =
        by_means (λ k l r t. Match T s waiting (pick (eqb k 1) j (Err StepMisfit)) (on_top t mv))
        (λ p r. misfit) (λ l r. m) (λ l r. misfit) (λ f g p q. misfit) (λ f g p q. misfit) (λ f g p q. misfit) (λ a g p q. misfit)
        (λ a b p q. misfit)

    pub only_bot : {j : Result Move Refusal} {mv : Onward} → Match T s waiting j mv →
        Means T.principals T.formulas T.tree kind l r t → Match T s waiting (pick (eqb kind 2) j (Err StepMisfit)) (on_bot t mv)
    unfolding pick on_bot
    only_bot {j} {mv} m =
        by_means (λ k l r t. Match T s waiting (pick (eqb k 2) j (Err StepMisfit)) (on_bot t mv))
        (λ p r. misfit) (λ l r. misfit) (λ l r. m) (λ f g p q. misfit) (λ f g p q. misfit) (λ f g p q. misfit) (λ a g p q. misfit)
        (λ a b p q. misfit)

    pub only_and : (j : ℕ → ℕ → Result Move Refusal) (mv : Form → Form → Onward) →
        ((f g : ℕ) → f < T.formulas → g < T.formulas → Match T s waiting (j f g) (mv (T.tree f) (T.tree g))) →
        Means T.principals T.formulas T.tree kind l r t → Match T s waiting (pick (eqb kind 3) (j l r) (Err StepMisfit)) (on_and t mv)
    unfolding pick on_and
    only_and j mv m =
        by_means (λ k l r t. Match T s waiting (pick (eqb k 3) (j l r) (Err StepMisfit)) (on_and t mv))
        (λ p r. misfit) (λ l r. misfit) (λ l r. misfit) m (λ f g p q. misfit) (λ f g p q. misfit) (λ a g p q. misfit) (λ a b p q. misfit)

    pub only_or : (j : ℕ → ℕ → Result Move Refusal) (mv : Form → Form → Onward) →
        ((f g : ℕ) → f < T.formulas → g < T.formulas → Match T s waiting (j f g) (mv (T.tree f) (T.tree g))) →
        Means T.principals T.formulas T.tree kind l r t → Match T s waiting (pick (eqb kind 4) (j l r) (Err StepMisfit)) (on_or t mv)
    unfolding pick on_or
    only_or j mv m =
        by_means (λ k l r t. Match T s waiting (pick (eqb k 4) (j l r) (Err StepMisfit)) (on_or t mv))
        (λ p r. misfit) (λ l r. misfit) (λ l r. misfit) (λ f g p q. misfit) m (λ f g p q. misfit) (λ a g p q. misfit) (λ a b p q. misfit)

    pub only_imp : (j : ℕ → ℕ → Result Move Refusal) (mv : Form → Form → Onward) →
        ((f g : ℕ) → f < T.formulas → g < T.formulas → Match T s waiting (j f g) (mv (T.tree f) (T.tree g))) →
        Means T.principals T.formulas T.tree kind l r t → Match T s waiting (pick (eqb kind 5) (j l r) (Err StepMisfit)) (on_imp t mv)
    unfolding pick on_imp
    only_imp j mv m =
        by_means (λ k l r t. Match T s waiting (pick (eqb k 5) (j l r) (Err StepMisfit)) (on_imp t mv))
        (λ p r. misfit) (λ l r. misfit) (λ l r. misfit) (λ f g p q. misfit) (λ f g p q. misfit) m (λ a g p q. misfit) (λ a b p q. misfit)

    pub only_says : (j : ℕ → ℕ → Result Move Refusal) (mv : ℕ → Form → Onward) →
        ((a g : ℕ) → a < T.principals → g < T.formulas → Match T s waiting (j a g) (mv a (T.tree g))) →
        Means T.principals T.formulas T.tree kind l r t → Match T s waiting (pick (eqb kind 6) (j l r) (Err StepMisfit)) (on_says t mv)
    unfolding pick on_says
    only_says j mv m =
        by_means (λ k l r t. Match T s waiting (pick (eqb k 6) (j l r) (Err StepMisfit)) (on_says t mv))
        (λ p r. misfit) (λ l r. misfit) (λ l r. misfit) (λ f g p q. misfit) (λ f g p q. misfit) (λ f g p q. misfit) m (λ a b p q. misfit)

    pub only_sf : (j : ℕ → ℕ → Result Move Refusal) (mv : ℕ → ℕ → Onward) →
        ((a b : ℕ) → a < T.principals → b < T.principals → Match T s waiting (j a b) (mv a b)) →
        Means T.principals T.formulas T.tree kind l r t → Match T s waiting (pick (eqb kind 7) (j l r) (Err StepMisfit)) (on_sf t mv)
    unfolding pick on_sf
    only_sf j mv m =
        by_means (λ k l r t. Match T s waiting (pick (eqb k 7) (j l r) (Err StepMisfit)) (on_sf t mv))
        (λ p r. misfit) (λ l r. misfit) (λ l r. misfit) (λ f g p q. misfit) (λ f g p q. misfit) (λ f g p q. misfit) (λ a g p q. misfit) m

    -- `to` goes on from an `imp` and from a `says`.
    pub only_imp_says : (j i : ℕ → ℕ → Result Move Refusal) (mv : Form → Form → Onward) (nv : ℕ → Form → Onward) →
        ((f g : ℕ) → f < T.formulas → g < T.formulas → Match T s waiting (j f g) (mv (T.tree f) (T.tree g))) →
        ((a g : ℕ) → a < T.principals → g < T.formulas → Match T s waiting (i a g) (nv a (T.tree g))) →
        Means T.principals T.formulas T.tree kind l r t →
        Match T s waiting (pick (eqb kind 5) (j l r) (pick (eqb kind 6) (i l r) (Err StepMisfit))) (on_imp_says t mv nv)
    unfolding pick on_imp_says
    only_imp_says j i mv nv m n =
        by_means (λ k l r t. Match T s waiting (pick (eqb k 5) (j l r) (pick (eqb k 6) (i l r) (Err StepMisfit))) (on_imp_says t mv nv))
        (λ p r. misfit) (λ l r. misfit) (λ l r. misfit) (λ f g p q. misfit) (λ f g p q. misfit) m n (λ a b p q. misfit)

    pub only_pushed : {j : Result Move Refusal} {mv : Onward} → Match T s waiting j mv →
        Means T.principals T.formulas T.tree kind l r t → Match T s waiting (pick (pushed_kind kind) j (Err StepMisfit)) (on_pushed t mv)
    unfolding pick pushed_kind on_pushed
    only_pushed {j} {mv} m =
        by_means (λ k l r t. Match T s waiting (pick (pushed_kind k) j (Err StepMisfit)) (on_pushed t mv))
        (λ p r. m) (λ l r. misfit) (λ l r. misfit) (λ f g p q. misfit) (λ f g p q. misfit) (λ f g p q. m) (λ a g p q. m) (λ a b p q. misfit)

-- An `sf` line is told by its kind number.
pub sf_kind : {k F : ℕ} {tree : ℕ → Form} {kind l r : ℕ} {t : Form} → Means k F tree kind l r t → is_sf t ≡ eqb kind 7
unfolding is_sf
sf_kind =
    by_means (λ k l r t. is_sf t ≡ eqb k 7)
    (λ p r. refl) (λ l r. refl) (λ l r. refl) (λ f g p q. refl) (λ f g p q. refl) (λ f g p q. refl) (λ a g p q. refl) (λ a b p q. refl)

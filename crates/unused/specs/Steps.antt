-- One step on twins is refused alike, or leads to twins, if it is no `use` of a clause that they do not share:
--     step_alike : Moves used (step_on x s p) (step_on x (with_clauses s ds) p)
-- Each handler of the walk has one law; the eighteen steps are then a line each.
use Rattle.std.specs.Prelude.{ℕ, ◌≡◌, Bool, List, [], ◌∷◌, eqb, ltb}
use Rattle.std.proofs.Math.Bool.{true, false}
use Rattle.std.proofs.Math.Option.{Option, some, none}
use Rattle.std.proofs.Math.ListN.{get_elem?}
use Rattle.scope.specs.Logic.Form as F
use Rattle.scope.specs.Logic.Form.{Form, is_sf, is_pushed, negate}
use Rattle.scope.specs.Logic.Facts.{le, by, sf}
use Rattle.scope.specs.Logic.Obligation.{Lab, lab, Sequent, Phase, goal, chunks, focus, Obligation}
use Rattle.scope.specs.Logic.Obligation.{Step, And, Or1, Or2, Imp, Says, Top, Sf, Use, Left, Right, To, Hit, Push, Split, Case, Absurd, Drop, Note}
use Rattle.scope.specs.Logic.Walk.{Onward, onto, refuse, need, at_goal, in_focus, at_chunk, by_kind, on_atom, on_top, on_bot, on_and, on_or, on_imp, on_says, on_sf}
use Rattle.scope.specs.Logic.Walk.{on_imp_says, on_pushed, on_clause, has, step_on}
use Rattle.unused.specs.Alike.{Used, here}
use Rattle.unused.specs.Twins as T
use Rattle.unused.specs.Twins.{Shared, with_clauses, Twins, twin, shared_more, twins_met}

pub data Moves (used : ℕ → Type 0) : Onward → Onward → Type 0 where
  go : {os os' : List Obligation} → Twins used os os' → Moves used (onto os) (onto os')
  stop : {k : ℕ} → Moves used (refuse k) (refuse k)

module _ {used : ℕ → Type 0} where
  needs : {m n : Onward} (k : ℕ) (t : Bool) → Moves used m n → Moves used (need k t m) (need k t n)
  unfolding need
  needs k true h = h
  needs k false h = stop

  at_goal_lem : {m n : Form → ℕ → Onward} (p : Phase) → ((f : Form) (u : ℕ) → Moves used (m f u) (n f u)) →
      Moves used (at_goal p m) (at_goal p n)
  unfolding at_goal
  at_goal_lem (goal g) h = h g.form g.at
  at_goal_lem (chunks c cs g) h = stop
  at_goal_lem (focus d q w met) h = stop

  in_focus_lem : {m n : Form → ℕ → ℕ → ℕ → List Lab → Onward} (p : Phase) →
      ((f : Form) (u q w : ℕ) (met : List Lab) → Moves used (m f u q w met) (n f u q w met)) → Moves used (in_focus p m) (in_focus p n)
  unfolding in_focus
  in_focus_lem (goal g) h = stop
  in_focus_lem (chunks c cs g) h = stop
  in_focus_lem (focus d q w met) h = h d.form d.at q w met

  at_chunk_lem : {m n : Form → List Form → Lab → Onward} (p : Phase) →
      ((f : Form) (cs : List Form) (g : Lab) → Moves used (m f cs g) (n f cs g)) → Moves used (at_chunk p m) (at_chunk p n)
  unfolding at_chunk
  at_chunk_lem (goal g) h = stop
  at_chunk_lem (chunks c cs g) h = h c cs g
  at_chunk_lem (focus d q w met) h = stop

  by_kind_lem : {mp np : ℕ → Onward} {mt nt mb nb : Onward} {ma na mo no mi ni : Form → Form → Onward} {ms ns : ℕ → Form → Onward}
      {mf nf : ℕ → ℕ → Onward} → ((p : ℕ) → Moves used (mp p) (np p)) → Moves used mt nt → Moves used mb nb →
      ((f g : Form) → Moves used (ma f g) (na f g)) → ((f g : Form) → Moves used (mo f g) (no f g)) →
      ((f g : Form) → Moves used (mi f g) (ni f g)) → ((a : ℕ) (f : Form) → Moves used (ms a f) (ns a f)) →
      ((a b : ℕ) → Moves used (mf a b) (nf a b)) → (f : Form) →
      Moves used (by_kind f mp mt mb ma mo mi ms mf) (by_kind f np nt nb na no ni ns nf)
  unfolding by_kind
  by_kind_lem hp ht hb ha ho hi hs hf (F.atom p) = hp p
  by_kind_lem hp ht hb ha ho hi hs hf F.top = ht
  by_kind_lem hp ht hb ha ho hi hs hf F.bot = hb
  by_kind_lem hp ht hb ha ho hi hs hf (F.and f g) = ha f g
  by_kind_lem hp ht hb ha ho hi hs hf (F.or f g) = ho f g
  by_kind_lem hp ht hb ha ho hi hs hf (F.imp f g) = hi f g
  by_kind_lem hp ht hb ha ho hi hs hf (F.says a f) = hs a f
  by_kind_lem hp ht hb ha ho hi hs hf (F.sf a b) = hf a b

  on_atom_lem : {m n : ℕ → Onward} (f : Form) → ((p : ℕ) → Moves used (m p) (n p)) → Moves used (on_atom f m) (on_atom f n)
  unfolding on_atom
  on_atom_lem f h = by_kind_lem h stop stop (λ f g. stop) (λ f g. stop) (λ f g. stop) (λ a f. stop) (λ a b. stop) f

  on_top_lem : {m n : Onward} (f : Form) → Moves used m n → Moves used (on_top f m) (on_top f n)
  unfolding on_top
  on_top_lem f h = by_kind_lem (λ p. stop) h stop (λ f g. stop) (λ f g. stop) (λ f g. stop) (λ a f. stop) (λ a b. stop) f

  on_bot_lem : {m n : Onward} (f : Form) → Moves used m n → Moves used (on_bot f m) (on_bot f n)
  unfolding on_bot
  on_bot_lem f h = by_kind_lem (λ p. stop) stop h (λ f g. stop) (λ f g. stop) (λ f g. stop) (λ a f. stop) (λ a b. stop) f

  on_and_lem : {m n : Form → Form → Onward} (f : Form) → ((g h : Form) → Moves used (m g h) (n g h)) → Moves used (on_and f m) (on_and f n)
  unfolding on_and
  on_and_lem f h = by_kind_lem (λ p. stop) stop stop h (λ f g. stop) (λ f g. stop) (λ a f. stop) (λ a b. stop) f

  on_or_lem : {m n : Form → Form → Onward} (f : Form) → ((g h : Form) → Moves used (m g h) (n g h)) → Moves used (on_or f m) (on_or f n)
  unfolding on_or
  on_or_lem f h = by_kind_lem (λ p. stop) stop stop (λ f g. stop) h (λ f g. stop) (λ a f. stop) (λ a b. stop) f

  on_imp_says_lem : {m n : Form → Form → Onward} {m' n' : ℕ → Form → Onward} (f : Form) → ((g h : Form) → Moves used (m g h) (n g h)) →
      ((a : ℕ) (g : Form) → Moves used (m' a g) (n' a g)) → Moves used (on_imp_says f m m') (on_imp_says f n n')
  unfolding on_imp_says
  on_imp_says_lem f h i = by_kind_lem (λ p. stop) stop stop (λ f g. stop) (λ f g. stop) h i (λ a b. stop) f

  on_imp_lem : {m n : Form → Form → Onward} (f : Form) → ((g h : Form) → Moves used (m g h) (n g h)) → Moves used (on_imp f m) (on_imp f n)
  unfolding on_imp
  on_imp_lem f h = by_kind_lem (λ p. stop) stop stop (λ f g. stop) (λ f g. stop) h (λ a f. stop) (λ a b. stop) f

  on_says_lem : {m n : ℕ → Form → Onward} (f : Form) → ((a : ℕ) (g : Form) → Moves used (m a g) (n a g)) →
      Moves used (on_says f m) (on_says f n)
  unfolding on_says
  on_says_lem f h = by_kind_lem (λ p. stop) stop stop (λ f g. stop) (λ f g. stop) (λ f g. stop) h (λ a b. stop) f

  on_sf_lem : {m n : ℕ → ℕ → Onward} (f : Form) → ((a b : ℕ) → Moves used (m a b) (n a b)) → Moves used (on_sf f m) (on_sf f n)
  unfolding on_sf
  on_sf_lem f h = by_kind_lem (λ p. stop) stop stop (λ f g. stop) (λ f g. stop) (λ f g. stop) (λ a f. stop) h f

  on_pushed_lem : {m n : Onward} (f : Form) → Moves used m n → Moves used (on_pushed f m) (on_pushed f n)
  unfolding on_pushed
  on_pushed_lem f h = needs 7 (is_pushed f) h

  on_found : {m n : Lab → Onward} (c : Option Lab) → ((l : Lab) → Moves used (m l) (n l)) → Moves used (on_clause c m) (on_clause c n)
  unfolding on_clause
  on_found none h = stop
  on_found (some l) h = needs 8 (negate (is_sf l.form)) (h l)

  on_clause_lem : {m n : Lab → Onward} (c d : Option Lab) → c ≡ d → ((l : Lab) → Moves used (m l) (n l)) →
      Moves used (on_clause c m) (on_clause d n)
  on_clause_lem c d e h = rw e (on_found d h)

  pub step_alike : (x : Step) (xs : List Step) (s : Sequent) (ds : List Lab) (p : Phase) → Shared used s.clauses ds →
      ((i : ℕ) → Used i (x ∷ xs) → used i) → Moves used (step_on x s p) (step_on x (with_clauses s ds) p)
  unfolding step_on has
  step_alike And xs s ds p a c = at_goal_lem p λ f u. on_and_lem f λ g h. go (twin a (twin a T.none))
  step_alike Or1 xs s ds p a c = at_goal_lem p λ f u. on_or_lem f λ g h. go (twin a T.none)
  step_alike Or2 xs s ds p a c = at_goal_lem p λ f u. on_or_lem f λ g h. go (twin a T.none)
  step_alike Imp xs s ds p a c = at_goal_lem p λ f u. on_imp_lem f λ g h. go (twin a T.none)
  step_alike Says xs s ds p a c = at_goal_lem p λ f u. on_says_lem f λ b g. go (twin a T.none)
  step_alike Top xs s ds p a c = at_goal_lem p λ f u. on_top_lem f (go T.none)
  step_alike Sf xs s ds p a c = at_goal_lem p λ f u. on_sf_lem f λ b d. needs 9 (has s (sf u b d)) (go T.none)
  step_alike (Use i) xs s ds p a c =
      at_goal_lem p λ f w. on_atom_lem f λ q. on_clause_lem (get_elem? s.clauses i) (get_elem? ds i) (a.at i (c i here)) λ l. go (twin a T.none)
  step_alike Left xs s ds p a c = in_focus_lem p λ f u q w met. on_and_lem f λ g h. go (twin a T.none)
  step_alike Right xs s ds p a c = in_focus_lem p λ f u q w met. on_and_lem f λ g h. go (twin a T.none)
  step_alike (To v) xs s ds p a c =
      in_focus_lem p λ f u q w met.
      on_imp_says_lem f (λ g h. needs 8 (ltb v s.sheet.worlds) (needs 9 (has s (le u v)) (go (twin a T.none))))
      (λ b g. needs 8 (ltb v s.sheet.worlds) (needs 9 (has s (by b u v)) (go (twin a T.none))))
  step_alike Hit xs s ds p a c =
      in_focus_lem p λ f u q w met.
      on_atom_lem f λ r. needs 9 (eqb r q) (needs 9 (has s (le u w)) (go (twins_met s ds a met)))
  step_alike Push xs s ds p a c =
      at_chunk_lem p λ f cs g. on_pushed_lem f (go (twin (shared_more s.clauses ds (lab f g.at ∷ []) a) T.none))
  step_alike Split xs s ds p a c = at_chunk_lem p λ f cs g. on_and_lem f λ h k. go (twin a T.none)
  step_alike Case xs s ds p a c = at_chunk_lem p λ f cs g. on_or_lem f λ h k. go (twin a (twin a T.none))
  step_alike Absurd xs s ds p a c = at_chunk_lem p λ f cs g. on_bot_lem f (go T.none)
  step_alike Drop xs s ds p a c = at_chunk_lem p λ f cs g. on_top_lem f (go (twin a T.none))
  step_alike Note xs s ds p a c = at_chunk_lem p λ f cs g. on_sf_lem f λ b d. go (twin a T.none)

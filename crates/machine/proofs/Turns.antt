-- The walk taken turn by turn, as laws over its definitions: what a turn does to the state, and what the walk answers at its end.
use Prim.{tt}
use Prim.Native.Nat.{ℕ, zero, suc, ◌+◌, ◌-◌, ◌<◌, ◌≤◌}
use mathlib.Core.Path.{◌≡◌, refl, sym, ◌∙◌, ap}
use mathlib.Core.Bool.{Bool, true, false}
use mathlib.Core.List.{List, ◌∷◌, map}
use native.Mathlib.Omega.{arith}
use lib.ListN.{get_or, set, replicate}
use lib.Dec.{eqb}
use borrow.Author.Tests.{eq-eqb, ne_eqb}
use Rattle.scope.specs.Limits.{most_principals, most_open}
use Rattle.facts.specs.Rows.{root_rows, noted}
use Rattle.moves.specs.declared.Move.{Move}
use Rattle.moves.specs.declared.Move.TheVariants as move
use Rattle.std.specs.Prelude.{Result, Ok, Err}
use Rattle.common.specs.declared.refused.Refusal.{Refusal}
use Rattle.common.specs.declared.refused.Refusal.TheVariants.{AllClosed, LeftOpen}
use Rattle.common.specs.declared.rows.Row.{Row}
use Rattle.common.specs.Rows.{row_at}
use Rattle.moves.specs.declared.Lab.{Lab}
use Rattle.machine.specs.declared.Change.{Change}
use Rattle.machine.specs.Turn.{stack_of, state_of}
use Rattle.machine.specs.declared.StepRefusal.{StepRefusal}
use Rattle.std.specs.Prelude.{MatchResult, IsErrAnd}
use Rattle.machine.specs.Tables.{clause_places, block, top_chunk, chunks_after, saved_after, rows_after}
use Rattle.moves.specs.Steps.{pick}
use Rattle.moves.specs.Tests.{pick_true, pick_false}
use Rattle.machine.specs.declared.Obligation.{Obligation}
use Rattle.machine.specs.Change.{chunk_count, goal_in, change_of}
use Rattle.machine.specs.Room.{Room}
use Rattle.machine.specs.Machine.{State, Walked, first_stack, refusal_at, begun, first, ran, obligation_at, current, step_in, judged_now, moved, go_on, refused_at, ended_at, ran_from, line_noted, lines_noted, lines_put}

-- One step of the definition, and none.
ran_suc : (unit : Bool) (forms steps : List ℕ) (k i : ℕ) (s : State) →
    ran_from unit forms steps (suc k) i s ≡
    pick (eqb s.opened 0) (refused_at AllClosed i)
    (go_on (judged_now forms s (step_in steps i)) i (λ m. ran_from unit forms steps k (i + 1) (moved unit s m)))
unfolding ran_from
ran_suc unit forms steps k i s = refl

ran_zero : (unit : Bool) (forms steps : List ℕ) (i : ℕ) (s : State) →
    ran_from unit forms steps zero i s ≡ ended_at s.opened i
unfolding ran_from
ran_zero unit forms steps i s = refl

on_fits : (j : Result Move Refusal) (i : ℕ) (next : Move → Walked) (m : Move) → j ≡ Ok m → go_on j i next ≡ next m
unfolding go_on
on_fits j i next m e = rw e refl

on_no : (j : Result Move Refusal) (i : ℕ) (next : Move → Walked) (r : Refusal) → j ≡ Err r → go_on j i next ≡ refused_at r i
unfolding go_on
on_no j i next r e = rw e refl

pub at_first : (unit : Bool) (forms steps : List ℕ) (n : ℕ) (s : State) → ran_from unit forms steps n 0 s ≡ ran_from unit forms steps (n - 0) 0 s
at_first unit forms steps n s = let e : n ≡ n - 0 = omega arith in ap (λ (k : ℕ). ran_from unit forms steps k 0 s) e

one_more : (n i : ℕ) → i < n → n - i ≡ suc (n - (i + 1))
one_more n i h = omega arith

module _ (unit : Bool) (forms steps : List ℕ) (n i : ℕ) (s : State) where
  -- A step that fits.
  pub turn : (m : Move) → i < n → (s.opened ≡ 0 → ⊥) → judged_now forms s (step_in steps i) ≡ Ok m →
      ran_from unit forms steps (n - i) i s ≡ ran_from unit forms steps (n - (i + 1)) (i + 1) (moved unit s m)
  turn m h some fits =
      ap (λ (k : ℕ). ran_from unit forms steps k i s) (one_more n i h) ∙
      ran_suc unit forms steps (n - (i + 1)) i s ∙
      pick_false _ _ _ (ne_eqb s.opened 0 some) ∙
      on_fits _ i _ m fits

  -- A step that is refused, and one where everything is closed.
  pub turn_no : (r : Refusal) → i < n → (s.opened ≡ 0 → ⊥) → judged_now forms s (step_in steps i) ≡ Err r →
      ran_from unit forms steps (n - i) i s ≡ refused_at r i
  turn_no r h some refused =
      ap (λ (k : ℕ). ran_from unit forms steps k i s) (one_more n i h) ∙
      ran_suc unit forms steps (n - (i + 1)) i s ∙
      pick_false _ _ _ (ne_eqb s.opened 0 some) ∙
      on_no _ i _ r refused

  pub turn_late : i < n → s.opened ≡ 0 → ran_from unit forms steps (n - i) i s ≡ refused_at AllClosed i
  turn_late h none =
      ap (λ (k : ℕ). ran_from unit forms steps k i s) (one_more n i h) ∙
      ran_suc unit forms steps (n - (i + 1)) i s ∙
      pick_true _ _ _ (eq-eqb s.opened 0 none)

  -- No step is left: something is open, or nothing.
  ended : i ≡ n → ran_from unit forms steps (n - i) i s ≡ ended_at s.opened n
  ended h =
      let e : n - i ≡ 0 = omega arith in
      ap (λ (k : ℕ). ran_from unit forms steps k i s) e ∙ ran_zero unit forms steps i s ∙ ap (ended_at s.opened) h

  pub ended_open : i ≡ n → 0 < s.opened → ran_from unit forms steps (n - i) i s ≡ refused_at LeftOpen n
  ended_open h some = ended h ∙ pick_false _ _ _ (ne_eqb s.opened 0 (λ e. omega arith))

  pub ended_closed : i ≡ n → s.opened ≡ 0 → ran_from unit forms steps (n - i) i s ≡ Ok tt
  ended_closed h closed = ended h ∙ pick_true _ _ _ (eq-eqb s.opened 0 closed)

-- The beginning, line by line: an `sf` line, another one, and the lines from the last on.
module _ (forms : List ℕ) (f : ℕ) (rows : List ℕ) (r : Row) (sf : Bool) (row : r ≡ row_at forms f) (kind : sf ≡ eqb r.kind 7) where
  kind_is : eqb (row_at forms f).kind 7 ≡ sf
  kind_is = sym (kind ∙ ap (λ (r : Row). eqb r.kind 7) row)

  pub line_sf : sf ≡ true → noted rows 0 r.left r.right ≡ line_noted forms f rows
  unfolding line_noted
  line_sf e = ap (λ (r : Row). noted rows 0 r.left r.right) row ∙ sym (pick_true _ _ _ (kind_is ∙ e))

  pub line_other : sf ≡ false → rows ≡ line_noted forms f rows
  unfolding line_noted
  line_other e = sym (pick_false _ _ _ (kind_is ∙ e))

less_one : (n : ℕ) → suc n - 1 ≡ n
less_one n = omega arith

pub line_noted_lem : (forms lines : List ℕ) (n f : ℕ) (rows more : List ℕ) → 0 < n → f ≡ get_or lines (n - 1) 0 →
    more ≡ line_noted forms f rows → lines_noted forms lines (n - 1) more ≡ lines_noted forms lines n rows
unfolding lines_noted
line_noted_lem forms lines zero f rows more h p q = let z : ⊥ = omega arith in absurd z
line_noted_lem forms lines (suc n) f rows more h p q =
    ap (λ (k : ℕ). lines_noted forms lines k more) (less_one n) ∙
    ap (lines_noted forms lines n) (q ∙ ap (λ (x : ℕ). line_noted forms x rows) (p ∙ ap (λ (k : ℕ). get_or lines k 0) (less_one n)))

pub none_noted : (forms lines : List ℕ) (n : ℕ) (rows : List ℕ) → n ≡ 0 → lines_noted forms lines n rows ≡ rows
unfolding lines_noted
none_noted forms lines n rows e = rw e refl

pub line_put : (lines : List ℕ) (n f : ℕ) (clauses more : List ℕ) → 0 < n → f ≡ get_or lines (n - 1) 0 →
    more ≡ set clauses (n - 1) f → lines_put lines (n - 1) more ≡ lines_put lines n clauses
unfolding lines_put
line_put lines zero f clauses more h p q = let z : ⊥ = omega arith in absurd z
line_put lines (suc n) f clauses more h p q =
    ap (λ (k : ℕ). lines_put lines k more) (less_one n) ∙
    ap (lines_put lines n)
    (q ∙ ap (λ (k : ℕ). set clauses k f) (less_one n) ∙
    ap (set clauses n) (p ∙ ap (λ (k : ℕ). get_or lines k 0) (less_one n)))

pub none_put : (lines : List ℕ) (n : ℕ) (clauses : List ℕ) → n ≡ 0 → lines_put lines n clauses ≡ clauses
unfolding lines_put
none_put lines n clauses e = rw e refl

-- A move leaves room for one obligation more.
room_after : (m : Move) (o : Obligation) (w c k opened : ℕ) → Room m w c k opened → opened ≤ most_open → (change_of m o opened).opened ≤ most_open
unfolding Room change_of
room_after move.Close o w c k opened r h = omega arith
room_after (move.Go f) o w c k opened r h = h
room_after (move.Aim f v) o w c k opened r h = h
room_after (move.Both f g) o w c k opened r h = omega arith
room_after (move.Meet f g v) o w c k opened r h = omega arith
room_after (move.Less f g) o w c k opened r h = h
room_after (move.Speak a f) o w c k opened r h = h
room_after move.Push o w c k opened r h = h
room_after move.Drop o w c k opened r h = h
room_after (move.Note a b) o w c k opened r h = h
room_after (move.Split f g) o w c k opened r h = h
room_after (move.Case f g) o w c k opened r h = omega arith

pub made_room : (unit : Bool) (s : State) (m : Move) (w c k : ℕ) → Room m w c k s.opened → s.opened ≤ most_open → (moved unit s m).opened ≤ most_open
unfolding moved
made_room unit s m w c k r h = room_after m (current s) w c k s.opened r h

-- What a turn does to the current obligation o: its topmost chunk, the one below, what is made of o, and the tables.
pub record Written (unit : Bool) (s : State) (m : Move) (o next : Obligation) (top : ℕ) (made : Change) (rows : List ℕ) (obligations : List Obligation) (chunks saved clauses ats : List ℕ) :
    Type 0 where
  pub this : o ≡ current s
  pub topmost : top ≡ top_chunk s.stack.chunks (s.opened - 1) o.phase
  pub under : next ≡ obligation_at s (s.opened - 2)
  pub change : made ≡ change_of m o s.opened
  pub kept : saved ≡ saved_after s.opened made.opened s.rows o.worlds s.stack.saved
  pub facts : rows ≡ rows_after unit m o next (block most_principals saved (s.opened - 2)) s.rows
  pub held : chunks ≡ chunks_after m (chunk_count o.phase) (s.opened - 1) s.stack.chunks
  pub clause : clauses ≡ set s.clauses o.clauses top
  pub world : ats ≡ set s.ats o.clauses (goal_in o.phase).at.0
  pub opens : obligations ≡ set (set s.stack.obligations s.opened made.upper) (s.opened - 1) made.lower

pub moved_is : (unit : Bool) (s : State) (m : Move) (o next : Obligation) (top : ℕ) (made : Change) (rows : List ℕ) (obligations : List Obligation) (chunks saved clauses ats : List ℕ) →
    Written unit s m o next top made rows obligations chunks saved clauses ats →
    state_of rows (stack_of obligations chunks saved) made.opened clauses ats ≡ moved unit s m
unfolding moved
moved_is unit s m o next top made rows obligations chunks saved clauses ats w =
    rw (w.facts, w.held, w.opens, w.kept, w.change, w.clause, w.world, w.topmost, w.under, w.this) refl

-- Clauses at world 0 alone, of number 0 at first.
pub zero_put : (n i : ℕ) → set (replicate {A = ℕ} n 0) i 0 ≡ replicate n 0
zero_put zero i = refl
zero_put (suc n) zero = refl
zero_put (suc n) (suc i) = ap (λ (l : List ℕ). 0 ∷ l) (zero_put n i)

pub map_replicate : (f : Lab → ℕ) (n : ℕ) (l : Lab) → map f (replicate n l) ≡ replicate n (f l)
map_replicate f zero l = refl
map_replicate f (suc n) l = ap (λ (xs : List ℕ). f l ∷ xs) (map_replicate f n l)

-- The first state.
pub ran_is : (unit : Bool) (forms lines steps : List ℕ) (count goal n : ℕ) (rows clauses ats : List ℕ) (o : Obligation) (answer : Walked) →
    rows ≡ lines_noted forms lines count root_rows → clauses ≡ lines_put lines count (replicate clause_places 0) →
    ats ≡ replicate clause_places 0 → o ≡ first goal count →
    answer ≡ ran_from unit forms steps n 0 (state_of rows (first_stack o) 1 clauses ats) →
    answer ≡ ran unit forms lines steps count goal n
unfolding ran begun
ran_is unit forms lines steps count goal n rows clauses ats o answer er ec ea eo e = rw (er, ec, ea, eo) at e

-- A refusal, as an answer of the walk.
pub refused : (whole : Walked) (k : Refusal) (i : ℕ) (r : StepRefusal) → r ≡ refusal_at k i → whole ≡ refused_at k i → ◌≡◌ {A = Walked} (Err r) whole
refused whole k i r e w = ap (λ (r : StepRefusal). Err r) e ∙ sym w

-- What a step was judged, by what was made of its refusal.
module _ (j : Result Move Refusal) (q : Result Move StepRefusal) (P : Refusal → StepRefusal → Type 0)
    (made : MatchResult j (λ m. q ≡ Ok m) (λ r. IsErrAnd q (P r))) where
  pub made_ok : (m : Move) → q ≡ Ok m → j ≡ Ok m
  made_ok m e = go j made
    where
      go : (j : Result Move Refusal) → MatchResult j (λ m. q ≡ Ok m) (λ r. IsErrAnd q (P r)) → j ≡ Ok m
      go (Ok x) h = cc
      go (Err r) h = absurd (rw e at h)

  pub made_err : (d : StepRefusal) → q ≡ Err d → (r : Refusal) × (j ≡ Err r) × P r d
  made_err d e = go j made
    where
      go : (j : Result Move Refusal) → MatchResult j (λ m. q ≡ Ok m) (λ r. IsErrAnd q (P r)) → (r : Refusal) × (j ≡ Err r) × P r d
      go (Ok x) h = never x h
        where
          never : (x : Move) → q ≡ Ok x → (r : Refusal) × (◌≡◌ {A = Result Move Refusal} (Ok x) (Err r)) × P r d
          never x h = let z : ⊥ = cc in absurd z
      go (Err r) h = (r, refl, rw e at h)

-- Each of the twelve moves keeps the relation: the obligations that document 01's step puts in the current one's place are those of the
-- record after the move. (`moved_close` of specs/Moved is the twelfth.)
use Prim.Native.Nat.{ℕ, zero, suc, ◌<◌, ◌≤◌}
use Rattle.std.specs.Prelude.{◌≡◌}
use Rattle.std.proofs.Math.Path.{refl, ap, subst}
use Rattle.std.proofs.Common.{sym, ◌∙◌}
use mathlib.Core.List.{List, [], ◌∷◌, ◌++◌}
use native.Mathlib.Omega.{arith}
use Rattle.std.proofs.Math.Numerals.{add-one}
use Rattle.std.proofs.Math.Dec.{leb-suc-zero}
use Rattle.std.proofs.Math.ListN.{length, get_or, set, length-set}
use Rattle.std.proofs.Math.Seq.{get_or-set_same}
use Rattle.scope.specs.Logic.Form.{Form}
use Rattle.scope.specs.Logic.Facts.{Fact, le, by, sf}
use Rattle.scope.specs.Limits.{most_worlds, most_clauses, most_open, most_chunks}
use Rattle.scope.specs.Logic.Obligation.{Lab, lab, Sequent, Phase, goal, chunks, focus, behind, Obligation, ob}
use Rattle.facts.specs.Rows.{noted}
use Rattle.facts.specs.Kept.{Kept}
use Rattle.moves.specs.declared.Lab as L
use Rattle.moves.specs.declared.Phase as D
use Rattle.moves.specs.declared.Phase.TheVariants as phase
use Rattle.moves.specs.declared.Move.TheVariants as move
use Rattle.moves.specs.Steps.{pick, principal}
use Rattle.common.specs.Rows.{row_at}
use Rattle.machine.specs.Change as numbers
use Rattle.machine.specs.Change.{goal_in, change_of}
use Rattle.machine.specs.Tables.{places, top_chunk, split_chunks, case_chunks, chunks_after, rows_after}
use Rattle.machine.specs.Machine.{Stack, State, moved}
use Rattle.walks.specs.Trees.{Reading, unit_of}
use Rattle.facts.specs.Grown.{agree_le, agree_by}
use Rattle.facts.proofs.Grown.{kept_le, kept_by}
use Rattle.facts.specs.Noted.{agree_note}
use Rattle.facts.proofs.Noted.{kept_note}
use Rattle.machine.specs.Turn.{state_of}
use Rattle.walks.specs.Related.{StackEntry, down_from, chunks_of, Below, Rests, at_goal_lem, at_chunks, Stands, at_rest, in_focus_lem}
use Rattle.walks.specs.Related.{Clauses, sheet_of, seq, Waits, met_in, Standing, Related}
use Rattle.walks.specs.Views.{chunks_set, below_less, below_more, clauses_set, clauses_pushed, waits_set, waits_rows, waits_wider}
use Rattle.walks.specs.Chunks.{one_less, wrote_set, wrote_above, wrote_none, wrote_copy, case_above, top_is}
use Rattle.walks.specs.Moved.{moved_alone, moved_fork, rests_met}

-- Of any phase.
module _ {T : Reading} {rows cl ats ch sv : List ℕ} {stack : Stack} {es : List StackEntry} {n m c : ℕ} {ph : D.Phase} {fs : List Fact}
    {ls : List Lab} (frame : Standing T rows stack n cl ats ph m c ch sv fs ls) (down : down_from stack n ≡ es) where
  -- The clauses, which such a move leaves, and what it writes past them.
  abbrev no_clause : Clauses T (set cl c (top_chunk stack.chunks n ph)) (set ats c (goal_in ph).at.0) c ls
  no_clause =
      let low : c ≤ c = omega arith in
      clauses_set c (top_chunk stack.chunks n ph) (goal_in ph).at.0 low frame.clauses

  abbrev no_write : {os : List Obligation} → Waits T rows cl ats (suc m) c es os →
      Waits T rows (set cl c (top_chunk stack.chunks n ph)) (set ats c (goal_in ph).at.0) (suc m) c es os
  no_write waits =
      let low : c ≤ c = omega arith in
      waits_set c (top_chunk stack.chunks n ph) (goal_in ph).at.0 low waits

  pub moved_go : {g t u : ℕ} {waiting : List Obligation} → goal_in ph ≡ numbers.lab t u → g < T.formulas → u < suc m →
      Waits T rows cl ats (suc m) c es waiting →
      Related T (moved (unit_of T) (state_of rows stack (suc n) cl ats) (move.Go g)) (ob (seq T (suc m) fs ls) (goal (lab (T.tree g) u)) ∷ waiting)
  unfolding change_of chunks_after rows_after numbers.here met_in
  moved_go {g} {t} {u} at p inside waits =
      moved_alone frame down (move.Go g) {ph' = phase.Goal (numbers.lab g u)} (rw at refl) refl (wrote_none frame) (λ next kept. refl)
      no_clause frame.kept (at_rest (at_goal_lem p inside)) (no_write waits)

  pub moved_aim : {g v w q : ℕ} {met : List Lab} {waiting : List Obligation} (t : ℕ) → goal_in ph ≡ numbers.lab t w → g < T.formulas →
      w < suc m → q ≡ (row_at T.table t).left → (d : Lab) →
      Waits T rows cl ats (suc m) c es (met_in (seq T (suc m) fs ls) (focus d q w met) ++ waiting) →
      Related T (moved (unit_of T) (state_of rows stack (suc n) cl ats) (move.Aim g (numbers.world v)))
      (ob (seq T (suc m) fs ls) (focus (lab (T.tree g) v) q w met) ∷ waiting)
  unfolding change_of chunks_after rows_after numbers.aimed met_in
  moved_aim {g} {v} {w} t at p aimed same d waits =
      moved_alone frame down (move.Aim g (numbers.world v)) {ph' = phase.Focus (numbers.lab g v) (numbers.lab t w)} (rw at refl) refl
      (wrote_none frame) (λ next kept. refl) no_clause frame.kept (in_focus_lem p aimed same) (no_write waits)

  pub moved_both : {f h t u : ℕ} {waiting : List Obligation} → goal_in ph ≡ numbers.lab t u → f < T.formulas → h < T.formulas →
      u < suc m → suc n < most_open → Waits T rows cl ats (suc m) c es waiting →
      Related T (moved (unit_of T) (state_of rows stack (suc n) cl ats) (move.Both f h))
      (ob (seq T (suc m) fs ls) (goal (lab (T.tree f) u)) ∷ ob (seq T (suc m) fs ls) (goal (lab (T.tree h) u)) ∷ waiting)
  unfolding change_of chunks_after rows_after numbers.here met_in
  moved_both {f} {h} {t} {u} at p q inside room waits =
      moved_fork frame down (move.Both f h) {phu = phase.Goal (numbers.lab f u)} {phl = phase.Goal (numbers.lab h u)} (rw at refl) refl
      (wrote_none frame) refl (λ next kept. refl) room (at_rest (at_goal_lem p inside)) (at_goal_lem q inside) waits refl

  pub moved_meet : {g h v w q : ℕ} {met : List Lab} {waiting : List Obligation} (t : ℕ) → goal_in ph ≡ numbers.lab t w → g < T.formulas →
      h < T.formulas → v < suc m → w < suc m → q ≡ (row_at T.table t).left → suc n < most_open → (d : Lab) →
      Waits T rows cl ats (suc m) c es (met_in (seq T (suc m) fs ls) (focus d q w met) ++ waiting) →
      Related T (moved (unit_of T) (state_of rows stack (suc n) cl ats) (move.Meet g h (numbers.world v)))
      (ob (seq T (suc m) fs ls) (focus (lab (T.tree h) v) q w (lab (T.tree g) v ∷ met)) ∷ waiting)
  unfolding change_of chunks_after rows_after numbers.aimed met_in
  moved_meet {g} {h} {v} {w} t at p r inside aimed same room d waits =
      moved_fork frame down (move.Meet g h (numbers.world v)) {phu = phase.Focus (numbers.lab h v) (numbers.lab t w)}
      {phl = phase.Goal (numbers.lab g v)} (rw at refl) refl
      (wrote_none frame) refl (λ next kept. refl) room (in_focus_lem r aimed same) (at_goal_lem p inside) waits refl

-- Of a goal: a new world.
module _ {T : Reading} {rows cl ats ch sv : List ℕ} {stack : Stack} {es : List StackEntry} {n m c t u : ℕ} {fs : List Fact}
    {ls : List Lab} (frame : Standing T rows stack n cl ats (phase.Goal (numbers.lab t u)) m c ch sv fs ls) (down : down_from stack n ≡ es)
    (inside : u < suc m) (room : suc m < most_worlds) {waiting : List Obligation} (waits : Waits T rows cl ats (suc m) c es waiting) where
  pub moved_less : {f h : ℕ} → f < T.formulas → h < T.formulas →
      Related T (moved (unit_of T) (state_of rows stack (suc n) cl ats) (move.Less f h))
      (ob (seq T (suc (suc m)) (le u (suc m) ∷ fs) ls) (chunks (T.tree f) [] (lab (T.tree h) (suc m))) ∷ waiting)
  unfolding change_of chunks_after rows_after goal_in met_in chunks_of numbers.new_world
  moved_less {f} {h} p q =
      let low : c ≤ c = omega arith in
      let old : suc m ≤ suc m = omega arith in
      let more : suc m ≤ suc (suc m) = omega arith in
      let x : ℕ = top_chunk stack.chunks n (phase.Goal (numbers.lab t u)) in
      let long : 0 < length ch = omega (arith, frame.chunk_size) in
      let top : get_or (set ch 0 f) 0 0 ≡ f = get_or-set_same ch 0 f 0 long in
      let first : Below T.formulas 0 ch = record { each = λ j g. absurd (omega arith) } in
      let some : 0 < most_chunks = omega arith in
      let inner : n < places = omega (arith, frame.room) in
      let stands : Stands T (suc (suc m)) (set ch 0 f) (phase.Chunks (numbers.lab h (suc m)) 1)
      (chunks (T.tree f) [] (lab (T.tree h) (suc m))) =
      subst (λ (z : ℕ). Stands T (suc (suc m)) (set ch 0 f) (phase.Chunks (numbers.lab h (suc m)) 1)
      (chunks (T.tree z) [] (lab (T.tree h) (suc m)))) top
      (at_rest (at_chunks q refl some (below_more f long p first))) in
      moved_alone frame down (move.Less f h) (rw add-one refl) refl (wrote_set 0 f some inner (wrote_none frame)) (λ next kept. refl)
      (clauses_set c x u low frame.clauses) (kept_le frame.kept inside room) stands
      (waits_set c x u low (waits_wider more low (waits_rows (agree_le (suc m) u (suc m) rows old) waits)))

  pub moved_speak : {a f : ℕ} → a < T.principals → f < T.formulas →
      Related T (moved (unit_of T) (state_of rows stack (suc n) cl ats) (move.Speak (principal a) f))
      (ob (seq T (suc (suc m)) (by a u (suc m) ∷ fs) ls) (goal (lab (T.tree f) (suc m))) ∷ waiting)
  unfolding change_of chunks_after rows_after goal_in met_in numbers.new_world
  moved_speak {a} {f} p q =
      let low : c ≤ c = omega arith in
      let old : suc m ≤ suc m = omega arith in
      let more : suc m ≤ suc (suc m) = omega arith in
      let inner : suc m < suc (suc m) = omega arith in
      let x : ℕ = top_chunk stack.chunks n (phase.Goal (numbers.lab t u)) in
      moved_alone frame down (move.Speak (principal a) f) (rw add-one refl) refl (wrote_none frame) (λ next kept. refl)
      (clauses_set c x u low frame.clauses) (kept_by frame.kept p inside room) (at_rest (at_goal_lem q inner))
      (waits_set c x u low (waits_wider more low (waits_rows (agree_by (suc m) (unit_of T) a u (suc m) rows old) waits)))

-- Of chunks: the topmost one is number i of the array.
module _ {T : Reading} {rows cl ats ch sv : List ℕ} {stack : Stack} {es : List StackEntry} {n m c t u i : ℕ} {fs : List Fact}
    {ls : List Lab} (frame : Standing T rows stack n cl ats (phase.Chunks (numbers.lab t u) (suc i)) m c ch sv fs ls)
    (down : down_from stack n ≡ es) (named : t < T.formulas) (newest : suc u ≡ suc m) (few : i < most_chunks)
    (known : Below T.formulas (suc i) ch) {waiting : List Obligation} (waits : Waits T rows cl ats (suc m) c es waiting) where
  abbrev here : Sequent
  here = seq T (suc m) fs ls

  abbrev now : State
  now = state_of rows stack (suc n) cl ats

  abbrev aim : Lab
  aim = lab (T.tree t) u

  abbrev rest : List Form
  rest = chunks_of T.tree i ch

  abbrev goal_lab : L.Lab
  goal_lab = numbers.lab t u

  -- The goal behind the chunks below it.
  popped_rests : (j : ℕ) → j < most_chunks → Below T.formulas j ch →
      Rests T (suc m) ch (numbers.behind goal_lab j) (behind (chunks_of T.tree j ch) aim)
  unfolding numbers.behind pick chunks_of
  popped_rests zero h b = let inside : u < suc m = omega arith in at_goal_lem named inside
  popped_rests (suc j) h b = let some : j < most_chunks = omega arith in rw (leb-suc-zero j) (at_chunks named newest some b)

  waits_on : (s : Sequent) (p : Phase) {rows' cl' ats' : List ℕ} {c' : ℕ} → Rests T (suc m) ch (numbers.behind goal_lab i) p →
      Waits T rows' cl' ats' (suc m) c' es waiting → Waits T rows' cl' ats' (suc m) c' es (met_in s p ++ waiting)
  waits_on s p r w = rw (rests_met s r) w

  -- The chunks of an array, by what stands there.
  chunks_are : (j : ℕ) (held : List ℕ) (f : Form) (fs : List Form) → T.tree (get_or held j 0) ≡ f → chunks_of T.tree j held ≡ fs →
      Rests T (suc m) held (phase.Chunks goal_lab (suc j)) (chunks (T.tree (get_or held j 0)) (chunks_of T.tree j held) aim) →
      Rests T (suc m) held (phase.Chunks goal_lab (suc j)) (chunks f fs aim)
  chunks_are j held f fs e q r = rw (e, q) at r

  pub moved_drop : Related T (moved (unit_of T) now move.Drop)
      (ob here (behind rest aim) ∷ waiting)
  unfolding change_of chunks_after rows_after numbers.popped numbers.chunk_count goal_in
  moved_drop =
      let low : c ≤ c = omega arith in
      let less : i ≤ suc i = omega arith in
      let x : ℕ = top_chunk stack.chunks n (phase.Chunks goal_lab (suc i)) in
      let rests = popped_rests i few (below_less less known) in
      moved_alone frame down move.Drop {ph' = numbers.behind goal_lab i} (rw (one_less i) refl) refl (wrote_none frame) (λ next kept. refl)
      (clauses_set c x u low frame.clauses) frame.kept (at_rest rests)
      (waits_on here (behind rest aim) rests (waits_set c x u low waits))

  pub moved_note : {a b : ℕ} → a < T.principals → b < T.principals →
      Related T (moved (unit_of T) now (move.Note (principal a) (principal b)))
      (ob (seq T (suc m) (sf u a b ∷ fs) ls) (behind rest aim) ∷ waiting)
  unfolding change_of chunks_after rows_after numbers.popped numbers.chunk_count goal_in
  moved_note {a} {b} p q =
      let low : c ≤ c = omega arith in
      let less : i ≤ suc i = omega arith in
      let old : suc m ≤ suc m = omega arith in
      let at : m ≡ u = omega arith in
      let x : ℕ = top_chunk stack.chunks n (phase.Chunks goal_lab (suc i)) in
      let rests = popped_rests i few (below_less less known) in
      let kept : Kept (sheet_of T (suc m)) (sf u a b ∷ fs) (noted rows m a b) =
      subst (λ (z : ℕ). Kept (sheet_of T (suc m)) (sf z a b ∷ fs) (noted rows m a b)) at (kept_note frame.kept refl p q) in
      moved_alone frame down (move.Note (principal a) (principal b)) {rows' = noted rows m a b} {ph' = numbers.behind goal_lab i}
      (rw (one_less i) refl) refl (wrote_none frame) (λ next kept. ap (λ (k : ℕ). noted rows k a b) (one_less m))
      (clauses_set c x u low frame.clauses) kept (at_rest rests)
      (waits_on (seq T (suc m) (sf u a b ∷ fs) ls) (behind rest aim) rests
      (waits_set c x u low (waits_rows (agree_note (suc m) m a b rows old) waits)))

  pub moved_push : c < most_clauses →
      Related T (moved (unit_of T) now move.Push)
      (ob (seq T (suc m) fs (ls ++ (lab (T.tree (get_or ch i 0)) u ∷ []))) (behind rest aim) ∷ waiting)
  unfolding change_of chunks_after rows_after numbers.popped numbers.chunk_count goal_in
  moved_push room =
      let low : c ≤ c = omega arith in
      let up : c ≤ suc c = omega arith in
      let less : i ≤ suc i = omega arith in
      let old : suc m ≤ suc m = omega arith in
      let last : i < suc i = omega arith in
      let x : ℕ = top_chunk stack.chunks n (phase.Chunks goal_lab (suc i)) in
      let is : x ≡ get_or ch i 0 = top_is frame few in
      let rests = popped_rests i few (below_less less known) in
      let clauses : Clauses T (set cl c x) (set ats c u) (suc c) (ls ++ (lab (T.tree (get_or ch i 0)) u ∷ [])) =
      subst (λ (z : ℕ). Clauses T (set cl c z) (set ats c u) (suc c) (ls ++ (lab (T.tree (get_or ch i 0)) u ∷ []))) (sym is)
      (clauses_pushed (get_or ch i 0) u (known.each i last) room frame.cl_size frame.ats_size frame.clauses) in
      moved_alone frame down move.Push {ph' = numbers.behind goal_lab i} {c' = suc c}
      (rw (one_less i, add-one) refl) refl (wrote_none frame) (λ next kept. refl) clauses frame.kept (at_rest rests)
      (waits_on (seq T (suc m) fs (ls ++ (lab (T.tree (get_or ch i 0)) u ∷ []))) (behind rest aim) rests
      (waits_wider old up (waits_set c x u low waits)))

  pub moved_split : {f h : ℕ} → f < T.formulas → h < T.formulas → suc i < most_chunks →
      Related T (moved (unit_of T) now (move.Split f h)) (ob here (chunks (T.tree f) (T.tree h ∷ rest) aim) ∷ waiting)
  unfolding change_of chunks_after split_chunks rows_after numbers.one_more numbers.chunk_count goal_in chunks_of met_in
  moved_split {f} {h} p q room =
      let low : c ≤ c = omega arith in
      let over : i ≤ i = omega arith in
      let over' : suc i ≤ suc i = omega arith in
      let less : i ≤ suc i = omega arith in
      let x : ℕ = top_chunk stack.chunks n (phase.Chunks goal_lab (suc i)) in
      let inner : n < places = omega (arith, frame.room) in
      let long : i < length ch = omega (arith, frame.chunk_size) in
      let long' : suc i < length (set ch i h) = rw length-set (omega (arith, frame.chunk_size)) in
      let held : List ℕ = set (set ch i h) (suc i) f in
      let top : get_or held (suc i) 0 ≡ f = get_or-set_same (set ch i h) (suc i) f 0 long' in
      let under : chunks_of T.tree (suc i) held ≡ T.tree h ∷ rest =
      chunks_set T.tree (suc i) (suc i) f (set ch i h) over' ∙
      rw (get_or-set_same ch i h 0 long, chunks_set T.tree i i h ch over) refl in
      let stands : Stands T (suc m) held (phase.Chunks goal_lab (suc (suc i))) (chunks (T.tree f) (T.tree h ∷ rest) aim) =
      at_rest
      (chunks_are (suc i) held (T.tree f) (T.tree h ∷ rest) (ap T.tree top) under
      (at_chunks named newest room (below_more f long' p (below_more h long q (below_less less known))))) in
      moved_alone frame down (move.Split f h) (rw add-one refl) (rw (one_less i) refl)
      (wrote_set (suc i) f room inner (wrote_set i h few inner (wrote_none frame))) (λ next kept. refl)
      (clauses_set c x u low frame.clauses) frame.kept stands (waits_set c x u low waits)

  -- Another chunk in the topmost one's place.
  swapped : (f : ℕ) → f < T.formulas → Rests T (suc m) (set ch i f) (phase.Chunks goal_lab (suc i)) (chunks (T.tree f) rest aim)
  swapped f p =
      let over : i ≤ i = omega arith in
      let less : i ≤ suc i = omega arith in
      let long : i < length ch = omega (arith, frame.chunk_size) in
      chunks_are i (set ch i f) (T.tree f) rest (ap T.tree (get_or-set_same ch i f 0 long)) (chunks_set T.tree i i f ch over)
      (at_chunks named newest few (below_more f long p (below_less less known)))

  pub moved_case : {f h : ℕ} → f < T.formulas → h < T.formulas → suc n < most_open →
      Related T (moved (unit_of T) now (move.Case f h)) (ob here (chunks (T.tree f) rest aim) ∷ ob here (chunks (T.tree h) rest aim) ∷ waiting)
  unfolding change_of chunks_after case_chunks rows_after numbers.chunk_count met_in
  moved_case {f} {h} p q room =
      let inner : n < places = omega (arith, frame.room) in
      moved_fork frame down (move.Case f h) refl (rw (one_less i, add-one) refl)
      (wrote_above i f (wrote_set i h few inner (wrote_copy frame))) (case_above frame i f h few room) (λ next kept. refl) room
      (at_rest (swapped f p)) (swapped h q) waits refl

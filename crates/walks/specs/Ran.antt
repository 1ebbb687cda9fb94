-- The machine's walk answers as document 01's does, from a record that stands for the open obligations on: `ran_from_lem`.
use Rattle.std.specs.Prelude.{ℕ, zero, suc, ◌+◌, ◌-◌, ◌≡◌, refl, true, false, List, [], ◌∷◌, ◌++◌, eqb, get_or}
use Rattle.std.proofs.Common.{arith, add-one, ne_eqb}
use Rattle.scope.specs.Logic.Facts.{Fact}
use Rattle.scope.specs.Call.Answer.{Answer}
use Rattle.scope.specs.Logic.Obligation as O
use Rattle.scope.specs.Logic.Obligation.{Lab, Phase, Obligation}
use Rattle.scope.specs.Logic.Room.{within}
use Rattle.scope.specs.Logic.Walk.{Onward, step_on, after, walk}
use Rattle.std.specs.Prelude.{Result}
use Rattle.common.specs.declared.refused.Refusal.{Refusal}
use Rattle.moves.specs.declared.Move as M
use Rattle.moves.specs.declared.Phase as D
use Rattle.steps.specs.declared.Step.{Step}
use Rattle.steps.specs.Steps.{step_is}
use Rattle.moves.specs.Steps.{pick}
use Rattle.moves.specs.Judge.{judge_step}
use Rattle.machine.specs.declared.Obligation as E
use Rattle.machine.specs.Tables.{top_chunk}
use Rattle.common.specs.Refused.{number_of}
use Rattle.machine.specs.Machine.{Stack, State, nothing, obligation_at, step_in, moved, Walked, judged_now, go_on, ran_from, walked_answer}
use Rattle.walks.specs.Trees.{Reading, unit_of}
use Rattle.machine.specs.Turn.{state_of}
use Rattle.walks.specs.Related.{StackEntry, head_of, down_from, at_goal_lem, at_chunks, Stands, at_rest, in_focus_lem, seq, Waits, met_in, Standing}
use Rattle.walks.specs.Related.{Related, all_closed, now_open}
use Rattle.walks.specs.Views.{head_is}
use Rattle.walks.specs.Chunks.{one_less, top_is}
use Rattle.walks.specs.Match.{Match, no_fit, no_room, fits}
use Rattle.walks.specs.GoalSteps.{goal_steps}
use Rattle.walks.specs.FocusSteps.{focus_steps}
use Rattle.walks.specs.ChunkSteps.{chunk_steps}

judged_at : (forms rows : List ℕ) (stack : Stack) (n : ℕ) (cl ats : List ℕ) (x : Step) (o : E.Obligation) →
    get_or stack.obligations n nothing ≡ o →
    judged_now forms (state_of rows stack (suc n) cl ats) x ≡
    judge_step forms rows cl ats o.phase (top_chunk stack.chunks n o.phase) x o.worlds o.clauses (suc n)
unfolding judged_now obligation_at
judged_at forms rows stack n cl ats x o top =
    let h : get_or stack.obligations (suc n - 1) nothing ≡ o = rw (one_less n) top in
    rw (h, one_less n) refl

by_phase : {T : Reading} {rows cl ats ch sv : List ℕ} {stack : Stack} {es : List StackEntry} {n m c : ℕ} {ph : D.Phase} {fs : List Fact}
    {ls : List Lab} {p : Phase} {waiting : List Obligation} →
    Standing T rows stack n cl ats ph m c ch sv fs ls → down_from stack n ≡ es → Stands T (suc m) ch ph p →
    Waits T rows cl ats (suc m) c es (met_in (seq T (suc m) fs ls) p ++ waiting) → (x : Step) →
    Match T (state_of rows stack (suc n) cl ats) waiting
    (judge_step T.table rows cl ats ph (top_chunk stack.chunks n ph) x (suc m) c (suc n))
    (step_on (step_is x) (seq T (suc m) fs ls) p)
unfolding judge_step met_in
by_phase frame down (at_rest (at_goal_lem named inside)) waits x = goal_steps frame down named inside waits x
by_phase frame down (at_rest (at_chunks {m = i} named newest few known)) waits x =
    rw (top_is frame few) (chunk_steps frame down named newest few known waits x)
by_phase {waiting} frame down (in_focus_lem {met} named aimed atom) waits x = focus_steps frame down named aimed atom met waiting waits x

-- One step.
pub stepped : {T : Reading} {s : State} {o : Obligation} {waiting : List Obligation} → Related T s (o ∷ waiting) → (x : Step) →
    Match T s waiting (judged_now T.table s x) (step_on (step_is x) o.sequent o.phase)
stepped {T} (now_open {rows} {cl} {ats} {ch} {sv} {stack} {n} {m} {c} {ph} frame down stands waits) x =
    rw (judged_at T.table rows stack n cl ats x (head_of ph (suc m) c) (head_is stack n frame.on_top_lem)) (by_phase frame down stands waits x)

-- What follows a step.
after_match : {T : Reading} {s : State} {waiting : List Obligation} {j : Result M.Move Refusal} {mv : Onward} → Match T s waiting j mv →
    (i : ℕ) (next : M.Move → Walked) (go : List Obligation → Answer) →
    ((m : M.Move) (os : List Obligation) → Related T (moved (unit_of T) s m) os → walked_answer (next m) ≡ go os) →
    walked_answer (go_on j i next) ≡ after within i waiting mv go
unfolding walked_answer go_on after number_of
after_match no_fit i next go same = rw add-one refl
after_match (no_room e) i next go same = rw (e, add-one) refl
after_match {waiting} (fits {m} {os} e r) i next go same = rw e (same m (os ++ waiting) r)

pub none_open : {T : Reading} {s : State} → Related T s [] → eqb s.opened 0 ≡ true
none_open all_closed = refl

pub some_open : {T : Reading} {s : State} {o : Obligation} {waiting : List Obligation} → Related T s (o ∷ waiting) → eqb s.opened 0 ≡ false
some_open (now_open {n} frame down stands waits) = ne_eqb (suc n) 0 (λ e. omega arith)

-- The steps from number i on, n of them.
unfoldable pub steps_from : List ℕ → ℕ → ℕ → List O.Step
steps_from steps zero i = []
steps_from steps (suc n) i = step_is (step_in steps i) ∷ steps_from steps n (suc i)

pub ran_from_lem : {T : Reading} (steps : List ℕ) (n i : ℕ) (s : State) (os : List Obligation) → Related T s os →
    walked_answer (ran_from (unit_of T) T.table steps n i s) ≡ walk within i os (steps_from steps n i)
unfolding ran_from walk steps_from walked_answer pick number_of
ran_from_lem steps zero i s [] r = rw (none_open r) refl
ran_from_lem steps zero i s (o ∷ waiting) r = rw (some_open r, add-one) refl
ran_from_lem steps (suc n) i s [] r = rw (none_open r, add-one) refl
ran_from_lem {T} steps (suc n) i s (o ∷ waiting) r =
    rw (some_open r)
    (after_match (stepped r (step_in steps i)) i (λ m. ran_from (unit_of T) T.table steps n (i + 1) (moved (unit_of T) s m))
    (λ next. walk within (suc i) next (steps_from steps n (suc i)))
    (λ m os q. rw add-one (ran_from_lem steps n (suc i) (moved (unit_of T) s m) os q)))

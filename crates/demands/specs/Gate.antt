-- The demands for the gate, from a file's bytes to the four numbers printed.
use Rattle.std.specs.Prelude.{ℕ, ◌*◌, ◌≡◌, refl, List, length}
use Rattle.std.proofs.Common.{sym, ap, ◌∙◌}
use Rattle.scope.specs.Call.Result.{result, refused}
use Rattle.scope.specs.Call.Answer.{Answer, told, answer}
use Rattle.scope.specs.Limits.{most_formulas, most_policy_lines, most_steps}
use Rattle.scope.specs.File.Request.{Request}
use Rattle.scope.specs.File.Reader.{Outcome}
use Rattle.scope.specs.Call.Tables.{request_of, lent_of}
use Rattle.scope.specs.Call.Calls.{reading}
use Rattle.scope.specs.Logic.Derivation.{Derivation}
use Rattle.scope.specs.Logic.Room.{within}
use Rattle.scope.specs.Call.Judge.{policy_of, goal_of, steps_of, start_of, steps_answer, else, judge, Printed, prints, printed, printed_after, gate}
use Rattle.scope.specs.Logic.Models.{Entailed}
use Rattle.granted.specs.Reasons.{Settled, grants, breaks}
use Rattle.trip.proofs.Requests.{read_unrefused}
use Rattle.trip.specs.Trip.{got}
use Rattle.trip.proofs.Trip.{read_fine, fine_checked}
use Rattle.demands.specs.Judged.{steps_settled, steps_entail, judge_law, else_passes}

-- The gate reads into tables of just the room that is asked for.
abbrev pub gate_reads : List ℕ → Outcome
gate_reads s = reading (3 * most_formulas) most_policy_lines (2 * most_steps) s

-- What the gate may print for a file: the reader's refusal with no steps; or the steps read, with the answer that the rules settle.
pub data Prints (s : List ℕ) : Printed → Type 0 where
  unread : {k place column : ℕ} → gate_reads s ≡ refused (told k place column) → Prints s (prints k place 0 column)
  answered : {q : Request} {k place : ℕ} → gate_reads s ≡ result q → Settled within (start_of q) (steps_of q) (answer k place) →
      Prints s (prints k place (length q.steps) 0)

gate_law : (s : List ℕ) → gate s ≡ printed_after (gate_reads s)
unfolding gate
gate_law s = refl

printed_law : (k place n : ℕ) → printed (answer k place) n ≡ prints k place n 0
unfolding printed
printed_law k place n = refl

judged_read : (q : Request) → printed_after (result q) ≡ printed (steps_answer q) (length q.steps)
unfolding printed_after
judged_read q = refl

judged_refused : (k place column : ℕ) → printed_after (refused (told k place column)) ≡ prints k place 0 column
unfolding printed_after printed
judged_refused k place column = refl

-- Demands 1 and 2: for every file one answer, and it is allowed;
pub gate_prints : (s : List ℕ) → Prints s (gate s)
gate_prints s = go (gate_reads s) refl
  where
    of : (q : Request) (a : Answer) → gate_reads s ≡ result q → Settled within (start_of q) (steps_of q) a → Prints s (printed a (length q.steps))
    of q a e (grants d) = rw (printed_law 0 0 (length q.steps)) (answered e (grants d))
    of q a e (breaks {k = k} {place = place} b) = rw (printed_law k place (length q.steps)) (answered e (breaks b))

    go : (o : Outcome) → gate_reads s ≡ o → Prints s (gate s)
    go (result q) e = rw (gate_law s, e, judged_read q) (of q (steps_answer q) e ((steps_settled q (steps_answer q)).0 refl))
    go (refused (told k place column)) e = rw (gate_law s, e, judged_refused k place column) (unread e)

-- no other is allowed.
pub prints_gate : (s : List ℕ) (p : Printed) → Prints s p → gate s ≡ p
prints_gate s p (unread {k = k} {place = place} {column = column} e) = gate_law s ∙ ap printed_after e ∙ judged_refused k place column
prints_gate s p (answered {q = q} {k = k} {place = place} e f) =
    gate_law s ∙ ap printed_after e ∙ judged_read q ∙ ap (λ a. printed a (length q.steps)) ((steps_settled q (answer k place)).1 f) ∙
    printed_law k place (length q.steps)

-- A file that is granted: it reads to a request, and its steps are a derivation within the limits.
pub record Granting (s : List ℕ) (q : Request) : Type 0 where
  pub reads : gate_reads s ≡ result q
  pub derives : Derivation within (start_of q) (steps_of q)

-- Demand 2: granted exactly then.
pub gate_grants : (s : List ℕ) (q : Request) → Granting s q → gate s ≡ prints 0 0 (length q.steps) 0
gate_grants s q g = prints_gate s (prints 0 0 (length q.steps) 0) (answered g.reads (grants g.derives))

-- Demand 3.
pub gate_entails : (s : List ℕ) (q : Request) → Granting s q → Entailed q.logic q.principals q.atoms (policy_of q) (goal_of q)
gate_entails s q g =
    steps_entail q (read_unrefused s q (got (3 * most_formulas) most_policy_lines (2 * most_steps) s q g.reads).request)
    ((steps_settled q (answer 0 0)).1 (grants g.derives))

-- The gate is the judge on the tables that reading left.
pub gate_judges : (s : List ℕ) (q : Request) → gate_reads s ≡ result q →
    gate s ≡ printed (judge (lent_of (3 * most_formulas) most_policy_lines (2 * most_steps) q)) (length q.steps)
gate_judges s q e =
    let t = lent_of (3 * most_formulas) most_policy_lines (2 * most_steps) q in
    let d = read_fine (3 * most_formulas) most_policy_lines (2 * most_steps) s q e in
    let c = fine_checked t d.0 in
    let j : judge t ≡ steps_answer q = judge_law t ∙ ap (λ a. else a (steps_answer (request_of t))) c ∙
    else_passes 0 0 (steps_answer (request_of t)) ∙ ap steps_answer d.1 in
    gate_law s ∙ ap printed_after e ∙ judged_read q ∙ ap (λ a. printed a (length q.steps)) (sym j)

-- Requests that are alike begin with twins.
use Rattle.std.specs.Prelude.{ℕ, ◌<◌, ◌≡◌, [], ◌∷◌, length}
use Rattle.std.proofs.Common.{sym, ◌∙◌}
use Rattle.std.proofs.lemmas.List.{length-map}
use Rattle.scope.specs.File.Request.{Request}
use Rattle.scope.specs.Logic.Obligation.{lab, root_facts}
use Rattle.scope.specs.Call.Judge.{policy_of, goal_of, steps_of, start_of}
use Rattle.unused.specs.Alike.{Used, policy_line, LineAlike, Alike}
use Rattle.unused.specs.Twins.{Shared, Twins}
use Rattle.unused.specs.Starts.{line_fact, line_used, facts_same, at_root, clause_same, start_twins, policy_count}

pub starts_alike : (q r : Request) → Alike q r → Twins (λ i. Used i (steps_of q)) (start_of q ∷ []) (start_of r ∷ [])
unfolding start_of policy_line
starts_alike q r a =
    rw (← a.logic, ← a.principals, ← a.goal)
    (start_twins (λ i. Used i (steps_of q)) q.logic q.principals (policy_of q) (policy_of r) (goal_of q) facts clauses)
  where
    long : length (policy_of q) ≡ length (policy_of r)
    long = policy_count q ∙ a.count ∙ sym (policy_count r)

    each : (i : ℕ) → i < length (policy_of q) → LineAlike q r i
    each i b = a.policy i (rw (policy_count q) at b)

    facts : root_facts (policy_of q) ≡ root_facts (policy_of r)
    facts = facts_same (policy_of q) (policy_of r) long (λ i b. line_fact q r i (each i b))

    clauses : Shared (λ i. Used i (steps_of q)) (at_root (policy_of q)) (at_root (policy_of r))
    clauses =
        record {
          count = length-map (policy_of q) (λ f. lab f 0) ∙ long ∙ sym (length-map (policy_of r) (λ f. lab f 0));
          at = λ i u. clause_same (policy_of q) (policy_of r) i long (λ b. line_used (each i b) u);
        }

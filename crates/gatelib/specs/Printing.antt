-- The gate's answer by its two parts: the reader's refusal with no steps, or what the judge answers on the tables that reading left.
use Rattle.std.specs.Prelude.{ℕ, ◌*◌, ◌≡◌, refl, List, Ok, Err, length}
use Rattle.std.proofs.Common.{sym, ap, ◌∙◌}
use Rattle.scope.specs.Call.Result.{result, refused}
use Rattle.scope.specs.Call.Answer.{told}
use Rattle.scope.specs.File.Request.{Request}
use Rattle.scope.specs.Call.Answer as S
use Rattle.scope.specs.Limits.{most_formulas, most_policy_lines, most_steps}
use Rattle.scope.specs.File.Reader.{Outcome}
use Rattle.scope.specs.Call.Tables.{form_entry, policy_entry, step_entry, table, lent_of}
use Rattle.scope.specs.Call.Calls.{form_table_after, policy_table_after, step_table_after, request_in}
use Rattle.scope.specs.Call.Judge.{judge, prints, printed, gate}
use Rattle.scope.specs.Call.Judge as J
use Rattle.common.specs.declared.Counts.{Counts}
use Rattle.common.specs.declared.refused.Answer.{Answer as Returned}
use Rattle.checks.specs.Met.{lent_with}
use Rattle.reader.specs.Answers.{counts_of, reading_of, logic_back}
use Rattle.common.specs.Answers.{answer_of}
use Rattle.scope.specs.Tools.Tests.{never}
use Rattle.demands.specs.Gate.{gate_reads, gate_judges, prints_gate, unread}
use Rattle.gatelib.specs.declared.Printed.{Printed}

unfoldable pub printed_of : J.Printed → Printed
printed_of (prints k place n column) = record { answer = k; place = place; steps = n; column = column }

-- An answer with no steps read.
unfoldable pub unread_of : Returned → Printed
unread_of r = record { answer = r.refusal; place = r.place; steps = 0; column = r.column }

pub unread_prints : (s : List ℕ) (r : Returned) → reading_of (gate_reads s) ≡ Err r → unread_of r ≡ printed_of (gate s)
unfolding reading_of unread_of printed_of
unread_prints s r e = go (gate_reads s) refl e
  where
    go : (o : Outcome) → gate_reads s ≡ o → reading_of o ≡ Err r → unread_of r ≡ printed_of (gate s)
    go (result q) c d = never cc
    go (refused (told k place column)) c d =
        let same : answer_of (told k place column) ≡ r = cc in
        rw (prints_gate s (prints k place 0 column) (unread c)) (ap unread_of (sym same))

printed_answer : (a : S.Answer) (n : ℕ) →
    printed_of (printed a n) ≡ record { answer = (answer_of a).refusal; place = (answer_of a).place; steps = n; column = (answer_of a).column }
unfolding printed_of printed
printed_answer (S.told k place column) n = refl

-- The tables as reading leaves them, with the counts that it answers, say the request that was read.
pub lent_is : (forms policy steps : ℕ) (q : Request) →
    lent_with (counts_of q) (form_table_after forms (result q)) (policy_table_after policy (result q)) (step_table_after steps (result q)) ≡ lent_of forms policy steps q
unfolding form_table_after policy_table_after step_table_after request_in lent_of
lent_is forms policy steps q =
    λ i.
    record {
      version = q.version;
      logic = logic_back q.logic i;
      principals = q.principals;
      atoms = q.atoms;
      formulas = length q.forms;
      policy = length q.policy;
      goal = q.goal;
      steps = length q.steps;
      form_table = table form_entry forms q.forms;
      policy_table = table policy_entry policy q.policy;
      step_table = table step_entry steps q.steps;
    }

abbrev put : Returned → ℕ → Printed
put a n = record { answer = a.refusal; place = a.place; steps = n; column = a.column }

-- What the gate puts together from the judge's answer and the count of steps.
pub read_prints : (s : List ℕ) (c : Counts) (forms policy steps : List ℕ) (a : Returned) → reading_of (gate_reads s) ≡ Ok c →
    forms ≡ form_table_after (3 * most_formulas) (gate_reads s) → policy ≡ policy_table_after most_policy_lines (gate_reads s) → steps ≡ step_table_after (2 * most_steps) (gate_reads s) →
    a ≡ answer_of (judge (lent_with c forms policy steps)) → put a c.steps ≡ printed_of (gate s)
unfolding reading_of
read_prints s c forms policy steps a e f l p j = go (gate_reads s) refl e
  where
    go : (o : Outcome) → gate_reads s ≡ o → reading_of o ≡ Ok c → put a c.steps ≡ printed_of (gate s)
    go (refused (told k place column)) d h = never cc
    go (result q) d h =
        let k : counts_of q ≡ c = cc in
        let t : lent_with c forms policy steps ≡ lent_of (3 * most_formulas) most_policy_lines (2 * most_steps) q =
        ap (λ x. lent_with x forms policy steps) (sym k) ∙
        ap (λ x. lent_with (counts_of q) x policy steps) (f ∙ ap (form_table_after (3 * most_formulas)) d) ∙
        ap (λ x. lent_with (counts_of q) (form_table_after (3 * most_formulas) (result q)) x steps) (l ∙ ap (policy_table_after most_policy_lines) d) ∙
        ap
        (λ x. lent_with (counts_of q) (form_table_after (3 * most_formulas) (result q)) (policy_table_after most_policy_lines (result q)) x)
        (p ∙ ap (step_table_after (2 * most_steps)) d) ∙
        lent_is (3 * most_formulas) most_policy_lines (2 * most_steps) q in
        let b = judge (lent_of (3 * most_formulas) most_policy_lines (2 * most_steps) q) in
        let z : a ≡ answer_of b = j ∙ ap (λ x. answer_of (judge x)) t in
        ap (λ x. put x c.steps) z ∙
        ap (λ (x : Counts). put (answer_of b) x.steps) (sym k) ∙
        sym (printed_answer b (length q.steps)) ∙
        sym (ap printed_of (gate_judges s q d))

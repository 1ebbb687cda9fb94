-- The three tables: what a request without refusal leaves in them gives the request back, and tables that pass the checks stand as
-- reading would leave them.
use Rattle.std.specs.Prelude.{ℕ, ◌*◌, ◌≤◌, ◌≡◌, List, [], ◌∷◌, true, length, drop}
use Rattle.std.proofs.Common.{arith}
use Rattle.scope.specs.Logic.Form.{both}
use Rattle.scope.specs.File.Request.{Request}
use Rattle.scope.specs.Call.Tables.{Lent, form_entry, policy_entry, step_entry, table, request_of, lent_of}
use Rattle.scope.specs.Call.Checked.{all_zero, past_zero}
use Rattle.scope.specs.Tools.Unpack.{unpack_length}
use Rattle.scope.specs.Tools.Tests.{both_true, both_met}
use Rattle.trip.specs.Small.{count_passed}
use Rattle.trip.specs.File.{Unrefused}
use Rattle.trip.specs.Packing.{All, none_left, one_more, table_back, table_there, table_past, table_length}
use Rattle.trip.specs.Entries.{Any, form_laid, line_laid, step_laid, step_right, each_all, Roomy, Said}

-- The counts of a request without refusal.
record Sized (q : Request) : Type 0 where
  forms : length q.forms ≤ 1024
  policy : length q.policy ≤ 128
  steps : length q.steps ≤ 2048

sized : (q : Request) → Unrefused q → Sized q
sized q g =
    record {
      forms = (count_passed 1 1024 (length q.forms) g.formulas).high;
      policy = (count_passed 0 128 (length q.policy) g.clauses).high;
      steps = (count_passed 1 2048 (length q.steps) g.step_count).high;
    }

one_times : (n : ℕ) → 1 * n ≡ n
one_times n = omega arith

-- Tables that pass stand as reading their request would leave them.
pub lent_back :
    (t : Lent) → Roomy (length t.form_table) (length t.policy_table) (length t.step_table) → Unrefused (request_of t) → past_zero t ≡ true
    → lent_of (length t.form_table) (length t.policy_table) (length t.step_table) (request_of t) ≡ t
unfolding lent_of request_of past_zero
lent_back t room g past =
    let s = sized (request_of t) g in
    let a = both_true (all_zero (drop (3 * t.formulas) t.form_table)) (both (all_zero (drop t.policy t.policy_table)) (all_zero (drop (2 * t.steps) t.step_table))) past in
    let b = both_true (all_zero (drop t.policy t.policy_table)) (all_zero (drop (2 * t.steps) t.step_table)) a.1 in
    let nf = unpack_length form_entry t.formulas t.form_table in
    let nl = unpack_length policy_entry t.policy t.policy_table in
    let ns = unpack_length step_entry t.steps t.step_table in
    let hf : 3 * t.formulas ≤ length t.form_table = omega (arith, s.forms, room.for_forms) in
    let hl : 1 * t.policy ≤ length t.policy_table = omega (arith, s.policy, room.for_lines) in
    let hs : 2 * t.steps ≤ length t.step_table = omega (arith, s.steps, room.for_steps) in
    let zl : all_zero (drop (1 * t.policy) t.policy_table) ≡ true = rw (one_times t.policy) b.0 in
    let ft = table_back form_entry Any form_laid t.formulas t.form_table hf a.0 in
    let lt = table_back policy_entry Any line_laid t.policy t.policy_table hl zl in
    let st = table_back step_entry (λ r. r.right ≡ 0) step_laid t.steps t.step_table hs b.1 in
    λ i.
    record {
      version = t.version;
      logic = t.logic;
      principals = t.principals;
      atoms = t.atoms;
      formulas = nf i;
      policy = nl i;
      goal = t.goal;
      steps = ns i;
      form_table = ft i;
      policy_table = lt i;
      step_table = st i;
    }

any_each : {A : Type 0} (xs : List A) → All Any xs
any_each [] = none_left
any_each (x ∷ xs) = one_more tt (any_each xs)

pub said : (forms policy steps : ℕ) (q : Request) → Roomy forms policy steps → Unrefused q → Said forms policy steps q
unfolding lent_of request_of past_zero
said lf ll ls q room g =
    let s = sized q g in
    let fb = table_there form_entry Any form_laid lf q.forms (any_each q.forms) in
    let lb = table_there policy_entry Any line_laid ll q.policy (any_each q.policy) in
    let sb = table_there step_entry (λ r. r.right ≡ 0) step_laid ls q.steps (each_all (λ b r e. step_right r e) g.steps) in
    let zl : all_zero (drop (length q.policy) (table policy_entry ll q.policy)) ≡ true =
    rw one_times at (table_past policy_entry Any line_laid ll q.policy) in
    record {
      back = λ i. record { version = q.version; logic = q.logic; principals = q.principals; atoms = q.atoms; forms = fb i; policy = lb i; goal = q.goal; steps = sb i };
      form_room_lem = table_length form_entry Any form_laid lf q.forms (omega (arith, s.forms, room.for_forms));
      line_room_lem = table_length policy_entry Any line_laid ll q.policy (omega (arith, s.policy, room.for_lines));
      step_room = table_length step_entry (λ r. r.right ≡ 0) step_laid ls q.steps (omega (arith, s.steps, room.for_steps));
      past = both_met _ _ (table_past form_entry Any form_laid lf q.forms) (both_met _ _ zl (table_past step_entry (λ r. r.right ≡ 0) step_laid ls q.steps));
    }

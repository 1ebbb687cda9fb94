-- The round trip as calls, from what `peraduksi_read` and `peraduksi_write` ensure and nothing else: reading what was written gives counts,
-- goal and tables back, and writing what was read gives the file back. And each of the two contracts allows one result only.
use Rattle.std.specs.Prelude.{ℕ, zero, suc, ◌-◌, ◌≤◌, ◌<◌, ◌≡◌, refl, List, Bool, true, false, cond, leb, length, take, replicate}
use Rattle.std.proofs.Common.{arith, ap, sym, ◌∙◌}
use Rattle.std.proofs.Math.Seq.{take-append_seam}
use Rattle.scope.specs.Call.Result.{result, refused, result_answer}
use Rattle.scope.specs.Call.Answer.{Answer, told, answer, refusal_in, place_in, column_in}
use Rattle.scope.specs.File.Request.{Request}
use Rattle.scope.specs.File.Kinds.{logic_number, logic_of}
use Rattle.scope.specs.File.Text.{request_text}
use Rattle.scope.specs.File.Reader.{Outcome}
use Rattle.scope.specs.Call.Tables.{Lent, request_of, lent_of, padded}
use Rattle.scope.specs.Call.Checked.{checked}
use Rattle.scope.specs.Call.Calls.{written_if, writing, text_in, output_after, reading, request_in, form_table_after, policy_table_after, step_table_after, lent_after}
use Rattle.trip.proofs.Statements.{trip_write, trip_read}
use Rattle.demands.proofs.Ranges.{reading_firm}
use Rattle.common.specs.declared.Counts.{Counts}
use Rattle.checks.specs.Met.{lent_with}
use Rattle.reader.specs.Answers.{counts_of}
use Rattle.gatelib.specs.Printing.{lent_is}
use Rattle.writer.specs.declared.Writing.{Writing}
use Rattle.writer.specs.Writing.{writing_of, writing_is}
use Rattle.peraduksi.specs.declared.Read.{Read}
use Rattle.peraduksi.specs.Read.{read_of}

-- What `peraduksi_write` ensures, line by line: its answer, and the output after the call.
pub record Wrote (counts : Counts) (forms policy steps out : List ℕ) (r : Writing) (outAfter : List ℕ) : Type 0 where
  pub answered : r ≡ writing_of (writing (lent_with counts forms policy steps) (length out))
  pub output : outAfter ≡ output_after (length out) (writing (lent_with counts forms policy steps) (length out))

-- What `peraduksi_read` ensures, line by line: its answer, and the three tables after the call.
pub record DidRead (text forms policy steps : List ℕ) (r : Read) (forms_after policyAfter stepsAfter : List ℕ) : Type 0 where
  pub answered : r ≡ read_of (reading (length forms) (length policy) (length steps) text)
  pub forms_left : forms_after ≡ form_table_after (length forms) (reading (length forms) (length policy) (length steps) text)
  pub policy_left : policyAfter ≡ policy_table_after (length policy) (reading (length forms) (length policy) (length steps) text)
  pub steps_left : stepsAfter ≡ step_table_after (length steps) (reading (length forms) (length policy) (length steps) text)

-- Results that are equal to the same are equal: a contract of equations allows one result only.
one_only : {A : Type 0} {a x y : A} → x ≡ a → y ≡ a → x ≡ y
one_only d e = d ∙ sym e

pub one_writing : {counts : Counts} {forms policy steps out : List ℕ} {r r' : Writing} {o o' : List ℕ} →
    Wrote counts forms policy steps out r o → Wrote counts forms policy steps out r' o' → (r ≡ r') × (o ≡ o')
one_writing a b = (one_only a.answered b.answered, one_only a.output b.output)

pub one_reading : {text forms policy steps : List ℕ} {r r' : Read} {f f' p p' s s' : List ℕ} →
    DidRead text forms policy steps r f p s → DidRead text forms policy steps r' f' p' s' → (r ≡ r') × (f ≡ f') × (p ≡ p') × (s ≡ s')
one_reading a b = (
  one_only a.answered b.answered,
  one_only a.forms_left b.forms_left,
  one_only a.policy_left b.policy_left,
  one_only a.steps_left b.steps_left,
)

picked : (b : Bool) (s : List ℕ) → refusal_in (result_answer (cond b (result s) (refused (answer 14 0)))) ≡ 0 →
    cond b (result s) (refused (answer 14 0)) ≡ result (text_in (cond b (result s) (refused (answer 14 0))))
unfolding refusal_in result_answer text_in
picked true s e = refl
picked false s e = absurd (omega arith)

if_none : (a : Answer) (s : List ℕ) (len : ℕ) → refusal_in (result_answer (written_if a s len)) ≡ 0 → written_if a s len ≡ result (text_in (written_if a s len))
unfolding written_if refusal_in result_answer
if_none (told zero place column) s len e = picked (leb (length s) len) s e
if_none (told (suc k) place column) s len e = absurd (omega arith)

-- Refusal 0 is answered of a written text alone.
fine_written : (t : Lent) (len : ℕ) → refusal_in (result_answer (writing t len)) ≡ 0 → writing t len ≡ result (text_in (writing t len))
fine_written t len e =
    rw (writing_is t len) (if_none (checked t) (request_text (request_of t)) len (rw (writing_is t len) at e))

-- The bytes that the answer counts are the text.
text_stands : {counts : Counts} {forms policy steps out : List ℕ} {r : Writing} {o : List ℕ} → Wrote counts forms policy steps out r o →
    take r.length o ≡ text_in (writing (lent_with counts forms policy steps) (length out))
unfolding writing_of output_after padded
text_stands {counts} {forms} {policy} {steps} {out} {r} {o} w =
    let s = text_in (writing (lent_with counts forms policy steps) (length out)) in
    ap (λ (x : Writing). take x.length o) w.answered ∙
    ap (take (length s)) w.output ∙
    take-append_seam s (replicate (length out - length s) 0)

-- Counts, goal and tables as a reading of a request leaves them.
left_counts : (t : Lent) (q : Request) (f p s : ℕ) → lent_of f p s q ≡ t → counts_of q
    ≡ record {
      version = t.version;
      logic = logic_number t.logic;
      principals = t.principals;
      atoms = t.atoms;
      formulas = t.formulas;
      policy = t.policy;
      goal = t.goal;
      steps = t.steps;
    }
unfolding lent_of
left_counts t q f p s e =
    λ i.
    record {
      version = (e i).version;
      logic = logic_number (e i).logic;
      principals = (e i).principals;
      atoms = (e i).atoms;
      formulas = (e i).formulas;
      policy = (e i).policy;
      goal = (e i).goal;
      steps = (e i).steps;
    }

-- The counts with 1 for every number that tells unit: the very counts, where the logic is told by 0 or 1.
abbrev pub said : Counts → Counts
said c =
    record {
      version = c.version;
      logic = logic_number (logic_of c.logic);
      principals = c.principals;
      atoms = c.atoms;
      formulas = c.formulas;
      policy = c.policy;
      goal = c.goal;
      steps = c.steps;
    }

pub said_same : (c : Counts) → c.logic ≤ 1 → said c ≡ c
unfolding logic_of
said_same c h =
    let z = same c.logic h in
    λ i.
    record {
      version = c.version;
      logic = z i;
      principals = c.principals;
      atoms = c.atoms;
      formulas = c.formulas;
      policy = c.policy;
      goal = c.goal;
      steps = c.steps;
    }
  where
    same : (n : ℕ) → n ≤ 1 → logic_number (logic_of n) ≡ n
    same zero k = refl
    same (suc zero) k = refl
    same (suc (suc n)) k = absurd (omega arith)

-- Reading what was written, into tables of the same lengths, gives version, logic, counts, goal and tables back.
pub written_reads : {counts : Counts} {forms policy steps out : List ℕ} {w : Writing} {o : List ℕ} {forms₀ policy₀ steps₀ : List ℕ} {r : Read}
    {f p s : List ℕ} →
    Wrote counts forms policy steps out w o → w.refusal ≡ 0 →
    length forms₀ ≡ length forms → length policy₀ ≡ length policy → length steps₀ ≡ length steps →
    DidRead (take w.length o) forms₀ policy₀ steps₀ r f p s →
    (r ≡ record { refusal = 0; place = 0; column = 0; counts = said counts }) × (f ≡ forms) × (p ≡ policy) × (s ≡ steps)
unfolding writing_of read_of refusal_in place_in column_in result_answer request_in lent_after lent_of form_table_after policy_table_after step_table_after
written_reads {counts} {forms} {policy} {steps} {out} {w} {o} {forms₀} {policy₀} {steps₀} {r} {f} {p} {s} a e lf lp ls d =
    let t = lent_with counts forms policy steps in
    let text = take w.length o in
    let none : refusal_in (result_answer (writing t (length out))) ≡ 0 = sym (ap (λ (x : Writing). x.refusal) a.answered) ∙ e in
    let back = trip_write t (length out) (text_in (writing t (length out))) (fine_written t (length out) none) in
    let same : reading (length forms₀) (length policy₀) (length steps₀) text ≡ result (request_of t) =
    (λ i. reading (lf i) (lp i) (ls i) (text_stands a i)) ∙ back.0 in
    let whole : lent_of (length forms) (length policy) (length steps) (request_of t) ≡ t =
    sym (ap (lent_after (length forms) (length policy) (length steps)) back.0) ∙ back.1 in (
      d.answered ∙ ap read_of same ∙
          ap (λ (c : Counts). record { refusal = 0; place = 0; column = 0; counts = c }) (left_counts t (request_of t) (length forms) (length policy) (length steps) whole),
      d.forms_left ∙ (λ i. form_table_after (lf i) (same i)) ∙ ap (λ (x : Lent). x.form_table) whole,
      d.policy_left ∙ (λ i. policy_table_after (lp i) (same i)) ∙ ap (λ (x : Lent). x.policy_table) whole,
      d.steps_left ∙ (λ i. step_table_after (ls i) (same i)) ∙ ap (λ (x : Lent). x.step_table) whole,
    )

-- Writing what was read gives the file back, where the output has room for it.
pub read_writes : {text forms policy steps : List ℕ} {r : Read} {f p s out : List ℕ} {w : Writing} {o : List ℕ} →
    DidRead text forms policy steps r f p s → r.refusal ≡ 0 → length text ≤ length out → Wrote r.counts f p s out w o →
    (w ≡ record { refusal = 0; place = 0; length = length text }) × (o ≡ padded (length out) text)
unfolding writing_of result_answer text_in refusal_in place_in column_in output_after read_of request_in lent_after lent_of form_table_after policy_table_after step_table_after
read_writes {text} {forms} {policy} {steps} {r} {f} {p} {s} {out} {w} {o} d e h a =
    go (reading (length forms) (length policy) (length steps) text) refl
  where
    go : (x : Outcome) → reading (length forms) (length policy) (length steps) text ≡ x →
        (w ≡ record { refusal = 0; place = 0; length = length text }) × (o ≡ padded (length out) text)
    go (refused (told k place column)) g =
        let firm : 0 < k = reading_firm (length forms) (length policy) (length steps) text k place column g in
        let zero : k ≡ 0 = sym (ap (λ (x : Read). x.refusal) (d.answered ∙ ap read_of g)) ∙ e in
        absurd (omega arith)
    go (result q) g =
        let counts : r.counts ≡ counts_of q = ap (λ (x : Read). x.counts) (d.answered ∙ ap read_of g) in
        let forms_are = d.forms_left ∙ ap (form_table_after (length forms)) g in
        let policy_is = d.policy_left ∙ ap (policy_table_after (length policy)) g in
        let steps_are = d.steps_left ∙ ap (step_table_after (length steps)) g in
        let whole : lent_with r.counts f p s ≡ lent_after (length forms) (length policy) (length steps) (result q) =
        (λ i. lent_with (counts i) (forms_are i) (policy_is i) (steps_are i)) ∙ lent_is (length forms) (length policy) (length steps) q in
        let x : writing (lent_with r.counts f p s) (length out) ≡ result text =
        ap (λ (t : Lent). writing t (length out)) whole ∙ trip_read (length forms) (length policy) (length steps) (length out) text q g h in
        (a.answered ∙ ap writing_of x, a.output ∙ ap (output_after (length out)) x)

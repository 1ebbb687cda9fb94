-- The outcome of a whole file from the answers about its sections, and of a call from the outcome of the file.
use Rattle.std.specs.Prelude.{ℕ, ◌*◌, ◌≤◌, ◌<◌, ◌≡◌, Bool, true, false, List, [], ◌∷◌, length, replicate, leb, Ok, Err}
use Rattle.std.proofs.Common.{arith, sym, ◌∙◌, leb-true, le-leb}
use Rattle.std.proofs.lemmas.Bool.{lt-leb}
use Rattle.std.proofs.lemmas.List.{length-replicate}
use Rattle.std.proofs.Math.Path.{refl, ap}
use Rattle.scope.specs.Call.Result.{result, refused}
use Rattle.scope.specs.Call.Answer.{Answer, answer}
use Rattle.scope.specs.Tools.Tests.{never}
use Rattle.scope.specs.Logic.Form.{both}
use Rattle.scope.specs.File.Request.{Row, Request}
use Rattle.scope.specs.File.Line.{ok, bad, and_then, ◌>>=◌}
use Rattle.scope.specs.Limits.{most_bytes, most_formulas, most_policy_lines, most_steps, end_at}
use Rattle.scope.specs.File.Reader.{Outcome, read_request}
use Rattle.scope.specs.Call.Tables.{form_entry, policy_entry, step_entry, table, unpack, has_room}
use Rattle.scope.specs.Call.Calls.{reading, request_in, form_table_after, policy_table_after, step_table_after}
use Rattle.reader.specs.Sections.{Counted, Formulas, PolicyRead, formulas_part, policy_part, steps_part}
use Rattle.common.specs.Answers.{answer_of}
use Rattle.common.specs.declared.Counts.{Counts}
use Rattle.common.specs.declared.refused.Answer.{Answer as Returned}
use Rattle.reader.specs.Answers.{reading_of, PartKept, formulas_of, forms_of, policy_of, lines_of, count_of, rows_of, Zero, Kept}
use Rattle.reader.specs.Stored.{table_none, unpack_table}
use Rattle.reader.specs.declared.parts.Head.{Head}
use Rattle.reader.specs.declared.parts.Policy.{Policy}
use Rattle.reader.specs.Whole.{request_with, body_ended, body_request, sections, body_sections}

module _ (t : List ℕ) where
  read_refused : (z : Answer) → sections t ≡ bad z → body_request t ≡ refused z
  unfolding body_request body_ended
  read_refused z e = rw (body_sections t, e) refl

  read_over : (q : Request) (v : List ℕ) → sections t ≡ ok q v → 0 < length v → body_request t ≡ refused (answer 6
      (end_at (length q.forms) (length q.policy) (length q.steps)))
  unfolding body_request body_ended
  read_over q [] e h = absurd (omega arith)
  read_over q (b ∷ v) e h = rw (body_sections t, e) refl

  read_whole : (q : Request) (v : List ℕ) → sections t ≡ ok q v → length v ≡ 0 → body_request t ≡ result q
  unfolding body_request body_ended
  read_whole q [] e h = rw (body_sections t, e) refl
  read_whole q (b ∷ v) e h = absurd (omega arith)

  stops_formulas : (z : Answer) → formulas_part t ≡ bad z → sections t ≡ bad z
  unfolding sections ◌>>=◌ and_then
  stops_formulas z a = rw a refl

  -- The first refusal is the answer.
  pub file_at_formulas : (z : Answer) → formulas_part t ≡ bad z → body_request t ≡ refused z
  file_at_formulas z a = read_refused z (stops_formulas z a)

  module _ (f : Formulas) (s : List ℕ) (a : formulas_part t ≡ ok f s) where
    stops_policy : (z : Answer) → policy_part f.forms s ≡ bad z → sections t ≡ bad z
    unfolding sections ◌>>=◌ and_then
    stops_policy z b = rw a (rw b refl)

    pub file_at_policy : (z : Answer) → policy_part f.forms s ≡ bad z → body_request t ≡ refused z
    file_at_policy z b = read_refused z (stops_policy z b)

    module _ (p : PolicyRead) (u : List ℕ) (b : policy_part f.forms s ≡ ok p u) where
      stops_steps : (z : Answer) → steps_part (length f.forms) (length p.policy) u ≡ bad z → sections t ≡ bad z
      unfolding sections ◌>>=◌ and_then
      stops_steps z c = rw a (rw b (rw c refl))

      pub file_at_steps : (z : Answer) → steps_part (length f.forms) (length p.policy) u ≡ bad z → body_request t ≡ refused z
      file_at_steps z c = read_refused z (stops_steps z c)

      module _ (rows : List Row) (v : List ℕ) (c : steps_part (length f.forms) (length p.policy) u ≡ ok rows v) where
        all_lines : sections t ≡ ok (request_with f p rows) v
        unfolding sections ◌>>=◌ and_then
        all_lines = rw a (rw b (rw c refl))

        pub file_over : 0 < length v → body_request t ≡ refused (answer 6 (end_at (length f.forms) (length p.policy) (length rows)))
        file_over h = read_over (request_with f p rows) v all_lines h

        pub file_whole : length v ≡ 0 → body_request t ≡ result (request_with f p rows)
        file_whole h = read_whole (request_with f p rows) v all_lines h

-- The same of a file whose parts the code has read.
module _ (t : List ℕ) (head : Head) (s forms : List ℕ) (f : PartKept formulas_of forms_of (formulas_part t) head s forms) where
  many_forms : head.formulas ≡ length f.thing.forms
  many_forms = ap (λ (h : Counted). h.formulas) f.seen

  rows_are : unpack form_entry head.formulas forms ≡ f.thing.forms
  rows_are = ap (unpack form_entry head.formulas) f.stored ∙ unpack_table (length forms) f.thing.forms head.formulas many_forms

  policy_is : policy_part (unpack form_entry head.formulas forms) s ≡ policy_part f.thing.forms s
  policy_is = ap (λ rows. policy_part rows s) rows_are

  pub body_at_policy : (z : Answer) → policy_part (unpack form_entry head.formulas forms) s ≡ bad z → body_request t ≡ refused z
  body_at_policy z e = file_at_policy t f.thing s f.is z (sym policy_is ∙ e)

  module _ (lines : Policy) (u policy : List ℕ)
      (p : PartKept policy_of lines_of (policy_part (unpack form_entry head.formulas forms) s) lines u policy) where
    many_lines : lines.clauses ≡ length p.thing.policy
    many_lines = ap (λ (l : Policy). l.clauses) p.seen

    steps_is : steps_part head.formulas lines.clauses u ≡ steps_part (length f.thing.forms) (length p.thing.policy) u
    steps_is = λ i. steps_part (many_forms i) (many_lines i) u

    pub body_at_steps : (z : Answer) → steps_part head.formulas lines.clauses u ≡ bad z → body_request t ≡ refused z
    body_at_steps z e = file_at_steps t f.thing s f.is p.thing u (sym policy_is ∙ p.is) z (sym steps_is ∙ e)

    module _ (count : ℕ) (v steps : List ℕ) (r : PartKept count_of rows_of (steps_part head.formulas lines.clauses u) count v steps) where
      pub body_over : 0 < length v → body_request t ≡ refused (answer 6 (end_at head.formulas lines.clauses count))
      body_over h =
          file_over t f.thing s f.is p.thing u (sym policy_is ∙ p.is) r.thing v (sym steps_is ∙ r.is) h ∙
          (λ i. refused (answer 6 (end_at (sym many_forms i) (sym many_lines i) (sym r.seen i))))

      pub body_kept : length v ≡ 0 →
          Kept (body_request t)
          record { version = 0; logic = 0; principals = head.principals; atoms = head.atoms; formulas = head.formulas; policy = lines.clauses; goal = lines.goal; steps = count }
          forms policy steps
      body_kept h =
          record {
            request = request_with f.thing p.thing r.thing;
            is = file_whole t f.thing s f.is p.thing u (sym policy_is ∙ p.is) r.thing v (sym steps_is ∙ r.is) h;
            counted =
                λ i. record {
                  version = 0;
                  logic = 0;
                  principals = (f.seen i).principals;
                  atoms = (f.seen i).atoms;
                  formulas = (f.seen i).formulas;
                  policy = (p.seen i).clauses;
                  goal = (p.seen i).goal;
                  steps = r.seen i;
                };
            forms_stored = f.stored;
            policy_stored = p.stored;
            steps_stored = r.stored;
          }

-- What is answered of an outcome.
pub refused_reading : (o : Outcome) (z : Answer) (x : Returned) → o ≡ refused z → x ≡ answer_of z → Err x ≡ reading_of o
unfolding reading_of
refused_reading o z x e d = rw (e, d) refl

pub kept_reading : (o : Outcome) (c : Counts) (forms policy steps : List ℕ) → Kept o c forms policy steps → Ok c ≡ reading_of o
unfolding reading_of
kept_reading o c forms policy steps k = rw k.is (ap Ok k.counted)

-- 'Order: 13, 1, then lines in order.'
module _ (forms policy steps : ℕ) (s : List ℕ) where
  pub no_room : has_room forms policy steps ≡ false → reading forms policy steps s ≡ refused (answer 13 0)
  unfolding reading
  no_room e = rw e refl

  pub too_long : has_room forms policy steps ≡ true → most_bytes < length s → reading forms policy steps s ≡ refused (answer 1 0)
  unfolding reading
  too_long e h = rw (e, lt-leb (length s) most_bytes h) refl

  pub in_order_lem : has_room forms policy steps ≡ true → length s ≤ most_bytes → reading forms policy steps s ≡ read_request s
  unfolding reading
  in_order_lem e h = rw (e, le-leb (length s) most_bytes h) refl

-- The tables after a refusal, and after a request was read.
module _ (len : ℕ) (o : Outcome) where
  pub forms_zero : (z : Answer) → o ≡ refused z → replicate len 0 ≡ form_table_after len o
  unfolding form_table_after request_in
  forms_zero z e = rw e (sym (table_none form_entry len))

  pub lines_zero : (z : Answer) → o ≡ refused z → replicate len 0 ≡ policy_table_after len o
  unfolding policy_table_after request_in
  lines_zero z e = rw e (sym (table_none policy_entry len))

  pub steps_zero : (z : Answer) → o ≡ refused z → replicate len 0 ≡ step_table_after len o
  unfolding step_table_after request_in
  steps_zero z e = rw e (sym (table_none step_entry len))

  pub forms_stored : (q : Request) → o ≡ result q → table form_entry len q.forms ≡ form_table_after len o
  unfolding form_table_after request_in
  forms_stored q e = rw e refl

  pub lines_stored : (q : Request) → o ≡ result q → table policy_entry len q.policy ≡ policy_table_after len o
  unfolding policy_table_after request_in
  lines_stored q e = rw e refl

  pub steps_stored : (q : Request) → o ≡ result q → table step_entry len q.steps ≡ step_table_after len o
  unfolding step_table_after request_in
  steps_stored q e = rw e refl

-- The same of the lent tables as the code left them: zero, or with what was read.
module _ (len : ℕ) (o : Outcome) (t : List ℕ) where
  module _ (m : ℕ) (z : Answer) (zero : t ≡ replicate m 0) (long : m ≡ len) (e : o ≡ refused z) where
    filled : t ≡ replicate len 0
    filled = zero ∙ ap (λ n. replicate n 0) long

    pub forms_clear : t ≡ form_table_after len o
    forms_clear = filled ∙ forms_zero len o z e

    pub lines_clear : t ≡ policy_table_after len o
    lines_clear = filled ∙ lines_zero len o z e

    pub steps_clear : t ≡ step_table_after len o
    steps_clear = filled ∙ steps_zero len o z e

  module _ (q : Request) (long : length t ≡ len) (e : o ≡ result q) where
    pub forms_kept : t ≡ table form_entry (length t) q.forms → t ≡ form_table_after len o
    forms_kept is = is ∙ ap (λ n. table form_entry n q.forms) long ∙ forms_stored len o q e

    pub lines_kept : t ≡ table policy_entry (length t) q.policy → t ≡ policy_table_after len o
    lines_kept is = is ∙ ap (λ n. table policy_entry n q.policy) long ∙ lines_stored len o q e

    pub steps_kept : t ≡ table step_entry (length t) q.steps → t ≡ step_table_after len o
    steps_kept is = is ∙ ap (λ n. table step_entry n q.steps) long ∙ steps_stored len o q e

-- A table that was filled with zeros.
pub zero_is : (n len : ℕ) (t : List ℕ) → t ≡ replicate len 0 → n ≤ len → Zero n t
zero_is n len t e h =
    let l : length t ≡ len = ap length e ∙ length-replicate {A = ℕ} len 0 in
    record { room = omega arith; zero = e ∙ ap (λ m. replicate m 0) (sym l) }

-- Room for the largest counts.
pub record Room (forms policy steps : ℕ) : Type 0 where
  pub form_room : (3 * most_formulas) ≤ forms
  pub line_room : most_policy_lines ≤ policy
  pub step_room : (2 * most_steps) ≤ steps

pub room_is : (forms policy steps : ℕ) → has_room forms policy steps ≡ true → Room forms policy steps
unfolding has_room both
room_is forms policy steps e = go (leb (3 * most_formulas) forms) (leb most_policy_lines policy) (leb (2 * most_steps) steps) refl refl refl e
  where
    go : (a b c : Bool) → leb (3 * most_formulas) forms ≡ a → leb most_policy_lines policy ≡ b → leb (2 * most_steps) steps ≡ c → both a (both b c) ≡ true → Room forms policy steps
    go true true true p q r e = record { form_room = leb-true (3 * most_formulas) forms p; line_room = leb-true most_policy_lines policy q; step_room = leb-true (2 * most_steps) steps r }
    go true true false p q r e = never cc
    go true false c p q r e = never cc
    go false b c p q r e = never cc

-- The numbers, places and columns of refusals before the steps, as document 01's table 'What comes back' has them.
--     reading_range : reading forms lines steps s ≡ refused (told k place column) → ByReading s k place column
--     checked_range : checked t ≡ told (suc k) place column → ByChecks (suc k) place × (column ≡ 0)
--     writing_range : writing t len ≡ refused (told k place column) → ByWriting k place × (column ≡ 0)
-- So reading refuses 1 to 6, 13 or 15 (`read_number`), and no refusal has number 0 (`reading_firm`): proofs/Ranges.
use Rattle.std.specs.Prelude.{ℕ, zero, suc, ◌+◌, ◌<◌, ◌≤◌, ◌≡◌, refl, Bool, true, false, cond, List, [], ◌∷◌, ◌++◌, map, ◌⊎◌, leb, eqb, length}
use Rattle.std.proofs.Common.{inl, inr, arith}
use Rattle.scope.specs.Call.Result.{result, refused}
use Rattle.scope.specs.Logic.Facts.{is_unit}
use Rattle.scope.specs.Logic.Form.{both, negate}
use Rattle.scope.specs.File.Request.{Request}
use Rattle.scope.specs.File.Refusals.{demand, unit_refusal, form_refusal, clause_refusal, step_refusal}
use Rattle.scope.specs.File.Reader.{read_request}
use Rattle.scope.specs.File.Text.{request_text}
use Rattle.scope.specs.Limits.{most_bytes, most_version, extra_lines, most_principals, most_atoms, most_formulas, most_policy_lines, most_steps, form_at, clause_at, step_at}
use Rattle.scope.specs.Call.Answer.{Answer, told, answer, further_down}
use Rattle.scope.specs.Call.Tables.{Lent, has_room, request_of}
use Rattle.scope.specs.Call.Checked.{first_met, each_of, body_answers, line_answers, past_zero, checked}
use Rattle.scope.specs.Call.Calls.{reading, written_if, writing}
use Rattle.scope.specs.Tools.Tests.{never}
use Rattle.trip.specs.LineRefusals.{InShape, range, later, twice, class, OfLine, shape, in_shape_lem, Mild, count_mild, form_mild, clause_mild, goal_mild, step_mild}
use Rattle.trip.specs.Places.{Where, of_line, of_rest}
use Rattle.trip.proofs.Places.{refused_where}

-- Of reading: 13 and 1 at place 0; 2 to 5 and 15 at the line that met it, and 6 at the line behind the last (`Where`). Only 2 has a column.
pub data ByReading (s : List ℕ) (k place column : ℕ) : Type 0 where
  no_room : k ≡ 13 → place ≡ 0 → column ≡ 0 → ByReading s k place column
  too_long : k ≡ 1 → place ≡ 0 → column ≡ 0 → ByReading s k place column
  at_line : Where s k place column → ByReading s k place column

-- Of lent tables: 13 and 16 at place 0; 3, 4, 15 or 5 at a line; 3 at place 0.
pub data ByChecks (k place : ℕ) : Type 0 where
  no_room : k ≡ 13 → place ≡ 0 → ByChecks k place
  unit_told : k ≡ 16 → place ≡ 0 → ByChecks k place
  at_line : InShape k → 0 < place → ByChecks k place
  past_counts : k ≡ 3 → place ≡ 0 → ByChecks k place

-- Of writing: those, or 14 at place 0.
pub data ByWriting (k place : ℕ) : Type 0 where
  by_checks : ByChecks k place → ByWriting k place
  no_output : k ≡ 14 → place ≡ 0 → ByWriting k place

-- Reading.
pub reading_range : (forms lines steps : ℕ) (s : List ℕ) (k place column : ℕ) → reading forms lines steps s ≡ refused (told k place column) →
    ByReading s k place column
unfolding reading
reading_range f l n s k place column e = go (has_room f l n) (leb (length s) most_bytes) e
  where
    go : (a b : Bool) → cond a (cond b (read_request s) (refused (answer 1 0))) (refused (answer 13 0)) ≡ refused (told k place column) →
        ByReading s k place column
    go true true d = at_line (refused_where s k place column d)
    go true false d = too_long (cc) (cc) (cc)
    go false b d = no_room (cc) (cc) (cc)

-- A number of document 01's table between two others, or 15.
abbrev pub Between : ℕ → ℕ → ℕ → Type 0
Between least most k = ((least ≤ k) × (k ≤ most)) ⊎ (k ≡ 15)

in_shape_number : {k : ℕ} → InShape k → Between 3 5 k
in_shape_number (range e) = inl (omega arith)
in_shape_number (later e) = inl (omega arith)
in_shape_number (twice e) = inr e
in_shape_number (class e) = inl (omega arith)

pub between_wider : {least most less more k : ℕ} → less ≤ least → most ≤ more → Between least most k → Between less more k
between_wider a b (inl h) = inl (omega arith)
between_wider a b (inr e) = inr e

of_line_number : {k c : ℕ} → OfLine k c → Between 2 5 k
of_line_number (shape e h) = inl (omega arith)
of_line_number (in_shape_lem e h) = between_wider (omega arith) (omega arith) (in_shape_number e)

pub where_number : {s : List ℕ} {k i c : ℕ} → Where s k i c → Between 2 6 k × (0 < i)
where_number (of_line b n d w) = (between_wider (omega arith) (omega arith) (of_line_number n), omega (arith, b.place))
where_number (of_rest b q e z d) = (inl (omega arith), omega (arith, b.place))

pub some_number : {least most k : ℕ} → 0 < least → Between least most k → 0 < k
some_number h (inl b) = omega arith
some_number h (inr e) = omega arith

-- The checks: the first refusal met in a list of answers is in its range, put together from the lists of a request's lines.
record Ranged (By : ℕ → ℕ → Type 0) (list : List Answer) : Type 0 where
  ranged : (k place column : ℕ) → first_met list ≡ told (suc k) place column → By (suc k) place × (column ≡ 0)

ranged_none : {By : ℕ → ℕ → Type 0} → Ranged By []
unfolding first_met
ranged_none = record { ranged = λ k place column e. never cc }

ranged_first : {By : ℕ → ℕ → Type 0} (n p : ℕ) (more : List Answer) → (0 < n → By n p) → Ranged By more → Ranged By (answer n p ∷ more)
unfolding first_met
ranged_first zero p more h t = record { ranged = t.ranged }
ranged_first (suc n) p more h t =
    record {
      ranged =
          λ k place column e.
          let z : n ≡ k = cc in
          let y : p ≡ place = cc in
          (rw (z, y) at (h (omega arith)), cc);
    }

ranged_all : {By : ℕ → ℕ → Type 0} (xs ys : List Answer) → Ranged By xs → Ranged By ys → Ranged By (xs ++ ys)
unfolding first_met
ranged_all [] ys t u = u
ranged_all (told zero p c ∷ xs) ys t u = record { ranged = (ranged_all xs ys (record { ranged = t.ranged }) u).ranged }
ranged_all (told (suc n) p c ∷ xs) ys t u = record { ranged = t.ranged }

ranged_wider : {By Other : ℕ → ℕ → Type 0} {list : List Answer} → ((k place : ℕ) → By k place → Other k place) → Ranged By list → Ranged Other list
ranged_wider h t =
    record {
      ranged =
          λ k place column e.
          let r = t.ranged k place column e in
          (h (suc k) place r.0, r.1);
    }

-- Of a line: 3, 4, 15 or 5 at its place, which is one further down in version 2.
record AtLine (k place : ℕ) : Type 0 where
  in_shape_lem : InShape k
  line : 0 < place

ranged_line : (n p : ℕ) (more : List Answer) → Mild n → 0 < p → Ranged AtLine more → Ranged AtLine (answer n p ∷ more)
ranged_line n p more m h t = ranged_first n p more (λ i. record { in_shape_lem = m i; line = h }) t

ranged_each : {A : Type 0} (refusal : List A → A → ℕ) (place : List A → ℕ) → ((b : List A) (x : A) → Mild (refusal b x)) →
    ((b : List A) → 0 < place b) → (before xs : List A) → Ranged AtLine (each_of (λ b x. answer (refusal b x) (place b)) before xs)
unfolding each_of
ranged_each refusal place m h before [] = ranged_none
ranged_each refusal place m h before (x ∷ xs) =
    ranged_line (refusal before x) (place before) _ (m before x) (h before) (ranged_each refusal place m h (before ++ (x ∷ [])) xs)

ranged_down : (n : ℕ) (xs : List Answer) → Ranged AtLine xs → Ranged AtLine (map (further_down n) xs)
unfolding first_met further_down
ranged_down n [] t = ranged_none
ranged_down n (told zero p c ∷ xs) t = record { ranged = (ranged_down n xs (record { ranged = t.ranged })).ranged }
ranged_down n (told (suc m) p c ∷ xs) t =
    record {
      ranged =
          λ k place column e.
          let r = t.ranged m p c refl in
          let z : m ≡ k = cc in
          let y : p + n ≡ place = cc in
          let x : c ≡ column = cc in
          let l = r.0.line in
          (record { in_shape_lem = rw z at r.0.in_shape_lem; line = omega arith }, rw x at r.1);
    }

ranged_body : (q : Request) → Ranged AtLine (body_answers q)
unfolding body_answers
ranged_body q =
    ranged_line _ _ _ (count_mild 1 most_principals q.principals) (omega arith)
    (ranged_line _ _ _ (count_mild 1 most_atoms q.atoms) (omega arith)
    (ranged_line _ _ _ (count_mild 1 most_formulas (length q.forms)) (omega arith)
    (ranged_all _ _
    (ranged_each (form_refusal q.principals q.atoms) (λ b. form_at (length b)) (form_mild q.principals q.atoms) (λ b. omega arith) [] q.forms)
    (ranged_line _ _ _ (count_mild 0 most_policy_lines (length q.policy)) (omega arith)
    (ranged_all _ _
    (ranged_each (λ b. clause_refusal q.forms) (λ b. clause_at (length q.forms) (length b)) (λ b. clause_mild q.forms) (λ b. omega arith) [] q.policy)
    (ranged_line _ _ _ (goal_mild q.forms q.goal) (omega arith)
    (ranged_line _ _ _ (count_mild 1 most_steps (length q.steps)) (omega arith)
    (ranged_all _ _
    (ranged_each (λ b. step_refusal) (λ b. step_at (length q.forms) (length q.policy) (suc (length b))) (λ b. step_mild) (λ b. omega arith) [] q.steps)
    ranged_none))))))))

ranged_lines : (q : Request) → Ranged ByChecks (line_answers q)
unfolding line_answers
ranged_lines q =
    ranged_wider (λ k place a. at_line a.in_shape_lem a.line)
    (ranged_line _ _ _ (count_mild 1 most_version q.version) (omega arith)
    (ranged_down (extra_lines q.version) (body_answers q) (ranged_body q)))

room_asked : (t : Bool) → 0 < demand t 13 0 → ByChecks (demand t 13 0) 0
unfolding demand
room_asked true h = absurd (omega arith)
room_asked false h = no_room refl refl

unit_asked : (t : Bool) → 0 < demand t 16 0 → ByChecks (demand t 16 0) 0
unfolding demand
unit_asked true h = absurd (omega arith)
unit_asked false h = unit_told refl refl

past_asked : (t : Bool) → 0 < demand t 3 0 → ByChecks (demand t 3 0) 0
unfolding demand
past_asked true h = absurd (omega arith)
past_asked false h = past_counts refl refl

pub checked_range : (t : Lent) (k place column : ℕ) → checked t ≡ told (suc k) place column → ByChecks (suc k) place × (column ≡ 0)
unfolding checked unit_refusal
checked_range t k place column e =
    (ranged_first _ _ _ (room_asked (has_room (length t.form_table) (length t.policy_table) (length t.step_table)))
    (ranged_first _ _ _ (unit_asked (negate (both (eqb t.version 1) (is_unit t.logic))))
    (ranged_all _ _ (ranged_lines (request_of t)) (ranged_first _ _ _ (past_asked (past_zero t)) ranged_none)))).ranged k place column e

-- Writing.
pub writing_range : (t : Lent) (len k place column : ℕ) → writing t len ≡ refused (told k place column) → ByWriting k place × (column ≡ 0)
unfolding writing written_if
writing_range t len k place column e = go (checked t) refl e
  where
    out : (fits : Bool) (s : List ℕ) → cond fits (result s) (refused (answer 14 0)) ≡ refused (told k place column) →
        ByWriting k place × (column ≡ 0)
    out true s d = never cc
    out false s d = (no_output (cc) (cc), cc)

    go : (a : Answer) → checked t ≡ a → written_if a (request_text (request_of t)) len ≡ refused (told k place column) →
        ByWriting k place × (column ≡ 0)
    go (told zero p m) c d = out (leb (length (request_text (request_of t))) len) (request_text (request_of t)) d
    go (told (suc n) p m) c d =
        let z : suc n ≡ k = cc in
        let y : p ≡ place = cc in
        let x : m ≡ column = cc in
        let r = checked_range t n p m c in
        (rw (z, y) at (by_checks r.0), rw x at r.1)

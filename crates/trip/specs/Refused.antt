-- Refusals of tables are those of their text. Where every line can be said in shape, the first refusal that the checks meet, line by line,
-- is the first that reading the text meets, at the same line. One law a reader, as in the round trip.
use Rattle.std.specs.Prelude.{ℕ, zero, suc, ◌<◌, ◌≡◌, refl, Bool, true, false, cond, leb, length}
use Prim.Native.String.{String}
use Rattle.std.proofs.Common.{sym, ap, ◌∙◌, arith}
use mathlib.Core.List.{List, [], ◌∷◌, ◌++◌, append_assoc, append-nil, map}
use Rattle.scope.specs.Call.Result.{result, refused}
use Rattle.scope.specs.Call.Answer.{Answer, told, answer, further_down}
use Rattle.scope.specs.Logic.Facts.{Logic}
use Rattle.scope.specs.File.Bytes.{bytes, joined}
use Rattle.scope.specs.File.Request.{Request}
use Rattle.scope.specs.File.Line.{Line, Read, ok, bad, Reader, or_refused, placed, line, line_text, and_then, ◌>>=◌, done, moved_down, further, many, many_text, counted, counted_text}
use Rattle.scope.specs.Limits.{most_version, most_principals, most_atoms, most_formulas, most_policy_lines, most_steps}
use Rattle.scope.specs.Limits.{version_at, extra_lines, form_at, clauses_at, clause_at, goal_at, steps_at, step_at}
use Rattle.scope.specs.File.Kinds.{form_kinds, step_kinds}
use Rattle.scope.specs.File.Refusals.{demand, version_refusal, unit_refusal, principals_refusal, atoms_refusal, formulas_refusal, form_refusal, clauses_refusal, clause_refusal, goal_refusal, steps_refusal, step_refusal}
use Rattle.scope.specs.File.Text.{number_line, version_line, formulas_line, form_line, clauses_line, clause_line, steps_line, step_line, logic_lines, body_text, request_text}
use Rattle.scope.specs.File.Reader.{form_item, clause_item, step_item, body_lines, read_logic, request_lines, ended, read_request}
use Rattle.scope.specs.Call.Tables.{Lent, has_room, request_of}
use Rattle.scope.specs.Call.Checked.{first_met, each_of, body_answers, line_answers, past_zero, checked}
use Rattle.scope.specs.Call.Calls.{written_if, writing}
use Rattle.scope.specs.Tools.Tests.{never, demand_passes}
use Rattle.trip.specs.Cuts.{free, free_append, cut_there, strip_there}
use Rattle.trip.specs.Words.{form_kinds_neat, step_kinds_neat}
use Rattle.trip.specs.Rows as Rows
use Rattle.trip.specs.Reads.{Shaped}
use Rattle.trip.specs.Packing.{All, none_left, one_more}
use Rattle.trip.specs.File.{number_shaped, row_shaped, logic_reads}
use Rattle.trip.specs.LineRefusals.{Mild, mild_column, count_mild, form_mild, clause_mild, goal_mild, step_mild}
use Rattle.trip.specs.Checks.{passes}
use Rattle.trip.specs.Trip.{check_law, kept_logic}

-- What a reader gives under the first refusal met: the thing and the rest where none is, else that refusal.
unfoldable met_then : {A : Type 0} → Answer → A → List ℕ → Read A
met_then (told zero place column) a rest = ok a rest
met_then (told (suc k) place column) a rest = bad (told (suc k) place column)

-- A reader on the text of a thing, whatever follows, gives what these answers say of it.
record Meets {A : Type 0} (rd : Reader A) (text : List ℕ) (answers : List Answer) (a : A) : Type 0 where
  gives : (rest : List ℕ) → rd (text ++ rest) ≡ met_then (first_met answers) a rest

line_meets :
    {A : Type 0} {Fits : A → Type 0} (l : Line A) (refusal : A → ℕ) (i : ℕ) (a : A) → Mild (refusal a) → free 10 l.key ≡ true
    → Shaped l.shape Fits → Fits a
    → Meets (line l refusal i) (line_text l a) (answer (refusal a) i ∷ []) a
unfolding line line_text first_met met_then placed
line_meets {A} l refusal i a m f c g = record { gives = gives }
  where
    settles : (k column : ℕ) (rest : List ℕ) → Mild k → placed i column (or_refused k a) rest ≡ met_then (first_met (answer k i ∷ [])) a rest
    settles zero column rest h = refl
    settles (suc k) column rest h = rw (mild_column k column h) refl

    gives : (rest : List ℕ) → line l refusal i (line_text l a ++ rest) ≡ met_then (first_met (answer (refusal a) i ∷ [])) a rest
    gives rest =
        let t = l.shape.text a in
        let k = cut_there 10 (l.key ++ t) rest (free_append 10 l.key t f (c.clean a g)) in
        let b : l.key ++ t ++ (10 ∷ []) ++ rest ≡ l.key ++ t ++ 10 ∷ rest = append_assoc (l.key ++ t) (10 ∷ []) rest in
        rw (b, k, strip_there l.key t, c.there a g) (settles (refusal a) _ rest m)

-- The end: nothing is asked.
done_meets : {A : Type 0} (a : A) → Meets (done a) [] [] a
unfolding first_met met_then
done_meets a = record { gives = λ rest. refl }

-- One after the other: a refusal of the first is met before the second is read.
seq_meets :
    {A B : Type 0} {m : Reader A} {s t : List ℕ} {xs ys : List Answer} {a : A} {b : B} (next : A → Reader B) → Meets m s xs a
    → Meets (next a) t ys b → Meets (◌>>=◌ m next) (s ++ t) (xs ++ ys) b
unfolding ◌>>=◌ and_then first_met met_then
seq_meets {A} {B} {m} {s} {t} {xs} {ys} {a} {b} next p q =
    record { gives = λ rest. rw (append_assoc s t rest, p.gives (t ++ rest)) (goes_on xs rest) }
  where
    goes_on : (zs : List Answer) (rest : List ℕ) → and_then (met_then (first_met zs) a (t ++ rest)) next ≡ met_then (first_met (zs ++ ys)) b rest
    goes_on [] rest = q.gives rest
    goes_on (told zero p c ∷ zs) rest = goes_on zs rest
    goes_on (told (suc k) p c ∷ zs) rest = refl

-- A refusal of the first is the answer, whatever the second is.
seq_refused :
    {A B : Type 0} {m : Reader A} {s : List ℕ} {ys : List Answer} {a : A} {b : B} (next : A → Reader B) (t : List ℕ) (n p : ℕ) → 0 < n
    → Meets m s (answer n p ∷ []) a → Meets (◌>>=◌ m next) (s ++ t) (answer n p ∷ ys) b
unfolding ◌>>=◌ and_then first_met met_then
seq_refused next t zero p h q = absurd (omega arith)
seq_refused {s = s} next t (suc n) p h q = record { gives = λ rest. rw (append_assoc s t rest, q.gives (t ++ rest)) refl }

-- Lines further down meet the same, further down.
further_meets :
    {A : Type 0} (n : ℕ) {m : Reader A} {s : List ℕ} {xs : List Answer} {a : A} → Meets m s xs a → Meets (further n m) s (map (further_down n) xs) a
unfolding further moved_down further_down first_met met_then
further_meets {A} n {m} {s} {xs} {a} p = record { gives = λ rest. rw (p.gives rest) (moved xs rest) }
  where
    moved : (zs : List Answer) (rest : List ℕ) → moved_down n (met_then (first_met zs) a rest) ≡ met_then (first_met (map (further_down n) zs)) a rest
    moved [] rest = refl
    moved (told zero p c ∷ zs) rest = moved zs rest
    moved (told (suc k) p c ∷ zs) rest = refl

-- What is put together from a thing meets what the thing met.
then_meets :
    {A B : Type 0} (f : A → B) {m : Reader A} {s : List ℕ} {xs : List Answer} {a : A} → Meets m s xs a
    → Meets (◌>>=◌ m (λ x. done (f x))) s xs (f a)
unfolding ◌>>=◌ and_then first_met met_then
then_meets {A} {B} f {m} {s} {xs} {a} p = record { gives = λ rest. rw (p.gives rest) (goes_on (first_met xs) rest) }
  where
    goes_on : (x : Answer) (rest : List ℕ) → and_then (met_then x a rest) (λ y. done (f y)) ≡ met_then x (f a) rest
    goes_on (told zero p c) rest = refl
    goes_on (told (suc k) p c) rest = refl

-- Several of one kind.
module _
    {A : Type 0} (item : List A → Reader A) (text : A → List ℕ) (about : List A → A → Answer) (Fits : A → Type 0)
    (meets : (before : List A) (x : A) → Fits x → Meets (item before) (text x) (about before x ∷ []) x) where
  many_meets : {xs : List A} → All Fits xs → (before : List A) → Meets (many item (length xs) before) (many_text text xs) (each_of about before xs) xs
  unfolding many many_text each_of
  many_meets none_left before = done_meets []
  many_meets (one_more {x = x} {xs = xs} g e) before =
      seq_meets _ (meets before x g) (then_meets (λ more. x ∷ more) (many_meets e (before ++ (x ∷ []))))

-- A count and that many things.
counted_meets :
    {A : Type 0} (l : Line ℕ) (refusal : ℕ → ℕ) (i : ℕ) (item : List A → Reader A) (it : Line A) (about : List A → A → Answer) (Fits : A → Type 0)
    (xs : List A) → Meets (line l refusal i) (line_text l (length xs)) (answer (refusal (length xs)) i ∷ []) (length xs)
    → ((before : List A) (x : A) → Fits x → Meets (item before) (line_text it x) (about before x ∷ []) x) → All Fits xs
    → Meets (counted l refusal i item) (counted_text l it xs) (answer (refusal (length xs)) i ∷ each_of about [] xs) xs
unfolding counted counted_text
counted_meets l refusal i item it about Fits xs count meets all = seq_meets _ count (many_meets item (line_text it) about Fits meets all [])

-- A request whose every line can be said in shape: numbers of at most five digits, known kinds, and 0 for each operand that a kind lacks. No
-- text says unit in version 1.
pub record InShape (q : Request) : Type 0 where
  pub version : q.version < 100000
  pub logic : unit_refusal q.version q.logic ≡ 0
  pub principals : q.principals < 100000
  pub atoms : q.atoms < 100000
  pub formulas : length q.forms < 100000
  pub forms : All (Rows.SayableRow form_kinds) q.forms
  pub clauses : length q.policy < 100000
  pub policy : All (λ f. f < 100000) q.policy
  pub goal : q.goal < 100000
  pub step_count : length q.steps < 100000
  pub steps : All (Rows.SayableRow step_kinds) q.steps

number_meets :
    (key : String) (refusal : ℕ → ℕ) (i n : ℕ) → Mild (refusal n) → free 10 (bytes key) ≡ true → n < 100000
    → Meets (line (number_line key) refusal i) (line_text (number_line key) n) (answer (refusal n) i ∷ []) n
number_meets key refusal i n m f h = line_meets (number_line key) refusal i n m f number_shaped h

body_meets : (q : Request) → InShape q → Meets (body_lines q.version q.logic) (body_text q) (body_answers q) q
unfolding body_lines body_text joined body_answers free
body_meets q g =
    let nf = length q.forms in
    let nl = length q.policy in
    seq_meets _ (number_meets "principals=" principals_refusal 2 q.principals (count_mild 1 most_principals q.principals) refl g.principals)
    (seq_meets _ (number_meets "atoms=" atoms_refusal 3 q.atoms (count_mild 1 most_atoms q.atoms) refl g.atoms)
    (seq_meets _
    (counted_meets formulas_line formulas_refusal 4 (form_item q.principals q.atoms) form_line
    (λ before r. answer (form_refusal q.principals q.atoms before r) (form_at (length before))) (Rows.SayableRow form_kinds) q.forms
    (number_meets "formulas=" formulas_refusal 4 nf (count_mild 1 most_formulas nf) refl g.formulas)
    (λ before r h. line_meets form_line (form_refusal q.principals q.atoms before) (form_at (length before)) r (form_mild q.principals q.atoms before r) refl
    (row_shaped form_kinds form_kinds_neat) h)
    g.forms)
    (seq_meets _
    (counted_meets clauses_line clauses_refusal (clauses_at nf) (clause_item q.forms) clause_line
    (λ before f. answer (clause_refusal q.forms f) (clause_at nf (length before))) (λ f. f < 100000) q.policy
    (number_meets "clauses=" clauses_refusal (clauses_at nf) nl (count_mild 0 most_policy_lines nl) refl g.clauses)
    (λ before f h. number_meets "clause=" (clause_refusal q.forms) (clause_at nf (length before)) f (clause_mild q.forms f) refl h)
    g.policy)
    (seq_meets _ (number_meets "goal=" (goal_refusal q.forms) (goal_at nf nl) q.goal (goal_mild q.forms q.goal) refl g.goal)
    (seq_meets _
    (counted_meets steps_line steps_refusal (steps_at nf nl) (step_item nf nl) step_line
    (λ before r. answer (step_refusal r) (step_at nf nl (suc (length before)))) (Rows.SayableRow step_kinds) q.steps
    (number_meets "steps=" steps_refusal (steps_at nf nl) (length q.steps) (count_mild 1 most_steps (length q.steps)) refl g.step_count)
    (λ before r h. line_meets step_line step_refusal (step_at nf nl (suc (length before))) r (step_mild r) refl (row_shaped step_kinds step_kinds_neat) h)
    g.steps)
    (done_meets q))))))

-- The line of the logic is refused nothing.
logic_meets : (v : ℕ) (l : Logic) → version_refusal v ≡ 0 → unit_refusal v l ≡ 0 → Meets (read_logic v) (logic_lines v l) [] l
unfolding first_met met_then
logic_meets v l g u = record { gives = λ rest. (logic_reads v g).there l rest u }

request_meets : (q : Request) → InShape q → Meets request_lines (request_text q) (line_answers q) q
unfolding request_lines request_text line_answers free
request_meets q g = go (version_refusal q.version) refl
  where
    first : Meets (line version_line version_refusal version_at) (line_text version_line q.version) (answer (version_refusal q.version) version_at ∷ []) q.version
    first = number_meets "version=" version_refusal version_at q.version (count_mild 1 most_version q.version) refl g.version

    go : (n : ℕ) → version_refusal q.version ≡ n → Meets request_lines (request_text q) (line_answers q) q
    go zero e =
        seq_meets _ first
        (seq_meets _ (logic_meets q.version q.logic e g.logic) (further_meets (extra_lines q.version) (body_meets q g)))
    go (suc n) e = seq_refused _ _ (version_refusal q.version) version_at (omega arith) first

-- Reading the text of such a request gives what the checks of its lines give.
text_told : (q : Request) → InShape q → read_request (request_text q) ≡ ended (met_then (first_met (line_answers q)) q [])
unfolding read_request
text_told q g = ap (λ s. ended (request_lines s)) (sym (append-nil (request_text q))) ∙ ap ended ((request_meets q g).gives [])

pub lines_refused :
    (q : Request) (k i c : ℕ) → InShape q → first_met (line_answers q) ≡ told (suc k) i c → read_request (request_text q) ≡ refused (told (suc k) i c)
unfolding ended met_then
lines_refused q k i c g e = text_told q g ∙ ap (λ a. ended (met_then a q [])) e

pub refused_lines :
    (q : Request) (k i c : ℕ) → InShape q → read_request (request_text q) ≡ refused (told k i c)
    → (j : ℕ) × (k ≡ suc j) × (first_met (line_answers q) ≡ told (suc j) i c)
unfolding ended met_then
refused_lines q k i c g e = go (first_met (line_answers q)) refl (sym (text_told q g) ∙ e)
  where
    go :
        (a : Answer) → first_met (line_answers q) ≡ a → ended (met_then a q []) ≡ refused (told k i c)
        → (j : ℕ) × (k ≡ suc j) × (first_met (line_answers q) ≡ told (suc j) i c)
    go (told zero p n) d h = never cc
    go (told (suc j) p n) d h = (j, cc, cc)

-- Tables with room whose request can be said in shape.
pub record Sayable (t : Lent) : Type 0 where
  pub room : has_room (length t.form_table) (length t.policy_table) (length t.step_table) ≡ true
  pub in_shape_lem : InShape (request_of t)

-- What is met in a list is met in a longer one; and what is met at a line is not met in a last answer at place 0.
met_longer : (k i c : ℕ) (xs ys : List Answer) → first_met xs ≡ told (suc k) i c → first_met (xs ++ ys) ≡ told (suc k) i c
unfolding first_met
met_longer k i c [] ys e = never cc
met_longer k i c (told zero p n ∷ xs) ys e = met_longer k i c xs ys e
met_longer k i c (told (suc j) p n ∷ xs) ys e = e

met_before : (k i c d : ℕ) (xs : List Answer) → first_met (xs ++ (answer d 0 ∷ [])) ≡ told (suc k) (suc i) c → first_met xs ≡ told (suc k) (suc i) c
unfolding first_met
met_before k i c zero [] e = never cc
met_before k i c (suc d) [] e =
    let z : ◌≡◌ {A = ℕ} 0 (suc i) = cc in
    absurd (omega arith)
met_before k i c d (told zero p n ∷ xs) e = met_before k i c d xs e
met_before k i c d (told (suc j) p n ∷ xs) e = e

-- With room, and with a logic that a text can say, the lines are asked first.
room_law : (t : Lent) → Sayable t → checked t ≡ first_met (line_answers (request_of t) ++ answer (demand (past_zero t) 3 0) 0 ∷ [])
room_law t g = check_law t ∙ passes _ _ _ (demand_passes _ 13 0 g.room) ∙ passes _ _ _ (kept_logic t g.in_shape_lem.logic)

-- What refuses the text refuses the tables, at the same line; and what refuses the tables at a line refuses the text there.
pub text_checked : (t : Lent) (k i c : ℕ) → Sayable t → read_request (request_text (request_of t)) ≡ refused (told k i c) → checked t ≡ told k i c
text_checked t k i c g e =
    let m = refused_lines (request_of t) k i c g.in_shape_lem e in
    rw m.1 (room_law t g ∙ met_longer m.0 i c (line_answers (request_of t)) _ m.2)

pub checked_text :
    (t : Lent) (k i c : ℕ) → Sayable t → checked t ≡ told (suc k) (suc i) c
    → read_request (request_text (request_of t)) ≡ refused (told (suc k) (suc i) c)
checked_text t k i c g e =
    lines_refused (request_of t) k (suc i) c g.in_shape_lem (met_before k i c _ (line_answers (request_of t)) (sym (room_law t g) ∙ e))

-- The same of the writer, whatever the output's length: refusal 14 and the refusal past the counts have place 0.
pub text_unwritten :
    (t : Lent) (len k i c : ℕ) → Sayable t → read_request (request_text (request_of t)) ≡ refused (told k i c) → writing t len ≡ refused (told k i c)
unfolding writing written_if
text_unwritten t len k i c g e =
    let m = refused_lines (request_of t) k i c g.in_shape_lem e in
    rw (text_checked t k i c g e, m.1)

pub unwritten_text :
    (t : Lent) (len k i n : ℕ) → Sayable t → writing t len ≡ refused (told k (suc i) n)
    → read_request (request_text (request_of t)) ≡ refused (told k (suc i) n)
unfolding writing written_if
unwritten_text t len k i n g e = go (checked t) refl e
  where
    fits : (b : Bool) (s : List ℕ) → cond b (result s) (refused (answer 14 0)) ≡ refused (told k (suc i) n) → ◌≡◌ {A = ℕ} 0 1
    fits true s h = cc
    fits false s h =
        let z : ◌≡◌ {A = ℕ} 0 (suc i) = cc in
        absurd (omega arith)

    go :
        (a : Answer) → checked t ≡ a → written_if a (request_text (request_of t)) len ≡ refused (told k (suc i) n)
        → read_request (request_text (request_of t)) ≡ refused (told k (suc i) n)
    go (told zero p m) c h = never (fits (leb (length (request_text (request_of t))) len) (request_text (request_of t)) h)
    go (told (suc j) p m) c h =
        let x : suc j ≡ k = cc in
        let y : p ≡ suc i = cc in
        let z : m ≡ n = cc in
        checked_text t j i n g (rw (y, z) at c) ∙ ap (λ a. refused (told a (suc i) n)) x

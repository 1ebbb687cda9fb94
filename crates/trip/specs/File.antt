-- The whole file: the lines of a request read back from its text, and what reads as a request's lines is its text.
use Rattle.std.specs.Prelude.{ℕ, zero, suc, ◌+◌, ◌<◌, ◌≤◌, ◌≡◌, refl, List, [], ◌++◌, true, length}
use Prim.Native.String.{String}
use Rattle.std.proofs.Common.{sym, ap, ◌∙◌, arith}
use Rattle.std.proofs.Math.Option.{Option, none, some}
use Rattle.scope.specs.Logic.Facts.{Logic, plain, unit}
use Rattle.scope.specs.Limits.{extra_lines}
use Rattle.scope.specs.Tools.Tests.{never}
use Rattle.scope.specs.File.Bytes.{bytes, joined}
use Rattle.scope.specs.File.Request.{Row, Request}
use Rattle.scope.specs.File.Line.{line, line_text}
use Rattle.scope.specs.File.Kinds.{Kind, form_kinds, step_kinds, logic_kinds, kind_from, row_shape, logic_in, logic_word, logic_text, logic_shape}
use Rattle.scope.specs.File.Refusals.{count_refusal, version_refusal, unit_refusal, principals_refusal, atoms_refusal, formulas_refusal, form_refusal, clauses_refusal, clause_refusal, goal_refusal, steps_refusal, step_refusal}
use Rattle.scope.specs.File.Text.{number_shape, number_line, logic_line, formulas_line, form_line, clauses_line, clause_line, goal_line, steps_line, step_line, logic_lines, body_text, request_text}
use Rattle.scope.specs.File.Reader.{form_item, clause_item, step_item, body_lines, read_logic, request_lines}
use Rattle.trip.specs.Numbers.{number_there, number_back}
use Rattle.trip.specs.Cuts.{free, numeral_free}
use Rattle.trip.specs.Words.{Neat, Known, word_found, form_kinds_neat, step_kinds_neat}
use Rattle.trip.specs.Rows.{SayableRow, row_there, row_back, row_clean}
use Rattle.trip.specs.Small.{count_passed, clause_named, goal_named, row_sayable}
use Rattle.trip.specs.RowRanges.{form_passed}
use Rattle.trip.specs.Reads.{Shaped, Reads, line_reads}
use Rattle.trip.specs.Several.{two, Each, seq_reads, done_reads, counted_reads, reads_as, reads_text, further_reads}

-- A request without refusal, line by line.
pub record Unrefused (q : Request) : Type 0 where
  pub version : version_refusal q.version ≡ 0
  pub logic : unit_refusal q.version q.logic ≡ 0
  pub principals : principals_refusal q.principals ≡ 0
  pub atoms : atoms_refusal q.atoms ≡ 0
  pub formulas : formulas_refusal (length q.forms) ≡ 0
  pub forms : Each (λ before r. form_refusal q.principals q.atoms before r ≡ 0) (length q.forms) [] q.forms
  pub clauses : clauses_refusal (length q.policy) ≡ 0
  pub policy : Each (λ before f. clause_refusal q.forms f ≡ 0) (length q.policy) [] q.policy
  pub goal : goal_refusal q.forms q.goal ≡ 0
  pub step_count : steps_refusal (length q.steps) ≡ 0
  pub steps : Each (λ before r. step_refusal r ≡ 0) (length q.steps) [] q.steps

pub number_shaped : Shaped number_shape (λ n. n < 100000)
number_shaped =
    record { there = number_there; back = number_back; clean = λ n h. numeral_free 10 n (omega arith) }

pub row_shaped : (ks : List Kind) → Neat ks → Shaped (row_shape ks) (SayableRow ks)
row_shaped ks n =
    record { there = λ r g. row_there ks r n g; back = λ s r e. row_back ks s r n e; clean = λ r g. row_clean ks r n g.known }

-- A logic is written by its word, and no other word is read.
pub logic_shaped : Shaped logic_shape (λ l. Unit {0})
unfolding logic_word logic_text logic_in free
logic_shaped = record { there = there; back = λ s l e. back s l (kind_from 0 logic_kinds s) refl e; clean = clean }
  where
    there : (l : Logic) → Unit {0} → logic_word (logic_text l) ≡ some l
    there plain u = refl
    there unit u = refl

    word : (s : List ℕ) (l : Logic) (n : ℕ) → Known logic_kinds s n → logic_in (some n) ≡ some l → s ≡ logic_text l
    word s l zero k e =
        let z : plain ≡ l = cc in
        k.word ∙ ap logic_text z
    word s l (suc zero) k e =
        let z : unit ≡ l = cc in
        k.word ∙ ap logic_text z
    word s l (suc (suc n)) k e = absurd (omega (arith, k.below))

    back : (s : List ℕ) (l : Logic) (x : Option ℕ) → kind_from 0 logic_kinds s ≡ x → logic_in x ≡ some l → s ≡ logic_text l
    back s l none d e = never cc
    back s l (some n) d e = word s l n (word_found logic_kinds s n d) e

    clean : (l : Logic) → Unit {0} → free 10 (logic_text l) ≡ true
    clean plain u = refl
    clean unit u = refl

-- The line of the logic, where the version has one; version 1 means plain.
plain_only : (l : Logic) → unit_refusal 1 l ≡ 0 → l ≡ plain
unfolding unit_refusal
plain_only plain e = refl
plain_only unit e = absurd (omega arith)

pub logic_reads : (v : ℕ) → version_refusal v ≡ 0 → Reads (read_logic v) (logic_lines v) (λ l. unit_refusal v l ≡ 0)
unfolding read_logic logic_lines unit_refusal free
logic_reads v g =
    let p = count_passed 1 2 v g in
    go v p.low p.high
  where
    go : (v : ℕ) → 1 ≤ v → v ≤ 2 → Reads (read_logic v) (logic_lines v) (λ l. unit_refusal v l ≡ 0)
    go zero a b = absurd (omega arith)
    go (suc zero) a b = reads_as (done_reads plain) (λ l e. rw e refl) plain_only
    go (suc (suc zero)) a b = reads_as (line_reads logic_line (λ l. 0) 2 refl logic_shaped (λ l e. tt)) (λ l e. refl) (λ l e. refl)
    go (suc (suc (suc v))) a b = absurd (omega arith)

-- A number line whose refusal keeps the number small.
number_reads :
    (key : String) (refusal : ℕ → ℕ) (i : ℕ) → free 10 (bytes key) ≡ true → ((n : ℕ) → refusal n ≡ 0 → n < 100000)
    → Reads (line (number_line key) refusal i) (line_text (number_line key)) (λ n. refusal n ≡ 0)
number_reads key refusal i f small = line_reads (number_line key) refusal i f number_shaped small

count_reads :
    (key : String) (least most : ℕ) (i : ℕ) → free 10 (bytes key) ≡ true → most < 100000
    → Reads (line (number_line key) (count_refusal least most) i) (line_text (number_line key)) (λ n. count_refusal least most n ≡ 0)
count_reads key least most i f h =
    number_reads key (count_refusal least most) i f (λ n e. omega (arith, (count_passed least most n e).high))

form_reads :
    (principals atoms : ℕ) → principals ≤ 100000 → atoms ≤ 100000 → (before : List Row) → length before < 1024
    → Reads (form_item principals atoms before) (line_text form_line) (λ r. form_refusal principals atoms before r ≡ 0)
unfolding free
form_reads np na hp ha before h =
    line_reads form_line (form_refusal np na before) (5 + length before) refl (row_shaped form_kinds form_kinds_neat)
    (λ r e.
    row_sayable form_kinds np na (length before) r form_kinds_neat
    (record { principals_small = hp; atoms_small = ha; number_small = omega arith })
    (form_passed np na before r e).row)

step_reads :
    (formulas clauses : ℕ) (before : List Row) → length before < 2048
    → Reads (step_item formulas clauses before) (line_text step_line) (λ r. step_refusal r ≡ 0)
unfolding step_refusal free
step_reads f c before h =
    line_reads step_line step_refusal (7 + f + c + suc (length before)) refl (row_shaped step_kinds step_kinds_neat)
    (λ r e.
    row_sayable step_kinds 0 0 0 r step_kinds_neat
    (record { principals_small = omega arith; atoms_small = omega arith; number_small = omega arith })
    e)

clause_reads :
    (forms : List Row) → length forms ≤ 1024 → (before : List ℕ) → length before < 128
    → Reads (clause_item forms before) (line_text clause_line) (λ f. clause_refusal forms f ≡ 0)
unfolding clause_refusal free
clause_reads forms h before l =
    number_reads "clause=" (clause_refusal forms) (6 + length forms + length before) refl
    (λ f e. omega (arith, clause_named forms f e))

goal_reads :
    (forms : List Row) (i : ℕ) → length forms ≤ 1024 → Reads (line goal_line (goal_refusal forms) i) (line_text goal_line) (λ f. goal_refusal forms f ≡ 0)
unfolding goal_refusal free
goal_reads forms i h = number_reads "goal=" (goal_refusal forms) i refl (λ f e. omega (arith, goal_named forms f e))

most : (least high n : ℕ) → count_refusal least high n ≡ 0 → n ≤ high
most least high n e = (count_passed least high n e).high

pub request_reads : Reads request_lines request_text Unrefused
unfolding request_lines request_text body_lines body_text joined free
request_reads =
    reads_as
    (seq_reads (λ q. q.version) (count_reads "version=" 1 2 1 refl (omega arith))
    (λ v gv. reads_text (λ q g. ap (λ n. logic_lines n q.logic ++ body_text q) (sym (ap (λ x. x.version) g.two.two.two.two.two.two.two)))
    (seq_reads (λ q. q.logic) (logic_reads v gv)
    (λ l gl. further_reads (extra_lines v) (seq_reads (λ q. q.principals) (count_reads "principals=" 1 16 2 refl (omega arith))
    (λ np gp. seq_reads (λ q. q.atoms) (count_reads "atoms=" 1 256 3 refl (omega arith))
    (λ na ga. seq_reads (λ q. q.forms)
    (counted_reads formulas_line formulas_refusal 4 (form_item np na) form_line (λ before r. form_refusal np na before r ≡ 0) 1024
    (count_reads "formulas=" 1 1024 4 refl (omega arith)) (most 1 1024)
    (form_reads np na (omega (arith, most 1 16 np gp)) (omega (arith, most 1 256 na ga))))
    (λ fs gf. seq_reads (λ q. q.policy)
    (counted_reads clauses_line clauses_refusal (5 + length fs) (clause_item fs) clause_line (λ before f. clause_refusal fs f ≡ 0) 128
    (count_reads "clauses=" 0 128 (5 + length fs) refl (omega arith)) (most 0 128)
    (clause_reads fs (most 1 1024 (length fs) gf.one)))
    (λ ls gl. seq_reads (λ q. q.goal) (goal_reads fs (6 + length fs + length ls) (most 1 1024 (length fs) gf.one))
    (λ g gg. seq_reads (λ q. q.steps)
    (counted_reads steps_line steps_refusal (7 + length fs + length ls) (step_item (length fs) (length ls)) step_line (λ before r. step_refusal r ≡ 0) 2048
    (count_reads "steps=" 1 2048 (7 + length fs + length ls) refl (omega arith)) (most 1 2048)
    (step_reads (length fs) (length ls)))
    (λ ss gs. done_reads (record { version = v; logic = l; principals = np; atoms = na; forms = fs; policy = ls; goal = g; steps = ss }))
    (λ ss q gs e. ap (λ x. x.steps) e))
    (λ g q gg e. ap (λ x. x.goal) e.two))
    (λ ls q gl e. ap (λ x. x.policy) e.two.two))
    (λ fs q gf e. ap (λ x. x.forms) e.two.two.two))
    (λ na q ga e. ap (λ x. x.atoms) e.two.two.two.two))
    (λ np q gp e. ap (λ x. x.principals) e.two.two.two.two.two)))
    (λ l q gl e. ap (λ x. x.logic) e.two.two.two.two.two.two)))
    (λ v q gv e. ap (λ x. x.version) e.two.two.two.two.two.two.two))
    (λ q g.
    let body = g.two.two in
    record {
      version = g.one;
      logic = g.two.one;
      principals = body.one;
      atoms = body.two.one;
      formulas = body.two.two.one.one;
      forms = body.two.two.one.two;
      clauses = body.two.two.two.one.one;
      policy = body.two.two.two.one.two;
      goal = body.two.two.two.two.one;
      step_count = body.two.two.two.two.two.one.one;
      steps = body.two.two.two.two.two.one.two;
    })
    (λ q g.
    two g.version
    (two g.logic
    (two g.principals
    (two g.atoms
    (two (two g.formulas g.forms)
    (two (two g.clauses g.policy)
    (two g.goal
    (two (two g.step_count g.steps) refl))))))))

-- A line of the definition by what is said of its value.
use Rattle.std.specs.Prelude.{ℕ, zero, suc, ◌+◌, ◌≤◌, ◌<◌, ◌≡◌, List, [], ◌∷◌, Bool, ltb, leb, length, get_or, Some, None}
use Rattle.std.proofs.Common.{arith, ◌∙◌, leb-true, le-leb, lt-ltb, le-ltb}
use Rattle.std.proofs.Math.Path.{refl, ap, sym}
use Rattle.std.proofs.Math.Bool.{true, false}
use Rattle.std.proofs.Math.Option.{Option, none, some}
use Rattle.scope.specs.Tools.Tests.{never}
use Rattle.scope.specs.Logic.Form.{both}
use Rattle.scope.specs.Logic.Facts.{Logic}
use Rattle.scope.specs.File.Request.{Row}
use Rattle.scope.specs.File.Number.{number}
use Rattle.scope.specs.Call.Answer.{told, column_for}
use Rattle.scope.specs.File.Line.{Value, val, out, Line, Read, ok, bad, or_refused, shaped_as, placed, line_stop, line}
use Rattle.scope.specs.File.Kinds.{items, onto_first, numbers, kind_from, same, kind_row, items_row, row_in, form_kinds, step_kinds, logic_kinds, logic_in, logic_of, logic_number, logic_word}
use Rattle.scope.specs.File.Refusals.{demand, count_refusal}
use Rattle.scope.specs.File.Text.{logic_line}
use Rattle.scope.specs.File.Bytes.{bytes}
use Rattle.trip.specs.Words.{word_found}
use Rattle.lines.specs.Parts.{value_of, rest_of, line_parts}
use Rattle.lines.specs.Values.{Behind, rest_behind}
use Rattle.lines.specs.Answers.{row_answer, kind_answer, kind_some, kind_none}
use Rattle.lines.specs.declared.Items.{Items}
use Rattle.columns.specs.Shapes.{number_with}
use Rattle.common.specs.Answers.{answer_of, answer_is}
use Rattle.common.specs.Refused.{number_of}
use Rattle.common.specs.declared.refused.Answer.{Answer as Returned}
use Rattle.common.specs.declared.refused.Refusal.{Refusal}
use Rattle.common.specs.declared.refused.Refusal.TheVariants as refusal
use Rattle.refusals.specs.Rows.{row, class_refusal}
use Rattle.reader.specs.Sections.{below_refusal}
use Rattle.reader.specs.Answers.{Given}

-- Out of shape, refused, and let through.
module _ {A : Type 0} (refusal : A → ℕ) (o : Option A) where
  pub judged_none : o ≡ none → shaped_as refusal o ≡ out 2
  unfolding shaped_as
  judged_none e = rw e refl

  pub judged_out : (a : A) (k : ℕ) → o ≡ some a → refusal a ≡ suc k → shaped_as refusal o ≡ out (suc k)
  unfolding shaped_as or_refused
  judged_out a k e r = rw e (rw r refl)

  pub judged_val : (a : A) → o ≡ some a → refusal a ≡ 0 → shaped_as refusal o ≡ val a
  unfolding shaped_as or_refused
  judged_val a e r = rw e (rw r refl)

-- No refusal of the code has number 0.
pub refused_out : {A : Type 0} (r : Refusal) (a : A) → or_refused (number_of r) a ≡ out (number_of r)
unfolding or_refused number_of
refused_out refusal.TooLong a = refl
refused_out refusal.Shape a = refl
refused_out refusal.Range a = refl
refused_out refusal.NotEarlier a = refl
refused_out refusal.WrongClass a = refl
refused_out refusal.BytesAfter a = refl
refused_out refusal.StepMisfit a = refl
refused_out refusal.NoSuchNumber a = refl
refused_out refusal.FactAbsent a = refl
refused_out refusal.LimitPassed a = refl
refused_out refusal.AllClosed a = refl
refused_out refusal.LeftOpen a = refl
refused_out refusal.TableTooShort a = refl
refused_out refusal.OutputTooShort a = refl
refused_out refusal.Repeated a = refl
refused_out refusal.UnitInVersion1 a = refl

-- The same of what the code was told.
module _ {A : Type 0} (f : A → ℕ) (o : Option A) where
  pub judged_refused : (a : A) (r : Refusal) → o ≡ some a → number_of r ≡ f a → out (number_of r) ≡ shaped_as f o
  unfolding shaped_as
  judged_refused a r e q = rw (e, ← q) (sym (refused_out r a))

  pub judged_passed : (a : A) → o ≡ some a → 0 ≡ f a → val a ≡ shaped_as f o
  judged_passed a e q = sym (judged_val f o a e (sym q))

pub row_none : (o : Option Row) → None ≡ row_answer o → o ≡ none
unfolding row_answer
row_none none e = refl
row_none (some r) e = never cc

pub row_some : (o : Option Row) (x : Items) → Some x ≡ row_answer o → o ≡ some (row x.kind x.left x.right)
unfolding row_answer
row_some none x e = never cc
row_some (some r) x e =
    let a : x.kind ≡ r.kind = cc in
    let b : x.left ≡ r.left = cc in
    let d : x.right ≡ r.right = cc in
    ap some (λ i. record { kind = sym a i; left = sym b i; right = sym d i })

-- No empty value is in shape.
pub no_number : number [] ≡ none
unfolding number both
no_number = refl

pub no_form : row_in form_kinds [] ≡ none
unfolding row_in form_kinds items_row items onto_first kind_from same kind_row numbers
no_form = refl

pub no_step : row_in step_kinds [] ≡ none
unfolding row_in step_kinds items_row items onto_first kind_from same kind_row numbers
no_step = refl

pub no_logic : logic_word [] ≡ none
unfolding logic_word kind_from logic_kinds same logic_in
no_logic = refl

-- What a line gives by its value v, and where the rest begins: no empty value is in shape, so a line that gives a thing is key, value, LF.
module _ {A : Type 0} (l : Line A) (refusal : A → ℕ) (i : ℕ) (s v : List ℕ) (part : v ≡ value_of l.key s) (empty : l.shape.thing [] ≡ none) where
  pub by_value : line l refusal i s ≡ placed i (suc (line_stop l s)) (shaped_as refusal (l.shape.thing v)) (rest_of s)
  by_value =
      line_parts l refusal i s empty ∙ ap (λ t. placed i (suc (line_stop l s)) (shaped_as refusal (l.shape.thing t)) (rest_of s)) (sym part)

  pub line_said : (x : Value A) → x ≡ shaped_as refusal (l.shape.thing v) → line l refusal i s ≡ placed i (suc (line_stop l s)) x (rest_of s)
  line_said x e = by_value ∙ ap (λ y. placed i (suc (line_stop l s)) y (rest_of s)) (sym e)

  pub line_read : (a : A) (rest : List ℕ) → val a ≡ shaped_as refusal (l.shape.thing v) → rest ≡ rest_of s → line l refusal i s ≡ ok a rest
  unfolding placed
  line_read a rest e r = by_value ∙ rw (← e, r) refl

  pub line_refused : (k : ℕ) → out k ≡ shaped_as refusal (l.shape.thing v)
      → line l refusal i s ≡ bad (told k i (column_for k (suc (line_stop l s))))
  unfolding placed
  line_refused k e = by_value ∙ rw (← e) refl

  pub line_behind : (a : A) → val a ≡ shaped_as refusal (l.shape.thing v) → Behind s (length v + (length l.key + 1))
  line_behind a e = rest_behind l.key v s (length v + (length l.key + 1)) part (go v e) refl
    where
      go : (t : List ℕ) → val a ≡ shaped_as refusal (l.shape.thing t) → 0 < length t
      go [] e =
          let f = judged_none refusal (l.shape.thing []) empty in
          never cc
      go (b ∷ t) e = omega arith

-- The refusals of a count and of a formula number.
pub count_out : (least most n : ℕ) → (least ≤ n → n ≤ most → ⊥) → count_refusal least most n ≡ 3
unfolding count_refusal both demand
count_out least most n h = go (leb least n) (leb n most) refl refl
  where
    go : (a b : Bool) → leb least n ≡ a → leb n most ≡ b → demand (both a b) 3 0 ≡ 3
    go true true p q = absurd (h (leb-true least n p) (leb-true n most q))
    go true false p q = refl
    go false b p q = refl

pub count_in : (least most n : ℕ) → least ≤ n → n ≤ most → count_refusal least most n ≡ 0
unfolding count_refusal both demand
count_in least most n h k = rw (le-leb least n h, le-leb n most k) refl

pub below_not : (n f : ℕ) → n ≤ f → below_refusal n f ≡ 3
unfolding below_refusal demand
below_not n f h = rw (le-ltb f n h) refl

pub below_is : (n f : ℕ) → f < n → below_refusal n f ≡ 0
unfolding below_refusal demand
below_is n f h = rw (lt-ltb f n h) refl

-- A thing that a line gives has no refusal.
pub line_passed : {A : Type 0} (l : Line A) (refusal : A → ℕ) (i : ℕ) (s : List ℕ) → l.shape.thing [] ≡ none → (a : A) (rest : List ℕ)
    → line l refusal i s ≡ ok a rest → refusal a ≡ 0
unfolding placed shaped_as or_refused
line_passed {A} l refusal i s empty a rest e =
    of (l.shape.thing (value_of l.key s)) (sym (by_value l refusal i s (value_of l.key s) refl empty) ∙ e)
  where
    go : (b : A) (n : ℕ) → refusal b ≡ n → placed i (suc (line_stop l s)) (or_refused n b) (rest_of s) ≡ ok a rest → refusal a ≡ 0
    go b zero h d = let same : b ≡ a = cc in ap refusal (sym same) ∙ h
    go b (suc k) h d = never cc

    of : (o : Option A) → placed i (suc (line_stop l s)) (shaped_as refusal o) (rest_of s) ≡ ok a rest → refusal a ≡ 0
    of none d = never cc
    of (some b) d = go b (refusal b) refl d

-- A count that is let through is within its bounds.
pub count_most : (least most i : ℕ) (key s : List ℕ) (n : ℕ) (rest : List ℕ) → line (number_with key) (count_refusal least most) i s ≡ ok n rest → n ≤ most
unfolding count_refusal both demand
count_most least most i key s n rest e =
    go (leb least n) (leb n most) refl refl (line_passed (number_with key) (count_refusal least most) i s no_number n rest e)
  where
    go : (a b : Bool) → leb least n ≡ a → leb n most ≡ b → demand (both a b) 3 0 ≡ 0 → n ≤ most
    go true true p q e = leb-true n most q
    go true false p q e = never cc
    go false b p q e = never cc

-- The class is asked of a number that is a formula's.
module _ {C : Type 0} (test : C → Bool) (past : C) (classes : List C) (n : ℕ) (o : Option ℕ) where
  pub class_before : (k : ℕ) → out k ≡ shaped_as (below_refusal n) o → out k ≡ shaped_as (class_refusal test past classes n) o
  unfolding shaped_as or_refused below_refusal class_refusal demand
  class_before = go o
    where
      go : (o : Option ℕ) (k : ℕ) → out k ≡ shaped_as (below_refusal n) o → out k ≡ shaped_as (class_refusal test past classes n) o
      go none k e = e
      go (some f) k e = low (ltb f n) e
        where
          low : (b : Bool) → out k ≡ or_refused (demand b 3 0) f → out k ≡ or_refused (demand b 3 (demand (test (get_or classes f past)) 5 0)) f
          low true e = never cc
          low false e = e

  class_after : (f : ℕ) → val f ≡ shaped_as (below_refusal n) o
      → or_refused (demand (test (get_or classes f past)) 5 0) f ≡ shaped_as (class_refusal test past classes n) o
  unfolding shaped_as or_refused below_refusal class_refusal demand
  class_after = go o
    where
      go : (o : Option ℕ) (f : ℕ) → val f ≡ shaped_as (below_refusal n) o
          → or_refused (demand (test (get_or classes f past)) 5 0) f ≡ shaped_as (class_refusal test past classes n) o
      go none f e = never cc
      go (some m) f e = low (ltb m n) e
        where
          low : (b : Bool) → val f ≡ or_refused (demand b 3 0) m
              → or_refused (demand (test (get_or classes f past)) 5 0) f ≡ or_refused (demand b 3 (demand (test (get_or classes m past)) 5 0)) m
          low true e = let p : f ≡ m = cc in ap (λ x. or_refused (demand (test (get_or classes x past)) 5 0) x) p
          low false e = never cc

  -- The class of a formula that is asked for, and another.
  pub class_met : (f : ℕ) → val f ≡ shaped_as (below_refusal n) o → test (get_or classes f past) ≡ true → val f ≡ shaped_as (class_refusal test past classes n) o
  unfolding or_refused demand
  class_met f e t = rw t at (class_after f e)

  pub class_unmet : (f : ℕ) → val f ≡ shaped_as (below_refusal n) o → test (get_or classes f past) ≡ false → out 5 ≡ shaped_as (class_refusal test past classes n) o
  unfolding or_refused demand
  class_unmet f e t = rw t at (class_after f e)

-- The column is told of a line out of shape alone.
pub column_shape : (r : Refusal) (n : ℕ) → r ≡ refusal.Shape → n ≡ column_for (number_of r) n
unfolding column_for number_of
column_shape r n e = rw e refl

pub column_else : (r : Refusal) (n : ℕ) → (r ≡ refusal.Shape → ⊥) → 0 ≡ column_for (number_of r) n
unfolding column_for number_of
column_else refusal.TooLong n h = refl
column_else refusal.Shape n h = absurd (h refl)
column_else refusal.Range n h = refl
column_else refusal.NotEarlier n h = refl
column_else refusal.WrongClass n h = refl
column_else refusal.BytesAfter n h = refl
column_else refusal.StepMisfit n h = refl
column_else refusal.NoSuchNumber n h = refl
column_else refusal.FactAbsent n h = refl
column_else refusal.LimitPassed n h = refl
column_else refusal.AllClosed n h = refl
column_else refusal.LeftOpen n h = refl
column_else refusal.TableTooShort n h = refl
column_else refusal.OutputTooShort n h = refl
column_else refusal.Repeated n h = refl
column_else refusal.UnitInVersion1 n h = refl

-- The answer about a refused line.
pub told_read : {A : Type 0} (k place column : ℕ) (x : Returned) → x ≡ answer_of (told k place column) → ◌≡◌ {A = Read A} (bad (told k place column)) (bad (answer_is x))
told_read k place column x e = rw e refl

none_word : (v : List ℕ) → kind_from 0 logic_kinds v ≡ none → logic_word v ≡ none
unfolding logic_word logic_in
none_word v e = rw e refl

some_word : (v : List ℕ) (n : ℕ) → kind_from 0 logic_kinds v ≡ some n → logic_word v ≡ some (logic_of n)
unfolding logic_word logic_in
some_word v n e = rw e refl

-- There are two logics.
known : (v : List ℕ) (n : ℕ) → kind_from 0 logic_kinds v ≡ some n → n < 2
unfolding logic_kinds
known v n e = (word_found logic_kinds v n e).below

told_back : (n : ℕ) → n < 2 → n ≡ logic_number (logic_of n)
unfolding logic_of
told_back zero h = refl
told_back (suc zero) h = refl
told_back (suc (suc n)) h = absurd (omega arith)

-- The line of the logic by the number of the word in its value.
module _ (i : ℕ) (s v : List ℕ) (part : v ≡ value_of (bytes "logic=") s) where
  pub logic_refused : None ≡ kind_answer (kind_from 0 logic_kinds v)
      → line logic_line (λ l. 0) i s ≡ bad (told 2 i (column_for 2 (suc (line_stop logic_line s))))
  logic_refused e = line_refused logic_line (λ l. 0) i s v part no_logic 2 (shape (kind_none (kind_from 0 logic_kinds v) (sym e)))
    where
      shape : kind_from 0 logic_kinds v ≡ none → out 2 ≡ shaped_as (λ (l : Logic). 0) (logic_word v)
      shape d = sym (judged_none (λ (l : Logic). 0) (logic_word v) (none_word v d))

  pub logic_read : (n : ℕ) (rest : List ℕ) → Some n ≡ kind_answer (kind_from 0 logic_kinds v) → rest ≡ rest_of s
      → Given logic_number (line logic_line (λ l. 0) i s) n rest
  logic_read n rest e r =
      let d = kind_some (kind_from 0 logic_kinds v) n (sym e) in
      record {
        thing = logic_of n;
        is = line_read logic_line (λ l. 0) i s v part no_logic (logic_of n) rest (sym (judged_val (λ (l : Logic). 0) (logic_word v) (logic_of n) (some_word v n d) refl)) r;
        seen = told_back n (known v n d);
      }

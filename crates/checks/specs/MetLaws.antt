-- The first met of several answers: what comes after a refusal does not count, and what comes after answers that are fine does.
use Rattle.std.specs.Prelude.{ℕ, zero, suc, ◌+◌, ◌≤◌, ◌<◌, ◌≡◌, refl, List, [], ◌∷◌, ◌++◌, Err, map, length, get_or, take, drop, Bool, true, false, eqb}
use Rattle.std.proofs.Common.{add-one, arith, ap, sym, ◌∙◌, take-suc, ne_eqb}
use Rattle.std.proofs.Math.Seq.{split_at, take-length}
use Rattle.scope.specs.Tools.Tests.{never}
use Rattle.scope.specs.Call.Answer.{Answer, told, answer, further_down}
use Rattle.scope.specs.Logic.Form.{both, negate}
use Rattle.scope.specs.File.Kinds.{logic_of}
use Rattle.scope.specs.File.Refusals.{demand, unit_refusal}
use Rattle.scope.specs.Call.Checked.{first_met}
use Rattle.common.specs.Answers.{answer_of}
use Rattle.common.specs.declared.refused.Refusal.{Refusal}
use Rattle.common.specs.declared.refused.Answer.{Answer as Returned}
use Rattle.common.specs.Refused.{number_of}
use Rattle.numbering.specs.Refused.{number_some}
use Rattle.checks.specs.Met.{Checked, Fine, answer_in, checked_of, met_in, down_of}

pub refused_at_lem : (k place : ℕ) → (k ≡ 0 → ⊥) → Err (answer_of (answer k place)) ≡ checked_of (answer k place)
unfolding checked_of
refused_at_lem zero place h = absurd (h refl)
refused_at_lem (suc k) place h = refl

-- A refusal of the code is no 0.
pub refused_line : (r : Refusal) (place : ℕ) → Err (answer_of (answer (number_of r) place)) ≡ checked_of (answer (number_of r) place)
refused_line r place = refused_at_lem (number_of r) place (number_some r)

pub met_fine : (a b : List Answer) → met_in a ≡ Fine → met_in (a ++ b) ≡ met_in b
unfolding met_in first_met checked_of
met_fine [] b e = refl
met_fine (told zero p c ∷ a) b e = met_fine a b e
met_fine (told (suc k) p c ∷ a) b e = never cc

pub met_refused : (a b : List Answer) (r : Returned) → met_in a ≡ Err r → met_in (a ++ b) ≡ Err r
unfolding met_in first_met checked_of
met_refused [] b r e = never cc
met_refused (told zero p c ∷ a) b r e = met_refused a b r e
met_refused (told (suc k) p c ∷ a) b r e = e

-- What a check of a gave is the answer to all, where it is a refusal; else what comes after it decides.
pub met_stop : (a b : List Answer) (g : Checked) (r : Returned) → g ≡ met_in a → g ≡ Err r → g ≡ met_in (a ++ b)
met_stop a b g r e f = f ∙ sym (met_refused a b r (sym e ∙ f))

pub met_go : (a b : List Answer) (g : Checked) → g ≡ met_in a → g ≡ Fine → met_in b ≡ met_in (a ++ b)
met_go a b g e f = sym (met_fine a b (sym e ∙ f))

pub met_one : (a : Answer) → met_in (a ∷ []) ≡ checked_of a
unfolding met_in first_met checked_of
met_one (told zero p c) = refl
met_one (told (suc k) p c) = refl

pub met_front : (a b : List Answer) → met_in (a ++ b) ≡ Fine → met_in a ≡ Fine
unfolding met_in first_met checked_of
met_front [] b e = refl
met_front (told zero p c ∷ a) b e = met_front a b e
met_front (told (suc k) p c ∷ a) b e = e

pub met_back : (a b : List Answer) → met_in (a ++ b) ≡ Fine → met_in b ≡ Fine
met_back a b e = sym (met_fine a b (met_front a b e)) ∙ e

pub fine_none : (k place : ℕ) → checked_of (answer k place) ≡ Fine → k ≡ 0
unfolding checked_of
fine_none zero place e = refl
fine_none (suc k) place e = never cc

pub one_stop : (x : Answer) (b : List Answer) (g : Checked) (r : Returned) → g ≡ checked_of x → g ≡ Err r → g ≡ met_in (x ∷ b)
one_stop x b g r e f = met_stop (x ∷ []) b g r (e ∙ sym (met_one x)) f

pub one_go : (x : Answer) (b : List Answer) (g : Checked) → g ≡ checked_of x → g ≡ Fine → met_in b ≡ met_in (x ∷ b)
one_go x b g e f = met_go (x ∷ []) b g (e ∙ sym (met_one x)) f

-- What `?` gives back of a refusal.
pub met_out : (a b : List Answer) {g back : Checked} {r : Returned} → g ≡ met_in a → g ≡ Err r → back ≡ Err r → back ≡ met_in (a ++ b)
met_out a b {g} {back} {r} e f k = k ∙ sym f ∙ met_stop a b g r e f

pub one_out : (x : Answer) (b : List Answer) {g back : Checked} {r : Returned} → g ≡ checked_of x → g ≡ Err r → back ≡ Err r → back ≡ met_in (x ∷ b)
one_out x b {g} {back} {r} e f k = k ∙ sym f ∙ one_stop x b g r e f

-- The same of the second of two, and what is left behind both.
pub two_out : (x y : Answer) (b : List Answer) {g h back : Checked} {r : Returned} → g ≡ checked_of x → g ≡ Fine →
    h ≡ checked_of y → h ≡ Err r → back ≡ Err r → back ≡ met_in (x ∷ y ∷ b)
two_out x y b {g = g} e fine f out k = one_out y b f out k ∙ one_go x (y ∷ b) g e fine

pub two_go : (x y : Answer) (b : List Answer) {g h k : Checked} → g ≡ checked_of x → g ≡ Fine → h ≡ checked_of y → h ≡ Fine → k ≡ met_in b →
    k ≡ met_in (x ∷ y ∷ b)
two_go x y b {g = g} {h = h} e fine f good last = last ∙ one_go y b h f good ∙ one_go x (y ∷ b) g e fine

-- What a check of lines gave, told of the lines further down.
pub met_down : (n : ℕ) (a : List Answer) → down_of n (met_in a) ≡ met_in (map (further_down n) a)
unfolding met_in first_met checked_of down_of further_down
met_down n [] = refl
met_down n (told zero p c ∷ a) = met_down n a
met_down n (told (suc k) p c ∷ a) = refl

-- A refusal's number is not 0, so the code's answer says all of document 01's.
pub first_answer : (a : List Answer) → answer_in (met_in a) ≡ first_met a
unfolding met_in first_met checked_of answer_in
first_answer [] = refl
first_answer (told zero p c ∷ a) = first_answer a
first_answer (told (suc k) p c ∷ a) = refl

abbrev pub answer_at : List Answer → ℕ → Answer
answer_at a i = get_or a i (answer 0 0)

-- The first i of n answers are fine.
pub record Passed (n : ℕ) (a : List Answer) (i : ℕ) : Type 0 where
  pub most : i ≤ n
  pub long : length a ≡ n
  pub fine : met_in (take i a) ≡ Fine

pub passed_none : {n : ℕ} {a : List Answer} → length a ≡ n → Passed n a 0
unfolding met_in first_met checked_of
passed_none e = record { most = omega arith; long = e; fine = refl }

pub passed_all : {n : ℕ} {a : List Answer} {i : ℕ} → Passed n a i → n ≤ i → Fine ≡ met_in a
passed_all {n} {a} {i} p h =
    let e : i ≡ length a = omega (arith, p.most, p.long) in
    sym p.fine ∙ ap (λ (k : ℕ). met_in (take k a)) e ∙ ap met_in (take-length a)

-- A turn of a loop: the answers before i are fine, and g is what the check of answer i gave.
pub record Turn (n : ℕ) (a : List Answer) (i : ℕ) (g : Checked) : Type 0 where
  pub within : i < n
  pub passed : Passed n a i
  pub gave : g ≡ checked_of (answer_at a i)

pub turn_of : {n : ℕ} {a : List Answer} {i : ℕ} {x : Answer} {g : Checked} → i < n → Passed n a i → answer_at a i ≡ x → g ≡ checked_of x → Turn n a i g
turn_of h p e gave = record { within = h; passed = p; gave = gave ∙ ap checked_of (sym e) }

-- Where g is a refusal, it is the answer to all; else one more is passed.
pub turn_stop : {n : ℕ} {a : List Answer} {i : ℕ} {g : Checked} {r : Returned} → Turn n a i g → g ≡ Err r → g ≡ met_in a
turn_stop {n} {a} {i} {g} {r} t e =
    let h : i < length a = rw t.passed.long t.within in
    e ∙
    sym
    (ap met_in (split_at a i (answer 0 0) h) ∙
    met_fine (take i a) (answer_at a i ∷ drop (suc i) a) t.passed.fine ∙
    met_refused (answer_at a i ∷ []) (drop (suc i) a) r (met_one (answer_at a i) ∙ sym t.gave ∙ e))

pub turn_out : {n : ℕ} {a : List Answer} {i : ℕ} {g back : Checked} {r : Returned} → Turn n a i g → g ≡ Err r → back ≡ Err r → back ≡ met_in a
turn_out t f k = k ∙ sym f ∙ turn_stop t f

pub turn_go : {n : ℕ} {a : List Answer} {i : ℕ} {g : Checked} → Turn n a i g → g ≡ Fine → Passed n a (i + 1)
turn_go {n} {a} {i} t e =
    let h : i < length a = rw t.passed.long t.within in
    record {
      most = omega (arith, t.within);
      long = t.passed.long;
      fine =
          ap (λ (k : ℕ). met_in (take k a)) (add-one i) ∙
          ap met_in (take-suc a i (answer 0 0) h) ∙
          met_fine (take i a) (answer_at a i ∷ []) t.passed.fine ∙
          met_one (answer_at a i) ∙
          sym t.gave ∙
          e;
    }

-- Unit is told with version 1, or plain with any.
pub plain_told : (version logic : ℕ) → logic ≡ 0 → 0 ≡ unit_refusal version (logic_of logic)
unfolding unit_refusal logic_of
plain_told version logic e = rw e (go (eqb version 1))
  where
    go : (b : Bool) → 0 ≡ demand (negate (both b false)) 16 0
    go true = refl
    go false = refl

pub unit_told : (version logic : ℕ) → version ≡ 1 → (logic ≡ 0 → ⊥) → 16 ≡ unit_refusal version (logic_of logic)
unfolding unit_refusal logic_of
unit_told version zero e h = absurd (h refl)
unit_told version (suc logic) e h = rw e refl

-- Version 1, by the test of the logic that the code makes.
pub unit_asked : (version logic : ℕ) → version ≡ 1 → demand (eqb logic 0) 16 0 ≡ unit_refusal version (logic_of logic)
unfolding demand
unit_asked version zero e = plain_told version 0 refl
unit_asked version (suc logic) e =
    let some : suc logic ≡ 0 → ⊥ = λ z. omega arith in
    rw (ne_eqb (suc logic) 0 some) (unit_told version (suc logic) e some)

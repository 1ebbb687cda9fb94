-- The three tables: the laws of their entries, room for the largest counts, and what the tables that say a request are to have (`Said`).
use Rattle.std.specs.Prelude.{ℕ, ◌≤◌, ◌≡◌, refl, List, [], ◌∷◌, Bool, true, leb, eqb, length}
use Rattle.std.proofs.Common.{sym, arith, leb-true, eqb-true}
use Rattle.scope.specs.Logic.Form.{both}
use Rattle.scope.specs.File.Request.{Row, Request}
use Rattle.scope.specs.File.Kinds.{Sort, Kind, kind_in, step_kinds}
use Rattle.scope.specs.File.Refusals.{rest_zero, step_refusal}
use Rattle.scope.specs.Call.Tables.{form_entry, policy_entry, step_entry, has_room, request_of, lent_of}
use Rattle.scope.specs.Call.Checked.{past_zero}
use Rattle.scope.specs.Tools.Tests.{both_true}
use Rattle.trip.specs.Words.{every_kind, every_at}
use Rattle.trip.specs.RowRanges.{row_passed}
use Rattle.trip.specs.Several.{Each}
use Rattle.trip.specs.Several as Several
use Rattle.trip.specs.Packing.{Laid, All, none_left, one_more}

abbrev pub Any : {A : Type 0} → A → Type 0
Any a = Unit {0}

pub form_laid : Laid form_entry Any
form_laid = record { wide = λ r. refl; numbers_back = three; thing_back = λ r u. refl }
  where
    three : (l : List ℕ) → length l ≡ 3 → form_entry.put (form_entry.get l) ≡ l
    three [] e = absurd (omega arith)
    three (a ∷ []) e = absurd (omega arith)
    three (a ∷ b ∷ []) e = absurd (omega arith)
    three (a ∷ b ∷ c ∷ []) e = refl
    three (a ∷ b ∷ c ∷ d ∷ l) e = absurd (omega arith)

pub line_laid : Laid policy_entry Any
line_laid = record { wide = λ n. refl; numbers_back = one; thing_back = λ n u. refl }
  where
    one : (l : List ℕ) → length l ≡ 1 → policy_entry.put (policy_entry.get l) ≡ l
    one [] e = absurd (omega arith)
    one (a ∷ []) e = refl
    one (a ∷ b ∷ l) e = absurd (omega arith)

pub step_laid : Laid step_entry (λ r. r.right ≡ 0)
step_laid = record { wide = λ r. refl; numbers_back = pair; thing_back = same }
  where
    pair : (l : List ℕ) → length l ≡ 2 → step_entry.put (step_entry.get l) ≡ l
    pair [] e = absurd (omega arith)
    pair (a ∷ []) e = absurd (omega arith)
    pair (a ∷ b ∷ []) e = refl
    pair (a ∷ b ∷ c ∷ l) e = absurd (omega arith)

    same : (r : Row) → r.right ≡ 0 → step_entry.get (step_entry.put r) ≡ r
    same r e =
        let z : 0 ≡ r.right = sym e in
        λ i. record { kind = r.kind; left = r.left; right = z i }

-- A step has one operand at most.
unfoldable single : Kind → Bool
single c = leb (length c.operands) 1

steps_single : every_kind single step_kinds ≡ true
unfolding every_kind single step_kinds
steps_single = refl

second_zero : (os : List Sort) (l r : ℕ) → length os ≤ 1 → rest_zero os (l ∷ r ∷ []) ≡ true → r ≡ 0
unfolding rest_zero
second_zero [] l r h e = eqb-true r 0 (both_true (eqb r 0) true (both_true (eqb l 0) (both (eqb r 0) true) e).1).0
second_zero (o ∷ []) l r h e = eqb-true r 0 (both_true (eqb r 0) true e).0
second_zero (o ∷ p ∷ os) l r h e = absurd (omega arith)

pub step_right : (r : Row) → step_refusal r ≡ 0 → r.right ≡ 0
unfolding step_refusal single
step_right r e =
    let p = row_passed 0 0 0 step_kinds r e in
    let os = (kind_in step_kinds r.kind).operands in
    second_zero os r.left r.right (leb-true (length os) 1 (every_at single step_kinds r.kind steps_single p.known)) p.lacking

pub each_all : {A : Type 0} {G : List A → A → Type 0} {P : A → Type 0} {n : ℕ} {before xs : List A} → ((b : List A) (x : A) → G b x → P x) → Each G n before xs → All P xs
each_all f Several.none_left = none_left
each_all f (Several.one_more {before = b} {x = x} g e) = one_more (f b x g) (each_all f e)

-- Room for the largest counts.
pub record Roomy (forms policy steps : ℕ) : Type 0 where
  pub for_forms : 3072 ≤ forms
  pub for_lines : 128 ≤ policy
  pub for_steps : 4096 ≤ steps

pub has_room_lem : (forms policy steps : ℕ) → has_room forms policy steps ≡ true → Roomy forms policy steps
unfolding has_room
has_room_lem f l s e =
    let p = both_true (leb 3072 f) (both (leb 128 l) (leb 4096 s)) e in
    let q = both_true (leb 128 l) (leb 4096 s) p.1 in
    record { for_forms = leb-true 3072 f p.0; for_lines = leb-true 128 l q.0; for_steps = leb-true 4096 s q.1 }

-- The tables that say a request give it back, with room as they were lent, and with nothing past the counts.
pub record Said (forms policy steps : ℕ) (q : Request) : Type 0 where
  pub back : request_of (lent_of forms policy steps q) ≡ q
  pub form_room_lem : length (lent_of forms policy steps q).form_table ≡ forms
  pub line_room_lem : length (lent_of forms policy steps q).policy_table ≡ policy
  pub step_room : length (lent_of forms policy steps q).step_table ≡ steps
  pub past : past_zero (lent_of forms policy steps q) ≡ true

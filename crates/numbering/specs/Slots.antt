-- Where the rows are kept, so that an equal one is found without looking at them all: 1,024 heads, and two slots under each row. A slot
-- holds 0, or the number of a row plus one. From the head that a row's numbers give, it is compared with the row of the slot; where they
-- differ, a bit of its key tells the slot under that row to look at next. Rows that differ have keys that differ in one of 48 bits.
use Prim.Native.Nat.{ℕ, zero, suc, ◌+◌, ◌-◌, ◌*◌, ◌/◌, ◌%◌, ◌≤◌, ◌<◌}
use native.Mathlib.Omega.{arith}
use Rattle.std.specs.Prelude.{◌≡◌, refl, Bool, true, false, cond, ◌&&◌, eqb, List, Option as Returned, Some, None, ltb, set}
use Rattle.std.proofs.Math.Path.{ap, sym}
use Rattle.std.proofs.Common.{◌∙◌, lt-ltb, le-ltb}
use Rattle.std.proofs.Math.Option.{Option, none, some}
use Rattle.std.proofs.Math.ListN.{get_or}
use Rattle.scope.specs.File.Request.{Row}
use Rattle.scope.specs.Limits.{most_formulas}
use Rattle.classes.specs.Rows.{form_row}
use Rattle.common.specs.declared.rows.Row.{Row as Read}
use Rattle.common.specs.Rows.{as_row, row_at}
use Rattle.numbering.specs.Equal.{rows_equal}
use Rattle.numbering.specs.declared.Place.{Place}
use Rattle.numbering.specs.declared.Place.TheVariants.{Taken, Free}
use Rattle.scope.specs.File.Refusals.{same_row}

-- The row that the code reads is the one that stands there.
pub row_here : (t : List ℕ) (i : ℕ) → as_row (row_at t i) ≡ form_row t i
unfolding row_at
row_here t i = refl

-- Derived equality of the row that is read, as a test against the one that stands there.
pub kept_same : (t : List ℕ) (i : ℕ) (r : Read) {there : Read} {equal : Bool} → there ≡ row_at t i →
    equal ≡ (eqb there.kind r.kind && (eqb there.left r.left && eqb there.right r.right)) → same_row (form_row t i) (as_row r) ≡ equal
kept_same t i r {there = there} read is =
    ap (λ x. same_row x (as_row r)) (sym (ap as_row read ∙ row_here t i)) ∙ sym (rows_equal there r) ∙ sym is

abbrev pub head_slots : ℕ
head_slots = 1024

abbrev pub most_slots : ℕ
most_slots = head_slots + 2 * most_formulas

-- No path has more rows than there are.
abbrev pub most_turns : ℕ
most_turns = most_formulas + 1

-- The head of a row, and its key.
unfoldable pub head_of : Row → ℕ
head_of r = (r.left * 40503 + r.right * 30029 + r.kind * 9973) / 64 % head_slots

unfoldable pub key_of : Row → ℕ
key_of r = r.left + r.right * 65536 + r.kind * 4294967296

-- The two slots under row i.
abbrev pub slot_under : ℕ → ℕ → ℕ
slot_under i side = head_slots + 2 * i + side

-- What the entry of a slot says: no row; or row i, equal to r or not.
unfoldable pub at_entry : List ℕ → Row → ℕ → ℕ → (ℕ → Place) → Place
unfolding same_row
at_entry t r s zero more = Free s
at_entry t r s (suc i) more = cond (same_row (form_row t i) r) (Taken i) (more i)

-- The way from a slot on, with a key, in so many turns.
unfoldable pub walk : List ℕ → List ℕ → Row → ℕ → ℕ → ℕ → Place
unfolding at_entry
walk t slots r zero k s = Free s
walk t slots r (suc m) k s = at_entry t r s (get_or slots s 0) (λ i. walk t slots r m (k / 2) (slot_under i (k % 2)))

-- Where a row is, or where it would stand.
unfoldable pub place_in : List ℕ → List ℕ → Row → Place
unfolding walk head_of key_of
place_in t slots r = walk t slots r most_turns (key_of r) (head_of r)

-- The slots once row i, which is at a place or would stand there, is kept.
unfoldable pub kept_at : Place → ℕ → List ℕ → List ℕ
kept_at (Taken j) i slots = slots
kept_at (Free s) i slots = cond (ltb i most_formulas) (set slots s (i + 1)) slots

-- The number of the row at a place.
unfoldable pub number_at : Place → Option ℕ
number_at (Taken j) = some j
number_at (Free s) = none

-- The same as the code returns it.
unfoldable pub earlier_at : Place → Returned ℕ
earlier_at (Taken j) = Some j
earlier_at (Free s) = None

unfoldable pub earlier_of : Option ℕ → Returned ℕ
earlier_of none = None
earlier_of (some j) = Some j

pub earlier_number : (p : Place) → earlier_at p ≡ earlier_of (number_at p)
unfolding earlier_at earlier_of number_at
earlier_number (Taken j) = refl
earlier_number (Free s) = refl

pub kept_taken : (p : Place) (j i : ℕ) (slots : List ℕ) → p ≡ Taken j → kept_at p i slots ≡ slots
unfolding kept_at
kept_taken p j i slots e = ap (λ q. kept_at q i slots) e

pub kept_free : (p : Place) (s i : ℕ) (slots : List ℕ) → p ≡ Free s → i < most_formulas → kept_at p i slots ≡ set slots s (i + 1)
unfolding kept_at
kept_free p s i slots e h = ap (λ q. kept_at q i slots) e ∙ ap (λ b. cond b (set slots s (i + 1)) slots) (lt-ltb i most_formulas h)

pub kept_past : (p : Place) (s i : ℕ) (slots : List ℕ) → p ≡ Free s → most_formulas ≤ i → kept_at p i slots ≡ slots
unfolding kept_at
kept_past p s i slots e h = ap (λ q. kept_at q i slots) e ∙ ap (λ b. cond b (set slots s (i + 1)) slots) (le-ltb i most_formulas h)

pub walk_begins : (t slots : List ℕ) (r : Row) (k s : ℕ) → k ≡ key_of r → s ≡ head_of r → walk t slots r most_turns k s ≡ place_in t slots r
unfolding place_in
walk_begins t slots r k s e h = ap (λ x. walk t slots r most_turns x s) e ∙ ap (λ x. walk t slots r most_turns (key_of r) x) h

pub walk_out : (t slots : List ℕ) (r : Row) (m k s : ℕ) → m ≡ 0 → walk t slots r m k s ≡ Free s
unfolding walk
walk_out t slots r m k s e = ap (λ n. walk t slots r n k s) e

-- A turn of the way, from the entry e of its slot on.
module _ (t slots : List ℕ) (r : Row) (m k s : ℕ) (left : 0 < m) where
  more : m ≡ suc (m - 1)
  more = omega arith

  pub walk_ends : get_or slots s 0 ≡ 0 → walk t slots r m k s ≡ Free s
  unfolding walk at_entry
  walk_ends e = ap (λ n. walk t slots r n k s) more ∙ ap (λ x. at_entry t r s x (λ i. walk t slots r (m - 1) (k / 2) (slot_under i (k % 2)))) e

  entry : (e : ℕ) → e ≡ get_or slots s 0 → 0 < e →
      walk t slots r m k s ≡
      cond (same_row (form_row t (e - 1)) r) (Taken (e - 1)) (walk t slots r (m - 1) (k / 2) (slot_under (e - 1) (k % 2)))
  unfolding walk at_entry
  entry e h p =
      let up : get_or slots s 0 ≡ suc (e - 1) = omega arith in
      ap (λ n. walk t slots r n k s) more ∙ ap (λ x. at_entry t r s x (λ i. walk t slots r (m - 1) (k / 2) (slot_under i (k % 2)))) up

  pub walk_meets : (e : ℕ) → e ≡ get_or slots s 0 → 0 < e → same_row (form_row t (e - 1)) r ≡ true → walk t slots r m k s ≡ Taken (e - 1)
  walk_meets e h p same =
      entry e h p ∙ ap (λ b. cond b (Taken (e - 1)) (walk t slots r (m - 1) (k / 2) (slot_under (e - 1) (k % 2)))) same

  pub walk_goes : (e : ℕ) → e ≡ get_or slots s 0 → 0 < e → same_row (form_row t (e - 1)) r ≡ false →
      walk t slots r m k s ≡ walk t slots r (m - 1) (k / 2) (slot_under (e - 1) (k % 2))
  walk_goes e h p other =
      entry e h p ∙ ap (λ b. cond b (Taken (e - 1)) (walk t slots r (m - 1) (k / 2) (slot_under (e - 1) (k % 2)))) other

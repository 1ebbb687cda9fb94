-- What the stores of the code make of a new world, by the edge that leads to it, and that the rows of older worlds stand. What they tell is proofs/Grown.
use Rattle.std.specs.Prelude.{ℕ, ◌+◌, ◌≤◌, Bool, true, ◌≡◌, refl, List, get_or}
use Rattle.std.proofs.Common.{ap, ◌∙◌}
use Rattle.std.specs.Int.Bits.{bit_or}
use Rattle.scope.specs.Tools.Tests.{never}
use Rattle.scope.specs.Logic.Facts.{Logic, plain, unit, is_unit}
use Rattle.facts.specs.Rows.{principals_max, le_at, up_at, by_at, sf_rows, lead_row, over_row, seen_row, under_row, beside_row, grown_row, new_world, grown_le, grown_by}
use Rattle.facts.specs.Fill.{fill, fill_same}
use Rattle.facts.specs.Bits.{when}
use Rattle.facts.specs.Kept.{Agree}
use Rattle.facts.specs.NewRows.{new_agree, over_still}

-- A new world behind u by u S_a n: from each world that leads to u each principal with u: c sf a sees n; and with unit what is ≤ u is ≤ n (rules 10
-- and 8), and what sees u sees n (rules 10 and 6).
pub unit_is : (l : Logic) → is_unit l ≡ true → l ≡ unit
unit_is plain e = never cc
unit_is unit e = refl

pub is_unit_lem : {l : Logic} → l ≡ unit → is_unit l ≡ true
is_unit_lem e = rw e refl

-- What the stores of the code make of rows r.
pub stored_le : (r : List ℕ) (u n : ℕ) {l w from at c : ℕ} {x s : List ℕ} → l ≡ get_or r (le_at u) 0 → w ≡ lead_row r u →
    s ≡ new_world r u n l w → from ≡ by_at u → at ≡ by_at n → c ≡ principals_max → x ≡ fill (λ (i : ℕ). get_or s (from + i) 0) at c s →
    x ≡ grown_le r u n
unfolding grown_le
stored_le r u n {l} {w} hl hw hs hf hat hc hx =
    rw (hc, hat, hf, hs) at hx ∙
    fill_same (over_row (new_world r u n l w) u) (over_row r u) (by_at n) principals_max (new_world r u n l w) (over_still r u n l w) ∙
    rw (hw, hl) refl

pub stored_by : (t : Bool) (r : List ℕ) (a u n : ℕ) {l w from at c : ℕ} {x s saved : List ℕ} → saved ≡ sf_rows r u → w ≡ get_or r (up_at u) 0 →
    l ≡ under_row t r u → s ≡ new_world r u n l w → from ≡ by_at u → at ≡ by_at n → c ≡ principals_max →
    x ≡ fill (λ (i : ℕ). bit_or (seen_row saved w a i) (when t (get_or s (from + i) 0))) at c s → x ≡ grown_by t r a u n
unfolding grown_by
stored_by t r a u n {l} {w} hv hw hl hs hf hat hc hx =
    let ways = get_or r (up_at u) 0 in
    let s = new_world r u n (under_row t r u) ways in
    rw (hc, hat, hf, hs, hl, hw, hv) at hx ∙
    fill_same (λ i. bit_or (seen_row (sf_rows r u) ways a i) (beside_row t s u i)) (grown_row t r a u) (by_at n) principals_max s
    (λ i h. ap (λ z. bit_or (seen_row (sf_rows r u) ways a i) (when t z)) (over_still r u n (under_row t r u) ways i h))

-- The rows of older worlds stand.
pub agree_le : (n u w : ℕ) (r : List ℕ) → n ≤ w → Agree n r (grown_le r u w)
unfolding grown_le
agree_le n u w r h = new_agree r u w (get_or r (le_at u) 0) (lead_row r u) (over_row r u) n h

pub agree_by : (n : ℕ) (t : Bool) (a u w : ℕ) (r : List ℕ) → n ≤ w → Agree n r (grown_by t r a u w)
unfolding grown_by
agree_by n t a u w r h = new_agree r u w (under_row t r u) (get_or r (up_at u) 0) (grown_row t r a u) n h

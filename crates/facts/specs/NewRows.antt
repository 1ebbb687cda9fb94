-- How the rows of a new world are read, and that all rows before them stand.
use Rattle.std.specs.Prelude.{ℕ, ◌+◌, ◌*◌, ◌<◌, ◌≤◌, ◌≡◌, List, get_or, set}
use Rattle.std.proofs.Common.{◌∙◌, ⊎_elim}
use native.Mathlib.Omega.{arith}
use Rattle.std.proofs.Math.ListN.{length, length-set}
use Rattle.std.proofs.Math.Seq.{get_or-set_same, get_or-set_other}
use Rattle.std.specs.Int.Bits.{bit_or}
use Rattle.facts.specs.Fill.{fill, fill_more, length_fill, fill_before, fill_after, fill_at, below_or_past}
use Rattle.facts.specs.Rows.{worlds_max, principals_max, rows_each, rows_max, le_at, up_at, by_at, sf_at, one_bit, sf_rows, back_row, put_sf, new_world}
use Rattle.facts.specs.Kept.{saved_row, Agree}

-- How a table s with the new world n behind u is read: l is its row of ≤ and up its row of ancestors, both but for n itself, and f c the row
-- of S of principal c.
pub record NewRows (n u l up : ℕ) (f : ℕ → ℕ) (r s : List ℕ) : Type 0 where
  pub size : length s ≡ length r
  pub older : (i : ℕ) → i < n * rows_each → get_or s i 0 ≡ get_or r i 0
  pub row_le : get_or s (le_at n) 0 ≡ bit_or l (one_bit n)
  pub row_up : get_or s (up_at n) 0 ≡ bit_or up (one_bit n)
  pub row_by : (c : ℕ) → c < principals_max → get_or s (by_at n + c) 0 ≡ f c
  pub row_sf : (c : ℕ) → c < principals_max → get_or s (sf_at n + c) 0 ≡ get_or r (sf_at u + c) 0

-- A loop that fills the rows of S of world n from those of world u, whichever they are, reads each as it stood before the loop,
read_before : (f : ℕ → ℕ) (r : List ℕ) (u n c : ℕ) → c < principals_max → get_or (fill f (by_at n) c r) (by_at u + c) 0 ≡ get_or r (by_at u + c) 0
read_before f r u n c h =
    ⊎_elim (λ low. fill_before f (by_at n) c r (by_at u + c) low)
    (λ past. fill_after f (by_at n) c r (by_at u + c) (omega arith))
    (below_or_past (by_at u + c) (by_at n))

pub over_turn : (f : ℕ → ℕ) (r : List ℕ) (u n c : ℕ) {from at z w : ℕ} {x y : List ℕ} → c < principals_max → from ≡ by_at u → at ≡ by_at n →
    x ≡ fill f at c r → z ≡ get_or x (from + c) 0 → (z ≡ get_or r (from + c) 0 → w ≡ f c) → y ≡ set x (at + c) w → y ≡ fill f at (c + 1) r
over_turn f r u n c {from} {at} {z} h hf ha hx hz hw hy =
    let same : get_or (fill f at c r) (from + c) 0 ≡ get_or r (from + c) 0 = rw (hf, ha) (read_before f r u n c h) in
    fill_more f at c r hx hy (hw (rw hx at hz ∙ same))

-- and as it stood before the first rows of n were written.
pub over_still : (r : List ℕ) (u n l up c : ℕ) → c < principals_max → get_or (new_world r u n l up) (by_at u + c) 0 ≡ get_or r (by_at u + c) 0
unfolding new_world put_sf
over_still r u n l up c h =
    let p : by_at u + c ≡ up_at n → ⊥ = λ e. omega arith in
    let q : by_at u + c ≡ le_at n → ⊥ = λ e. omega arith in
    ⊎_elim (λ low. fill_before back (sf_at n) principals_max first (by_at u + c) low)
    (λ past. fill_after back (sf_at n) principals_max first (by_at u + c) (omega arith))
    (below_or_past (by_at u + c) (sf_at n)) ∙
    get_or-set_other (set r (le_at n) (bit_or l (one_bit n))) (up_at n) (by_at u + c) (bit_or up (one_bit n)) 0 p ∙
    get_or-set_other r (le_at n) (by_at u + c) (bit_or l (one_bit n)) 0 q
  where
    first : List ℕ
    first = set (set r (le_at n) (bit_or l (one_bit n))) (up_at n) (bit_or up (one_bit n))

    back : ℕ → ℕ
    back = back_row first n (sf_rows r u)

module _ (r : List ℕ) (u n l up : ℕ) (f : ℕ → ℕ) where
  abbrev first : List ℕ
  first = set (set r (le_at n) (bit_or l (one_bit n))) (up_at n) (bit_or up (one_bit n))

  abbrev back : ℕ → ℕ
  back = back_row first n (sf_rows r u)

  first_length : length first ≡ length r
  first_length =
      length-set (set r (le_at n) (bit_or l (one_bit n))) (up_at n) (bit_or up (one_bit n)) ∙
      length-set r (le_at n) (bit_or l (one_bit n))

  -- what stands before the rows of S and sf
  front : (i : ℕ) → i < by_at n → get_or (fill f (by_at n) principals_max (fill back (sf_at n) principals_max first)) i 0 ≡ get_or first i 0
  front i h =
      fill_before f (by_at n) principals_max (fill back (sf_at n) principals_max first) i h ∙
      fill_before back (sf_at n) principals_max first i (omega arith)

  first_other : (i : ℕ) → i < n * rows_each → get_or first i 0 ≡ get_or r i 0
  first_other i h =
      let p : i ≡ up_at n → ⊥ = λ e. omega arith in
      let q : i ≡ le_at n → ⊥ = λ e. omega arith in
      get_or-set_other (set r (le_at n) (bit_or l (one_bit n))) (up_at n) i (bit_or up (one_bit n)) 0 p ∙
      get_or-set_other r (le_at n) i (bit_or l (one_bit n)) 0 q

  new_length : length (fill f (by_at n) principals_max (fill back (sf_at n) principals_max first)) ≡ length r
  new_length =
      length_fill f (by_at n) principals_max (fill back (sf_at n) principals_max first) ∙
      length_fill back (sf_at n) principals_max first ∙
      first_length

  pub new_agree : (m : ℕ) → m ≤ n → Agree m r (fill f (by_at n) principals_max (new_world r u n l up))
  unfolding new_world put_sf
  new_agree m h =
      record {
        same_length = new_length;
        same_rows = λ i g. let low : i < n * rows_each = omega arith in front i (omega arith) ∙ first_other i low;
      }

  pub new_rows : length r ≡ rows_max → n < worlds_max → NewRows n u l up f r (fill f (by_at n) principals_max (new_world r u n l up))
  unfolding new_world put_sf
  new_rows size small =
      let two : length (set r (le_at n) (bit_or l (one_bit n))) ≡ length r = length-set r (le_at n) (bit_or l (one_bit n)) in
      let three : length (fill back (sf_at n) principals_max first) ≡ length r =
      length_fill back (sf_at n) principals_max first ∙ first_length in
      let apart : le_at n ≡ up_at n → ⊥ = λ e. omega arith in
      record {
        size = new_length;
        older = λ i h. front i (omega arith) ∙ first_other i h;
        row_le = front (le_at n) (omega arith) ∙
            get_or-set_other (set r (le_at n) (bit_or l (one_bit n))) (up_at n) (le_at n) (bit_or up (one_bit n)) 0 apart ∙
            get_or-set_same r (le_at n) (bit_or l (one_bit n)) 0 (omega arith);
        row_up = front (up_at n) (omega arith) ∙
            get_or-set_same (set r (le_at n) (bit_or l (one_bit n))) (up_at n) (bit_or up (one_bit n)) 0 (omega arith);
        row_by = λ c h. fill_at f (by_at n) principals_max (fill back (sf_at n) principals_max first) c h (omega arith);
        row_sf = λ c h.
            fill_after f (by_at n) principals_max (fill back (sf_at n) principals_max first) (sf_at n + c) (omega arith) ∙
            fill_at back (sf_at n) principals_max first c h (omega (arith, first_length)) ∙
            saved_row r u c h;
      }

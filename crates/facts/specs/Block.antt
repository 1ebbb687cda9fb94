-- The rows of all principals from a place on: what stands in them, how they are read and put as one piece, and past the table's end.
use Rattle.std.specs.Prelude.{ℕ, ◌+◌, ◌<◌, ◌≤◌, ◌≡◌, refl, List, length, get_or, replicate}
use Rattle.std.proofs.Common.{sym, ◌∙◌, zero-add, arith}
use Rattle.std.proofs.lemmas.List.{length-replicate, get_or-replicate, get_or_past, places}
use borrow.Rule.Slice.PartMut.{mid_of, put_mid}
use Rattle.facts.specs.Fill.{fill, length_fill, fill_at, fill_whole, fill_mid, fill_same}
use Rattle.facts.specs.Rows.{principals_max, block, put_block}

pub block_length : (r : List ℕ) (at : ℕ) → length (block r at) ≡ principals_max
block_length r at = length_fill (λ c. get_or r (at + c) 0) 0 principals_max (replicate principals_max 0)

pub block_row : (r : List ℕ) (at c : ℕ) → c < principals_max → get_or (block r at) c 0 ≡ get_or r (at + c) 0
block_row r at c h =
    rw zero-add at
    (fill_at (λ i. get_or r (at + i) 0) 0 principals_max (replicate principals_max 0) c h
    (rw length-replicate (omega arith)))

-- Read and put as a part of the table, and what is read past its end.
pub block_read : (r : List ℕ) (at n : ℕ) {y : List ℕ} → at + principals_max ≤ length r → n ≡ principals_max → y ≡ mid_of at n r → y ≡ block r at
block_read r at n {y} room long e =
    fill_whole (λ c. get_or r (at + c) 0) principals_max (replicate principals_max 0) y (length-replicate {A = ℕ} principals_max 0)
    (rw (e, long) (grind (arith, places))) (λ i h. rw (e, long) (grind (arith, places)))

pub block_past : (r : List ℕ) (at : ℕ) → length r ≤ at → replicate principals_max 0 ≡ block r at
block_past r at past =
    fill_whole (λ c. get_or r (at + c) 0) principals_max (replicate principals_max 0) (replicate principals_max 0)
    (length-replicate {A = ℕ} principals_max 0) (length-replicate {A = ℕ} principals_max 0)
    (λ i h. get_or-replicate {A = ℕ} principals_max i 0 0 h ∙ sym (get_or_past r (at + i) 0 (omega arith)))

pub put_read : (r : List ℕ) (at n : ℕ) {s y : List ℕ} → at + principals_max ≤ length r → n ≡ principals_max → length s ≡ principals_max → y ≡ s →
    put_mid at n r y ≡ put_block r at s
put_read r at n {s} room long size e = rw (e, long) (fill_mid (λ c. get_or s c 0) at principals_max r s room size (λ i h. refl))

-- Rows that are put, by what they are: here each is given by its number.
pub put_filled : (f : ℕ → ℕ) (r : List ℕ) (at c : ℕ) (z : List ℕ) {s : List ℕ} → length z ≡ principals_max → c ≡ principals_max → s ≡ fill f 0 c z →
    put_block r at s ≡ fill f at principals_max r
put_filled f r at c z {s} size done e =
    fill_same (λ i. get_or s i 0) f at principals_max r
    (λ i h. rw (e, done) (rw zero-add at (fill_at f 0 principals_max z i h (omega arith))))

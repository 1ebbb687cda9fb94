-- What the stores of the code make of rows r, for a new world by the edge that leads to it and for a note: the definitions' own tables.
use Rattle.std.specs.Prelude.{ℕ, ◌<◌, Bool, true, false, ◌≡◌, refl, List, length, get_or, replicate}
use Rattle.std.proofs.Common.{ap, ◌∙◌}
use Rattle.std.proofs.lemmas.List.{length-replicate, get_or-replicate}
use Rattle.std.proofs.lemmas.Nat.{or_comm}
use Rattle.std.specs.Int.Bits.{bit_or}
use Rattle.facts.specs.Rows.{principals_max, le_at, up_at, by_at, sf_at, block, put_block, sf_rows, put_sf, speaks_in, lead_row, over_row, seen_row, under_row, beside_row, grown_row, new_world, grown_le, grown_by, noted_row, noted}
use Rattle.facts.specs.Fill.{fill, fill_same}
use Rattle.facts.specs.Bits.{when}
use Rattle.facts.specs.Block.{block_length, block_row, put_filled}
use Rattle.facts.specs.Kept.{sf_length}

pub made_le : (r : List ℕ) (u n : ℕ) {l w : ℕ} {x y s : List ℕ} → l ≡ get_or r (le_at u) 0 → w ≡ lead_row r u → s ≡ block r (by_at u) →
    y ≡ new_world r u n l w → x ≡ put_block y (by_at n) s → x ≡ grown_le r u n
unfolding grown_le
made_le r u n {l} {w} hl hw hs hy hx =
    let y = new_world r u n (get_or r (le_at u) 0) (lead_row r u) in
    rw (hs, hy, hl, hw) at hx ∙
    fill_same (λ c. get_or (block r (by_at u)) c 0) (over_row r u) (by_at n) principals_max y (λ c h. block_row r (by_at u) c h)

-- What the logic adds of the world behind which the new one stands: with unit its row of ≤ and its rows of S, and in plain none.
pub record Beside (t : Bool) (r : List ℕ) (u l : ℕ) (z : List ℕ) : Type 0 where
  pub less : l ≡ under_row t r u
  pub size : length z ≡ principals_max
  pub rows : (c : ℕ) → c < principals_max → get_or z c 0 ≡ beside_row t r u c

pub beside_unit : (r : List ℕ) (u : ℕ) {l : ℕ} {z : List ℕ} → l ≡ get_or r (le_at u) 0 → z ≡ block r (by_at u) → Beside true r u l z
beside_unit r u hl hz =
    record {
      less = hl;
      size = rw hz (block_length r (by_at u));
      rows = λ c h. rw hz (block_row r (by_at u) c h);
    }

pub beside_plain : (r : List ℕ) (u : ℕ) → Beside false r u 0 (replicate principals_max 0)
beside_plain r u =
    record {
      less = refl;
      size = length-replicate {A = ℕ} principals_max 0;
      rows = λ c h. get_or-replicate {A = ℕ} principals_max c 0 0 h;
    }

pub made_by : (t : Bool) (r : List ℕ) (a u n : ℕ) {l w c : ℕ} {x y s z saved : List ℕ} → saved ≡ sf_rows r u → w ≡ get_or r (up_at u) 0 →
    Beside t r u l z → c ≡ principals_max → s ≡ fill (λ i. bit_or (get_or z i 0) (seen_row saved w a i)) 0 c z → y ≡ new_world r u n l w →
    x ≡ put_block y (by_at n) s → x ≡ grown_by t r a u n
unfolding grown_by
made_by t r a u n {z = z} hv hw b hc hs hy hx =
    let ways = get_or r (up_at u) 0 in
    let y = new_world r u n (under_row t r u) ways in
    let f = λ (i : ℕ). bit_or (get_or z i 0) (seen_row (sf_rows r u) ways a i) in
    rw (hy, b.less, hw) at hx ∙
    put_filled f y (by_at n) _ z b.size hc (rw (hv, hw) at hs) ∙
    fill_same f (grown_row t r a u) (by_at n) principals_max y
    (λ i h. or_comm (get_or z i 0) (seen_row (sf_rows r u) ways a i) ∙ ap (λ k. bit_or (seen_row (sf_rows r u) ways a i) k) (b.rows i h))

pub made_note : (r : List ℕ) (m a b : ℕ) {more c : ℕ} {x s z : List ℕ} → z ≡ sf_rows r m → more ≡ get_or z b 0 → c ≡ principals_max →
    s ≡ fill (λ i. bit_or (get_or z i 0) (when (speaks_in z i a) more)) 0 c z → x ≡ put_sf r m s → x ≡ noted r m a b
unfolding noted put_sf
made_note r m a b {c = c} hz hm hc hs hx = hx ∙ put_filled (noted_row (sf_rows r m) a b) r (sf_at m) c (sf_rows r m) (sf_length r m) hc (rw (hm, hz) at hs)

-- A note in rows: what the stores of the code come to, and that no other row changes. What the rows tell then is proofs/Noted.
use Rattle.std.specs.Prelude.{ℕ, suc, ◌≤◌, ◌≡◌, List, get_or}
use Rattle.std.specs.Int.Bits.{bit_or}
use Rattle.facts.specs.Fill.{fill}
use Rattle.facts.specs.Rows.{principals_max, sf_at, sf_rows, speaks_in, noted_row, noted}
use Rattle.facts.specs.Bits.{when}
use Rattle.facts.specs.Kept.{Agree, agree_fill}

-- What the stores of the code make of rows r.
pub stored_note : (r : List ℕ) (m a b : ℕ) {more at c : ℕ} {x s : List ℕ} → s ≡ sf_rows r m → more ≡ get_or s b 0 → at ≡ sf_at m →
    c ≡ principals_max → x ≡ fill (λ i. bit_or (get_or s i 0) (when (speaks_in s i a) more)) at c r → x ≡ noted r m a b
unfolding noted
stored_note r m a b hs hm hat hc hx = rw (hc, hat, hm, hs) at hx

-- It writes over no row but those.
pub agree_note : (n m a b : ℕ) (r : List ℕ) → n ≤ suc m → Agree n r (noted r m a b)
unfolding noted
agree_note n m a b r h = agree_fill (noted_row (sf_rows r m) a b) n m r h

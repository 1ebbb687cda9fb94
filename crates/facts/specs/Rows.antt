-- The closed facts of a sequent as rows of bits in one table, and what each function of this crate makes of a table. Every definition is
-- total: a row past the table's end reads as 0 and is not written, and a number too large for a row's bits is in no row.
use Rattle.std.specs.Prelude.{ℕ, ◌+◌, ◌*◌, Bool, List, get_or, set, replicate, ltb}
use Rattle.std.specs.Int.Bits.{bit_or}
use Rattle.scope.specs.Limits.{most_worlds, most_principals}
use Rattle.scope.specs.Logic.Facts.{Fact, le, by, sf}
use Rattle.facts.specs.Fill.{fill}
use Rattle.facts.specs.Bits.{when, bit_in, one_in}

-- A row has a bit for each world; each world has one row of ≤, one of its ancestors, and one of S and one of sf for each principal.
abbrev pub worlds_max : ℕ
worlds_max = most_worlds

abbrev pub principals_max : ℕ
principals_max = most_principals

abbrev pub rows_each : ℕ
rows_each = 2 + 2 * principals_max

abbrev pub rows_max : ℕ
rows_max = worlds_max * rows_each

abbrev pub row_at : ℕ → ℕ → ℕ
row_at v part = v * rows_each + part

-- The rows that lead to world v: bit u of the first is u ≤ v; of the second, some way of ≤ and S facts from u to v;
abbrev pub le_at : ℕ → ℕ
le_at v = row_at v 0

abbrev pub up_at : ℕ → ℕ
up_at v = row_at v 1

-- of the row of S of principal a, u S_a v; and bit b of the row of sf of principal a is v: a sf b.
abbrev pub by_at : ℕ → ℕ
by_at v = row_at v 2

abbrev pub sf_at : ℕ → ℕ
sf_at v = row_at v (2 + principals_max)

-- The bit of a number in a row, and the row with that bit alone.
abbrev pub bit_of : ℕ → ℕ → Bool
bit_of row i = bit_in worlds_max row i

abbrev pub one_bit : ℕ → ℕ
one_bit i = one_in worlds_max i

-- The row of a principal, of those that stand from a place on: 0 for a number that no principal has; and so the row of S, and the row of sf.
unfoldable pub named_row : List ℕ → ℕ → ℕ → ℕ
named_row r at a = when (ltb a principals_max) (get_or r (at + a) 0)

abbrev pub by_row : List ℕ → ℕ → ℕ → ℕ
by_row r v a = named_row r (by_at v) a

abbrev pub sf_row : List ℕ → ℕ → ℕ → ℕ
sf_row r v a = named_row r (sf_at v) a

-- What the rows tell of a fact.
unfoldable pub told : List ℕ → Fact → Bool
unfolding named_row
told r (le u v) = bit_of (get_or r (le_at v) 0) u
told r (by a u v) = bit_of (by_row r v a) u
told r (sf u a b) = bit_of (sf_row r u a) b

-- The rows of all principals from a place on, and a table with such rows put in place of what stands there.
abbrev pub block : List ℕ → ℕ → List ℕ
block r at = fill (λ c. get_or r (at + c) 0) 0 principals_max (replicate principals_max 0)

abbrev pub put_block : List ℕ → ℕ → List ℕ → List ℕ
put_block r at s = fill (λ c. get_or s c 0) at principals_max r

-- The rows of sf of a world, and a table with such rows put back.
unfoldable pub sf_rows : List ℕ → ℕ → List ℕ
sf_rows r m = block r (sf_at m)

abbrev pub back_row : List ℕ → ℕ → List ℕ → ℕ → ℕ
back_row r m s c = get_or s c 0

unfoldable pub put_sf : List ℕ → ℕ → List ℕ → List ℕ
put_sf r m s = fill (back_row r m s) (sf_at m) principals_max r

-- World 0 alone: 0 ≤ 0, and c sf c there for every principal.
unfoldable pub with_root : List ℕ → List ℕ
with_root r = fill one_bit (sf_at 0) principals_max (set (set r (le_at 0) 1) (up_at 0) 1)

unfoldable pub root_rows : List ℕ
root_rows = with_root (replicate rows_max 0)

-- Is a sf b in such rows?
abbrev pub speaks_in : List ℕ → ℕ → ℕ → Bool
speaks_in s a b = bit_of (get_or s a 0) b

-- The first two rows of a new world n, where `less` and `ways` are those of the worlds before it, and the rows of sf taken over from u.
unfoldable pub new_world : List ℕ → ℕ → ℕ → ℕ → ℕ → List ℕ
unfolding put_sf sf_rows
new_world r u n less ways =
    put_sf (set (set r (le_at n) (bit_or less (one_bit n))) (up_at n) (bit_or ways (one_bit n))) n (sf_rows r u)

-- Behind u by u ≤ n: what is ≤ u is ≤ n, what leads to u leads to n (`lead_row`), and what S leads to u it leads to n (`over_row`).
abbrev pub lead_row : List ℕ → ℕ → ℕ
lead_row r u = get_or r (up_at u) 0

abbrev pub over_row : List ℕ → ℕ → ℕ → ℕ
over_row r u c = get_or r (by_at u + c) 0

unfoldable pub grown_le : List ℕ → ℕ → ℕ → List ℕ
unfolding new_world
grown_le r u n = fill (over_row r u) (by_at n) principals_max (new_world r u n (get_or r (le_at u) 0) (lead_row r u))

-- Behind u by u S_a n: of principal c with u: c sf a, S leads to n from u and all before it (`seen_row`). With unit, t, u ≤ n too: what is ≤ u is
-- ≤ n (`under_row`), and what S leads to u it leads to n (`beside_row`).
abbrev pub seen_row : List ℕ → ℕ → ℕ → ℕ → ℕ
seen_row s ways a c = when (speaks_in s c a) ways

abbrev pub under_row : Bool → List ℕ → ℕ → ℕ
under_row t r u = when t (get_or r (le_at u) 0)

abbrev pub beside_row : Bool → List ℕ → ℕ → ℕ → ℕ
beside_row t r u c = when t (get_or r (by_at u + c) 0)

abbrev pub grown_row : Bool → List ℕ → ℕ → ℕ → ℕ → ℕ
grown_row t r a u c = bit_or (seen_row (sf_rows r u) (get_or r (up_at u) 0) a c) (beside_row t r u c)

unfoldable pub grown_by : Bool → List ℕ → ℕ → ℕ → ℕ → List ℕ
unfolding new_world
grown_by t r a u n = fill (grown_row t r a u) (by_at n) principals_max (new_world r u n (under_row t r u) (get_or r (up_at u) 0))

-- a sf b noted at m: each row of sf that has a takes in the row of b (`taken_row`), beside what stood in it.
abbrev pub taken_row : List ℕ → ℕ → ℕ → ℕ → ℕ
taken_row s a b c = when (speaks_in s c a) (get_or s b 0)

abbrev pub noted_row : List ℕ → ℕ → ℕ → ℕ → ℕ
noted_row s a b c = bit_or (get_or s c 0) (taken_row s a b c)

unfoldable pub noted : List ℕ → ℕ → ℕ → ℕ → List ℕ
noted r m a b = fill (noted_row (sf_rows r m) a b) (sf_at m) principals_max r

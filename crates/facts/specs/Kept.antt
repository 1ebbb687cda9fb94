-- The rows hold exactly the closed facts of a sequent. `Kept` says so, `asked_le`, `asked_by` and `asked_sf` say it of each question, and
-- `kept_back` of rows that a branch has written over.
use Rattle.std.specs.Prelude.{ℕ, suc, ◌+◌, ◌*◌, ◌-◌, ◌<◌, ◌≤◌, true, ◌≡◌, refl, List, ◌↔◌, length, get_or}
use Rattle.std.proofs.Common.{sym, ◌∙◌, ⊎_elim, lt-ltb}
use native.Mathlib.Omega.{arith}
use Rattle.scope.specs.Logic.Facts.{Fact, le, by, sf, Sheet, Closed, given, Among, Named, Basis, basis, closed, least}
use Rattle.facts.specs.Fill.{fill, length_fill, fill_before, fill_at, below_or_past}
use Rattle.facts.specs.Block.{block_length, block_row}
use Rattle.facts.specs.Rows.{worlds_max, principals_max, rows_each, rows_max, le_at, up_at, by_at, sf_at, bit_of, named_row, by_row, sf_row, told, sf_rows, back_row, put_sf, speaks_in}

-- What each fact of a sheet's worlds and principals is: its numbers are among theirs, and it leads from a world to a newer one.
abbrev pub Proper : Sheet → Fact → Type 0
Proper sh (le u v) = (u ≤ v) × (v < sh.worlds)
Proper sh (by a u v) = (a < sh.principals) × (u < v) × (v < sh.worlds)
Proper sh (sf u a b) = (u < sh.worlds) × (a < sh.principals) × (b < sh.principals)

-- A fact about one of the worlds and principals, wherever it comes from.
abbrev pub Aimed : Sheet → Fact → Type 0
Aimed sh (le u v) = v < sh.worlds
Aimed sh (by a u v) = (a < sh.principals) × (v < sh.worlds)
Aimed sh (sf u a b) = (u < sh.worlds) × (a < sh.principals) × (b < sh.principals)

-- A way of ≤ and S facts from world to world.
pub data Way (sh : Sheet) (H : Fact → Type 0) : ℕ → ℕ → Type 0 where
  stop : {x : ℕ} → x < sh.worlds → Way sh H x x
  up_le : {x y z : ℕ} → H (le x y) → Way sh H y z → Way sh H x z
  up_by : {a x y z : ℕ} → H (by a x y) → Way sh H y z → Way sh H x z

-- The rows hold exactly the facts that follow from fs.
pub record Kept (sh : Sheet) (fs : List Fact) (r : List ℕ) : Type 0 where
  pub rooted : 0 < sh.worlds
  pub worlds : sh.worlds ≤ worlds_max
  pub principals : sh.principals ≤ principals_max
  pub size : length r ≡ rows_max
  pub made : (f : Fact) → Among fs f → Proper sh f
  pub right : (f : Fact) → Aimed sh f → told r f ≡ true → Closed sh (Among fs) f
  pub whole : (f : Fact) → Closed sh (Among fs) f → told r f ≡ true
  -- the row of ancestors, which the next world leans on
  pub ways_right : (u v : ℕ) → v < sh.worlds → bit_of (get_or r (up_at v) 0) u ≡ true → Way sh (Closed sh (Among fs)) u v
  pub ways_whole : (u v : ℕ) → Way sh (Closed sh (Among fs)) u v → bit_of (get_or r (up_at v) 0) u ≡ true

-- What follows from proper facts is proper.
pub proper : {sh : Sheet} {base : Fact → Type 0} {f : Fact} →
    ((g : Fact) → base g → Proper sh g) → Closed sh base f → Proper sh f
proper {sh} b c =
    least {H = Proper sh}
    (record {
      rule1 = λ u a p q. (p, q, q);
      rule2 = λ u v a b p q. (q.1, p.1, p.2);
      rule3 = λ u a b c p q. (p.0, p.1, q.2);
      rule4 = λ u v a b c p q. (p.2, q.1, q.2);
      rule5 = λ u v a b p q. (p.1, q.1, q.2);
      rule6 = λ u v w z a p q r. (q.0, omega arith, r.1);
      rule7 = λ u p. (omega arith, p);
      rule8 = λ u v w p q. (omega arith, q.1);
      rule9 = λ u v w a b p q. (q.0, omega arith, q.2);
      rule10 = λ u v a e p. (omega arith, p.2);
    })
    b c

-- A proper fact is one about those worlds and principals.
pub aimed : (sh : Sheet) (f : Fact) → Proper sh f → Aimed sh f
aimed sh (le u v) p = p.1
aimed sh (by a u v) p = (p.0, p.2)
aimed sh (sf u a b) p = p

-- and so are the facts of a list, where all of them are proper: it is its own basis.
named : (sh : Sheet) (f : Fact) → Proper sh f → Named sh f
named sh (le u v) p = (omega arith, p.1)
named sh (by a u v) p = (p.0, omega arith, p.2)
named sh (sf u a b) p = p

pub basis_among : {sh : Sheet} {fs : List Fact} {f : Fact} → ((g : Fact) → Among fs g → Proper sh g) →
    Closed sh (Among fs) f ↔ Closed sh (Basis sh fs) f
basis_among {sh} {fs} {f} made =
    (least (closed sh (Basis sh fs)) (λ g i. given (basis i (named sh g (made g i)))), least (closed sh (Among fs)) (λ g b. given (among b)))
  where
    among : {g : Fact} → Basis sh fs g → Among fs g
    among (basis i n) = i

-- A way of proper facts keeps to the worlds.
pub way_from : {sh : Sheet} {H : Fact → Type 0} {x y : ℕ} → ((g : Fact) → H g → Proper sh g) → Way sh H x y → x < sh.worlds
way_from b (stop h) = h
way_from b (up_le {x} {y} p w) = let q : (x ≤ y) × (y < _) = b (le x y) p in omega arith
way_from b (up_by {a} {x} {y} p w) = let q : (a < _) × (x < y) × (y < _) = b (by a x y) p in omega arith

pub way_to : {sh : Sheet} {H : Fact → Type 0} {x y : ℕ} → Way sh H x y → y < sh.worlds
way_to (stop h) = h
way_to (up_le p w) = way_to w
way_to (up_by p w) = way_to w

-- Each question's answer is true exactly if the fact follows.
module _ {sh : Sheet} {fs : List Fact} {r : List ℕ} (K : Kept sh fs r) where
  pub asked_le : (u v : ℕ) → v < sh.worlds → (told r (le u v) ≡ true) ↔ Closed sh (Among fs) (le u v)
  asked_le u v h = (K.right (le u v) h, K.whole (le u v))

  pub asked_by : (a u v : ℕ) → a < sh.principals → v < sh.worlds → (told r (by a u v) ≡ true) ↔ Closed sh (Among fs) (by a u v)
  asked_by a u v g h = (K.right (by a u v) (g, h), K.whole (by a u v))

  pub asked_sf : (u a b : ℕ) → u < sh.worlds → a < sh.principals → b < sh.principals →
      (told r (sf u a b) ≡ true) ↔ Closed sh (Among fs) (sf u a b)
  asked_sf u a b h g l = (K.right (sf u a b) (h, g, l), K.whole (sf u a b))

-- Of a principal's number the test in its row is true.
pub by_row_lem : (r : List ℕ) (v a : ℕ) → a < principals_max → by_row r v a ≡ get_or r (by_at v + a) 0
unfolding named_row
by_row_lem r v a h = rw (lt-ltb a principals_max h)

pub sf_row_lem : (r : List ℕ) (v a : ℕ) → a < principals_max → sf_row r v a ≡ get_or r (sf_at v + a) 0
unfolding named_row
sf_row_lem r v a h = rw (lt-ltb a principals_max h)

-- What is saved of a branch has one row for each principal.
pub sf_length : (r : List ℕ) (m : ℕ) → length (sf_rows r m) ≡ principals_max
unfolding sf_rows
sf_length r m = block_length r (sf_at m)

-- Tables whose rows of the first n worlds are the same tell the same facts about those worlds.
module _ (sh : Sheet) (r s : List ℕ) (few : sh.principals ≤ principals_max)
    (same : (i : ℕ) → i < sh.worlds * rows_each → get_or s i 0 ≡ get_or r i 0) where
  pub told_same : (f : Fact) → Aimed sh f → told s f ≡ told r f
  unfolding told
  told_same (le u v) h = rw (same (le_at v) (omega arith))
  told_same (by a u v) h =
      let small : a < principals_max = omega arith in
      let low : by_at v + a < sh.worlds * rows_each = omega arith in
      rw (by_row_lem s v a small, by_row_lem r v a small, same (by_at v + a) low)
  told_same (sf u a b) h =
      let small : a < principals_max = omega arith in
      let low : sf_at u + a < sh.worlds * rows_each = omega arith in
      rw (sf_row_lem s u a small, sf_row_lem r u a small, same (sf_at u + a) low)

-- and so keep the same facts.
pub kept_same : {sh : Sheet} {fs : List Fact} {r s : List ℕ} → Kept sh fs r → length s ≡ length r →
    ((i : ℕ) → i < sh.worlds * rows_each → get_or s i 0 ≡ get_or r i 0) → Kept sh fs s
kept_same {sh} {fs} {r} {s} K l same =
    record {
      rooted = K.rooted;
      worlds = K.worlds;
      principals = K.principals;
      size = l ∙ K.size;
      made = K.made;
      right = λ f h p. K.right f h (sym (told_same sh r s K.principals same f h) ∙ p);
      whole = λ f c.
          told_same sh r s K.principals same f (aimed sh f (proper K.made c)) ∙ K.whole f c;
      ways_right = λ u v h p. K.ways_right u v h (rw (same (up_at v) (omega arith)) at p);
      ways_whole = λ u v w.
          let h : v < sh.worlds = way_to w in
          rw (same (up_at v) (omega arith)) (K.ways_whole u v w);
    }

-- Rows of worlds below n are the same, but for the rows of sf of the newest of them, which a saved copy gives back.
pub record Agree (n : ℕ) (r s : List ℕ) : Type 0 where
  pub same_length : length s ≡ length r
  pub same_rows : (i : ℕ) → i + principals_max < n * rows_each → get_or s i 0 ≡ get_or r i 0

pub agree_self : (n : ℕ) (r : List ℕ) → Agree n r r
agree_self n r = record { same_length = refl; same_rows = λ i h. refl }

pub agree_then : {n m : ℕ} {r s t : List ℕ} → n ≤ m → Agree n r s → Agree m s t → Agree n r t
agree_then {n} {m} h a b =
    record {
      same_length = b.same_length ∙ a.same_length;
      same_rows = λ i l. b.same_rows i (omega arith) ∙ a.same_rows i l;
    }

-- Rows of sf of the newest of them, or of a newer world, may be written over.
pub agree_fill : (f : ℕ → ℕ) (n m : ℕ) (r : List ℕ) → n ≤ suc m → Agree n r (fill f (sf_at m) principals_max r)
agree_fill f n m r h =
    record {
      same_length = length_fill f (sf_at m) principals_max r;
      same_rows = λ i g. fill_before f (sf_at m) principals_max r i (omega arith);
    }

pub agree_put : (n m : ℕ) (r s : List ℕ) → n ≤ suc m → Agree n r (put_sf r m s)
unfolding put_sf
agree_put n m r s h = agree_fill (back_row r m s) n m r h

-- Rows that are stored one after the other are put back.
pub stored_back : (r : List ℕ) (m : ℕ) (s : List ℕ) {at c : ℕ} {x : List ℕ} → at ≡ sf_at m → c ≡ principals_max →
    x ≡ fill (back_row r m s) at c r → x ≡ put_sf r m s
unfolding put_sf
stored_back r m s hat hc hx = rw (hc, hat) at hx

-- What was saved of world m is what stood there.
pub saved_row : (r : List ℕ) (m c : ℕ) → c < principals_max → get_or (sf_rows r m) c 0 ≡ get_or r (sf_at m + c) 0
unfolding sf_rows
saved_row r m c h = block_row r (sf_at m) c h

pub saved_told : (r : List ℕ) (m c b : ℕ) → c < principals_max → speaks_in (sf_rows r m) c b ≡ told r (sf m c b)
unfolding told
saved_told r m c b h = rw (saved_row r m c h, sf_row_lem r m c h)

-- The saved rows of sf of the newest world, put back into a table that agrees, make the kept facts again.
pub kept_back : {sh : Sheet} {m : ℕ} {fs : List Fact} {r s : List ℕ} →
    Kept sh fs r → sh.worlds ≡ suc m → Agree (suc m) r s → Kept sh fs (put_sf s m (sf_rows r m))
unfolding put_sf
kept_back {sh} {m} {fs} {r} {s} K newest a = kept_same K (length_fill back (sf_at m) principals_max s ∙ a.same_length) same
  where
    back : ℕ → ℕ
    back = back_row s m (sf_rows r m)

    room : sf_at m + principals_max ≤ length s
    room = omega (arith, K.worlds, K.size, a.same_length)

    within : (c : ℕ) → c < principals_max → get_or (fill back (sf_at m) principals_max s) (sf_at m + c) 0 ≡ get_or r (sf_at m + c) 0
    within c h = fill_at back (sf_at m) principals_max s c h room ∙ saved_row r m c h

    same : (i : ℕ) → i < sh.worlds * rows_each → get_or (fill back (sf_at m) principals_max s) i 0 ≡ get_or r i 0
    same i h =
        ⊎_elim (λ low. fill_before back (sf_at m) principals_max s i low ∙ a.same_rows i (omega arith))
        (λ past.
        let place : sf_at m + (i - sf_at m) ≡ i = omega arith in
        rw place at (within (i - sf_at m) (omega arith)))
        (below_or_past i (sf_at m))

-- The theorem about world 0 alone, `kept_root`: of no given facts only 0 ≤ 0 and c sf c at 0 follow, and that is what the rows tell.
use Rattle.std.specs.Prelude.{ℕ, ◌+◌, ◌<◌, ◌≤◌, true, ◌≡◌, List, [], length, get_or, set, replicate}
use Rattle.std.proofs.Math.Path.{refl, sym}
use Rattle.std.proofs.Common.{◌∙◌, length-set, get_or-set_same, get_or-set_other}
use native.Mathlib.Omega.{arith}
use Rattle.std.proofs.lemmas.List.{length-replicate, get_or-replicate}
use Rattle.scope.specs.Tools.Tests.{never}
use Rattle.scope.specs.Logic.Facts.{Fact, le, by, sf, Sheet, Rules, Closed, rule1, rule7, Among, here, there, least}
use Rattle.facts.specs.Fill.{fill, length_fill, fill_before, fill_at}
use Rattle.facts.specs.Rows.{worlds_max, principals_max, rows_max, le_at, up_at, by_at, sf_at, bit_of, one_bit, told, with_root, root_rows}
use Rattle.facts.specs.Bits.{one_in, told_none, told_self, told_only}
use Rattle.facts.specs.Kept.{Aimed, Way, stop, way_from, way_to, Kept, proper, by_row_lem, sf_row_lem}

-- What follows from no given facts at the root.
abbrev Start : Sheet → Fact → Type 0
Start sh (le u v) = (u ≡ 0) × (v ≡ 0)
Start sh (by a u v) = ⊥
Start sh (sf u a b) = (u ≡ 0) × (a ≡ b) × (a < sh.principals)

none_among : {fs : List Fact} {f : Fact} → Among fs f → fs ≡ [] → ⊥
none_among here e = never cc
none_among (there p) e = never cc

start_closed : (sh : Sheet) → sh.worlds ≡ 1 → Rules sh (Start sh)
start_closed sh alone =
    record {
      rule1 = λ u a p q. (omega arith, refl, q);
      rule2 = λ u v a b p q. p;
      rule3 = λ u a b c p q. (p.0, p.1 ∙ q.1, p.2);
      rule4 = λ u v a b c p q. absurd p;
      rule5 = λ u v a b p q. (p.1, q.1, q.2);
      rule6 = λ u v w z a p q r. q;
      rule7 = λ u p. (omega arith, omega arith);
      rule8 = λ u v w p q. (p.0, q.1);
      rule9 = λ u v w a b p q. p;
      rule10 = λ u v a e p. absurd p;
    }

follows_start : (sh : Sheet) → sh.worlds ≡ 1 → (f : Fact) → Closed sh (Among []) f → Start sh f
follows_start sh alone f c = least {H = Start sh} (start_closed sh alone) (λ g p. absurd (none_among p refl)) c

start_follows : (sh : Sheet) → sh.worlds ≡ 1 → (f : Fact) → Start sh f → Closed sh (Among []) f
start_follows sh alone (le u v) p = let h : 0 < sh.worlds = omega arith in rw (p.0, p.1) (rule7 h)
start_follows sh alone (by a u v) p = absurd p
start_follows sh alone (sf u a b) p = let h : 0 < sh.worlds = omega arith in rw (p.0, ← p.1) (rule1 h p.2)

-- On any table of zeros.
module _ (sh : Sheet) (alone : sh.worlds ≡ 1) (few : sh.principals ≤ principals_max) (z : List ℕ) (size : length z ≡ rows_max)
    (zero : (i : ℕ) → i < rows_max → get_or z i 0 ≡ 0) where
  abbrev first : List ℕ
  first = set (set z (le_at 0) 1) (up_at 0) 1

  abbrev s : List ℕ
  s = fill one_bit (sf_at 0) principals_max first

  first_length : length first ≡ rows_max
  first_length = length-set (set z (le_at 0) 1) (up_at 0) 1 ∙ length-set z (le_at 0) 1 ∙ size

  one : one_bit 0 ≡ 1
  unfolding one_in
  one = refl

  row_le : (v : ℕ) → v < sh.worlds → get_or s (le_at v) 0 ≡ one_bit 0
  row_le v h =
      let e : v ≡ 0 = omega arith in
      let apart : le_at 0 ≡ up_at 0 → ⊥ = λ d. omega arith in
      rw e
      (fill_before one_bit (sf_at 0) principals_max first (le_at 0) (omega arith) ∙
      get_or-set_other (set z (le_at 0) 1) (up_at 0) (le_at 0) 1 0 apart ∙
      get_or-set_same z (le_at 0) 1 0 (omega arith) ∙
      sym one)

  row_up : (v : ℕ) → v < sh.worlds → get_or s (up_at v) 0 ≡ one_bit 0
  row_up v h =
      let e : v ≡ 0 = omega arith in
      let long : length (set z (le_at 0) 1) ≡ length z = length-set z (le_at 0) 1 in
      rw e
      (fill_before one_bit (sf_at 0) principals_max first (up_at 0) (omega arith) ∙
      get_or-set_same (set z (le_at 0) 1) (up_at 0) 1 0 (omega arith) ∙
      sym one)

  row_by : (v c : ℕ) → v < sh.worlds → c < principals_max → get_or s (by_at v + c) 0 ≡ 0
  row_by v c h g =
      let e : v ≡ 0 = omega arith in
      let p : by_at 0 + c ≡ up_at 0 → ⊥ = λ d. omega arith in
      let q : by_at 0 + c ≡ le_at 0 → ⊥ = λ d. omega arith in
      rw e
      (fill_before one_bit (sf_at 0) principals_max first (by_at 0 + c) (omega arith) ∙
      get_or-set_other (set z (le_at 0) 1) (up_at 0) (by_at 0 + c) 1 0 p ∙
      get_or-set_other z (le_at 0) (by_at 0 + c) 1 0 q ∙
      zero (by_at 0 + c) (omega arith))

  row_sf : (v c : ℕ) → v < sh.worlds → c < principals_max → get_or s (sf_at v + c) 0 ≡ one_bit c
  row_sf v c h g =
      let e : v ≡ 0 = omega arith in
      rw e (fill_at one_bit (sf_at 0) principals_max first c g (omega (arith, first_length)))

  told_start : (f : Fact) → Aimed sh f → told s f ≡ true → Start sh f
  unfolding told
  told_start (le x v) h p = (told_only worlds_max 0 x (rw (row_le v h) at p), omega arith)
  told_start (by a x v) h p =
      let g : a < principals_max = omega arith in
      told_none worlds_max x (rw (by_row_lem s v a g, row_by v a h.1 g) at p)
  told_start (sf v a b) h p =
      let g : a < principals_max = omega arith in
      (omega arith, sym (told_only worlds_max a b (rw (sf_row_lem s v a g, row_sf v a h.0 g) at p)), h.1)

  start_told : (f : Fact) → Start sh f → told s f ≡ true
  unfolding told
  start_told (le x v) p =
      let h : v < sh.worlds = omega arith in
      let g : 0 < worlds_max = omega arith in
      rw (row_le v h, p.0) (told_self worlds_max 0 g)
  start_told (by a x v) p = absurd p
  start_told (sf v a b) p =
      let h : v < sh.worlds = omega arith in
      let g : a < principals_max = omega arith in
      let l : a < worlds_max = omega arith in
      rw (sf_row_lem s v a g, row_sf v a h g, ← p.1) (told_self worlds_max a l)

  told_way : (x v : ℕ) → v < sh.worlds → bit_of (get_or s (up_at v) 0) x ≡ true → Way sh (Closed sh (Among [])) x v
  told_way x v h p =
      let e : x ≡ v = told_only worlds_max 0 x (rw (row_up v h) at p) ∙ omega arith in
      rw e (stop h)

  way_told : (x v : ℕ) → Way sh (Closed sh (Among [])) x v → bit_of (get_or s (up_at v) 0) x ≡ true
  way_told x v w =
      let h : v < sh.worlds = way_to w in
      let g : 0 < worlds_max = omega arith in
      let e : x ≡ 0 = omega (arith, way_from {sh = sh} (λ f. proper {base = Among []} (λ q p. absurd (none_among p refl))) w) in
      rw (row_up v h, e) (told_self worlds_max 0 g)

  kept_zeros : Kept sh [] (with_root z)
  unfolding with_root
  kept_zeros =
      record {
        rooted = omega arith;
        worlds = omega arith;
        principals = few;
        size = length_fill one_bit (sf_at 0) principals_max first ∙ first_length;
        made = λ f p. absurd (none_among p refl);
        right = λ f h p. start_follows sh alone f (told_start f h p);
        whole = λ f c. start_told f (follows_start sh alone f c);
        ways_right = told_way;
        ways_whole = way_told;
      }

-- The rows of world 0 alone.
pub kept_root : (sh : Sheet) → sh.worlds ≡ 1 → sh.principals ≤ principals_max → Kept sh [] root_rows
unfolding root_rows
kept_root sh alone few =
    kept_zeros sh alone few (replicate rows_max 0) (length-replicate {A = ℕ} rows_max 0)
    (λ i h. get_or-replicate {A = ℕ} rows_max i 0 0 h)

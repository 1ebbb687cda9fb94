-- The theorem about a note, `kept_note`: only rows of sf of the newest world change, and they tell what `Noted` says.
use Rattle.std.specs.Prelude.{ℕ, suc, ◌+◌, ◌<◌, ◌≤◌, true, ◌≡◌, refl, List, ◌∷◌, get_or}
use Rattle.std.proofs.Common.{sym, ◌∙◌, arith, eq-or-lt_of_le}
use Rattle.std.proofs.Math.Logic.{⊎_elim}
use Rattle.scope.specs.Logic.Facts.{Fact, le, by, sf, Sheet, Closed, given, rule1, rule3, Among, here, there, closed, least}
use Rattle.facts.specs.Fill.{fill, length_fill, fill_before, fill_at}
use Rattle.facts.specs.Rows.{worlds_max, principals_max, le_at, up_at, by_at, sf_at, bit_of, told, sf_rows, speaks_in, taken_row, noted_row, noted}
use Rattle.facts.specs.Bits.{told_left, told_right, told_either, told_when, when_told}
use Rattle.facts.specs.Kept.{Proper, Aimed, Way, way_to, Kept, proper, aimed, by_row_lem, sf_row_lem, saved_told}
use Rattle.facts.specs.Closing.{way_more, Noted, kept, note, noted_closed, noted_way}

-- What follows still follows with one given fact more.
pub closed_given : {sh : Sheet} {fs : List Fact} {e : Fact} (f : Fact) →
    Closed sh (Among fs) f → Closed sh (Among (e ∷ fs)) f
closed_given {sh} {fs} {e} f c = least (closed sh (Among (e ∷ fs))) (λ g p. given (there p)) c

module _ {sh : Sheet} {m a b : ℕ} {fs : List Fact} {r : List ℕ} (K : Kept sh fs r) (newest : sh.worlds ≡ suc m)
    (ha : a < sh.principals) (hb : b < sh.principals) where
  abbrev C : Fact → Type 0
  C = Closed sh (Among fs)

  abbrev D : Fact → Type 0
  D = Closed sh (Among (sf m a b ∷ fs))

  abbrev s : List ℕ
  s = fill (noted_row (sf_rows r m) a b) (sf_at m) principals_max r

  few : {c : ℕ} → c < sh.principals → c < principals_max
  few {c} h = omega (arith, K.principals)

  last : m < sh.worlds
  last = omega arith

  older : (i : ℕ) → i < sf_at m → get_or s i 0 ≡ get_or r i 0
  older i h = fill_before (noted_row (sf_rows r m) a b) (sf_at m) principals_max r i h

  -- what the rows tell of ≤ and S, of sf at older worlds, and of sf at m
  at_le : (x v : ℕ) → v < sh.worlds → told s (le x v) ≡ told r (le x v)
  unfolding told
  at_le x v h = rw (older (le_at v) (omega arith))

  at_by : (c x v : ℕ) → c < sh.principals → v < sh.worlds → told s (by c x v) ≡ told r (by c x v)
  unfolding told
  at_by c x v g h =
      rw (by_row_lem s v c (few g), by_row_lem r v c (few g), older (by_at v + c) (omega (arith, few g)))

  at_old : (v c d : ℕ) → c < sh.principals → v < m → told s (sf v c d) ≡ told r (sf v c d)
  unfolding told
  at_old v c d g h =
      rw (sf_row_lem s v c (few g), sf_row_lem r v c (few g), older (sf_at v + c) (omega (arith, few g)))

  at_new : (v c d : ℕ) → c < sh.principals → v ≡ m → told s (sf v c d) ≡ bit_of (noted_row (sf_rows r m) a b c) d
  unfolding told
  at_new v c d g e =
      rw (
        sf_row_lem s v c (few g),
        e,
        fill_at (noted_row (sf_rows r m) a b) (sf_at m) principals_max r c (few g) (omega (arith, K.worlds, K.size)),
      )

  at_up : (x v : ℕ) → v < sh.worlds → bit_of (get_or s (up_at v) 0) x ≡ bit_of (get_or r (up_at v) 0) x
  at_up x v h = rw (older (up_at v) (omega arith))

  -- So what is old or noted they tell,
  whole_note : (v c d : ℕ) → v ≡ m → C (sf m c a) → C (sf m b d) → told s (sf v c d) ≡ true
  unfolding told
  whole_note v c d e p q =
      let h : (m < sh.worlds) × (c < sh.principals) × (a < sh.principals) = proper K.made p in
      at_new v c d h.1 e ∙
      told_right worlds_max (get_or (sf_rows r m) c 0) (taken_row (sf_rows r m) a b c) d
      (when_told worlds_max (speaks_in (sf_rows r m) c a) (get_or (sf_rows r m) b 0) d (saved_told r m c a (few h.1) ∙ K.whole (sf m c a) p)
      (saved_told r m b d (few hb) ∙ K.whole (sf m b d) q))

  whole_sf : (v c d : ℕ) → c < sh.principals → v ≡ m → C (sf v c d) → told s (sf v c d) ≡ true
  whole_sf v c d g e p =
      at_new v c d g e ∙
      told_left worlds_max (get_or (sf_rows r m) c 0) (taken_row (sf_rows r m) a b c) d
      (saved_told r m c d (few g) ∙ K.whole (sf m c d) (rw e at p))

  noted_told : (g : Fact) → Noted m a b C g → told s g ≡ true
  noted_told (le x v) (kept p) = at_le x v (aimed sh (le x v) (proper K.made p)) ∙ K.whole (le x v) p
  noted_told (by c x v) (kept p) =
      let h : (c < sh.principals) × (x < v) × (v < sh.worlds) = proper K.made p in
      at_by c x v h.0 h.2 ∙ K.whole (by c x v) p
  noted_told (sf v c d) (kept p) =
      let h : (v < sh.worlds) × (c < sh.principals) × (d < sh.principals) = proper K.made p in
      ⊎_elim (λ e. whole_sf v c d h.1 e p) (λ l. at_old v c d h.1 l ∙ K.whole (sf v c d) p)
      (eq-or-lt_of_le {n = v} {m = m} (omega arith))
  noted_told (sf v c d) (note e p q) = whole_note v c d e p q

  -- and what they tell is old or noted.
  right_sf : (v c d : ℕ) → c < sh.principals → d < sh.principals → v ≡ m → told s (sf v c d) ≡ true → Noted m a b C (sf v c d)
  unfolding told
  right_sf v c d g h e p =
      ⊎_elim
      (λ t. kept (rw e (K.right (sf m c d) (last, g, h) (sym (saved_told r m c d (few g)) ∙ t))))
      (λ t.
      let w = told_when worlds_max (speaks_in (sf_rows r m) c a) (get_or (sf_rows r m) b 0) d t in
      note e (K.right (sf m c a) (last, g, ha) (sym (saved_told r m c a (few g)) ∙ w.0))
      (K.right (sf m b d) (last, hb, h) (sym (saved_told r m b d (few hb)) ∙ w.1)))
      (told_either worlds_max (get_or (sf_rows r m) c 0) (taken_row (sf_rows r m) a b c) d
      (sym (at_new v c d g e) ∙ p))

  told_noted : (g : Fact) → Aimed sh g → told s g ≡ true → Noted m a b C g
  told_noted (le x v) h p = kept (K.right (le x v) h (sym (at_le x v h) ∙ p))
  told_noted (by c x v) h p = kept (K.right (by c x v) h (sym (at_by c x v h.0 h.1) ∙ p))
  told_noted (sf v c d) h p =
      ⊎_elim (λ e. right_sf v c d h.1 h.2 e p)
      (λ l. kept (K.right (sf v c d) h (sym (at_old v c d h.1 l) ∙ p)))
      (eq-or-lt_of_le {n = v} {m = m} (omega arith))

  -- What is old or noted follows, and what follows is old or noted.
  noted_follows : (g : Fact) → Noted m a b C g → D g
  noted_follows g (kept p) = closed_given g p
  noted_follows (sf v c d) (note e p q) =
      rw e (rule3 (closed_given (sf m c a) p) (rule3 (given here) (closed_given (sf m b d) q)))

  given_is : (g : Fact) → Among (sf m a b ∷ fs) g → Noted m a b C g
  given_is g here = note refl (rule1 last ha) (rule1 last hb)
  given_is g (there p) = kept (given p)

  given_proper : (g : Fact) → Among (sf m a b ∷ fs) g → Proper sh g
  given_proper g here = (last, ha, hb)
  given_proper g (there p) = K.made g p

  follows_noted : (g : Fact) → D g → Noted m a b C g
  follows_noted g c = least (noted_closed sh m a b newest C (closed sh (Among fs)) (λ h. proper K.made)) given_is c

  way_back : {x v : ℕ} → Way sh D x v → Way sh C x v
  way_back w =
      let h : sh.worlds ≤ sh.worlds = omega arith in
      noted_way sh m a b newest C (closed sh (Among fs)) (λ g. proper K.made) (way_more h follows_noted w)

-- A note at the newest world m.
pub kept_note : {sh : Sheet} {m a b : ℕ} {fs : List Fact} {r : List ℕ} →
    Kept sh fs r → sh.worlds ≡ suc m → a < sh.principals → b < sh.principals → Kept sh (sf m a b ∷ fs) (noted r m a b)
unfolding noted
kept_note {sh} {m} {a} {b} {fs} {r} K newest ha hb =
    record {
      rooted = K.rooted;
      worlds = K.worlds;
      principals = K.principals;
      size = length_fill (noted_row (sf_rows r m) a b) (sf_at m) principals_max r ∙ K.size;
      made = given_proper K newest ha hb;
      right = λ g h p. noted_follows K newest ha hb g (told_noted K newest ha hb g h p);
      whole = λ g c. noted_told K newest ha hb g (follows_noted K newest ha hb g c);
      ways_right = λ x v h p.
          let same : sh.worlds ≤ sh.worlds = omega arith in
          way_more same (λ g c. closed_given g c) (K.ways_right x v h (sym (at_up K newest ha hb x v h) ∙ p));
      ways_whole = λ x v w. at_up K newest ha hb x v (way_to w) ∙ K.ways_whole x v (way_back K newest ha hb w);
    }

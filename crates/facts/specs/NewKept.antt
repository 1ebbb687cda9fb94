-- A table that reads as `NewRows` says keeps the closed facts with a new world, whichever fact leads to it: what the rows of the new world
-- tell is what `New` says, and what the others tell is as before.
use Rattle.std.specs.Prelude.{ℕ, suc, ◌<◌, ◌≤◌, true, ◌≡◌, List, ◌∷◌, ◌⊎◌, get_or}
use Rattle.std.proofs.Common.{sym, ◌∙◌, ⊎_elim, arith, eq-or-lt_of_le}
use Rattle.std.specs.Int.Bits.{bit_or}
use Rattle.scope.specs.Logic.Facts.{Fact, le, by, sf, Sheet, grown, Rules, Closed, given, rule7, Among, here, there, closed, least}
use Rattle.facts.specs.Rows.{worlds_max, principals_max, up_at, bit_of, one_bit, told}
use Rattle.facts.specs.Bits.{told_left, told_right, told_either, told_self, told_only}
use Rattle.facts.specs.Kept.{Proper, Aimed, Way, stop, way_to, Kept, proper, aimed, by_row_lem, sf_row_lem, told_same}
use Rattle.facts.specs.NewRows.{NewRows}
use Rattle.facts.specs.Closing.{way_sf, way_more, way_then, Leads, New, old, self, less, sees, like, Reached, before, itself, past, new_closed, new_reached}

-- Facts proper among some worlds are so among one more.
pub proper_more : (sh : Sheet) (f : Fact) → Proper sh f → Proper (grown sh) f
proper_more sh (le u v) p = (p.0, omega arith)
proper_more sh (by a u v) p = (p.0, p.1, omega arith)
proper_more sh (sf u a b) p = (omega arith, p.1, p.2)

-- What follows among some worlds follows among one more, with one given fact more.
pub closed_more : {sh : Sheet} {fs : List Fact} {e : Fact} (f : Fact) →
    Closed sh (Among fs) f → Closed (grown sh) (Among (e ∷ fs)) f
closed_more {sh} {fs} {e} f c =
    let R : Rules (grown sh) (Closed (grown sh) (Among (e ∷ fs))) = closed (grown sh) (Among (e ∷ fs)) in
    least {H = Closed (grown sh) (Among (e ∷ fs))}
    (record {
      rule1 = λ u a p q. R.rule1 u a (omega arith) q;
      rule2 = R.rule2;
      rule3 = R.rule3;
      rule4 = R.rule4;
      rule5 = R.rule5;
      rule6 = R.rule6;
      rule7 = λ u p. R.rule7 u (omega arith);
      rule8 = R.rule8;
      rule9 = R.rule9;
      rule10 = R.rule10;
    })
    (λ g p. given (there p)) c

-- The new world's rows, with the given fact e that leads to it.
pub record EdgeRows (sh : Sheet) (u l up : ℕ) (f : ℕ → ℕ) (fs : List Fact) (e : Fact) (Less : ℕ → Type 0) (Sees : ℕ → ℕ → Type 0) : Type 0 where
  pub leads : Leads sh u (Closed sh (Among fs)) Less Sees
  pub given_proper : Proper (grown sh) e
  pub given_new : New sh u (Closed sh (Among fs)) Less Sees e
  pub given_way : Way (grown sh) (Closed (grown sh) (Among (e ∷ fs))) u sh.worlds
  pub less_closed : (x : ℕ) → Less x → Closed (grown sh) (Among (e ∷ fs)) (le x sh.worlds)
  pub sees_closed : (a x : ℕ) → Sees a x → Closed (grown sh) (Among (e ∷ fs)) (by a x sh.worlds)
  -- what the rows tell of it
  pub less_whole : (x : ℕ) → Less x → bit_of l x ≡ true
  pub ways_whole : (x : ℕ) → Way sh (Closed sh (Among fs)) x u → bit_of up x ≡ true
  pub sees_whole : (a x : ℕ) → Sees a x → (a < sh.principals) × (bit_of (f a) x ≡ true)
  pub less_right : (x : ℕ) → bit_of l x ≡ true → Less x
  pub ways_right : (x : ℕ) → bit_of up x ≡ true → Way sh (Closed sh (Among fs)) x u
  pub sees_right : (a x : ℕ) → a < sh.principals → bit_of (f a) x ≡ true → Sees a x

module _ {sh : Sheet} {u l up : ℕ} {f : ℕ → ℕ} {fs : List Fact} {e : Fact} {Less : ℕ → Type 0} {Sees : ℕ → ℕ → Type 0} {r s : List ℕ}
    (K : Kept sh fs r) (inside : u < sh.worlds) (small : sh.worlds < worlds_max) (N : NewRows sh.worlds u l up f r s)
    (E : EdgeRows sh u l up f fs e Less Sees) where
  abbrev C : Fact → Type 0
  C = Closed sh (Among fs)

  abbrev D : Fact → Type 0
  D = Closed (grown sh) (Among (e ∷ fs))

  abbrev F : Fact → Type 0
  F = New sh u C Less Sees

  place : (v : ℕ) → v < suc sh.worlds → (v ≡ sh.worlds) ⊎ (v < sh.worlds)
  place v h = eq-or-lt_of_le {n = v} {m = sh.worlds} (omega arith)

  few : {a : ℕ} → a < sh.principals → a < principals_max
  few {a} h = omega (arith, K.principals)

  -- what the rows of the new world tell, and what all others told before
  at_le : (x v : ℕ) → v ≡ sh.worlds → told s (le x v) ≡ bit_of (bit_or l (one_bit sh.worlds)) x
  unfolding told
  at_le x v d = rw (d, N.row_le)

  at_by : (a x v : ℕ) → a < sh.principals → v ≡ sh.worlds → told s (by a x v) ≡ bit_of (f a) x
  unfolding told
  at_by a x v h d = rw (by_row_lem s v a (few h), d, N.row_by a (few h))

  at_sf : (v a b : ℕ) → a < sh.principals → v ≡ sh.worlds → told s (sf v a b) ≡ told r (sf u a b)
  unfolding told
  at_sf v a b h d = rw (sf_row_lem s v a (few h), sf_row_lem r u a (few h), d, N.row_sf a (few h))

  at_up : (x v : ℕ) → v ≡ sh.worlds → bit_of (get_or s (up_at v) 0) x ≡ bit_of (bit_or up (one_bit sh.worlds)) x
  at_up x v d = rw (d, N.row_up)

  as_before : (g : Fact) → Aimed sh g → told s g ≡ told r g
  as_before = told_same sh r s K.principals N.older

  -- So what they tell is old or new,
  told_new : (g : Fact) → Aimed (grown sh) g → told s g ≡ true → F g
  told_new (le x v) h p =
      ⊎_elim
      (λ d.
      ⊎_elim (λ t. less d (E.less_right x t)) (λ t. self (told_only worlds_max sh.worlds x t) d)
      (told_either worlds_max l (one_bit sh.worlds) x (sym (at_le x v d) ∙ p)))
      (λ g. old (K.right (le x v) g (sym (as_before (le x v) g) ∙ p)))
      (place v h)
  told_new (by a x v) h p =
      ⊎_elim (λ d. sees d (E.sees_right a x h.0 (sym (at_by a x v h.0 d) ∙ p)))
      (λ g. old (K.right (by a x v) (h.0, g) (sym (as_before (by a x v) (h.0, g)) ∙ p)))
      (place v h.1)
  told_new (sf v a b) h p =
      ⊎_elim (λ d. like d (K.right (sf u a b) (inside, h.1, h.2) (sym (at_sf v a b h.1 d) ∙ p)))
      (λ g. old (K.right (sf v a b) (g, h.1, h.2) (sym (as_before (sf v a b) (g, h.1, h.2)) ∙ p)))
      (place v h.0)

  -- and what is old or new they tell.
  new_told : (g : Fact) → F g → told s g ≡ true
  new_told g (old c) = as_before g (aimed sh g (proper K.made c)) ∙ K.whole g c
  new_told (le x v) (self c d) = at_le x v d ∙ told_right worlds_max l (one_bit sh.worlds) x (rw c (told_self worlds_max sh.worlds small))
  new_told (le x v) (less d t) = at_le x v d ∙ told_left worlds_max l (one_bit sh.worlds) x (E.less_whole x t)
  new_told (by a x v) (sees d t) = let h = E.sees_whole a x t in at_by a x v h.0 d ∙ h.1
  new_told (sf v a b) (like d c) =
      let h : (u < sh.worlds) × (a < sh.principals) × (b < sh.principals) = proper K.made c in
      at_sf v a b h.1 d ∙ K.whole (sf u a b) c

  -- What is old or new follows,
  new_follows : (g : Fact) → F g → D g
  new_follows g (old c) = closed_more g c
  new_follows (le x v) (self c d) = let h : sh.worlds < suc sh.worlds = omega arith in rw (c, d) (rule7 h)
  new_follows (le x v) (less d t) = rw d (E.less_closed x t)
  new_follows (by a x v) (sees d t) = rw d (E.sees_closed a x t)
  new_follows (sf v a b) (like d c) =
      rw d (way_sf (closed (grown sh) (Among (e ∷ fs))) E.given_way (closed_more (sf u a b) c))

  -- and what follows is old or new.
  given_is : (g : Fact) → Among (e ∷ fs) g → F g
  given_is g here = E.given_new
  given_is g (there p) = old (given p)

  follows_new : (g : Fact) → D g → F g
  follows_new g c =
      least
      (new_closed sh u C Less Sees inside (closed sh (Among fs)) (λ h. proper K.made) E.leads)
      given_is c

  given_proper_all : (g : Fact) → Among (e ∷ fs) g → Proper (grown sh) g
  given_proper_all g here = E.given_proper
  given_proper_all g (there p) = proper_more sh g (K.made g p)

  -- The same of the ways.
  way_new : {x v : ℕ} → Way sh C x v → Way (grown sh) D x v
  way_new w = let h : sh.worlds ≤ suc sh.worlds = omega arith in way_more h (λ g c. closed_more g c) w

  told_way : (x v : ℕ) → v < suc sh.worlds → bit_of (get_or s (up_at v) 0) x ≡ true → Way (grown sh) D x v
  told_way x v h p =
      ⊎_elim
      (λ d.
      rw d
      (⊎_elim (λ t. way_then (way_new (E.ways_right x t)) E.given_way)
      (λ t. rw (told_only worlds_max sh.worlds x t) (stop small_n))
      (told_either worlds_max up (one_bit sh.worlds) x (sym (at_up x v d) ∙ p))))
      (λ g. way_new (K.ways_right x v g (rw (N.older (up_at v) (omega arith)) at p)))
      (place v h)
    where
      small_n : sh.worlds < suc sh.worlds
      small_n = omega arith

  reached_told : (x v : ℕ) → Reached sh u C x v → bit_of (get_or s (up_at v) 0) x ≡ true
  reached_told x v (before w) =
      let h : v < sh.worlds = way_to w in
      rw (N.older (up_at v) (omega arith)) (K.ways_whole x v w)
  reached_told x v (itself c d) = at_up x v d ∙ told_right worlds_max up (one_bit sh.worlds) x (rw c (told_self worlds_max sh.worlds small))
  reached_told x v (past d w) = at_up x v d ∙ told_left worlds_max up (one_bit sh.worlds) x (E.ways_whole x w)

  way_told : (x v : ℕ) → Way (grown sh) D x v → bit_of (get_or s (up_at v) 0) x ≡ true
  way_told x v w =
      let h : suc sh.worlds ≤ suc sh.worlds = omega arith in
      reached_told x v
      (new_reached sh u C Less Sees inside (closed sh (Among fs)) (λ g. proper K.made) E.leads
      (way_more h follows_new w))

  pub kept_new : Kept (grown sh) (e ∷ fs) s
  kept_new =
      record {
        rooted = omega arith;
        worlds = omega arith;
        principals = K.principals;
        size = N.size ∙ K.size;
        made = given_proper_all;
        right = λ g h p. new_follows g (told_new g h p);
        whole = λ g c. new_told g (follows_new g c);
        ways_right = told_way;
        ways_whole = way_told;
      }

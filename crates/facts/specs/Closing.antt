-- What a new world, and a note at the newest world, add to closed facts: the old facts with the new ones are closed again, so nothing else
-- follows. No rows and no bits here.
use Rattle.std.specs.Prelude.{ℕ, suc, ◌<◌, ◌≤◌, ◌≡◌}
use Rattle.std.proofs.Common.{⊎_elim, arith, eq-or-lt_of_le}
use Rattle.scope.specs.Logic.Facts.{Fact, le, by, sf, unit, Sheet, grown, Rules}
use Rattle.facts.specs.Kept.{Proper, Way, stop, up_le, up_by, way_from}

-- Along a way sf facts go on (rules 4 and 5), and S facts from its end to a world are S facts from its beginning (rules 6 and 9).
pub way_sf : {sh : Sheet} {H : Fact → Type 0} {x y a b : ℕ} → Rules sh H → Way sh H x y → H (sf x a b) → H (sf y a b)
way_sf R (stop h) q = q
way_sf {a = a} {b = b} R (up_le {x} {y} p w) q = way_sf R w (R.rule5 x y a b p q)
way_sf {a = a} {b = b} R (up_by {a = c} {x} {y} p w) q = way_sf R w (R.rule4 x y a b c p q)

pub way_by : {sh : Sheet} {H : Fact → Type 0} {x y z a : ℕ} → Rules sh H → z < sh.worlds → Way sh H x y → H (by a y z) → H (by a x z)
way_by R g (stop h) q = q
way_by {z = z'} {a = a} R g (up_le {x} {y} p w) q = R.rule6 x y z' z' a p (way_by R g w q) (R.rule7 z' g)
way_by {z = z'} {a = a} R g (up_by {a = b} {x} {y} p w) q = R.rule9 x y z' a b p (way_by R g w q)

-- With unit a way is ≤ (rules 8 and 10).
pub way_le : {sh : Sheet} {H : Fact → Type 0} {x y : ℕ} → Rules sh H → sh.logic ≡ unit → Way sh H x y → H (le x y)
way_le R e (stop {x} h) = R.rule7 x h
way_le R e (up_le {x} {y} {z} p w) = R.rule8 x y z p (way_le R e w)
way_le R e (up_by {a} {x} {y} {z} p w) = R.rule8 x y z (R.rule10 x y a e p) (way_le R e w)

-- A way stays one among more worlds and facts, and goes on by another way.
pub way_more : {sh th : Sheet} {H G : Fact → Type 0} {x y : ℕ} →
    sh.worlds ≤ th.worlds → ((f : Fact) → H f → G f) → Way sh H x y → Way th G x y
way_more l g (stop {x} h) = stop {x = x} (omega arith)
way_more l g (up_le {x} {y} p w) = up_le (g (le x y) p) (way_more l g w)
way_more l g (up_by {a} {x} {y} p w) = up_by (g (by a x y) p) (way_more l g w)

pub way_then : {sh : Sheet} {H : Fact → Type 0} {x y z : ℕ} → Way sh H x y → Way sh H y z → Way sh H x z
way_then (stop h) v = v
way_then (up_le p w) v = up_le p (way_then w v)
way_then (up_by p w) v = up_by p (way_then w v)

-- A new world n behind u, n the worlds so far: which worlds are ≤ n by it (`Less`), and which see n as which principal (`Sees`).
pub record Leads (sh : Sheet) (u : ℕ) (H : Fact → Type 0) (Less : ℕ → Type 0) (Sees : ℕ → ℕ → Type 0) : Type 0 where
  pub less_way : (x : ℕ) → Less x → Way sh H x u
  pub sees_way : (a x : ℕ) → Sees a x → Way sh H x u
  -- rules 2, 6, 8, 9 and 10 at the new world
  pub sees_sf : (a b x : ℕ) → Sees b x → H (sf x a b) → Sees a x
  pub le_sees : (a x y : ℕ) → H (le x y) → Sees a y → Sees a x
  pub le_less : (x y : ℕ) → H (le x y) → Less y → Less x
  pub by_sees : (a b x y : ℕ) → H (by b x y) → Sees a y → Sees a x
  pub by_less : (a x y : ℕ) → H (by a x y) → Less y → Sees a x
  pub sees_less : (a x : ℕ) → sh.logic ≡ unit → Sees a x → Less x

-- The old facts and those that lead to the new world n.
pub data New (sh : Sheet) (u : ℕ) (H : Fact → Type 0) (Less : ℕ → Type 0) (Sees : ℕ → ℕ → Type 0) : Fact → Type 0 where
  old : {f : Fact} → H f → New sh u H Less Sees f
  self : {x v : ℕ} → x ≡ sh.worlds → v ≡ sh.worlds → New sh u H Less Sees (le x v)
  less : {x v : ℕ} → v ≡ sh.worlds → Less x → New sh u H Less Sees (le x v)
  sees : {a x v : ℕ} → v ≡ sh.worlds → Sees a x → New sh u H Less Sees (by a x v)
  like : {v a b : ℕ} → v ≡ sh.worlds → H (sf u a b) → New sh u H Less Sees (sf v a b)

-- and the old ways and those that lead to it.
pub data Reached (sh : Sheet) (u : ℕ) (H : Fact → Type 0) : ℕ → ℕ → Type 0 where
  before : {x v : ℕ} → Way sh H x v → Reached sh u H x v
  itself : {x v : ℕ} → x ≡ sh.worlds → v ≡ sh.worlds → Reached sh u H x v
  past : {x v : ℕ} → v ≡ sh.worlds → Way sh H x u → Reached sh u H x v

module _ (sh : Sheet) (u : ℕ) (H : Fact → Type 0) (Less : ℕ → Type 0) (Sees : ℕ → ℕ → Type 0)
    (inside : u < sh.worlds) (R : Rules sh H) (P : (f : Fact) → H f → Proper sh f) (L : Leads sh u H Less Sees) where
  abbrev N : Fact → Type 0
  N = New sh u H Less Sees

  -- no old fact and no way begins or ends at the new world
  le_low : {x y : ℕ} → H (le x y) → (x ≤ y) × (y < sh.worlds)
  le_low {x} {y} p = P (le x y) p

  by_low : {a x y : ℕ} → H (by a x y) → (a < sh.principals) × (x < y) × (y < sh.worlds)
  by_low {a} {x} {y} p = P (by a x y) p

  sf_low : {x a b : ℕ} → H (sf x a b) → (x < sh.worlds) × (a < sh.principals) × (b < sh.principals)
  sf_low {x} {a} {b} p = P (sf x a b) p

  less_low : (x : ℕ) → Less x → x < sh.worlds
  less_low x l = way_from P (L.less_way x l)

  sees_low : (a x : ℕ) → Sees a x → x < sh.worlds
  sees_low a x s = way_from P (L.sees_way a x s)

  new1 : (v a : ℕ) → v < suc sh.worlds → a < sh.principals → N (sf v a a)
  new1 v a h g =
      ⊎_elim (λ e. like e (R.rule1 u a inside g)) (λ l. old (R.rule1 v a l g)) (eq-or-lt_of_le {n = v} {m = sh.worlds} (omega arith))

  new2 : (x v a b : ℕ) → N (by b x v) → N (sf x a b) → N (by a x v)
  new2 x v a b (old p) (old q) = old (R.rule2 x v a b p q)
  new2 x v a b (old p) (like e q) = absurd (omega (arith, by_low p))
  new2 x v a b (sees e s) (old q) = sees e (L.sees_sf a b x s q)
  new2 x v a b (sees e s) (like d q) = absurd (omega (arith, sees_low b x s))

  new3 : (v a b c : ℕ) → N (sf v a b) → N (sf v b c) → N (sf v a c)
  new3 v a b c (old p) (old q) = old (R.rule3 v a b c p q)
  new3 v a b c (old p) (like e q) = absurd (omega (arith, sf_low p))
  new3 v a b c (like e p) (old q) = absurd (omega (arith, sf_low q))
  new3 v a b c (like e p) (like d q) = like e (R.rule3 u a b c p q)

  new4 : (x v a b c : ℕ) → N (by c x v) → N (sf x a b) → N (sf v a b)
  new4 x v a b c (old p) (old q) = old (R.rule4 x v a b c p q)
  new4 x v a b c (old p) (like e q) = absurd (omega (arith, by_low p))
  new4 x v a b c (sees e s) (old q) = like e (way_sf R (L.sees_way c x s) q)
  new4 x v a b c (sees e s) (like d q) = absurd (omega (arith, sees_low c x s))

  new5 : (x v a b : ℕ) → N (le x v) → N (sf x a b) → N (sf v a b)
  new5 x v a b (old p) (old q) = old (R.rule5 x v a b p q)
  new5 x v a b (old p) (like e q) = absurd (omega (arith, le_low p))
  new5 x v a b (self d e) (old q) = absurd (omega (arith, sf_low q))
  new5 x v a b (self d e) (like c q) = like e q
  new5 x v a b (less e l) (old q) = like e (way_sf R (L.less_way x l) q)
  new5 x v a b (less e l) (like d q) = absurd (omega (arith, less_low x l))

  new6 : (x y w z a : ℕ) → N (le x y) → N (by a y w) → N (le w z) → N (by a x z)
  new6 x y w z a (old p) (old q) (old r) = old (R.rule6 x y w z a p q r)
  new6 x y w z a (old p) (old q) (self d e) = absurd (omega (arith, by_low q))
  new6 x y w z a (old p) (old q) (less e l) =
      let low : w < sh.worlds = less_low w l in sees e (L.by_less a x w (R.rule6 x y w w a p q (R.rule7 w low)) l)
  new6 x y w z a (old p) (sees e s) (old r) = absurd (omega (arith, le_low r))
  new6 x y w z a (old p) (sees e s) (self d f) = sees f (L.le_sees a x y p s)
  new6 x y w z a (old p) (sees e s) (less d l) = absurd (omega (arith, less_low w l))
  new6 x y w z a (self d e) (old q) r = absurd (omega (arith, by_low q))
  new6 x y w z a (self d e) (sees c s) r = absurd (omega (arith, sees_low a y s))
  new6 x y w z a (less e l) (old q) r = absurd (omega (arith, by_low q))
  new6 x y w z a (less e l) (sees c s) r = absurd (omega (arith, sees_low a y s))

  new7 : (x : ℕ) → x < suc sh.worlds → N (le x x)
  new7 x h = ⊎_elim (λ e. self e e) (λ l. old (R.rule7 x l)) (eq-or-lt_of_le {n = x} {m = sh.worlds} (omega arith))

  new8 : (x y w : ℕ) → N (le x y) → N (le y w) → N (le x w)
  new8 x y w (old p) (old q) = old (R.rule8 x y w p q)
  new8 x y w (old p) (self d e) = absurd (omega (arith, le_low p))
  new8 x y w (old p) (less e l) = less e (L.le_less x y p l)
  new8 x y w (self d e) (old q) = absurd (omega (arith, le_low q))
  new8 x y w (self d e) (self c f) = self d f
  new8 x y w (self d e) (less c l) = absurd (omega (arith, less_low y l))
  new8 x y w (less e l) (old q) = absurd (omega (arith, le_low q))
  new8 x y w (less e l) (self d f) = less f l
  new8 x y w (less e l) (less d m) = absurd (omega (arith, less_low y m))

  new9 : (x y w a b : ℕ) → N (by b x y) → N (by a y w) → N (by a x w)
  new9 x y w a b (old p) (old q) = old (R.rule9 x y w a b p q)
  new9 x y w a b (old p) (sees e s) = sees e (L.by_sees a b x y p s)
  new9 x y w a b (sees e s) (old q) = absurd (omega (arith, by_low q))
  new9 x y w a b (sees e s) (sees d t) = absurd (omega (arith, sees_low a y t))

  new10 : (x v a : ℕ) → sh.logic ≡ unit → N (by a x v) → N (le x v)
  new10 x v a e (old p) = old (R.rule10 x v a e p)
  new10 x v a e (sees d s) = less d (L.sees_less a x e s)

  -- The old and the new facts are closed among one world more.
  pub new_closed : Rules (grown sh) (New sh u H Less Sees)
  new_closed =
      record {
        rule1 = new1;
        rule2 = new2;
        rule3 = new3;
        rule4 = new4;
        rule5 = new5;
        rule6 = new6;
        rule7 = new7;
        rule8 = new8;
        rule9 = new9;
        rule10 = new10;
      }

  -- A step before what is reached is reached.
  le_reached : (x y z : ℕ) → N (le x y) → Reached sh u H y z → Reached sh u H x z
  le_reached x y z (old p) (before w) = before (up_le p w)
  le_reached x y z (old p) (itself d e) = absurd (omega (arith, le_low p))
  le_reached x y z (old p) (past e w) = past e (up_le p w)
  le_reached x y z (self d e) (before w) = absurd (omega (arith, way_from P w))
  le_reached x y z (self d e) (itself c f) = itself d f
  le_reached x y z (self d e) (past c w) = absurd (omega (arith, way_from P w))
  le_reached x y z (less e l) (before w) = absurd (omega (arith, way_from P w))
  le_reached x y z (less e l) (itself c f) = past f (L.less_way x l)
  le_reached x y z (less e l) (past c w) = absurd (omega (arith, way_from P w))

  by_reached : (a x y z : ℕ) → N (by a x y) → Reached sh u H y z → Reached sh u H x z
  by_reached a x y z (old p) (before w) = before (up_by p w)
  by_reached a x y z (old p) (itself d e) = absurd (omega (arith, by_low p))
  by_reached a x y z (old p) (past e w) = past e (up_by p w)
  by_reached a x y z (sees e s) (before w) = absurd (omega (arith, way_from P w))
  by_reached a x y z (sees e s) (itself c f) = past f (L.sees_way a x s)
  by_reached a x y z (sees e s) (past c w) = absurd (omega (arith, way_from P w))

  -- The ways of the old and the new facts are the old ones and those to the new world.
  pub new_reached : {x z : ℕ} → Way (grown sh) (New sh u H Less Sees) x z → Reached sh u H x z
  new_reached (stop {x} h) =
      ⊎_elim (λ e. itself e e) (λ l. before (stop l)) (eq-or-lt_of_le {n = x} {m = sh.worlds} (omega arith))
  new_reached (up_le {x} {y} {z} p w) = le_reached x y z p (new_reached w)
  new_reached (up_by {a} {x} {y} {z} p w) = by_reached a x y z p (new_reached w)

-- A note a sf b at the newest world m: the old facts, and c sf d at m for each c with c sf a and each d with b sf d.
pub data Noted (m a b : ℕ) (H : Fact → Type 0) : Fact → Type 0 where
  kept : {f : Fact} → H f → Noted m a b H f
  note : {v c d : ℕ} → v ≡ m → H (sf m c a) → H (sf m b d) → Noted m a b H (sf v c d)

module _ (sh : Sheet) (m a b : ℕ) (newest : sh.worlds ≡ suc m) (H : Fact → Type 0) (R : Rules sh H) (P : (f : Fact) → H f → Proper sh f) where
  abbrev M : Fact → Type 0
  M = Noted m a b H

  -- le and S facts are old ones
  old_le : (x y : ℕ) → M (le x y) → H (le x y)
  old_le x y (kept p) = p

  old_by : (c x y : ℕ) → M (by c x y) → H (by c x y)
  old_by c x y (kept p) = p

  -- and none leads away from m
  no_by : {c x y : ℕ} → H (by c x y) → (c < sh.principals) × (x < y) × (y < sh.worlds)
  no_by {c} {x} {y} p = P (by c x y) p

  no_le : {x y : ℕ} → H (le x y) → (x ≤ y) × (y < sh.worlds)
  no_le {x} {y} p = P (le x y) p

  noted2 : (x v c d : ℕ) → M (by d x v) → M (sf x c d) → M (by c x v)
  noted2 x v c d (kept p) (kept q) = kept (R.rule2 x v c d p q)
  noted2 x v c d (kept p) (note e q r) = absurd (omega (arith, no_by p))

  noted3 : (v c d e : ℕ) → M (sf v c d) → M (sf v d e) → M (sf v c e)
  noted3 v c d e (kept p) (kept q) = kept (R.rule3 v c d e p q)
  noted3 v c d e (kept p) (note h q r) = note h (R.rule3 m c d a (rw h at p) q) r
  noted3 v c d e (note h q r) (kept p) = note h q (R.rule3 m b d e r (rw h at p))
  noted3 v c d e (note h q r) (note g s t) = note h q t

  noted4 : (x v c d e : ℕ) → M (by e x v) → M (sf x c d) → M (sf v c d)
  noted4 x v c d e (kept p) (kept q) = kept (R.rule4 x v c d e p q)
  noted4 x v c d e (kept p) (note h q r) = absurd (omega (arith, no_by p))

  noted5 : (x v c d : ℕ) → M (le x v) → M (sf x c d) → M (sf v c d)
  noted5 x v c d (kept p) (kept q) = kept (R.rule5 x v c d p q)
  noted5 x v c d (kept p) (note h q r) = let e : v ≡ m = omega (arith, no_le p) in note e q r

  -- They are closed among the same worlds.
  pub noted_closed : Rules sh (Noted m a b H)
  noted_closed =
      record {
        rule1 = λ x c h g. kept (R.rule1 x c h g);
        rule2 = noted2;
        rule3 = noted3;
        rule4 = noted4;
        rule5 = noted5;
        rule6 = λ x y w z c p q r. kept (R.rule6 x y w z c (old_le x y p) (old_by c y w q) (old_le w z r));
        rule7 = λ x h. kept (R.rule7 x h);
        rule8 = λ x y w p q. kept (R.rule8 x y w (old_le x y p) (old_le y w q));
        rule9 = λ x y w c d p q. kept (R.rule9 x y w c d (old_by d x y p) (old_by c y w q));
        rule10 = λ x y c e p. kept (R.rule10 x y c e (old_by c x y p));
      }

  -- and their ways are the old ones.
  pub noted_way : {x z : ℕ} → Way sh (Noted m a b H) x z → Way sh H x z
  noted_way (stop h) = stop h
  noted_way (up_le {x} {y} p w) = up_le (old_le x y p) (noted_way w)
  noted_way (up_by {a = c} {x} {y} p w) = up_by (old_by c x y p) (noted_way w)

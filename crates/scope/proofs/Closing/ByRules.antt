-- `Holds` and the rules, for facts about the worlds and principals that there are: what it says follows by them, and it is closed under
-- each of them.
use Rattle.std.specs.Prelude.{ℕ, ◌<◌, List}
use Rattle.scope.specs.Logic.Facts as F
use Rattle.scope.specs.Logic.Facts.{Fact, le, by, sf, unit, Sheet, Rules, Closed, given, Among, Named}
use Rattle.scope.specs.Logic.Held.{Edge, edge, links_of, ups_of, pairs_at}
use Rattle.scope.proofs.Closing.Paths.{On, Path, Way, stay, go, before, after, along, path_joined, way_joined, one_edge}
use Rattle.scope.proofs.Closing.Computed.{Link, link_le, link_by, links_given, le_links, by_links, Up, up_le, up_by, ups_given, le_ups, links_ups, Pair, pair, pairs_given, given_pair}
use Rattle.scope.proofs.Closing.Computed.{reach, Holds, same, up, self, speaks, sees}

module _ (sheet : Sheet) (fs : List Fact) (inside : (f : Fact) → Among fs f → Named sheet f) where
  -- The ends of what is given are worlds.
  way_end : {u v : ℕ} → u < sheet.worlds → Way (links_of fs) u v → v < sheet.worlds
  way_end h stay = h
  way_end {u} {v} h (go p) =
      along (λ x y. y < sheet.worlds) (λ x y z r s. s) (links_of fs) (λ x y o. end (links_given fs o)) u v p
    where
      end : {x y : ℕ} → Link fs x y → y < sheet.worlds
      end {x} {y} (link_le i) = (inside (le x y) i).1
      end {x} {y} (link_by {a} i) = (inside (by a x y) i).2

  -- What leads up is a link.
  abbrev ups : List Edge
  ups = ups_of sheet.logic fs

  ups_links : {u v : ℕ} → Way ups u v → Way (links_of fs) u v
  ups_links stay = stay
  ups_links {u} {v} (go p) =
      go (along (Path (links_of fs)) (path_joined (links_of fs)) ups (λ u v o. one_edge (by_up (ups_given sheet.logic fs o))) u v p)
    where
      by_up : {u v : ℕ} → Up sheet.logic fs u v → On (edge u v) (links_of fs)
      by_up (up_le i) = le_links i
      by_up (up_by e i) = by_links i

  -- What `follows` says follows by the rules.
  abbrev Follows : Fact → Type 0
  Follows f = Closed sheet (Among fs) f

  -- Along links an `sf` is carried on (rules 4 and 5),
  carries : (u v : ℕ) → Way (links_of fs) u v → (a b : ℕ) → Follows (sf u a b) → Follows (sf v a b)
  carries u v stay = λ a b p. p
  carries u v (go w) =
      along (λ x y. (a b : ℕ) → Follows (sf x a b) → Follows (sf y a b)) (λ x y z r s a b p. s a b (r a b p))
      (links_of fs) (λ x y o a b p. by_link (links_given fs o) p) u v w
    where
      by_link : {x y a b : ℕ} → Link fs x y → Follows (sf x a b) → Follows (sf y a b)
      by_link (link_le i) p = F.rule5 (given i) p
      by_link (link_by i) p = F.rule4 (given i) p

  -- and what stands at their end is seen from their start (rules 6 and 9).
  seen : (z : ℕ) → z < sheet.worlds → (u v : ℕ) → Way (links_of fs) u v → (a : ℕ) → Follows (by a v z) → Follows (by a u z)
  seen z h u v stay = λ a p. p
  seen z h u v (go l) =
      along (λ x y. (a : ℕ) → Follows (by a y z) → Follows (by a x z)) (λ x y z r s a p. r a (s a p))
      (links_of fs) (λ x y o a p. by_link (links_given fs o) p) u v l
    where
      by_link : {x y a : ℕ} → Link fs x y → Follows (by a y z) → Follows (by a x z)
      by_link (link_le i) p = F.rule6 (given i) p (F.rule7 h)
      by_link (link_by i) p = F.rule9 (given i) p

  pairs_follow : (u a b : ℕ) → Path (pairs_at (links_of fs) u fs) a b → Follows (sf u a b)
  pairs_follow u a b p =
      along (λ a b. Follows (sf u a b)) (λ a b c r s. F.rule3 r s) (pairs_at (links_of fs) u fs)
      (λ a b o. by_pair (pairs_given (links_of fs) u fs o)) a b p
    where
      by_pair : {a b : ℕ} → Pair (links_of fs) u a b fs → Follows (sf u a b)
      by_pair (pair {x} i w) = carries x u w _ _ (given i)

  -- What leads up leads along ≤ (rules 8 and 10).
  ups_follow : (u v : ℕ) → Path ups u v → Follows (le u v)
  ups_follow u v p =
      along (λ u v. Follows (le u v)) (λ u v w r s. F.rule8 r s) ups (λ u v o. by_up (ups_given sheet.logic fs o)) u v p
    where
      by_up : {u v : ℕ} → Up sheet.logic fs u v → Follows (le u v)
      by_up (up_le i) = given i
      by_up (up_by e i) = F.rule10 e (given i)

  way_follow : {u v : ℕ} → u < sheet.worlds → Way ups u v → Follows (le u v)
  way_follow h stay = F.rule7 h
  way_follow {u} {v} h (go p) = ups_follow u v p

  by_follow : {x a b w : ℕ} → Way (pairs_at (links_of fs) x fs) a b → Follows (by b x w) → Follows (by a x w)
  by_follow stay q = q
  by_follow {x} {a} {b} (go p) q = F.rule2 q (pairs_follow x a b p)

  pub by_rules : {f : Fact} → Holds sheet fs f → Closed sheet (Among fs) f
  by_rules (same l) = F.rule7 l
  by_rules (up {u} {v} p) = ups_follow u v p
  by_rules (self h l) = F.rule1 h l
  by_rules (speaks {u} {a} {b} p) = pairs_follow u a b p
  by_rules (sees {a} {u} {z} (reach {b} {x} {w} i s t r)) =
      let n : (b < sheet.principals) × (x < sheet.worlds) × (w < sheet.worlds) = inside (by b x w) i in
      seen z (way_end n.2 (ups_links r)) u x s a (F.rule6 (F.rule7 n.1) (by_follow t (given i)) (way_follow n.2 r))

  -- What follows by the rules `follows` says: its facts hold the given ones and are closed under each rule.
  abbrev H : Fact → Type 0
  H f = Holds sheet fs f

  pub gives : (f : Fact) → Among fs f → Holds sheet fs f
  gives (le u v) i = up (one_edge (le_ups sheet.logic i))
  gives (by a u v) i = sees (reach i stay stay stay)
  gives (sf u a b) i = speaks (one_edge (given_pair (links_of fs) u i stay))

  -- Facts u ≤ v and u S_A v are ways over links,
  le_ups_way : {u v : ℕ} → H (le u v) → Way ups u v
  le_ups_way (same l) = stay
  le_ups_way (up p) = go p

  le_way : {u v : ℕ} → H (le u v) → Way (links_of fs) u v
  le_way p = ups_links (le_ups_way p)

  by_path : {a u v : ℕ} → H (by a u v) → Path (links_of fs) u v
  by_path (sees (reach i s t r)) =
      let joined = path_joined (links_of fs) in
      before (Path (links_of fs)) joined (λ x y p. p) s (after (Path (links_of fs)) joined (λ x y p. p) (one_edge (by_links i)) (ups_links r))

  by_way : {a u v : ℕ} → H (by a u v) → Way (links_of fs) u v
  by_way p = go (by_path p)

  -- along which pairs are carried.
  pairs_carried : {u v a b : ℕ} → Way (links_of fs) u v → Path (pairs_at (links_of fs) u fs) a b → Path (pairs_at (links_of fs) v fs) a b
  pairs_carried {u} {v} {a} {b} w p =
      along (Path (pairs_at (links_of fs) v fs)) (path_joined (pairs_at (links_of fs) v fs)) (pairs_at (links_of fs) u fs)
      (λ a b o. again (pairs_given (links_of fs) u fs o)) a b p
    where
      again : {a b : ℕ} → Pair (links_of fs) u a b fs → Path (pairs_at (links_of fs) v fs) a b
      again (pair i s) = one_edge (given_pair (links_of fs) v i (way_joined s w))

  carried : {u v a b : ℕ} → Way (links_of fs) u v → H (sf u a b) → H (sf v a b)
  carried w (self h l) = self (way_end h w) l
  carried w (speaks p) = speaks (pairs_carried w p)

  pairs_way : {u v a b : ℕ} → Way (links_of fs) u v → H (sf u a b) → Way (pairs_at (links_of fs) v fs) a b
  pairs_way w (self h l) = stay
  pairs_way w (speaks p) = go (pairs_carried w p)

  sf_sf : {u a b c : ℕ} → H (sf u a b) → H (sf u b c) → H (sf u a c)
  sf_sf (self h l) q = q
  sf_sf (speaks p) (self h l) = speaks p
  sf_sf (speaks {u} {a} {b} p) (speaks {b = c} q) = speaks (path_joined (pairs_at (links_of fs) u fs) a b c p q)

  le_le : {u v w : ℕ} → H (le u v) → H (le v w) → H (le u w)
  le_le (same l) q = q
  le_le (up p) (same l) = up p
  le_le (up {u} {v} p) (up {v = w} q) = up (path_joined ups u v w p q)

  by_sf : {u v a b : ℕ} → H (by b u v) → H (sf u a b) → H (by a u v)
  by_sf (sees (reach i s t r)) q = sees (reach i s (way_joined (pairs_way s q) t) r)

  way_by : {u v w z a : ℕ} → Way (links_of fs) u v → H (by a v w) → Way ups w z → H (by a u z)
  way_by l (sees (reach i s t r)) m = sees (reach i (way_joined l s) t (way_joined r m))

  pub obeys : Rules sheet (Holds sheet fs)
  obeys =
      record {
        rule1 = λ u a h l. self h l;
        rule2 = λ u v a b p q. by_sf p q;
        rule3 = λ u a b c p q. sf_sf p q;
        rule4 = λ u v a b c p q. carried (by_way p) q;
        rule5 = λ u v a b p q. carried (le_way p) q;
        rule6 = λ u v w z a p q r. way_by (le_way p) q (le_ups_way r);
        rule7 = λ u l. same l;
        rule8 = λ u v w p q. le_le p q;
        rule9 = λ u v w a b p q. way_by (by_way p) q stay;
        rule10 = λ u v a e p. up {u = u} {v = v} (rw (links_ups sheet.logic fs e) (by_path p));
      }

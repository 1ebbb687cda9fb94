-- The two theorems about a new world, `kept_le` and `kept_by`, each by the edge that leads to it.
use Rattle.std.specs.Prelude.{ℕ, suc, ◌+◌, ◌<◌, ◌≤◌, Bool, true, ◌≡◌, refl, List, ◌∷◌, ◌⊎◌, get_or}
use Rattle.std.proofs.Common.{sym, ◌∙◌, inl, inr, ⊎_elim, arith}
use Rattle.std.proofs.Math.Logic.{⊎_map}
use Rattle.scope.specs.Logic.Facts.{Fact, le, by, sf, unit, is_unit, Sheet, grown, Rules, Closed, given, rule1, rule2, rule3, rule6, rule7, rule8, rule9, rule10, Among, here, closed}
use Rattle.facts.specs.Rows.{worlds_max, principals_max, le_at, up_at, by_at, bit_of, told, sf_rows, speaks_in, lead_row, over_row, seen_row, under_row, beside_row, grown_row, grown_le, grown_by}
use Rattle.facts.specs.Bits.{told_left, told_right, told_either, told_when, when_told}
use Rattle.facts.specs.Kept.{Way, stop, up_le, up_by, Kept, proper, by_row_lem, saved_told}
use Rattle.facts.specs.NewRows.{new_rows}
use Rattle.facts.specs.Closing.{way_sf, way_by, way_le, way_more, less, sees}
use Rattle.facts.specs.NewKept.{closed_more, kept_new}
use Rattle.facts.specs.Grown.{unit_is, is_unit_lem}

-- A new world behind u by u ≤ n: what is ≤ u is ≤ n, and what sees u sees n (rule 6).
pub kept_le : {sh : Sheet} {u : ℕ} {fs : List Fact} {r : List ℕ} →
    Kept sh fs r → u < sh.worlds → sh.worlds < worlds_max → Kept (grown sh) (le u sh.worlds ∷ fs) (grown_le r u sh.worlds)
unfolding grown_le told
kept_le {sh} {u} {fs} {r} K inside small =
    kept_new {Less = λ x. Closed sh (Among fs) (le x u)} {Sees = λ a x. Closed sh (Among fs) (by a x u)} K inside small
    (new_rows r u sh.worlds (get_or r (le_at u) 0) (lead_row r u) (over_row r u) K.size small)
    (record {
      leads = record {
        less_way = λ x p. up_le p (stop inside);
        sees_way = λ a x p. up_by p (stop inside);
        sees_sf = λ a b x p q. rule2 p q;
        le_sees = λ a x y p q. rule6 p q (rule7 inside);
        le_less = λ x y p q. rule8 p q;
        by_sees = λ a b x y p q. rule9 p q;
        by_less = λ a x y p q. rule6 (rule7 (from p)) p q;
        sees_less = λ a x e p. rule10 e p;
      };
      given_proper = (omega arith, omega arith);
      given_new = less refl (rule7 inside);
      given_way = up_le edge (stop last);
      less_closed = λ x p. rule8 (closed_more (le x u) p) edge;
      sees_closed = λ a x p. let low : x < suc sh.worlds = omega (arith, from p) in rule6 (rule7 low) (closed_more (by a x u) p) edge;
      less_whole = λ x c. K.whole (le x u) c;
      ways_whole = λ x w. K.ways_whole x u w;
      sees_whole = λ a x p. (who p, rw (by_row_lem r u a (few (who p))) at (K.whole (by a x u) p));
      less_right = λ x p. K.right (le x u) inside p;
      ways_right = λ x p. K.ways_right x u inside p;
      sees_right = λ a x h p. K.right (by a x u) (h, inside) (rw (by_row_lem r u a (few h)) p);
    })
  where
    last : sh.worlds < suc sh.worlds
    last = omega arith

    edge : Closed (grown sh) (Among (le u sh.worlds ∷ fs)) (le u sh.worlds)
    edge = given here

    few : {a : ℕ} → a < sh.principals → a < principals_max
    few {a} h = omega (arith, K.principals)

    who : {a x y : ℕ} → Closed sh (Among fs) (by a x y) → a < sh.principals
    who p = (proper K.made p).0

    from : {a x y : ℕ} → Closed sh (Among fs) (by a x y) → x < sh.worlds
    from {a} {x} {y} p =
        let h : (a < sh.principals) × (x < y) × (y < sh.worlds) = proper K.made p in omega arith

pub kept_by : {sh : Sheet} {a u : ℕ} {fs : List Fact} {r : List ℕ} →
    Kept sh fs r → a < sh.principals → u < sh.worlds → sh.worlds < worlds_max →
    Kept (grown sh) (by a u sh.worlds ∷ fs) (grown_by (is_unit sh.logic) r a u sh.worlds)
unfolding grown_by told
kept_by {sh} {a} {u} {fs} {r} K who inside small =
    kept_new {Less = Less} {Sees = Sees} K inside small
    (new_rows r u sh.worlds (under_row t r u) (get_or r (up_at u) 0) (grown_row t r a u) K.size small)
    (record {
      leads = record {
        less_way = λ x p. up_le p.1 (stop inside);
        sees_way = λ c x. ⊎_elim (λ p. p.0) (λ p. up_by p.1 (stop inside));
        sees_sf = λ c d x p q. ⊎_map (λ p. (p.0, rule3 (way_sf R p.0 q) p.1)) (λ p. (p.0, rule2 p.1 q)) p;
        le_sees = λ c x y p. ⊎_map (λ q. (up_le p q.0, q.1)) (λ q. (q.0, rule6 p q.1 (rule7 inside)));
        le_less = λ x y p q. (q.0, rule8 p q.1);
        by_sees = λ c d x y p. ⊎_map (λ q. (up_by p q.0, q.1)) (λ q. (q.0, rule9 p q.1));
        by_less = λ c x y p q. inr (q.0, rule6 (rule7 (from p)) p q.1);
        sees_less = λ c x e. ⊎_elim (λ p. (e, way_le R e p.0)) (λ p. (e, rule10 e p.1));
      };
      given_proper = (who, inside, omega arith);
      given_new = sees refl (inl (stop inside, rule1 inside who));
      given_way = up_by edge (stop last);
      less_closed = λ x p. rule8 (closed_more (le x u) p.1) (rule10 p.0 edge);
      sees_closed = λ c x.
          ⊎_elim (λ p. way_by S last (more p.0) (rule2 edge (closed_more (sf u c a) p.1)))
          (λ p.
          let low : x < suc sh.worlds = omega (arith, from p.1) in
          rule6 (rule7 low) (closed_more (by c x u) p.1) (rule10 p.0 edge));
      less_whole = λ x p. when_told worlds_max t (get_or r (le_at u) 0) x (is_unit_lem p.0) (K.whole (le x u) p.1);
      ways_whole = λ x w. K.ways_whole x u w;
      sees_whole = λ c x. ⊎_elim (seen_whole c x) (beside_whole c x);
      less_right = λ x p.
          let h = told_when worlds_max t (get_or r (le_at u) 0) x p in (unit_is sh.logic h.0, K.right (le x u) inside h.1);
      ways_right = λ x p. K.ways_right x u inside p;
      sees_right = λ c x h p. ⊎_map (seen_right c x h) (beside_right c x h) (told_either worlds_max (seen_row saved ways a c) (beside_row t r u c) x p);
    })
  where
    t : Bool
    t = is_unit sh.logic

    C : Fact → Type 0
    C = Closed sh (Among fs)

    Less : ℕ → Type 0
    Less x = (sh.logic ≡ unit) × C (le x u)

    Sees : ℕ → ℕ → Type 0
    Sees c x = (Way sh C x u × C (sf u c a)) ⊎ ((sh.logic ≡ unit) × C (by c x u))

    R : Rules sh (Closed sh (Among fs))
    R = closed sh (Among fs)

    S : Rules (grown sh) (Closed (grown sh) (Among (by a u sh.worlds ∷ fs)))
    S = closed (grown sh) (Among (by a u sh.worlds ∷ fs))

    last : sh.worlds < suc sh.worlds
    last = omega arith

    edge : Closed (grown sh) (Among (by a u sh.worlds ∷ fs)) (by a u sh.worlds)
    edge = given here

    from : {c x y : ℕ} → Closed sh (Among fs) (by c x y) → x < sh.worlds
    from {c} {x} {y} p =
        let h : (c < sh.principals) × (x < y) × (y < sh.worlds) = proper K.made p in omega arith

    more : {x : ℕ} → Way sh (Closed sh (Among fs)) x u → Way (grown sh) (Closed (grown sh) (Among (by a u sh.worlds ∷ fs))) x u
    more w = let h : sh.worlds ≤ suc sh.worlds = omega arith in way_more h (λ g c. closed_more g c) w

    few : {c : ℕ} → c < sh.principals → c < principals_max
    few {c} h = omega (arith, K.principals)

    saved : List ℕ
    saved = sf_rows r u

    ways : ℕ
    ways = get_or r (up_at u) 0

    speaks : (c : ℕ) → c < sh.principals → speaks_in (sf_rows r u) c a ≡ told r (sf u c a)
    speaks c h = saved_told r u c a (few h)

    seen_whole : (c x : ℕ) → Way sh (Closed sh (Among fs)) x u × Closed sh (Among fs) (sf u c a) →
        (c < sh.principals) × (bit_of (grown_row t r a u c) x ≡ true)
    seen_whole c x p =
        let h : (u < sh.worlds) × (c < sh.principals) × (a < sh.principals) = proper K.made p.1 in (
          h.1,
          told_left worlds_max (seen_row saved ways a c) (beside_row t r u c) x
              (when_told worlds_max (speaks_in saved c a) ways x (speaks c h.1 ∙ K.whole (sf u c a) p.1) (K.ways_whole x u p.0)),
        )

    seen_right : (c x : ℕ) → c < sh.principals → bit_of (seen_row saved ways a c) x ≡ true →
        Way sh (Closed sh (Among fs)) x u × Closed sh (Among fs) (sf u c a)
    seen_right c x h p =
        let g = told_when worlds_max (speaks_in saved c a) ways x p in
        (K.ways_right x u inside g.1, K.right (sf u c a) (inside, h, who) (sym (speaks c h) ∙ g.0))

    beside_whole : (c x : ℕ) → (sh.logic ≡ unit) × Closed sh (Among fs) (by c x u) →
        (c < sh.principals) × (bit_of (grown_row t r a u c) x ≡ true)
    beside_whole c x p =
        let h : (c < sh.principals) × (x < u) × (u < sh.worlds) = proper K.made p.1 in (
          h.0,
          told_right worlds_max (seen_row saved ways a c) (beside_row t r u c) x
              (when_told worlds_max t (get_or r (by_at u + c) 0) x (is_unit_lem p.0) (rw (by_row_lem r u c (few h.0)) at (K.whole (by c x u) p.1))),
        )

    beside_right : (c x : ℕ) → c < sh.principals → bit_of (beside_row t r u c) x ≡ true → (sh.logic ≡ unit) × Closed sh (Among fs) (by c x u)
    beside_right c x h p =
        let g = told_when worlds_max t (get_or r (by_at u + c) 0) x p in
        (unit_is sh.logic g.0, K.right (by c x u) (h, inside) (rw (by_row_lem r u c (few h)) g.1))

-- In a model that meets the frame conditions the closed facts of a sequent hold where it is respected (`facts_hold`), each of the
-- eighteen steps leaves obligations whose validity makes its own obligation valid (`rule_sound`), and what is derived is valid
-- (`derives_sound`).
use Rattle.std.specs.Prelude.{ℕ, ◌<◌, ◌≡◌, Bool, true, List}
use Rattle.std.proofs.Math.Logic.{inl, inr, ⊎_elim, ⊎_map}
use native.Mathlib.Omega.{arith}
use Rattle.scope.specs.Logic.Form as F
use Rattle.scope.specs.Logic.Form.{Form}
use Rattle.scope.specs.Logic.Facts.{Fact, le, by, sf, Sheet, Rules, Among, here, there, Basis, basis, least}
use Rattle.scope.specs.Logic.Obligation.{lab, Sequent, with_world, with_fact, with_clause, Obligation, Step}
use Rattle.scope.specs.Logic.Derivation as D
use Rattle.scope.specs.Logic.Derivation.{Has, Rule, Derives, DerivesAll}
use Rattle.scope.specs.Logic.Models as M
use Rattle.scope.specs.Logic.Models.{Model, Frame, Sat}
use Rattle.sound.specs.Over.{Over, All, all_place}
use Rattle.sound.specs.Meaning.{put, put_same, put_other, SeesBelow, again, HoldsAt, AtWorlds, Meets, Respects, Valid}
use Rattle.sound.specs.Meaning.{with_world_lem, with_fact_lem, with_clause_lem, meets_behind, meets_met}

all_among : (P : Fact → Type 0) {fs : List Fact} {f : Fact} → Among fs f → All P fs → P f
all_among P here h = h.0
all_among P (there a) h = all_among P a h.1

basis_among : {s : Sheet} {fs : List Fact} {f : Fact} → Basis s fs f → Among fs f
basis_among (basis i n) = i

module _ (k n : ℕ) (m : Model) (fr : Frame k n m) where
  -- What holds at a world holds above it.
  mono : (f : Form) → Over k n f → (x y : ℕ) → x < m.worlds → y < m.worlds → m.le x y ≡ true → Sat m x f → Sat m y f
  unfolding Over Sat
  mono (F.atom p) o x y i j e h = fr.mon p x y o i j h e
  mono F.top o x y i j e h = h
  mono F.bot o x y i j e h = h
  mono (F.and f g) o x y i j e h = (mono f o.0 x y i j e h.0, mono g o.1 x y i j e h.1)
  mono (F.or f g) o x y i j e h = ⊎_map (mono f o.0 x y i j e) (mono g o.1 x y i j e) h
  mono (F.imp f g) o x y i j e h = λ z l d. h z l (fr.trans_le x y z i j l e d)
  mono (F.says a f) o x y i j e h = λ z l d. h z l (fr.mon_S a x y z o.0 i j l e d)
  mono (F.sf a b) o x y i j e h = fr.mon_sf a b x y o.0 o.1 i j (M.by_le j e M.same) h

  -- The facts that hold are closed under the rules, with unit under the tenth too: what S_A reaches is above, and so is what stands above that.
  rules_hold : (s : Sequent) (ρ : ℕ → ℕ) → Respects k n m s ρ → Rules s.sheet (HoldsAt k n m s.sheet.worlds ρ)
  rules_hold s ρ r =
      record {
        rule1 = λ u a i j. let c = r.counted in let l : a < k = omega arith in (l, l, i, fr.refl_sf a (ρ u) l (r.inside u));
        rule2 =
            λ u v a b h t.
            let c = h.3 in
            let e = fr.basic_sf a b (ρ u) c.mid t.0 t.1 (r.inside u) c.inside t.3 c.step in
            (t.0, h.1, h.2, again c e);
        rule3 = λ u a b c h t. (h.0, t.1, h.2, fr.trans_sf a b c (ρ u) h.0 h.1 t.1 (r.inside u) h.3 t.3);
        rule4 =
            λ u v a b c h t.
            let f = M.by_acc c h.0 h.3.inside h.3.step (M.by_le (r.inside v) h.3.below M.same) in
            (t.0, t.1, h.2, fr.mon_sf a b (ρ u) (ρ v) t.0 t.1 (r.inside u) (r.inside v) f t.3);
        rule5 =
            λ u v a b h t.
            let f = M.by_le (r.inside v) h.2 M.same in
            (t.0, t.1, h.1, fr.mon_sf a b (ρ u) (ρ v) t.0 t.1 (r.inside u) (r.inside v) f t.3);
        rule6 =
            λ u v w z a h t l.
            let c = t.3 in
            let e = fr.mon_S a (ρ u) (ρ v) c.mid t.0 (r.inside u) (r.inside v) c.inside h.2 c.step in
            let f = fr.trans_le c.mid (ρ w) (ρ z) c.inside (r.inside w) (r.inside z) c.below l.2 in
            (t.0, h.0, l.1, record { mid = c.mid; inside = c.inside; step = e; below = f });
        rule7 = λ u i. (i, i, fr.refl_le (ρ u) (r.inside u));
        rule8 =
            λ u v w h t.
            (h.0, t.1, fr.trans_le (ρ u) (ρ v) (ρ w) (r.inside u) (r.inside v) (r.inside w) h.2 t.2);
        rule9 =
            λ u v w a b h t.
            let b' = h.3 in
            let c = t.3 in
            let e = fr.mon_S a b'.mid (ρ v) c.mid t.0 b'.inside (r.inside v) c.inside b'.below c.step in
            let f = fr.I a b (ρ u) b'.mid c.mid t.0 h.0 (r.inside u) b'.inside c.inside b'.step e in
            (t.0, h.1, t.2, again c f);
        rule10 =
            λ u v a e h.
            let c = h.3 in
            let l = r.within e a (ρ u) c.mid h.0 (r.inside u) c.inside c.step in
            (h.1, h.2, fr.trans_le (ρ u) c.mid (ρ v) (r.inside u) c.inside (r.inside v) l c.below);
      }

  facts_hold : (s : Sequent) (ρ : ℕ → ℕ) (f : Fact) → Respects k n m s ρ → Has s f → HoldsAt k n m s.sheet.worlds ρ f
  facts_hold s ρ f r h =
      least (rules_hold s ρ r) (λ g b. all_among (HoldsAt k n m s.sheet.worlds ρ) (basis_among b) r.facts) h

  -- Each rule hands the validity of what it leaves up to what it met.
  rule_sound : {o : Obligation} {x : Step} {os : List Obligation} → Rule o x os → All (Valid k n m) os → Valid k n m o
  unfolding Over Sat
  rule_sound D.by_and v = λ ρ r t. (v.0 ρ r (t.0, t.1.0), v.1.0 ρ r (t.0, t.1.1))
  rule_sound D.by_or1 v = λ ρ r t. inl (v.0 ρ r (t.0, t.1.0))
  rule_sound D.by_or2 v = λ ρ r t. inr (v.0 ρ r (t.0, t.1.1))
  rule_sound (D.by_imp {s} {f} {g} {u}) v =
      λ ρ r t x i e h.
      let d : put ρ s.sheet.worlds x s.sheet.worlds ≡ x = put_same ρ s.sheet.worlds x in
      let new : Respects k n m (with_world s (le u s.sheet.worlds)) (put ρ s.sheet.worlds x) =
      with_world_lem k n m s ρ x (le u s.sheet.worlds) r i (omega arith, omega arith, rw (put_other ρ s.sheet.worlds x u t.0, d) e) in
      rw d at (v.0 (put ρ s.sheet.worlds x) new (omega arith, t.1.1) ((t.1.0, rw d h), tt))
  rule_sound (D.by_says {s} {a} {f} {u}) v =
      λ ρ r t x i e.
      let d : put ρ s.sheet.worlds x s.sheet.worlds ≡ x = put_same ρ s.sheet.worlds x in
      let new : Respects k n m (with_world s (by a u s.sheet.worlds)) (put ρ s.sheet.worlds x) =
      with_world_lem k n m s ρ x (by a u s.sheet.worlds) r i (
        t.1.0,
        omega arith,
        omega arith,
        record {
          mid = x;
          inside = i;
          step = rw (put_other ρ s.sheet.worlds x u t.0) e;
          below = rw d (fr.refl_le x i);
        },
      ) in
      rw d at (v.0 (put ρ s.sheet.worlds x) new (omega arith, t.1.1))
  rule_sound D.by_top v = λ ρ r t. tt
  rule_sound (D.by_sf {s} {a} {b} {u} h) v = λ ρ r t. (facts_hold s ρ (sf u a b) r h).3
  rule_sound (D.by_use {s} {c} {l} e q) v =
      λ ρ r t.
      let h = all_place (λ l. AtWorlds k n m s.sheet.worlds l × Meets k n m ρ l) s.clauses c l e r.clauses in
      (v.0 ρ r h.0 t tt).1 h.1
  rule_sound D.by_left v =
      λ ρ r d t met. let b = v.0 ρ r (d.0, d.1.0) t met in (b.0, λ h. b.1 h.0)
  rule_sound D.by_right v =
      λ ρ r d t met. let b = v.0 ρ r (d.0, d.1.1) t met in (b.0, λ h. b.1 h.1)
  rule_sound (D.by_to_imp {s} {u} {v = x} i e) v =
      λ ρ r d t met.
      let b = v.0 ρ r (i, d.1.1) t ((i, d.1.0), met) in
      (b.0.1, λ h. b.1 (h (ρ x) (r.inside x) (facts_hold s ρ (le u x) r e).2 b.0.0))
  rule_sound (D.by_to_says {s} {a} {f} {u} {v = x} i e) v =
      λ ρ r d t met.
      let b = v.0 ρ r (i, d.1.1) t met in
      let c : SeesBelow m a (ρ u) (ρ x) = (facts_hold s ρ (by a u x) r e).3 in (
        b.0,
        λ h.
            b.1 (mono f d.1.1 c.mid (ρ x) c.inside (r.inside x) c.below (h c.mid c.inside c.step)),
      )
  rule_sound (D.by_hit {s} {u} {p} {w} {met} e) v =
      λ ρ r d t i.
      (meets_met k n m s met v ρ r i, mono (F.atom p) t.1 (ρ u) (ρ w) (r.inside u) (r.inside w) (facts_hold s ρ (le u w) r e).2)
  rule_sound (D.by_push {s} {f} {cs} {g} q) v =
      λ ρ r t c.
      meets_behind k n m (with_clause s (lab f g.at)) cs g v.0 ρ
      (with_clause_lem k n m s ρ (lab f g.at) r (t.0, c.0.0) c.0.1)
      t
      c.1
  rule_sound D.by_split v = λ ρ r t c. v.0 ρ r t ((c.0.0.0, c.0.1.0), ((c.0.0.1, c.0.1.1), c.1))
  rule_sound D.by_case v =
      λ ρ r t c.
      ⊎_elim (λ h. v.0 ρ r t ((c.0.0.0, h), c.1)) (λ h. v.1.0 ρ r t ((c.0.0.1, h), c.1)) c.0.1
  rule_sound D.by_absurd v = λ ρ r t c. absurd c.0.1
  rule_sound (D.by_drop {s} {cs} {g}) v = λ ρ r t c. meets_behind k n m s cs g v.0 ρ r t c.1
  rule_sound (D.by_note {s} {a} {b} {cs} {g}) v =
      λ ρ r t c.
      meets_behind k n m (with_fact s (sf g.at a b)) cs g v.0 ρ
      (with_fact_lem k n m s ρ (sf g.at a b) r (c.0.0.0, c.0.0.1, t.0, c.0.1))
      t
      c.1

  mutual
    pub derives_sound : {room : ℕ → List Obligation → Bool} {i : ℕ} {o : Obligation} {xs rest : List Step} →
        Derives room i o xs rest → Valid k n m o
    derives_sound (D.step r e d) = rule_sound r (all_sound d)

    pub all_sound : {room : ℕ → List Obligation → Bool} {i : ℕ} {os : List Obligation} {xs rest : List Step} →
        DerivesAll room i os xs rest → All (Valid k n m) os
    all_sound D.none = tt
    all_sound (D.first d ds) = (derives_sound d, all_sound ds)

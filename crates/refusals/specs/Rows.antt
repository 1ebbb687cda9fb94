-- The refusals of a row, kind by kind: what each kind demands of its operands, and that a row that passes has small numbers.
use Prim.Native.Nat.{ℕ, zero, suc, ◌≤◌, ◌<◌}
use Rattle.std.proofs.Common.{arith, ap, sym, ◌∙◌, le-ltb, ltb-true, ltb-false, leb-true, eqb-true}
use Rattle.std.specs.Prelude.{◌≡◌, Bool, true, false, not, List, map, length, ltb, leb, eqb, get_or, Option, Some, None}
use Rattle.std.proofs.Math.Path.{refl}
use Rattle.std.proofs.lemmas.Bool.{eqb-false}
use Rattle.scope.specs.Limits.{most_step_number}
use Rattle.scope.specs.Logic.Form.{both}
use Rattle.scope.specs.Tools.Tests.{both_true, both_yes}
use Rattle.scope.specs.File.Request.{Row}
use Rattle.scope.specs.File.Kinds.{Kind, kind_in, form_kinds, step_kinds}
use Rattle.scope.specs.File.Refusals.{demand, in_range, is_earlier, pass, rest_zero, row_refusal, step_refusal}

abbrev pub row : ℕ → ℕ → ℕ → Row
row k l r = record { kind = k; left = l; right = r }

-- A formula that a policy line or the goal names: it is below the count, and its classes pass this test. Past the table stand those of none.
unfoldable pub class_refusal : {C : Type 0} → (C → Bool) → C → List C → ℕ → ℕ → ℕ
unfolding demand
class_refusal test none classes formulas f = demand (ltb f formulas) 3 (demand (test (get_or classes f none)) 5 0)

-- Three demands in a row: 3, 3 and 4.
abbrev pub demands : Bool → Bool → Bool → ℕ
demands unused ranges earlier = demand unused 3 (demand ranges 3 (demand earlier 4 0))

pub record Met (unused ranges earlier : Bool) : Type 0 where
  pub zeros : unused ≡ true
  pub within : ranges ≡ true
  pub before : earlier ≡ true

demands_met : (a b c : Bool) → demands a b c ≡ 0 → Met a b c
unfolding demand
demands_met true true true e = record { zeros = refl; within = refl; before = refl }
demands_met true true false e = absurd (omega arith)
demands_met true false c e = absurd (omega arith)
demands_met false b c e = absurd (omega arith)

module _ (principals atoms i l r : ℕ) where
  abbrev form_refused : ℕ → ℕ
  form_refused k = row_refusal form_kinds principals atoms i (row k l r)

  pub form_0 : form_refused 0 ≡ demands (eqb r 0) (ltb l atoms) true
  unfolding row_refusal form_kinds kind_in pass rest_zero in_range is_earlier demand both
  form_0 = simp both_yes

  pub form_1 : form_refused 1 ≡ demands (both (eqb l 0) (eqb r 0)) true true
  unfolding row_refusal form_kinds kind_in pass rest_zero in_range is_earlier demand both
  form_1 = simp both_yes

  pub form_2 : form_refused 2 ≡ demands (both (eqb l 0) (eqb r 0)) true true
  unfolding row_refusal form_kinds kind_in pass rest_zero in_range is_earlier demand both
  form_2 = simp both_yes

  pub form_3 : form_refused 3 ≡ demands true true (both (ltb l i) (ltb r i))
  unfolding row_refusal form_kinds kind_in pass rest_zero in_range is_earlier demand both
  form_3 = simp both_yes

  pub form_4 : form_refused 4 ≡ demands true true (both (ltb l i) (ltb r i))
  unfolding row_refusal form_kinds kind_in pass rest_zero in_range is_earlier demand both
  form_4 = simp both_yes

  pub form_5 : form_refused 5 ≡ demands true true (both (ltb l i) (ltb r i))
  unfolding row_refusal form_kinds kind_in pass rest_zero in_range is_earlier demand both
  form_5 = simp both_yes

  pub form_6 : form_refused 6 ≡ demands true (ltb l principals) (ltb r i)
  unfolding row_refusal form_kinds kind_in pass rest_zero in_range is_earlier demand both
  form_6 = simp both_yes

  pub form_7 : form_refused 7 ≡ demands true (both (ltb l principals) (ltb r principals)) true
  unfolding row_refusal form_kinds kind_in pass rest_zero in_range is_earlier demand both
  form_7 = simp both_yes

  -- An unknown kind.
  pub form_over : (k : ℕ) → 8 ≤ k → form_refused k ≡ 3
  unfolding row_refusal form_kinds demand
  form_over k h = rw (le-ltb k 8 h) refl

  pub form_other : (k : ℕ) → (k ≡ 0 → ⊥) → (k ≡ 1 → ⊥) → (k ≡ 2 → ⊥) → (k ≡ 3 → ⊥) → (k ≡ 4 → ⊥) → (k ≡ 5 → ⊥) → (k ≡ 6 → ⊥) → (k ≡ 7 → ⊥)
      → form_refused k ≡ 3
  form_other k n0 n1 n2 n3 n4 n5 n6 n7 = form_over k (omega arith)

  -- A row that passes has small numbers.
  pub record Small (k : ℕ) : Type 0 where
    pub kinds : k < 8
    pub lefts : l < 65536
    pub rights : r < 65536

  module _ (p : principals < 65536) (a : atoms < 65536) (f : i < 65536) where
    pub form_small : (k : ℕ) → form_refused k ≡ 0 → Small k
    form_small zero e =
        let m = demands_met (eqb r 0) (ltb l atoms) true (sym form_0 ∙ e) in
        let x = eqb-true r 0 m.zeros in
        let y = ltb-true l atoms m.within in
        record { kinds = omega arith; lefts = omega arith; rights = omega arith }
    form_small (suc zero) e =
        let m = demands_met (both (eqb l 0) (eqb r 0)) true true (sym form_1 ∙ e) in
        let x = eqb-true l 0 (both_true (eqb l 0) (eqb r 0) m.zeros).0 in
        let y = eqb-true r 0 (both_true (eqb l 0) (eqb r 0) m.zeros).1 in
        record { kinds = omega arith; lefts = omega arith; rights = omega arith }
    form_small (suc (suc zero)) e =
        let m = demands_met (both (eqb l 0) (eqb r 0)) true true (sym form_2 ∙ e) in
        let x = eqb-true l 0 (both_true (eqb l 0) (eqb r 0) m.zeros).0 in
        let y = eqb-true r 0 (both_true (eqb l 0) (eqb r 0) m.zeros).1 in
        record { kinds = omega arith; lefts = omega arith; rights = omega arith }
    form_small (suc (suc (suc zero))) e =
        let m = demands_met true true (both (ltb l i) (ltb r i)) (sym form_3 ∙ e) in
        let x = ltb-true l i (both_true (ltb l i) (ltb r i) m.before).0 in
        let y = ltb-true r i (both_true (ltb l i) (ltb r i) m.before).1 in
        record { kinds = omega arith; lefts = omega arith; rights = omega arith }
    form_small (suc (suc (suc (suc zero)))) e =
        let m = demands_met true true (both (ltb l i) (ltb r i)) (sym form_4 ∙ e) in
        let x = ltb-true l i (both_true (ltb l i) (ltb r i) m.before).0 in
        let y = ltb-true r i (both_true (ltb l i) (ltb r i) m.before).1 in
        record { kinds = omega arith; lefts = omega arith; rights = omega arith }
    form_small (suc (suc (suc (suc (suc zero))))) e =
        let m = demands_met true true (both (ltb l i) (ltb r i)) (sym form_5 ∙ e) in
        let x = ltb-true l i (both_true (ltb l i) (ltb r i) m.before).0 in
        let y = ltb-true r i (both_true (ltb l i) (ltb r i) m.before).1 in
        record { kinds = omega arith; lefts = omega arith; rights = omega arith }
    form_small (suc (suc (suc (suc (suc (suc zero)))))) e =
        let m = demands_met true (ltb l principals) (ltb r i) (sym form_6 ∙ e) in
        let x = ltb-true l principals m.within in
        let y = ltb-true r i m.before in
        record { kinds = omega arith; lefts = omega arith; rights = omega arith }
    form_small (suc (suc (suc (suc (suc (suc (suc zero))))))) e =
        let m = demands_met true (both (ltb l principals) (ltb r principals)) true (sym form_7 ∙ e) in
        let x = ltb-true l principals (both_true (ltb l principals) (ltb r principals) m.within).0 in
        let y = ltb-true r principals (both_true (ltb l principals) (ltb r principals) m.within).1 in
        record { kinds = omega arith; lefts = omega arith; rights = omega arith }
    form_small (suc (suc (suc (suc (suc (suc (suc (suc k)))))))) e =
        let z : form_refused (suc (suc (suc (suc (suc (suc (suc (suc k)))))))) ≡ 3 = form_other
        (suc (suc (suc (suc (suc (suc (suc (suc k)))))))) (λ q. omega (arith, q)) (λ q. omega (arith, q)) (λ q. omega (arith, q))
        (λ q. omega (arith, q)) (λ q. omega (arith, q)) (λ q. omega (arith, q)) (λ q. omega (arith, q)) (λ q. omega (arith, q)) in
        absurd (omega arith)

-- Whether the steps of a kind carry a number; none where no kind has the number.
unfoldable pub number_carried : ℕ → Option Bool
number_carried k = get_or (map (λ (x : Kind). Some (not (eqb (length x.operands) 0))) step_kinds) k None

module _ (l r : ℕ) where
  abbrev step_refused : ℕ → ℕ
  step_refused k = step_refusal (row k l r)

  pub step_7 : step_refused 7 ≡ demands (eqb r 0) (leb l most_step_number) true
  unfolding step_refusal row_refusal step_kinds kind_in pass rest_zero in_range is_earlier demand both
  step_7 = simp both_yes

  pub step_10 : step_refused 10 ≡ demands (eqb r 0) (leb l most_step_number) true
  unfolding step_refusal row_refusal step_kinds kind_in pass rest_zero in_range is_earlier demand both
  step_10 = simp both_yes

  pub step_over : (k : ℕ) → 18 ≤ k → step_refused k ≡ 3
  unfolding step_refusal row_refusal step_kinds demand
  step_over k h = rw (le-ltb k 18 h) refl

  pub step_plain : (k : ℕ) → k < 18 → (k ≡ 7 → ⊥) → (k ≡ 10 → ⊥) → step_refused k ≡ demands (both (eqb l 0) (eqb r 0)) true true
  unfolding step_refusal row_refusal step_kinds kind_in pass rest_zero in_range is_earlier demand both
  step_plain zero h n m = simp both_yes
  step_plain (suc zero) h n m = simp both_yes
  step_plain (suc (suc zero)) h n m = simp both_yes
  step_plain (suc (suc (suc zero))) h n m = simp both_yes
  step_plain (suc (suc (suc (suc zero)))) h n m = simp both_yes
  step_plain (suc (suc (suc (suc (suc zero))))) h n m = simp both_yes
  step_plain (suc (suc (suc (suc (suc (suc zero)))))) h n m = simp both_yes
  step_plain (suc (suc (suc (suc (suc (suc (suc zero))))))) h n m = absurd (n refl)
  step_plain (suc (suc (suc (suc (suc (suc (suc (suc zero)))))))) h n m = simp both_yes
  step_plain (suc (suc (suc (suc (suc (suc (suc (suc (suc zero))))))))) h n m = simp both_yes
  step_plain (suc (suc (suc (suc (suc (suc (suc (suc (suc (suc zero)))))))))) h n m = absurd (m refl)
  step_plain (suc (suc (suc (suc (suc (suc (suc (suc (suc (suc (suc zero))))))))))) h n m = simp both_yes
  step_plain (suc (suc (suc (suc (suc (suc (suc (suc (suc (suc (suc (suc zero)))))))))))) h n m = simp both_yes
  step_plain (suc (suc (suc (suc (suc (suc (suc (suc (suc (suc (suc (suc (suc zero))))))))))))) h n m = simp both_yes
  step_plain (suc (suc (suc (suc (suc (suc (suc (suc (suc (suc (suc (suc (suc (suc zero)))))))))))))) h n m = simp both_yes
  step_plain (suc (suc (suc (suc (suc (suc (suc (suc (suc (suc (suc (suc (suc (suc (suc zero))))))))))))))) h n m = simp both_yes
  step_plain (suc (suc (suc (suc (suc (suc (suc (suc (suc (suc (suc (suc (suc (suc (suc (suc zero)))))))))))))))) h n m = simp both_yes
  step_plain (suc (suc (suc (suc (suc (suc (suc (suc (suc (suc (suc (suc (suc (suc (suc (suc (suc zero))))))))))))))))) h n m = simp both_yes
  step_plain (suc (suc (suc (suc (suc (suc (suc (suc (suc (suc (suc (suc (suc (suc (suc (suc (suc (suc k)))))))))))))))))) h n m = absurd
      (omega arith)

  pub record SmallStep (k : ℕ) : Type 0 where
    pub kinds : k < 18
    pub lefts : l < 65536
    pub rights : r ≡ 0
    pub unused : (k ≡ 7 → ⊥) → (k ≡ 10 → ⊥) → l ≡ 0

  pub step_small : (k : ℕ) → step_refused k ≡ 0 → SmallStep k
  step_small k e = go (ltb k 18) (eqb k 7) (eqb k 10) refl refl refl
    where
      carried : (j : ℕ) → j < 18 → demands (eqb r 0) (leb l most_step_number) true ≡ 0 → ((j ≡ 7 → ⊥) → (j ≡ 10 → ⊥) → l ≡ 0) → SmallStep j
      carried j h f none =
          let m = demands_met (eqb r 0) (leb l most_step_number) true f in
          let x = eqb-true r 0 m.zeros in
          let y = leb-true l most_step_number m.within in
          record { kinds = h; lefts = omega arith; rights = x; unused = none }

      go : (a b c : Bool) → ltb k 18 ≡ a → eqb k 7 ≡ b → eqb k 10 ≡ c → SmallStep k
      go false b c p q t = absurd (omega (arith, step_over k (ltb-false k 18 p)))
      go true true c p q t =
          let f = eqb-true k 7 q in
          carried k (ltb-true k 18 p) (sym step_7 ∙ ap step_refused (sym f) ∙ e) (λ n m. absurd (n f))
      go true false true p q t =
          let f = eqb-true k 10 t in
          carried k (ltb-true k 18 p) (sym step_10 ∙ ap step_refused (sym f) ∙ e) (λ n m. absurd (m f))
      go true false false p q t =
          let m = demands_met (both (eqb l 0) (eqb r 0)) true true (sym (step_plain k (ltb-true k 18 p) (eqb-false k 7 q) (eqb-false k 10 t)) ∙ e) in
          let x = eqb-true l 0 (both_true (eqb l 0) (eqb r 0) m.zeros).0 in
          let y = eqb-true r 0 (both_true (eqb l 0) (eqb r 0) m.zeros).1 in
          record { kinds = ltb-true k 18 p; lefts = omega arith; rights = y; unused = λ n m. x }

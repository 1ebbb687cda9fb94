-- How a way through the slots went, turn by turn; and what is kept of it when an empty slot is filled.
use Prim.Native.Nat.{ℕ, zero, suc, ◌+◌, ◌*◌, ◌/◌, ◌%◌, ◌≤◌, ◌<◌}
use Rattle.std.proofs.Common.{arith, mod-lt, ap, sym, ◌∙◌, get_or-set_same, get_or-set_other}
use Rattle.std.specs.Prelude.{◌≡◌, Bool, cond, List, length, get_or, set}
use Rattle.std.proofs.Math.Path.{refl}
use Rattle.std.proofs.Math.Bool.{true, false}
use Rattle.scope.specs.File.Request.{Row}
use Rattle.scope.specs.Tools.Tests.{never}
use Rattle.classes.specs.Rows.{form_row}
use Rattle.numbering.specs.declared.Place.{Place}
use Rattle.numbering.specs.declared.Place.TheVariants.{Taken, Free}
use Rattle.numbering.specs.Equal.{same_equal, same_itself}
use Rattle.scope.specs.File.Refusals.{same_row}
use Rattle.numbering.specs.Slots.{head_slots, slot_under, at_entry, walk}

pub data Way (t slots : List ℕ) (r : Row) : ℕ → ℕ → ℕ → Place → Type 0 where
  -- no turn is left
  out : {k s : ℕ} → Way t slots r zero k s (Free s)
  -- the slot is empty
  ends : {m k s : ℕ} → get_or slots s 0 ≡ 0 → Way t slots r (suc m) k s (Free s)
  -- its row is equal
  meets : {m k s i : ℕ} → get_or slots s 0 ≡ suc i → same_row (form_row t i) r ≡ true → Way t slots r (suc m) k s (Taken i)
  -- its row is another
  goes : {m k s : ℕ} (i : ℕ) {p : Place} → get_or slots s 0 ≡ suc i → same_row (form_row t i) r ≡ false →
      Way t slots r m (k / 2) (slot_under i (k % 2)) p → Way t slots r (suc m) k s p

module _ (t slots : List ℕ) (r : Row) where
  way_from : (m k s : ℕ) (e : ℕ) → get_or slots s 0 ≡ e →
      ((i : ℕ) → Way t slots r m (k / 2) (slot_under i (k % 2)) (walk t slots r m (k / 2) (slot_under i (k % 2)))) →
      Way t slots r (suc m) k s (at_entry t r s e (λ i. walk t slots r m (k / 2) (slot_under i (k % 2))))
  unfolding at_entry
  way_from m k s zero e w = ends e
  way_from m k s (suc i) e w = go (same_row (form_row t i) r) refl
    where
      go : (b : Bool) → same_row (form_row t i) r ≡ b →
          Way t slots r (suc m) k s (cond b (Taken i) (walk t slots r m (k / 2) (slot_under i (k % 2))))
      go true h = meets e h
      go false h = goes i e h (w i)

  pub way : (m k s : ℕ) → Way t slots r m k s (walk t slots r m k s)
  unfolding walk
  way zero k s = out
  way (suc m) k s = way_from m k s (get_or slots s 0) refl (λ i. way m (k / 2) (slot_under i (k % 2)))

pub walked : {t slots : List ℕ} {r : Row} {m k s : ℕ} {p : Place} → Way t slots r m k s p → walk t slots r m k s ≡ p
unfolding walk at_entry
walked out = refl
walked {t} {slots} {r} {m = suc m} {k} {s} (ends e) =
    ap (λ x. at_entry t r s x (λ i. walk t slots r m (k / 2) (slot_under i (k % 2)))) e
walked {t} {slots} {r} {m = suc m} {k} {s} (meets {i = i} e h) =
    ap (λ x. at_entry t r s x (λ i. walk t slots r m (k / 2) (slot_under i (k % 2)))) e ∙
    ap (λ b. cond b (Taken i) (walk t slots r m (k / 2) (slot_under i (k % 2)))) h
walked {t} {slots} {r} {m = suc m} {k} {s} (goes i e h w) =
    ap (λ x. at_entry t r s x (λ i. walk t slots r m (k / 2) (slot_under i (k % 2)))) e ∙
    ap (λ b. cond b (Taken i) (walk t slots r m (k / 2) (slot_under i (k % 2)))) h ∙
    walked w

-- The row that is met is equal, and one of n where no entry is over n.
module _ (t slots : List ℕ) (r : Row) (n : ℕ) (small : (s : ℕ) → get_or slots s 0 ≤ n) where
  pub met_equal : {m k s : ℕ} {p : Place} → Way t slots r m k s p → (i : ℕ) → p ≡ Taken i → (form_row t i ≡ r) × (i < n)
  met_equal out i e = never cc
  met_equal (ends h) i e = never cc
  met_equal {s} (meets {i = j} h b) i e =
      let same : j ≡ i = cc in
      (rw same at (same_equal (form_row t j) r b), omega (arith, small s))
  met_equal (goes j h b w) i e = met_equal w i e

-- A way that met its row read no empty slot: it stands when an empty slot is filled, and when later rows are written.
module _ (t t' slots : List ℕ) (r : Row) (n q v : ℕ) (small : (s : ℕ) → get_or slots s 0 ≤ n) (empty : get_or slots q 0 ≡ 0)
    (rows : (i : ℕ) → i < n → form_row t' i ≡ form_row t i) where
  other_slot : (s i : ℕ) → get_or slots s 0 ≡ suc i → get_or (set slots q v) s 0 ≡ suc i
  other_slot s i e = get_or-set_other slots q s v 0 (λ same. let z : suc i ≡ 0 = sym e ∙ ap (λ x. get_or slots x 0) same ∙ empty in omega arith) ∙ e

  same_test : (s i : ℕ) (b : Bool) → get_or slots s 0 ≡ suc i → same_row (form_row t i) r ≡ b → same_row (form_row t' i) r ≡ b
  same_test s i b e h = ap (λ x. same_row x r) (rows i (omega (arith, small s))) ∙ h

  pub way_kept : {m k s : ℕ} {p : Place} → Way t slots r m k s p → (i : ℕ) → p ≡ Taken i → Way t' (set slots q v) r m k s p
  way_kept out i e = never cc
  way_kept (ends h) i e = never cc
  way_kept {s} (meets {i = j} h b) i e = meets (other_slot s j h) (same_test s j true h b)
  way_kept {s} (goes j h b w) i e = goes j (other_slot s j h) (same_test s j false h b) (way_kept w i e)

-- Numbers rise along a way: a row stands under an earlier one. So a way that has turns enough ends at an empty slot.
pub record Enough (slots : List ℕ) (n m s : ℕ) : Type 0 where
  pub some : 0 < m
  pub more : 0 < get_or slots s 0 → suc n < get_or slots s 0 + m
  pub low : s < head_slots + 2 * n

pub record Empty (slots : List ℕ) (n q : ℕ) : Type 0 where
  pub empty : get_or slots q 0 ≡ 0
  pub low : q < head_slots + 2 * n

module _ (t slots : List ℕ) (r : Row) (n : ℕ) (small : (s : ℕ) → get_or slots s 0 ≤ n)
    (rises : (i side : ℕ) → side < 2 → 0 < get_or slots (slot_under i side) 0 → suc i < get_or slots (slot_under i side) 0) where
  onward : (m k s i : ℕ) → get_or slots s 0 ≡ suc i → Enough slots n (suc m) s → Enough slots n m (slot_under i (k % 2))
  onward m k s i e h =
      let side : k % 2 < 2 = mod-lt k (omega arith) in
      let top : suc i ≤ n = omega (arith, small s) in
      let turns : suc n < get_or slots s 0 + suc m = h.more (omega arith) in
      record { some = omega arith; more = λ p. let up = rises i (k % 2) side p in omega arith; low = omega arith }

  pub way_ends : {m k s : ℕ} {p : Place} → Way t slots r m k s p → Enough slots n m s → (q : ℕ) → p ≡ Free q → Empty slots n q
  way_ends out h q e = absurd (omega (arith, h.some))
  way_ends {s} (ends e') h q e = let same : s ≡ q = cc in record { empty = ap (λ x. get_or slots x 0) (sym same) ∙ e'; low = omega (arith, h.low) }
  way_ends (meets e' b) h q e = never cc
  way_ends {m = suc m} {k} {s} (goes i e' b w) h q e = way_ends w (onward m k s i e' h) q e

  -- Once that slot is filled with row n, which is this one, the way meets it.
  pub way_filled : {m k s : ℕ} {p : Place} → Way t slots r m k s p → Enough slots n m s → (q : ℕ) → p ≡ Free q → (t' : List ℕ) →
      get_or slots q 0 ≡ 0 → q < length slots → ((i : ℕ) → i < n → form_row t' i ≡ form_row t i) → form_row t' n ≡ r →
      Way t' (set slots q (suc n)) r m k s (Taken n)
  way_filled out h q e t' z l rows new = absurd (omega (arith, h.some))
  way_filled {s} (ends e') h q e t' z l rows new =
      let same : s ≡ q = cc in
      meets (ap (λ x. get_or (set slots q (suc n)) x 0) same ∙ get_or-set_same slots q (suc n) 0 l)
      (ap (λ x. same_row x r) new ∙ same_itself r)
  way_filled (meets e' b) h q e t' z l rows new = never cc
  way_filled {m = suc m} {k} {s} (goes i e' b w) h q e t' z l rows new =
      goes i (other_slot t t' slots r n q (suc n) small z rows s i e') (same_test t t' slots r n q (suc n) small z rows s i false e' b)
      (way_filled w (onward m k s i e' h) q e t' z l rows new)

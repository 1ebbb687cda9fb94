-- The entries of a table at a place, w of them, whatever the width w: what is read there (`block_at`), and what a write makes of it: of one entry (`block_set`), of all
-- (`block_put`), of entries elsewhere (`block_same`, and `Same` for those below a place).
use Rattle.std.specs.Prelude.{ℕ, suc, ◌+◌, ◌*◌, ◌<◌, ◌≤◌, ◌≡◌, refl, Bool, true, false, List, eqb, set, replicate}
use Rattle.std.proofs.Math.Path.{sym, subst}
use Rattle.std.proofs.Common.{◌∙◌, arith, zero-add, suc-mul, eqb-true, length-set, get_or-set_same, get_or-set_other}
use Rattle.std.proofs.Math.Nat.{mul-le-mul_right}
use Rattle.std.proofs.lemmas.Bool.{eqb-false}
use Rattle.std.proofs.Math.ListN.{length, get_or, length-replicate}
use Rattle.std.proofs.Math.Seq.{ext_get_or}
use Rattle.facts.specs.Fill.{fill, length_fill, fill_at, fill_before, fill_same}
use Rattle.machine.specs.Tables.{block, put_block}

-- A place above another begins past its entries.
past_block : (w : ℕ) {p q : ℕ} → p < q → p * w + w ≤ q * w
past_block w {p} {q} h = rw (suc-mul p w) at (mul-le-mul_right w h)

-- Below place n the two tables are the same.
pub record Same (w n : ℕ) (l l' : List ℕ) : Type 0 where
  pub each : (i : ℕ) → i < n * w → get_or l' i 0 ≡ get_or l i 0

module _ (w : ℕ) where
  pub block_length : (l : List ℕ) (p : ℕ) → length (block w l p) ≡ w
  unfolding block
  block_length l p = length_fill (λ i. get_or l (p * w + i) 0) 0 w (replicate w 0) ∙ length-replicate {A = ℕ} w 0

  pub block_at : (l : List ℕ) (p i : ℕ) → i < w → get_or (block w l p) i 0 ≡ get_or l (p * w + i) 0
  unfolding block
  block_at l p i h =
      let all : 0 + w ≤ length (replicate {A = ℕ} w 0) = rw length-replicate (omega arith) in
      subst (λ (k : ℕ). get_or (fill (λ i. get_or l (p * w + i) 0) 0 w (replicate w 0)) k 0 ≡ get_or l (p * w + i) 0) (zero-add i)
      (fill_at (λ i. get_or l (p * w + i) 0) 0 w (replicate w 0) i h all)

  pub block_same : (l l' : List ℕ) (p : ℕ) → ((i : ℕ) → i < w → get_or l' (p * w + i) 0 ≡ get_or l (p * w + i) 0) →
      block w l' p ≡ block w l p
  unfolding block
  block_same l l' p h = fill_same (λ i. get_or l' (p * w + i) 0) (λ i. get_or l (p * w + i) 0) 0 w (replicate w 0) h

  pub block_set : (l : List ℕ) (p j x : ℕ) → j < w → p * w + w ≤ length l → block w (set l (p * w + j) x) p ≡ set (block w l p) j x
  block_set l p j x h room =
      ext_get_or 0 (block w (set l (p * w + j) x) p) (set (block w l p) j x)
      (block_length (set l (p * w + j) x) p ∙ sym (length-set (block w l p) j x ∙ block_length l p))
      (λ i g.
      let low : i < w = omega (arith, block_length (set l (p * w + j) x) p) in
      block_at (set l (p * w + j) x) p i low ∙ go i low (eqb i j) refl)
    where
      go : (i : ℕ) → i < w → (t : Bool) → eqb i j ≡ t → get_or (set l (p * w + j) x) (p * w + i) 0 ≡ get_or (set (block w l p) j x) i 0
      go i low true e =
          let same : i ≡ j = eqb-true i j e in
          let long : p * w + j < length l = omega arith in
          let long' : j < length (block w l p) = omega (arith, block_length l p) in
          rw same (get_or-set_same l (p * w + j) x 0 long ∙ sym (get_or-set_same (block w l p) j x 0 long'))
      go i low false e =
          let other : i ≡ j → ⊥ = eqb-false i j e in
          let other' : p * w + i ≡ p * w + j → ⊥ = λ q. other (omega arith) in
          get_or-set_other l (p * w + j) (p * w + i) x 0 other' ∙ sym (block_at l p i low) ∙ sym (get_or-set_other (block w l p) j i x 0 other)

  pub block_put : (l : List ℕ) (p : ℕ) (s : List ℕ) → length s ≡ w → p * w + w ≤ length l → block w (put_block w l p s) p ≡ s
  unfolding put_block
  block_put l p s size room =
      ext_get_or 0 (block w (fill (λ i. get_or s i 0) (p * w) w l) p) s (block_length (fill (λ i. get_or s i 0) (p * w) w l) p ∙ sym size)
      (λ i g.
      let low : i < w = omega (arith, block_length (fill (λ i. get_or s i 0) (p * w) w l) p) in
      block_at (fill (λ i. get_or s i 0) (p * w) w l) p i low ∙ fill_at (λ i. get_or s i 0) (p * w) w l i low room)

  pub put_length : (l : List ℕ) (p : ℕ) (s : List ℕ) → length (put_block w l p s) ≡ length l
  unfolding put_block
  put_length l p s = length_fill (λ i. get_or s i 0) (p * w) w l

  -- An entry of the place above another.
  pub set_above : (l : List ℕ) (p j x : ℕ) → j < w → block w (set l (p * w + j) x) (suc p) ≡ block w l (suc p)
  set_above l p j x h =
      block_same l (set l (p * w + j) x) (suc p)
      (λ i g. let other : suc p * w + i ≡ p * w + j → ⊥ = λ e. omega (arith, suc-mul p w) in get_or-set_other l (p * w + j) (suc p * w + i) x 0 other)

  pub same_self : (n : ℕ) (l : List ℕ) → Same w n l l
  same_self n l = record { each = λ i h. refl }

  pub same_set : {n : ℕ} {l l' : List ℕ} (k x : ℕ) → n * w ≤ k → Same w n l l' → Same w n l (set l' k x)
  same_set {n} {l} {l'} k x h s =
      record { each = λ i g. let other : i ≡ k → ⊥ = λ e. omega arith in get_or-set_other l' k i x 0 other ∙ s.each i g }

  pub same_put : {n : ℕ} {l l' : List ℕ} (p : ℕ) (held : List ℕ) → n ≤ p → Same w n l l' → Same w n l (put_block w l' p held)
  unfolding put_block
  same_put {n} {l} {l'} p held h s =
      record { each = λ i g. fill_before (λ i. get_or held i 0) (p * w) w l' i (omega (arith, mul-le-mul_right w h)) ∙ s.each i g }

  pub same_block : {n : ℕ} {l l' : List ℕ} (p : ℕ) → p < n → Same w n l l' → block w l' p ≡ block w l p
  same_block {n} {l} {l'} p h s = block_same l l' p (λ i g. s.each (p * w + i) (omega (arith, past_block w h)))

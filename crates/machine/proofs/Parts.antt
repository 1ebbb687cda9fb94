-- The entries of a place as parts of a table: reading them is taking, and putting them pasting.
use Rattle.std.specs.Prelude.{ℕ, zero, suc, ◌+◌, ◌-◌, ◌*◌, ◌≤◌, ◌≡◌, refl, List, [], take, drop, length, get_or, replicate}
use Rattle.std.proofs.Common.{sym, ap, ◌∙◌, arith, zero-add, append-nil, length-drop}
use borrow.Rule.Slice.PartMut.{put_mid}
use Rattle.std.specs.List.{copy_within}
use Rattle.std.proofs.lemmas.Slice.{put_mid-paste}
use Rattle.std.proofs.lemmas.List.{get_or-drop, length-take-le}
use Rattle.std.proofs.lemmas.List.Edits.{paste_none}
use Rattle.std.proofs.Math.ListN.{length-replicate}
use Rattle.std.proofs.Math.Seq.{paste, paste-suc, drop-length, take-length}
use Rattle.facts.specs.Fill.{fill, fill_same}
use Rattle.machine.specs.Tables.{block, put_block}

fill_paste : (d s : List ℕ) (at n : ℕ) → at + n ≤ length d → n ≤ length s → fill (λ i. get_or s i 0) at n d ≡ paste d at s n
unfolding fill
fill_paste d s at zero h g = paste_none d at s
fill_paste d s at (suc n) h g =
    rw (fill_paste d s at n (omega arith) (omega arith)) (paste-suc d at s n 0 (omega arith) (omega arith))

paste_front : (d s : List ℕ) (w : ℕ) → length d ≡ w → paste d 0 s w ≡ take w s
paste_front d s w e =
    let none : drop (0 + w) d ≡ [] = rw (zero-add, ← e) (drop-length d) in
    rw none (append-nil (take w s))

pub block_is : (w : ℕ) (l : List ℕ) (p : ℕ) → p * w + w ≤ length l → block w l p ≡ take w (drop (p * w) l)
unfolding block
block_is w l p h =
    fill_same (λ i. get_or l (p * w + i) 0) (λ i. get_or (drop (p * w) l) i 0) 0 w (replicate w 0) (λ i g. sym (get_or-drop (p * w) l i 0)) ∙
    fill_paste (replicate w 0) (drop (p * w) l) 0 w (omega (arith, length-replicate {A = ℕ} w 0)) (omega (arith, length-drop (p * w) l)) ∙
    paste_front (replicate w 0) (drop (p * w) l) w (length-replicate {A = ℕ} w 0)

-- The entries of a place taken as a part, others pasted there, and, as the code does, the same written one place above.
module _ (w : ℕ) (l : List ℕ) (p : ℕ) where
  width : p * w + w - p * w ≡ w
  width = omega arith

  pub read_is : p * w + w ≤ length l → take (p * w + w - p * w) (drop (p * w) l) ≡ block w l p
  read_is h = rw width (sym (block_is w l p h))

  put_is : (held : List ℕ) → p * w + w ≤ length l → length held ≡ w → put_block w l p held ≡ paste l (p * w) held w
  unfolding put_block
  put_is held h e = fill_paste l held (p * w) w h (omega (arith, e))

  pub written_is : (held part : List ℕ) → p * w + w ≤ length l → length held ≡ w → part ≡ held →
      put_mid (p * w) (p * w + w - p * w) l part ≡ put_block w l p held
  written_is held part h e same =
      put_mid-paste (p * w) (p * w + w - p * w) l part held w same (sym width) (sym e) ∙ sym (put_is held h e)

pub copied_is : (w : ℕ) (l : List ℕ) (p : ℕ) → (p + 1) * w + w ≤ length l →
    copy_within l (p * w) (p * w + w) (p * w + w) ≡ put_block w l (p + 1) (block w l p)
copied_is w l p h =
    let up : (p + 1) * w ≡ p * w + w = omega arith in
    let low : p * w + w ≤ length l = omega arith in
    let long : length (take w (drop (p * w) l)) ≡ w = length-take-le w (drop (p * w) l) (omega (arith, length-drop (p * w) l)) in
    let whole : take w (take w (drop (p * w) l)) ≡ take w (drop (p * w) l) =
    ap (λ (k : ℕ). take k (take w (drop (p * w) l))) (sym long) ∙ take-length (take w (drop (p * w) l)) in
    rw (block_is w l p low, put_is w l (p + 1) (take w (drop (p * w) l)) h long, up, width w l p, whole) refl

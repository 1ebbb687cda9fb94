-- A text put into the output from a place on: a byte is stored only where there is one, and the place counts on all the same.
use Rattle.std.specs.Prelude.{ℕ, zero, suc, ◌+◌, ◌-◌, ◌≤◌, ◌≡◌, refl, List, [], ◌∷◌, ◌++◌, length, drop, set, replicate}
use Rattle.std.proofs.Common.{add-suc, suc-add, add-zero, le_trans, arith, ap, sym, ◌∙◌, length-append}
use Rattle.std.proofs.Math.Nat.{sub-zero, zero-sub, suc-sub-suc}
use Rattle.std.proofs.lemmas.List.{length-replicate}
use Rattle.std.proofs.lemmas.List.Edits.{sets, sets-eq}
use Rattle.scope.specs.Call.Tables.{padded}

-- The output before and after, where the text begins and ends, and the most bytes that such a text has.
pub record Puts (before : List ℕ) (at : ℕ) (text : List ℕ) (most : ℕ) (after : List ℕ) (end : ℕ) : Type 0 where
  pub stored : after ≡ sets before at text
  pub counted : end ≡ at + length text
  pub short : length text ≤ most

sets_append : (l : List ℕ) (at : ℕ) (s t : List ℕ) → sets l at (s ++ t) ≡ sets (sets l at s) (at + length s) t
sets_append l at [] t = ap (λ (k : ℕ). sets l k t) (sym (add-zero at))
sets_append l at (b ∷ s) t =
    sets_append (set l at b) (suc at) s t ∙
    ap (λ (k : ℕ). sets (sets (set l at b) (suc at) s) k t) (suc-add at (length s) ∙ sym (add-suc at (length s)))

-- One text after the other.
pub puts_then : {a m z : List ℕ} {at e f : ℕ} {s t : List ℕ} {v w : ℕ} → Puts a at s v m e → Puts m e t w z f → Puts a at (s ++ t) (v + w) z f
puts_then {a} {m} {z} {at} {e} {f} {s} {t} p q =
    record {
      stored = q.stored ∙ ap (λ (l : List ℕ). sets l e t) p.stored ∙ ap (λ (k : ℕ). sets (sets a at s) k t) p.counted ∙ sym (sets_append a at s t);
      counted = simp length-append (omega (arith, p.counted, q.counted));
      short = simp length-append (omega (arith, p.short, q.short));
    }

-- The same text, at most as many bytes.
pub puts_same : {a z : List ℕ} {at f : ℕ} {s t : List ℕ} {v w : ℕ} → s ≡ t → v ≤ w → Puts a at s v z f → Puts a at t w z f
puts_same {a} {z} {at} {f} {s} {t} e h p =
    record {
      stored = p.stored ∙ ap (sets a at) e;
      counted = p.counted ∙ ap (λ (l : List ℕ). at + length l) e;
      short = rw e at (le_trans p.short h);
    }

pub puts_none : (a : List ℕ) (at : ℕ) → Puts a at [] 0 a at
puts_none a at = record { stored = refl; counted = sym (add-zero at); short = omega arith }

pub puts_one : (a : List ℕ) (at b : ℕ) → Puts a at (b ∷ []) 1 (set a at b) (at + 1)
puts_one a at b = record { stored = refl; counted = refl; short = omega arith }

drop_zeros : (k n : ℕ) → drop {A = ℕ} k (replicate n 0) ≡ replicate (n - k) 0
drop_zeros zero n = ap (λ (m : ℕ). replicate m 0) (sym (sub-zero n))
drop_zeros (suc k) zero = ap (λ (m : ℕ). replicate m 0) (sym (zero-sub (suc k)))
drop_zeros (suc k) (suc n) = drop_zeros k n ∙ ap (λ (m : ℕ). replicate m 0) (sym (suc-sub-suc n k))

-- A text put into an output of zeros that has room for it.
pub puts_zeros : (len : ℕ) (s : List ℕ) → length s ≤ len → sets (replicate len 0) 0 s ≡ padded len s
unfolding padded
puts_zeros len s h =
    let k : 0 + length s ≤ length (replicate {A = ℕ} len 0) = simp length-replicate (omega arith) in
    let z : 0 + length s ≡ length s = omega arith in
    sets-eq s (replicate len 0) 0 k ∙ ap (λ (l : List ℕ). s ++ l) (ap (λ (m : ℕ). drop {A = ℕ} m (replicate len 0)) z ∙ drop_zeros (length s) len)

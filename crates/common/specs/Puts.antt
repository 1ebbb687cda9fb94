-- A text put into the output from a place on, byte by byte: what passes the end is not stored.
use Rattle.std.specs.Prelude.{ℕ, zero, suc, ◌+◌, ◌-◌, ◌≤◌, ◌<◌, ◌≡◌, refl, min, List, [], ◌∷◌, ◌++◌, length, get_or, take, drop, set}
use Rattle.std.proofs.Common.{add-one, arith, ap, sym, ◌∙◌, append_assoc, drop-drop, drop_of_length-le, drop-cons}
use borrow.Rule.Slice.PartMut.{put_mid}
use Rattle.std.proofs.lemmas.List.{length-take-le, take_min}
use Rattle.std.proofs.lemmas.List.Edits.{sets, sets-eq}
use Rattle.std.proofs.Math.ListN.{length-set}
use Rattle.std.proofs.Math.Seq.{set_out}

-- i of the bytes so far, and one more; and all of them.
pub puts_more : (a z s : List ℕ) (at i : ℕ) → i < length s → sets z (at + i) (drop i s) ≡ sets a at s →
    sets (set z (at + i) (get_or s i 0)) (at + (i + 1)) (drop (i + 1) s) ≡ sets a at s
puts_more a z s at i h e =
    let k : at + (i + 1) ≡ suc (at + i) = omega arith in
    rw (k, add-one i) (rw (drop-cons s i 0 h) at e)

pub puts_all : (a z s : List ℕ) (at i : ℕ) → length s ≤ i → sets z (at + i) (drop i s) ≡ sets a at s → z ≡ sets a at s
puts_all a z s at i h e = rw (drop_of_length-le s h) at e

pub puts_past : (a : List ℕ) (at : ℕ) (s : List ℕ) → length a ≤ at → a ≡ sets a at s
puts_past a at [] h = refl
puts_past a at (b ∷ s) h =
    let e : set a at b ≡ a = set_out a at b h in
    puts_past a (suc at) s (omega arith) ∙ ap (λ (l : List ℕ). sets l (suc at) s) (sym e)

-- As many as there is room for are as good as all of them.
puts_cut : (l vs : List ℕ) (i n : ℕ) → n ≡ length l - i → sets l i (take n vs) ≡ sets l i vs
puts_cut l [] i zero e = refl
puts_cut l [] i (suc n) e = refl
puts_cut l (b ∷ vs) i zero e = puts_past l i (b ∷ vs) (omega (arith, e))
puts_cut l (b ∷ vs) i (suc n) e = puts_cut (set l i b) vs (suc i) n (omega (arith, e, length-set l i b))

-- What fits, put into the part that begins there.
pub puts_part : (a s z : List ℕ) (at e : ℕ) → at < length a → e ≡ min (length s) (length a - at) → z ≡ take e s →
    put_mid at (at + e - at) a z ≡ sets a at s
puts_part a s z at e h m is =
    let n : length (take e s) ≡ e = length-take-le e s (omega (arith, m)) in
    let cut : take e s ≡ take (length a - at) s = ap (λ k. take k s) (m ∙ omega arith) ∙ take_min (length a - at) s in
    let rest : drop (at + e - at) (drop at a) ≡ drop (at + length (take e s)) a =
    drop-drop (at + e - at) at a ∙ ap (λ k. drop k a) (omega (arith, n)) in
    ap (λ l. take at a ++ (l ++ drop (at + e - at) (drop at a))) is ∙
    ap (λ l. take at a ++ (take e s ++ l)) rest ∙
    sym (append_assoc (take at a) (take e s) (drop (at + length (take e s)) a)) ∙
    sym (sets-eq (take e s) a at (omega (arith, n, m, h))) ∙
    ap (λ l. sets a at l) cut ∙
    puts_cut a s at (length a - at) refl

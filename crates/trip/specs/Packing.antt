-- Things packed into a table, then zeros: they are got back, and a table with nothing past its things is got back. One law over the
-- width serves the three tables.
use Prim.Native.Nat.{ℕ, zero, suc, ◌+◌, ◌-◌, ◌*◌, ◌≤◌}
use Rattle.std.specs.Prelude.{◌≡◌, true, eqb, take}
use Rattle.std.proofs.Math.Path.{refl, sym, ap}
use Rattle.std.proofs.Common.{◌∙◌, mul-zero, take-append-drop, eqb-true}
use mathlib.Core.List.{List, [], ◌∷◌, ◌++◌, append_assoc}
use native.Mathlib.Omega.{arith}
use Rattle.std.proofs.Math.Nat.{mul-suc}
use Rattle.std.proofs.Math.ListN.{length, drop, replicate, length-append, length-replicate, length-drop}
use Rattle.std.proofs.Math.Seq.{take_at, drop_at, take-add, length-take-le}
use Rattle.scope.specs.Call.Tables.{Entry, unpack, pack, padded, table}
use Rattle.scope.specs.Call.Checked.{all_zero}
use Rattle.scope.specs.Tools.Tests.{both_true}

-- What is asked of an entry: as many numbers as its width says; numbers and thing give each other back.
pub record Laid {A : Type 0} (e : Entry A) (Fits : A → Type 0) : Type 0 where
  pub wide : (a : A) → length (e.put a) ≡ e.width
  pub numbers_back : (l : List ℕ) → length l ≡ e.width → e.put (e.get l) ≡ l
  pub thing_back : (a : A) → Fits a → e.get (e.put a) ≡ a

pub data All {A : Type 0} (P : A → Type 0) : List A → Type 0 where
  none_left : All P []
  one_more : {x : A} {xs : List A} → P x → All P xs → All P (x ∷ xs)

all_zeros : (l : List ℕ) → all_zero l ≡ true → l ≡ replicate (length l) 0
unfolding all_zero
all_zeros [] e = refl
all_zeros (n ∷ ns) e =
    let p = both_true (eqb n 0) (all_zero ns) e in
    cc (eqb-true n 0 p.0, all_zeros ns p.1)

zeros_all : (n : ℕ) → all_zero (replicate n 0) ≡ true
unfolding all_zero
zeros_all zero = refl
zeros_all (suc n) = zeros_all n

module _ {A : Type 0} (e : Entry A) (Fits : A → Type 0) (laid : Laid e Fits) where
  pack_length : (xs : List A) → length (pack e xs) ≡ e.width * length xs
  unfolding pack
  pack_length [] = sym (mul-zero e.width)
  pack_length (x ∷ xs) =
      omega (arith, length-append (e.put x) (pack e xs), laid.wide x, pack_length xs, mul-suc e.width (length xs))

  pack_unpack : (n : ℕ) (t : List ℕ) → e.width * n ≤ length t → pack e (unpack e n t) ≡ take (e.width * n) t
  unfolding pack unpack
  pack_unpack zero t h = rw (mul-zero e.width)
  pack_unpack (suc n) t h =
      let w = e.width in
      let m : w * suc n ≡ w + w * n = omega (arith, mul-suc w n) in
      let l : w * n ≤ length (drop w t) = omega (arith, length-drop w t) in
      let k : length (take w t) ≡ w = length-take-le w t (omega arith) in
      rw (m, take-add w (w * n) t, laid.numbers_back (take w t) k, pack_unpack n (drop w t) l)

  unpack_pack : (xs : List A) (rest : List ℕ) → All Fits xs → unpack e (length xs) (pack e xs ++ rest) ≡ xs
  unfolding pack unpack
  unpack_pack [] rest a = refl
  unpack_pack (x ∷ xs) rest (one_more f a) =
      rw
      (append_assoc (e.put x) (pack e xs) rest, take_at (e.put x) (pack e xs ++ rest) e.width (laid.wide x), drop_at (e.put x) (pack e xs ++ rest) e.width (laid.wide x), laid.thing_back x f, unpack_pack xs rest a)
      refl

  -- A table whose entries past its things are zero is the table of its things.
  pub table_back :
      (n : ℕ) (t : List ℕ) → e.width * n ≤ length t → all_zero (drop (e.width * n) t) ≡ true → table e (length t) (unpack e n t) ≡ t
  unfolding table padded
  table_back n t h z =
      let k : length (take (e.width * n) t) ≡ e.width * n = length-take-le (e.width * n) t h in
      let d : drop (e.width * n) t ≡ replicate (length t - e.width * n) 0 =
      all_zeros (drop (e.width * n) t) z ∙ ap (λ m. replicate m 0) (length-drop (e.width * n) t) in
      rw (pack_unpack n t h, k, ← d) (take-append-drop (e.width * n) t)

  -- Things are got back from their table, behind which all is zero.
  pub table_there : (len : ℕ) (xs : List A) → All Fits xs → unpack e (length xs) (table e len xs) ≡ xs
  unfolding table padded
  table_there len xs a = unpack_pack xs (replicate (len - length (pack e xs)) 0) a

  pub table_past : (len : ℕ) (xs : List A) → all_zero (drop (e.width * length xs) (table e len xs)) ≡ true
  unfolding table padded
  table_past len xs =
      rw (drop_at (pack e xs) (replicate (len - length (pack e xs)) 0) (e.width * length xs) (pack_length xs))
      (zeros_all (len - length (pack e xs)))

  pub table_length : (len : ℕ) (xs : List A) → e.width * length xs ≤ len → length (table e len xs) ≡ len
  unfolding table padded
  table_length len xs h =
      let a = length-append (pack e xs) (replicate (len - length (pack e xs)) 0) in
      let b = length-replicate {A = ℕ} (len - length (pack e xs)) 0 in
      let c = pack_length xs in
      omega arith

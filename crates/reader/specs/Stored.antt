-- Things in a lent table: none, one more, and the things back from the table.
use Rattle.std.specs.Prelude.{ℕ, zero, suc, ◌+◌, ◌-◌, ◌*◌, ◌≤◌, ◌≡◌, refl, List, [], ◌∷◌, ◌++◌, drop, set, replicate}
use Rattle.std.proofs.Math.Nat.{sub-zero}
use Rattle.std.proofs.Common.{add-one, arith, ◌∙◌, append_assoc, append-nil, length-append}
use Rattle.std.proofs.Math.Numerals.{add-two}
use Rattle.std.proofs.Math.Path.{ap, sym}
use Rattle.std.proofs.Math.ListN.{length}
use Rattle.std.proofs.lemmas.List.{length-replicate}
use Rattle.std.proofs.lemmas.List.Edits.{sets, sets-eq}
use Rattle.std.proofs.Math.Seq.{take-append_seam, drop-append-add}
use Rattle.scope.specs.File.Request.{Row}
use Rattle.scope.specs.File.Bytes.{joined}
use Rattle.scope.specs.Call.Tables.{Entry, form_entry, policy_entry, step_entry, unpack, pack, padded, table}
use Rattle.refusals.specs.Rows.{row}

pub table_none : {A : Type 0} (e : Entry A) (len : ℕ) → table e len [] ≡ replicate len 0
unfolding table pack padded joined
table_none e len = rw (sub-zero len) refl

drop_zeros : (k n : ℕ) → drop {A = ℕ} k (replicate n 0) ≡ replicate (n - k) 0
drop_zeros zero n = rw sub-zero refl
drop_zeros (suc k) zero = let e : 0 - suc k ≡ 0 = omega arith in rw e refl
drop_zeros (suc k) (suc n) = drop_zeros k n ∙ ap (λ m. replicate {A = ℕ} m 0) (let e : n - k ≡ suc n - suc k = omega arith in e)

padded_more : (len : ℕ) (ns vs : List ℕ) → length ns + length vs ≤ len → sets (padded len ns) (length ns) vs ≡ padded len (ns ++ vs)
unfolding padded
padded_more len ns vs h =
    let z : List ℕ = replicate (len - length ns) 0 in
    let room : length ns + length vs ≤ length (ns ++ z) = omega (arith, length-append ns z, length-replicate {A = ℕ} (len - length ns) 0) in
    sets-eq vs (ns ++ z) (length ns) room ∙
    rw (take-append_seam ns z, drop-append-add ns z (length vs), drop_zeros (length vs) (len - length ns))
    (ap (λ m. ns ++ vs ++ replicate {A = ℕ} m 0) (let e : len - length ns - length vs ≡ len - length (ns ++ vs) = omega
    (arith, length-append ns vs) in e))

padded_at : (len : ℕ) (ns vs : List ℕ) (at : ℕ) → length ns ≡ at → at + length vs ≤ len → sets (padded len ns) at vs ≡ padded len (ns ++ vs)
padded_at len ns vs at n h = ap (λ k. sets (padded len ns) k vs) (sym n) ∙ padded_more len ns vs (omega arith)

pack_more : {A : Type 0} (e : Entry A) (xs : List A) (x : A) → pack e (xs ++ (x ∷ [])) ≡ pack e xs ++ e.put x
unfolding pack joined
pack_more e [] x = append-nil (e.put x)
pack_more e (y ∷ xs) x = ap (λ l. e.put y ++ l) (pack_more e xs x) ∙ sym (append_assoc (e.put y) (pack e xs) (e.put x))

-- Each thing takes as many numbers as the table says.
pack_length : {A : Type 0} (e : Entry A) → ((x : A) → length (e.put x) ≡ e.width) → (xs : List A) → length (pack e xs) ≡ e.width * length xs
unfolding pack joined
pack_length e w [] = omega arith
pack_length e w (x ∷ xs) =
    length-append (e.put x) (pack e xs) ∙
    rw (w x, pack_length e w xs) (let f : e.width + e.width * length xs ≡ e.width * suc (length xs) = omega arith in f)

module _ {A : Type 0} (e : Entry A) (w : (x : A) → length (e.put x) ≡ e.width) where
  table_more : (len : ℕ) (xs : List A) (x : A) (at : ℕ) → at ≡ e.width * length xs → at + e.width ≤ len
      → sets (table e len xs) at (e.put x) ≡ table e len (xs ++ (x ∷ []))
  unfolding table
  table_more len xs x at is h =
      let n : length (pack e xs) ≡ at = pack_length e w xs ∙ sym is in
      padded_at len (pack e xs) (e.put x) at n (omega (arith, w x)) ∙ ap (padded len) (sym (pack_more e xs x))

module _ (len : ℕ) (t : List ℕ) (at : ℕ) where
  pub form_more : (before : List Row) (k l r : ℕ) → t ≡ table form_entry len before → at ≡ 3 * length before → at + 3 ≤ len
      → set (set (set t at k) (at + 1) l) (at + 2) r ≡ table form_entry len (before ++ (row k l r ∷ []))
  form_more before k l r e is h = rw (e, add-one, add-two) (table_more form_entry (λ x. refl) len before (row k l r) at is h)

  pub step_more : (before : List Row) (k l r : ℕ) → t ≡ table step_entry len before → at ≡ 2 * length before → at + 2 ≤ len
      → set (set t at k) (at + 1) l ≡ table step_entry len (before ++ (row k l r ∷ []))
  step_more before k l r e is h = rw (e, add-one) (table_more step_entry (λ x. refl) len before (row k l r) at is h)

  pub line_more : (before : List ℕ) (n : ℕ) → t ≡ table policy_entry len before → at ≡ length before → at + 1 ≤ len
      → set t at n ≡ table policy_entry len (before ++ (n ∷ []))
  line_more before n e is h = rw e (table_more policy_entry (λ x. refl) len before n at (omega arith) h)

unpack_front : (rows : List Row) (more : List ℕ) → unpack form_entry (length rows) (pack form_entry rows ++ more) ≡ rows
unfolding unpack pack joined
unpack_front [] more = refl
unpack_front (r ∷ rows) more = ap (λ l. r ∷ l) (unpack_front rows more)

pub unpack_table : (len : ℕ) (rows : List Row) (n : ℕ) → n ≡ length rows → unpack form_entry n (table form_entry len rows) ≡ rows
unfolding table padded
unpack_table len rows n e = rw e (unpack_front rows (replicate (len - length (pack form_entry rows)) 0))

-- A table in which equal formulas have one number: a row that is there keeps its number, another becomes the next.
use Prim.Native.Nat.{ℕ, suc, ◌+◌, ◌*◌, ◌≤◌, ◌<◌}
use native.Mathlib.Omega.{arith}
use Rattle.std.specs.Prelude.{◌≡◌, Bool, true, false, List, [], ◌∷◌, ◌++◌, Option as Returned, Some, None, ltb, get_or, set}
use Rattle.std.proofs.Math.Path.{refl, ap, sym}
use Rattle.std.proofs.Common.{◌∙◌, ext_get_or, lt-ltb, le-ltb}
use Rattle.std.proofs.Math.Bool.{cond}
use Rattle.std.proofs.Math.Option.{Option, none, some}
use Rattle.std.proofs.Math.ListN.{length, length-set}
use Rattle.std.proofs.Math.Seq.{get_or-set_same, get_or-set_other}
use Rattle.scope.specs.File.Request.{Row}
use Rattle.scope.specs.Limits.{most_formulas}
use Rattle.scope.specs.Call.Tables.{form_entry, unpack}
use Rattle.classes.specs.Rows.{form_row, form_rows, unpack_length}
use Rattle.common.specs.declared.rows.Row.{Row as Put}
use Rattle.common.specs.Rows.{as_row, row_put as put}
use Rattle.numbering.specs.declared.Place.{Place}
use Rattle.numbering.specs.declared.Place.TheVariants.{Taken, Free}
use Rattle.numbering.specs.Equal.{no_row, found}
use Rattle.numbering.specs.Slots.{place_in, kept_at}
use Rattle.numbering.specs.Numbered.{Numbered, row_at_lem}

-- The number of a row, and the rows with it.
unfoldable pub number_or : Option ℕ → ℕ → ℕ
number_or none n = n
number_or (some j) n = j

unfoldable pub rows_or : Option ℕ → List Row → List Row → List Row
rows_or none rows more = more
rows_or (some j) rows more = rows

unfoldable pub number_in : List Row → Row → ℕ
unfolding number_or
number_in rows r = number_or (found rows r) (length rows)

unfoldable pub rows_with : List Row → Row → List Row
unfolding rows_or
rows_with rows r = rows_or (found rows r) rows (rows ++ (r ∷ []))

-- What is given, and the table, by the place of a row in the table of n rows.
unfoldable pub given_at : Place → ℕ → Returned ℕ
given_at (Taken j) n = Some j
given_at (Free s) n = cond (ltb n most_formulas) (Some n) None

unfoldable pub row_put : List ℕ → ℕ → Row → List ℕ
row_put t n r = set (set (set t (3 * n) r.kind) (3 * n + 1) r.left) (3 * n + 2) r.right

unfoldable pub written_at : Place → ℕ → Row → List ℕ → List ℕ
unfolding row_put
written_at (Taken j) n r t = t
written_at (Free s) n r t = cond (ltb n most_formulas) (row_put t n r) t

module _ (p : Place) (n : ℕ) (r : Row) (t : List ℕ) where
  pub given_taken : (j : ℕ) → p ≡ Taken j → (given_at p n ≡ Some j) × (written_at p n r t ≡ t)
  unfolding given_at written_at
  given_taken j e = (ap (λ q. given_at q n) e, ap (λ q. written_at q n r t) e)

  pub given_free : (s : ℕ) → p ≡ Free s → n < most_formulas → (given_at p n ≡ Some n) × (written_at p n r t ≡ row_put t n r)
  unfolding given_at written_at
  given_free s e h = (
    ap (λ q. given_at q n) e ∙ ap (λ b. cond b (Some n) None) (lt-ltb n most_formulas h),
    ap (λ q. written_at q n r t) e ∙ ap (λ b. cond b (row_put t n r) t) (lt-ltb n most_formulas h),
  )

  pub given_full : (s : ℕ) → p ≡ Free s → most_formulas ≤ n → (given_at p n ≡ None) × (written_at p n r t ≡ t)
  unfolding given_at written_at
  given_full s e h = (
    ap (λ q. given_at q n) e ∙ ap (λ b. cond b (Some n) None) (le-ltb n most_formulas h),
    ap (λ q. written_at q n r t) e ∙ ap (λ b. cond b (row_put t n r) t) (le-ltb n most_formulas h),
  )

pub put_thrice : (t a b c : List ℕ) (n : ℕ) (r : Row) → a ≡ set t (3 * n) r.kind → b ≡ set a (3 * n + 1) r.left → c ≡ set b (3 * n + 2) r.right →
    c ≡ row_put t n r
unfolding row_put
put_thrice t a b c n r x y z =
    z ∙ ap (λ l. set l (3 * n + 2) r.right) (y ∙ ap (λ l. set l (3 * n + 1) r.left) x)

-- The row that the code puts.
pub put_here : (t : List ℕ) (n : ℕ) (r : Put) → put t n r ≡ row_put t n (as_row r)
unfolding put row_put
put_here t n r = refl

-- A row that is put is the next one, and those before it stay.
module _ (t : List ℕ) (n : ℕ) (r : Row) (room : 3 * n + 3 ≤ length t) where
  put_other : (x : ℕ) → x < 3 * n → get_or (row_put t n r) x 0 ≡ get_or t x 0
  unfolding row_put
  put_other x h =
      get_or-set_other (set (set t (3 * n) r.kind) (3 * n + 1) r.left) (3 * n + 2) x r.right 0 (λ e. omega arith) ∙
      get_or-set_other (set t (3 * n) r.kind) (3 * n + 1) x r.left 0 (λ e. omega arith) ∙
      get_or-set_other t (3 * n) x r.kind 0 (λ e. omega arith)

  put_same : form_row (row_put t n r) n ≡ r
  unfolding row_put
  put_same =
      let a : 3 * n < length t = omega arith in
      let b : 3 * n + 1 < length (set t (3 * n) r.kind) = simp length-set (omega arith) in
      let c : 3 * n + 2 < length (set (set t (3 * n) r.kind) (3 * n + 1) r.left) = simp length-set (omega arith) in
      let k =
      get_or-set_other (set (set t (3 * n) r.kind) (3 * n + 1) r.left) (3 * n + 2) (3 * n) r.right 0 (λ e. omega arith) ∙
      get_or-set_other (set t (3 * n) r.kind) (3 * n + 1) (3 * n) r.left 0 (λ e. omega arith) ∙
      get_or-set_same t (3 * n) r.kind 0 a in
      let l =
      get_or-set_other (set (set t (3 * n) r.kind) (3 * n + 1) r.left) (3 * n + 2) (3 * n + 1) r.right 0 (λ e. omega arith) ∙
      get_or-set_same (set t (3 * n) r.kind) (3 * n + 1) r.left 0 b in
      let m = get_or-set_same (set (set t (3 * n) r.kind) (3 * n + 1) r.left) (3 * n + 2) r.right 0 c in
      λ j. record { kind = k j; left = l j; right = m j }

  put_before : (i : ℕ) → i < n → form_row (row_put t n r) i ≡ form_row t i
  put_before i h =
      let k = put_other (3 * i) (omega arith) in
      let l = put_other (3 * i + 1) (omega arith) in
      let m = put_other (3 * i + 2) (omega arith) in
      λ j. record { kind = k j; left = l j; right = m j }

  pub row_put_lem : unpack form_entry (suc n) (row_put t n r) ≡ unpack form_entry n t ++ (r ∷ [])
  row_put_lem =
      form_rows (row_put t n r) n ∙
      ap (λ x. unpack form_entry n (row_put t n r) ++ (x ∷ [])) put_same ∙
      ap (λ rows. rows ++ (r ∷ []))
      (ext_get_or no_row (unpack form_entry n (row_put t n r)) (unpack form_entry n t)
      (unpack_length form_entry n (row_put t n r) ∙ sym (unpack_length form_entry n t))
      (λ i h.
      let l : i < n = rw (unpack_length form_entry n (row_put t n r)) at h in
      row_at_lem (row_put t n r) n i l ∙ put_before i l ∙ sym (row_at_lem t n i l)))

pub written_length : (p : Place) (n : ℕ) (r : Row) (t : List ℕ) → length (written_at p n r t) ≡ length t
unfolding written_at row_put
written_length (Taken j) n r t = refl
written_length (Free s) n r t = go (ltb n most_formulas)
  where
    go : (b : Bool) → length (cond b (row_put t n r) t) ≡ length t
    go true = simp length-set
    go false = refl

-- What numbering a row does where there is room: its number, the table of the rows with it, and the slots that keep them.
pub record Named (t : List ℕ) (n : ℕ) (slots : List ℕ) (r : Row) : Type 0 where
  pub given : given_at (place_in t slots r) n ≡ Some (number_in (unpack form_entry n t) r)
  pub rows : unpack form_entry (length (rows_with (unpack form_entry n t) r)) (written_at (place_in t slots r) n r t) ≡ rows_with (unpack form_entry n t) r
  pub keeps : Numbered (written_at (place_in t slots r) n r t) (length (rows_with (unpack form_entry n t) r)) (kept_at (place_in t slots r) n slots)

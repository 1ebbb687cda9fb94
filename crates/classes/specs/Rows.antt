-- One row more: of a table's first things, and of the formulas that rows mean.
use Rattle.std.specs.Prelude.{ℕ, zero, suc, ◌+◌, ◌*◌, ◌<◌, ◌≤◌, ◌≡◌, refl, List, [], ◌∷◌, ◌++◌, length, get_or, take, drop}
use Rattle.std.proofs.Common.{add-zero, mul-zero, not-suc-le-zero, le_of_suc-le-suc, arith, ap, sym, ◌∙◌, length-append, drop-drop, get_or-take, get_or-drop}
pub use Rattle.scope.specs.Tools.Unpack.{unpack_turn, unpack_length}
use Rattle.scope.specs.Logic.Form.{Form}
use Rattle.scope.specs.File.Request.{Row, row_form, forms_after}
use Rattle.scope.specs.Call.Tables.{Entry, form_entry, unpack}

pub forms_more : (fs : List Form) (rs : List Row) (r : Row) →
    forms_after fs (rs ++ (r ∷ [])) ≡ forms_after fs rs ++ (row_form (forms_after fs rs) r ∷ [])
unfolding forms_after
forms_more fs [] r = refl
forms_more fs (x ∷ rs) r = forms_more (fs ++ (row_form fs x ∷ [])) rs r

pub forms_length : (fs : List Form) (rs : List Row) → length (forms_after fs rs) ≡ length fs + length rs
unfolding forms_after
forms_length fs [] = sym (add-zero (length fs))
forms_length fs (r ∷ rs) = forms_length (fs ++ (row_form fs r ∷ [])) rs ∙ simp length-append (omega arith)

-- Thing i of the first n of a table.
pub unpack_at : {A : Type 0} (e : Entry A) (n : ℕ) (t : List ℕ) (i : ℕ) (d : A) → i < n →
    get_or (unpack e n t) i d ≡ e.get (take e.width (drop (e.width * i) t))
unfolding unpack
unpack_at e zero t i d h = absurd (not-suc-le-zero h)
unpack_at e (suc n) t zero d h = ap (λ (k : ℕ). e.get (take e.width (drop k t))) (sym (mul-zero e.width))
unpack_at e (suc n) t (suc i) d h =
    let next : e.width + e.width * i ≡ e.width * suc i = omega arith in
    unpack_at e n (drop e.width t) i d (le_of_suc-le-suc h) ∙
    ap (λ (l : List ℕ). e.get (take e.width l)) (drop-drop (e.width * i) e.width t ∙ ap (λ (k : ℕ). drop k t) next)

-- The first i of the first n things of a table.
pub unpack_before : {A : Type 0} (e : Entry A) (n : ℕ) (t : List ℕ) (i : ℕ) → i ≤ n → take i (unpack e n t) ≡ unpack e i t
unfolding unpack
unpack_before e n t zero h = refl
unpack_before e zero t (suc i) h = absurd (not-suc-le-zero h)
unpack_before e (suc n) t (suc i) h =
    ap (λ l. e.get (take e.width t) ∷ l) (unpack_before e n (drop e.width t) i (le_of_suc-le-suc h))

-- The row that stands at formula i of a table.
abbrev pub form_row : List ℕ → ℕ → Row
form_row t i = record { kind = get_or t (3 * i) 0; left = get_or t (3 * i + 1) 0; right = get_or t (3 * i + 2) 0 }

-- Number k of thing i, the things being w numbers wide.
pub number_at : (t : List ℕ) (w i k m : ℕ) → k < w → w * i + k ≡ m → get_or (take w (drop (w * i) t)) k 0 ≡ get_or t m 0
number_at t w i k m h e = get_or-take w (drop (w * i) t) k 0 h ∙ get_or-drop (w * i) t k 0 ∙ ap (λ (x : ℕ). get_or t x 0) e

pub form_row_lem : (t : List ℕ) (i : ℕ) → form_entry.get (take 3 (drop (3 * i) t)) ≡ form_row t i
form_row_lem t i =
    λ j.
    record {
      kind = number_at t 3 i 0 (3 * i) (omega arith) (omega arith) j;
      left = number_at t 3 i 1 (3 * i + 1) (omega arith) (omega arith) j;
      right = number_at t 3 i 2 (3 * i + 2) (omega arith) (omega arith) j;
    }

-- The rows of a table, one more.
pub form_rows : (t : List ℕ) (i : ℕ) → unpack form_entry (suc i) t ≡ unpack form_entry i t ++ (form_row t i ∷ [])
form_rows t i = unpack_turn form_entry i t ∙ ap (λ (r : Row). unpack form_entry i t ++ (r ∷ [])) (form_row_lem t i)

-- Below the length, what is read past the end does not matter.
pub get_d_any : {A : Type 0} (l : List A) (i : ℕ) (d e : A) → i < length l → get_or l i d ≡ get_or l i e
get_d_any [] i d e h = absurd (not-suc-le-zero h)
get_d_any (x ∷ l) zero d e h = refl
get_d_any (x ∷ l) (suc i) d e h = get_d_any l i d e (le_of_suc-le-suc h)

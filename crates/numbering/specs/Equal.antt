-- 'Two equal `form=` lines': which earlier row, if any, is equal to a row. By declaration, and computed.
use Rattle.std.specs.Prelude.{ℕ, zero, suc, ◌<◌, ◌≡◌, Bool, true, false, cond, ◌&&◌, List, [], ◌∷◌, eqb, length, get_or, take}
use Rattle.std.proofs.Common.{not-suc-le-zero, le_of_suc-le-suc, arith, ap, sym, ◌∙◌, length-take, get_or-take}
use Rattle.std.proofs.Math.Path.{refl}
use Rattle.std.proofs.Math.Option.{Option, none, some}
use borrow.Author.Tests.{eqb-true, eq-eqb, ne_eqb}
use Rattle.scope.specs.Logic.Form.{both, either}
use Rattle.scope.specs.File.Request.{Row}
use Rattle.scope.specs.File.Refusals.{same_row, is_among}
use Rattle.scope.specs.Tools.Tests.{both_true, both_met, never}
use Rattle.common.specs.declared.rows.Row.{Row as Compared}
use Rattle.common.specs.Rows.{as_row}

pub same_equal : (a b : Row) → same_row a b ≡ true → a ≡ b
unfolding same_row
same_equal a b e =
    let k = both_true (eqb a.kind b.kind) (both (eqb a.left b.left) (eqb a.right b.right)) e in
    let o = both_true (eqb a.left b.left) (eqb a.right b.right) k.1 in
    λ j.
    record {
      kind = eqb-true a.kind b.kind k.0 j;
      left = eqb-true a.left b.left o.0 j;
      right = eqb-true a.right b.right o.1 j;
    }

pub same_itself : (a : Row) → same_row a a ≡ true
unfolding same_row
same_itself a =
    both_met (eqb a.kind a.kind) (both (eqb a.left a.left) (eqb a.right a.right)) (eq-eqb a.kind a.kind refl)
    (both_met (eqb a.left a.left) (eqb a.right a.right) (eq-eqb a.left a.left refl) (eq-eqb a.right a.right refl))

both_and : (x y : Bool) → (x && y) ≡ both x y
unfolding both
both_and true y = refl
both_and false y = refl

-- Derived equality of rows is number by number.
pub rows_equal : (a b : Compared) →
    (eqb a.kind b.kind && (eqb a.left b.left && eqb a.right b.right)) ≡ same_row (as_row a) (as_row b)
unfolding same_row
rows_equal a b =
    both_and (eqb a.kind b.kind) (eqb a.left b.left && eqb a.right b.right) ∙
    ap (both (eqb a.kind b.kind)) (both_and (eqb a.left b.left) (eqb a.right b.right))

-- Compared number by number.
module _ (a b : Row) where
  pub other_kind : (a.kind ≡ b.kind → ⊥) → same_row a b ≡ false
  unfolding same_row both
  other_kind n = rw (ne_eqb a.kind b.kind n) refl

  pub other_left : a.kind ≡ b.kind → (a.left ≡ b.left → ⊥) → same_row a b ≡ false
  unfolding same_row both
  other_left k n = rw (eq-eqb a.kind b.kind k, ne_eqb a.left b.left n) refl

  pub by_right : a.kind ≡ b.kind → a.left ≡ b.left → same_row a b ≡ eqb a.right b.right
  unfolding same_row both
  by_right k l = rw (eq-eqb a.kind b.kind k, eq-eqb a.left b.left l) refl

-- What stands past the last row.
abbrev pub no_row : Row
no_row = record { kind = 0; left = 0; right = 0 }

-- Row number i is equal to r, and no row before it is.
pub record First (rows : List Row) (r : Row) (i : ℕ) : Type 0 where
  pub below : i < length rows
  pub equal : get_or rows i no_row ≡ r
  pub before : (j : ℕ) → j < i → get_or rows j no_row ≡ r → ⊥

-- No row is equal to r.
pub record Absent (rows : List Row) (r : Row) : Type 0 where
  pub differ : (j : ℕ) → j < length rows → get_or rows j no_row ≡ r → ⊥

-- Each row differs from each earlier one.
pub record NoRepeat (rows : List Row) : Type 0 where
  pub differ : (i j : ℕ) → i < j → j < length rows → get_or rows i no_row ≡ get_or rows j no_row → ⊥

-- The number of the first row that is equal to r, if there is one.
unfoldable pub one_more : Option ℕ → Option ℕ
one_more none = none
one_more (some i) = some (suc i)

unfoldable pub found : List Row → Row → Option ℕ
unfolding same_row one_more
found [] r = none
found (x ∷ rows) r = cond (same_row x r) (some 0) (one_more (found rows r))

-- It is found exactly if there is one, and it is that one.
pub first_found : (rows : List Row) (r : Row) (i : ℕ) → First rows r i → found rows r ≡ some i
unfolding found one_more
first_found [] r i f = absurd (not-suc-le-zero f.below)
first_found (x ∷ rows) r zero f = ap (λ t. cond t (some 0) (one_more (found rows r))) (ap (λ y. same_row y r) f.equal ∙ same_itself r)
first_found (x ∷ rows) r (suc i) f = go (same_row x r) refl (first_found rows r i later)
  where
    later : First rows r i
    later = record { below = le_of_suc-le-suc f.below; equal = f.equal; before = λ j h. f.before (suc j) (omega arith) }

    go : (t : Bool) → same_row x r ≡ t → found rows r ≡ some i → cond (same_row x r) (some 0) (one_more (found rows r)) ≡ some (suc i)
    go true e n = absurd (f.before 0 (omega arith) (same_equal x r e))
    go false e n = rw (e, n) refl

pub absent_found : (rows : List Row) (r : Row) → Absent rows r → found rows r ≡ none
unfolding found one_more
absent_found [] r a = refl
absent_found (x ∷ rows) r a = go (same_row x r) refl (absent_found rows r (record { differ = λ j h. a.differ (suc j) (omega arith) }))
  where
    go : (t : Bool) → same_row x r ≡ t → found rows r ≡ none → cond (same_row x r) (some 0) (one_more (found rows r)) ≡ none
    go true e n = absurd (a.differ 0 (omega arith) (same_equal x r e))
    go false e n = rw (e, n) refl

pub found_absent : (rows : List Row) (r : Row) → found rows r ≡ none → Absent rows r
unfolding found one_more
found_absent [] r e = record { differ = λ j h. absurd (not-suc-le-zero h) }
found_absent (x ∷ rows) r e = go (same_row x r) (found rows r) refl refl e (found_absent rows r)
  where
    go : (t : Bool) (o : Option ℕ) → same_row x r ≡ t → found rows r ≡ o → cond t (some 0) (one_more o) ≡ none → (found rows r ≡ none → Absent rows r) →
        Absent (x ∷ rows) r
    go true o s f e more = never cc
    go false none s f e more = record { differ = at }
      where
        at : (j : ℕ) → j < suc (length rows) → get_or (x ∷ rows) j no_row ≡ r → ⊥
        at zero h same = never (let z : true ≡ false = sym (same_itself r) ∙ ap (λ y. same_row y r) (sym same) ∙ s in cc)
        at (suc j) h same = (more f).differ j (le_of_suc-le-suc h) same
    go false (some i) s f e more = never cc

-- A table in which no row is found among those before it repeats none.
pub no_repeat : (rows : List Row) → ((i : ℕ) → i < length rows → found (take i rows) (get_or rows i no_row) ≡ none) → NoRepeat rows
no_repeat rows each =
    record {
      differ =
          λ i j h l same.
          let short : i < length (take j rows) = rw (length-take j rows) (omega arith) in
          (found_absent (take j rows) (get_or rows j no_row) (each j l)).differ i short (get_or-take j rows i no_row h ∙ same);
    }

-- A row is none of these exactly if it is not found among them.
pub found_among : (rows : List Row) (r : Row) → found rows r ≡ none → is_among r rows ≡ false
unfolding found one_more is_among either
found_among [] r e = refl
found_among (x ∷ rows) r e = go (same_row x r) (found rows r) refl refl e (found_among rows r)
  where
    go : (t : Bool) (o : Option ℕ) → same_row x r ≡ t → found rows r ≡ o → cond t (some 0) (one_more o) ≡ none →
        (found rows r ≡ none → is_among r rows ≡ false) → either (same_row x r) (is_among r rows) ≡ false
    go true o s f e more = never cc
    go false none s f e more = rw s (more f)
    go false (some i) s f e more = never cc

pub among_found : (rows : List Row) (r : Row) (i : ℕ) → found rows r ≡ some i → is_among r rows ≡ true
unfolding found one_more is_among either
among_found [] r i e = never cc
among_found (x ∷ rows) r i e = go (same_row x r) (found rows r) refl refl e (among_found rows r)
  where
    go : (t : Bool) (o : Option ℕ) → same_row x r ≡ t → found rows r ≡ o → cond t (some 0) (one_more o) ≡ some i →
        ((j : ℕ) → found rows r ≡ some j → is_among r rows ≡ true) → either (same_row x r) (is_among r rows) ≡ true
    go true o s f e more = rw s refl
    go false none s f e more = never cc
    go false (some j) s f e more = rw s (more j f)

-- The first row that repeats an earlier one.
use Rattle.std.specs.Prelude.{ℕ, zero, suc, ◌≤◌, ◌<◌, ◌≡◌, Bool, true, false, List, Option as Returned, Some, None, is_some, ltb, get_or, take, replicate}
use Rattle.std.proofs.Common.{not-suc-le-zero, arith, ◌∙◌, ltb-true, ltb-false}
use Rattle.std.proofs.Math.Path.{refl, ap, sym}
use Rattle.std.proofs.Math.Option.{Option, none, some}
use Rattle.std.proofs.Math.ListN.{length}
use Rattle.scope.specs.File.Request.{Row}
use Rattle.scope.specs.Limits.{most_formulas}
use Rattle.scope.specs.Call.Tables.{form_entry, unpack}
use Rattle.scope.specs.Tools.Tests.{never}
use Rattle.classes.specs.Rows.{form_row, form_row_lem, unpack_at, unpack_before, unpack_length}
use Rattle.numbering.specs.Equal.{no_row, NoRepeat, found, no_repeat}
use Rattle.numbering.specs.Slots.{most_slots, place_in, earlier_at, earlier_of, earlier_number}
use Rattle.numbering.specs.Numbered.{Numbered, numbered_none, numbered_found}

-- Row n, where it is equal to row j before it.
unfoldable pub repeat_at : ℕ → Option ℕ → Option ℕ
repeat_at n none = none
repeat_at n (some j) = some n

unfoldable pub or_else : Option ℕ → Option ℕ → Option ℕ
or_else none o = o
or_else (some i) o = some i

-- Of the first n rows, the first that is equal to one before it.
unfoldable pub repeat_below : List Row → ℕ → Option ℕ
unfolding repeat_at or_else found
repeat_below rows zero = none
repeat_below rows (suc n) = or_else (repeat_below rows n) (repeat_at n (found (take n rows) (get_or rows n no_row)))

unfoldable pub first_repeat : List Row → Option ℕ
unfolding repeat_below
first_repeat rows = repeat_below rows (length rows)

module _ (rows : List Row) where
  pub repeat_more : (n : ℕ) → repeat_below rows n ≡ none → found (take n rows) (get_or rows n no_row) ≡ none → repeat_below rows (suc n) ≡ none
  unfolding repeat_below repeat_at or_else
  repeat_more n e f =
      ap (λ o. or_else o (repeat_at n (found (take n rows) (get_or rows n no_row)))) e ∙ ap (λ o. repeat_at n o) f

  repeat_new : (n j : ℕ) → repeat_below rows n ≡ none → found (take n rows) (get_or rows n no_row) ≡ some j → repeat_below rows (suc n) ≡ some n
  unfolding repeat_below repeat_at or_else
  repeat_new n j e f =
      ap (λ o. or_else o (repeat_at n (found (take n rows) (get_or rows n no_row)))) e ∙ ap (λ o. repeat_at n o) f

  repeat_stays : (n i : ℕ) → repeat_below rows n ≡ some i → repeat_below rows (suc n) ≡ some i
  unfolding repeat_below or_else
  repeat_stays n i e = ap (λ o. or_else o (repeat_at n (found (take n rows) (get_or rows n no_row)))) e

  pub repeat_here : (i j : ℕ) → repeat_below rows i ≡ none → found (take i rows) (get_or rows i no_row) ≡ some j → (n : ℕ) → i < n →
      repeat_below rows n ≡ some i
  repeat_here i j e f zero h = absurd (not-suc-le-zero h)
  repeat_here i j e f (suc n) h = go (ltb i n) refl (repeat_here i j e f n)
    where
      go : (b : Bool) → ltb i n ≡ b → (i < n → repeat_below rows n ≡ some i) → repeat_below rows (suc n) ≡ some i
      go true l ih = repeat_stays n i (ih (ltb-true i n l))
      go false l ih =
          let same : n ≡ i = omega (arith, ltb-false i n l) in
          ap (λ x. repeat_below rows (suc x)) same ∙ repeat_new i j e f

neither : (a b : Option ℕ) → or_else a b ≡ none → (a ≡ none) × (b ≡ none)
unfolding or_else
neither none b e = (refl, e)
neither (some i) b e = never cc

not_at : (n : ℕ) (o : Option ℕ) → repeat_at n o ≡ none → o ≡ none
unfolding repeat_at
not_at n none e = refl
not_at n (some j) e = never cc

none_each : (rows : List Row) (n : ℕ) → repeat_below rows n ≡ none → (i : ℕ) → i < n → found (take i rows) (get_or rows i no_row) ≡ none
unfolding repeat_below
none_each rows zero e i h = absurd (not-suc-le-zero h)
none_each rows (suc n) e i h = go (ltb i n) refl (none_each rows n two.0 i)
  where
    two : (repeat_below rows n ≡ none) × (repeat_at n (found (take n rows) (get_or rows n no_row)) ≡ none)
    two = neither (repeat_below rows n) (repeat_at n (found (take n rows) (get_or rows n no_row))) e

    go : (b : Bool) → ltb i n ≡ b → (i < n → found (take i rows) (get_or rows i no_row) ≡ none) → found (take i rows) (get_or rows i no_row) ≡ none
    go true l ih = ih (ltb-true i n l)
    go false l ih =
        let same : i ≡ n = omega (arith, ltb-false i n l) in
        ap (λ x. found (take x rows) (get_or rows x no_row)) same ∙ not_at n (found (take n rows) (get_or rows n no_row)) two.1

-- Where there is no first repeat, no row is equal to an earlier one.
pub none_repeats : (rows : List Row) → first_repeat rows ≡ none → NoRepeat rows
unfolding first_repeat
none_repeats rows e = no_repeat rows (none_each rows (length rows) e)

-- A pass over a table: the rows below i are kept, and none of them repeats.
pub record Passed (t : List ℕ) (n i : ℕ) (slots : List ℕ) : Type 0 where
  pub most : i ≤ n
  pub keeps : Numbered t i slots
  pub fresh : repeat_below (unpack form_entry n t) i ≡ none

pub passed_none : (t : List ℕ) (n : ℕ) → Passed t n 0 (replicate most_slots 0)
unfolding repeat_below
passed_none t n = record { most = omega arith; keeps = numbered_none t; fresh = refl }

module _ (t : List ℕ) (n i : ℕ) (slots : List ℕ) (p : Passed t n i slots) (h : i < n) (few : n ≤ most_formulas) where
  pub about : found (take i (unpack form_entry n t)) (get_or (unpack form_entry n t) i no_row) ≡ found (unpack form_entry i t) (form_row t i)
  about =
      ap (λ l. found l (get_or (unpack form_entry n t) i no_row)) (unpack_before form_entry n t i p.most) ∙
      ap (found (unpack form_entry i t)) (unpack_at form_entry n t i no_row h ∙ form_row_lem t i)

  pub told : earlier_at (place_in t slots (form_row t i)) ≡ earlier_of (found (unpack form_entry i t) (form_row t i))
  told = earlier_number (place_in t slots (form_row t i)) ∙ ap earlier_of (numbered_found t i slots p.keeps (form_row t i))

  pub passed_stops : (j : ℕ) → earlier_at (place_in t slots (form_row t i)) ≡ Some j → Some i ≡ earlier_of (first_repeat (unpack form_entry n t))
  unfolding earlier_of first_repeat
  passed_stops j e = go (found (unpack form_entry i t) (form_row t i)) refl
    where
      go : (o : Option ℕ) → found (unpack form_entry i t) (form_row t i) ≡ o → Some i ≡ earlier_of (first_repeat (unpack form_entry n t))
      go none f = never (let z : Some j ≡ None = sym e ∙ told ∙ ap earlier_of f in cc)
      go (some k) f =
          let l : i < length (unpack form_entry n t) = rw (unpack_length form_entry n t) h in
          ap earlier_of (sym (repeat_here (unpack form_entry n t) i k p.fresh (about ∙ f) (length (unpack form_entry n t)) l))

  -- As the code asks whether there is one.
  pub passed_found : is_some (earlier_at (place_in t slots (form_row t i))) ≡ true → Some i ≡ earlier_of (first_repeat (unpack form_entry n t))
  passed_found = go (earlier_at (place_in t slots (form_row t i))) refl
    where
      go : (o : Returned ℕ) → earlier_at (place_in t slots (form_row t i)) ≡ o → is_some o ≡ true → Some i ≡ earlier_of (first_repeat (unpack form_entry n t))
      go (Some j) e found = passed_stops j e
      go None e found = never cc

pub none_is : (o : Returned ℕ) → is_some o ≡ false → o ≡ None
none_is None e = refl
none_is (Some j) e = never cc

pub passed_all : (t : List ℕ) (n i : ℕ) (slots : List ℕ) → Passed t n i slots → n ≤ i → None ≡ earlier_of (first_repeat (unpack form_entry n t))
unfolding earlier_of first_repeat
passed_all t n i slots p h =
    let e : length (unpack form_entry n t) ≡ i = unpack_length form_entry n t ∙ omega (arith, p.most) in
    ap earlier_of (sym (ap (repeat_below (unpack form_entry n t)) e ∙ p.fresh))

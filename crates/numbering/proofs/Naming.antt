-- Numbering a row does what the documents say where there is room: `Named`.
use Prim.Native.Nat.{ℕ, suc, ◌+◌, ◌*◌, ◌≤◌, ◌<◌}
use native.Mathlib.Omega.{arith}
use Rattle.std.proofs.Math.Numerals.{add-one}
use Rattle.std.specs.Prelude.{◌≡◌, List, [], ◌∷◌, ◌++◌, Some}
use Rattle.std.proofs.Math.Path.{refl, ap, sym}
use Rattle.std.proofs.Common.{◌∙◌}
use Rattle.std.proofs.Math.Option.{Option, none, some}
use Rattle.std.proofs.Math.ListN.{length, length-append}
use Rattle.scope.specs.File.Request.{Row}
use Rattle.scope.specs.Limits.{most_formulas}
use Rattle.scope.specs.Call.Tables.{form_entry, unpack}
use Rattle.scope.specs.Tools.Tests.{never}
use Rattle.classes.specs.Rows.{unpack_length}
use Rattle.numbering.specs.declared.Place.{Place}
use Rattle.numbering.specs.declared.Place.TheVariants.{Taken, Free}
use Rattle.numbering.specs.Equal.{found}
use Rattle.numbering.specs.Slots.{place_in, number_at, kept_taken}
use Rattle.numbering.specs.Numbered.{Numbered, numbered_found, numbered_more}
use Rattle.numbering.specs.Given.{number_or, rows_or, number_in, rows_with, written_at, row_put, given_taken, given_free, row_put_lem, Named}

module _ (t : List ℕ) (n : ℕ) (slots : List ℕ) (w : Numbered t n slots) (r : Row) (long : 3 * most_formulas ≤ length t) where
  place_of : (o : Option ℕ) (p : Place) → number_at p ≡ o → found (unpack form_entry n t) r ≡ o → place_in t slots r ≡ p →
      (o ≡ none → n < most_formulas) → Named t n slots r
  unfolding number_at number_in rows_with number_or rows_or
  place_of none (Taken j) e f h room = never cc
  place_of (some j) (Free s) e f h room = never cc
  place_of (some j) (Taken i) e f h room =
      let same : i ≡ j = cc in
      let is = given_taken (place_in t slots r) n r t i h in
      let size : length (rows_with (unpack form_entry n t) r) ≡ n = ap length with_some ∙ unpack_length form_entry n t in
      record {
        given = is.0 ∙ ap Some (same ∙ sym (ap (λ o. number_or o (length (unpack form_entry n t))) f));
        rows = ap (λ m. unpack form_entry m (written_at (place_in t slots r) n r t)) size ∙ ap (unpack form_entry n) is.1 ∙ sym with_some;
        keeps = rw (size, is.1, kept_taken (place_in t slots r) i n slots h) w;
      }
    where
      with_some : rows_with (unpack form_entry n t) r ≡ unpack form_entry n t
      with_some = ap (λ o. rows_or o (unpack form_entry n t) (unpack form_entry n t ++ (r ∷ []))) f
  place_of none (Free s) e f h room =
      let less : n < most_formulas = room refl in
      let is = given_free (place_in t slots r) n r t s h less in
      let size : length (rows_with (unpack form_entry n t) r) ≡ suc n =
      ap length with_none ∙ length-append (unpack form_entry n t) (r ∷ []) ∙ ap (λ m. m + 1) (unpack_length form_entry n t) ∙ add-one n in
      let put = row_put_lem t n r (omega arith) in
      record {
        given = is.0 ∙ ap Some (sym (ap (λ o. number_or o (length (unpack form_entry n t))) f ∙ unpack_length form_entry n t));
        rows = ap (λ m. unpack form_entry m (written_at (place_in t slots r) n r t)) size ∙ ap (unpack form_entry (suc n)) is.1 ∙ put ∙ sym with_none;
        keeps = rw (size, is.1) (numbered_more t n slots w r (row_put t n r) less put f);
      }
    where
      with_none : rows_with (unpack form_entry n t) r ≡ unpack form_entry n t ++ (r ∷ [])
      with_none = ap (λ o. rows_or o (unpack form_entry n t) (unpack form_entry n t ++ (r ∷ []))) f

  pub numbered_named : (found (unpack form_entry n t) r ≡ none → n < most_formulas) → Named t n slots r
  numbered_named room = place_of (found (unpack form_entry n t) r) (place_in t slots r) (numbered_found t n slots w r) refl refl room

-- A pass goes on past a row that repeats none.
use Rattle.std.specs.Prelude.{ℕ, ◌+◌, ◌≤◌, ◌<◌, ◌≡◌, List, Some, None}
use Rattle.std.proofs.Common.{add-one, arith, ◌∙◌}
use Rattle.std.proofs.Math.Path.{refl, ap, sym}
use Rattle.std.proofs.Math.Option.{Option, none, some}
use Rattle.scope.specs.Limits.{most_formulas}
use Rattle.scope.specs.Call.Tables.{form_entry, unpack}
use Rattle.scope.specs.Tools.Tests.{never}
use Rattle.classes.specs.Rows.{form_row, form_rows}
use Rattle.numbering.specs.Equal.{found}
use Rattle.numbering.specs.Slots.{place_in, kept_at, earlier_at, earlier_of}
use Rattle.numbering.specs.Numbered.{numbered_more}
use Rattle.numbering.specs.Repeats.{repeat_more, Passed, about, told}

module _ (t : List ℕ) (n i : ℕ) (slots : List ℕ) (p : Passed t n i slots) (h : i < n) (few : n ≤ most_formulas) where
  pub passed_more : earlier_at (place_in t slots (form_row t i)) ≡ None → Passed t n (i + 1) (kept_at (place_in t slots (form_row t i)) i slots)
  unfolding earlier_of
  passed_more e = go (found (unpack form_entry i t) (form_row t i)) refl
    where
      go : (o : Option ℕ) → found (unpack form_entry i t) (form_row t i) ≡ o →
          Passed t n (i + 1) (kept_at (place_in t slots (form_row t i)) i slots)
      go none f =
          rw (add-one i)
          record {
            most = h;
            keeps = numbered_more t i slots p.keeps (form_row t i) t (omega arith) (form_rows t i) f;
            fresh = repeat_more (unpack form_entry n t) i p.fresh (about t n i slots p h few ∙ f);
          }
      go (some j) f = never (let z : None ≡ Some j = sym e ∙ told t n i slots p h few ∙ ap earlier_of f in cc)

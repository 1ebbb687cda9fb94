-- What is not refused as a repeat is kept.
use Rattle.std.specs.Prelude.{ℕ, suc, ◌<◌, List, [], ◌∷◌, ◌++◌}
use Rattle.std.proofs.Math.Path.{◌≡◌, refl, ap, sym}
use Rattle.std.proofs.Common.{◌∙◌, arith}
use Rattle.std.proofs.Math.Option.{Option, none, some}
use Rattle.scope.specs.File.Request.{Row}
use Rattle.scope.specs.Limits.{most_formulas}
use Rattle.scope.specs.Call.Tables.{form_entry, unpack}
use Rattle.numbering.specs.Equal.{found}
use Rattle.numbering.specs.Slots.{place_in, kept_at, earlier_at, earlier_of}
use Rattle.numbering.specs.Numbered.{Numbered, numbered_more}
use Rattle.numbering.specs.Refused.{repeat_refusal, told}

module _ (t : List ℕ) (n : ℕ) (slots : List ℕ) (w : Numbered t n slots) (r : Row) where
  -- A row that is not refused, kept as row n, of any table whose rows are those and this one.
  pub fresh_kept : repeat_refusal (earlier_at (place_in t slots r)) ≡ 0 → (t' : List ℕ) → n < most_formulas →
      unpack form_entry (suc n) t' ≡ unpack form_entry n t ++ (r ∷ []) → Numbered t' (suc n) (kept_at (place_in t slots r) n slots)
  unfolding repeat_refusal earlier_of
  fresh_kept e t' room rows = numbered_more t n slots w r t' room rows (go (found (unpack form_entry n t) r) refl)
    where
      go : (o : Option ℕ) → found (unpack form_entry n t) r ≡ o → found (unpack form_entry n t) r ≡ none
      go none f = f
      go (some j) f =
          let z : ◌≡◌ {A = ℕ} 15 0 = ap repeat_refusal (ap earlier_of (sym f) ∙ sym (told t n slots w r)) ∙ e in
          absurd (omega arith)

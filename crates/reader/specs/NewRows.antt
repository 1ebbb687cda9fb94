-- A `form=` line by its row and by the slots that keep the rows before it: the row's own refusal, then 15.
use Prim.Native.Nat.{ℕ, zero, suc}
use Rattle.std.specs.Prelude.{◌≡◌, refl, List}
use Rattle.std.proofs.Math.Path.{ap}
use Rattle.std.proofs.Common.{sym, ◌∙◌}
use Rattle.std.proofs.Math.Option.{Option, none, some}
use Rattle.scope.specs.Tools.Tests.{never}
use Rattle.scope.specs.File.Request.{Row}
use Rattle.scope.specs.File.Line.{val, out, or_refused, shaped_as}
use Rattle.scope.specs.File.Kinds.{form_kinds}
use Rattle.scope.specs.File.Refusals.{row_refusal, first_of}
use Rattle.common.specs.Rows.{as_row}
use Rattle.common.specs.declared.rows.Row.{Row as Held}
use Rattle.numbering.specs.Slots.{place_in, kept_at, earlier_at}
use Rattle.numbering.specs.Refused.{repeat_refusal}

abbrev pub asked_row : ℕ → ℕ → ℕ → List ℕ → List ℕ → Row → ℕ
asked_row principals atoms i forms slots r =
    first_of (row_refusal form_kinds principals atoms i r) (repeat_refusal (earlier_at (place_in forms slots r)))

-- Refusal 15 by the slots.
abbrev pub again : List ℕ → List ℕ → Row → ℕ
again forms slots r = repeat_refusal (earlier_at (place_in forms slots r))

-- The slots once a row has been asked about: they keep it as row i.
abbrev pub slots_with : List ℕ → ℕ → List ℕ → Held → List ℕ
slots_with forms i slots r = kept_at (place_in forms slots (as_row r)) i slots

-- Two refusals that are the same for each thing.
pub shaped_same : {A : Type 0} (f g : A → ℕ) → ((a : A) → f a ≡ g a) → (x : Option A) → shaped_as f x ≡ shaped_as g x
unfolding shaped_as
shaped_same f g e none = refl
shaped_same f g e (some a) = ap (λ n. or_refused n a) (e a)

-- What is let through has no refusal.
pub let_through : {A : Type 0} (f : A → ℕ) (x : Option A) (a : A) → shaped_as f x ≡ val a → f a ≡ 0
unfolding shaped_as or_refused
let_through f none a e = never cc
let_through f (some b) a e = go (f b) refl e
  where
    go : (n : ℕ) → f b ≡ n → or_refused n b ≡ val a → f a ≡ 0
    go zero h d = let same : b ≡ a = cc in ap f (sym same) ∙ h
    go (suc k) h d = never cc

-- A second refusal, behind the first.
module _ {A : Type 0} (f g : A → ℕ) (x : Option A) where
  abbrev two : A → ℕ
  two r = first_of (f r) (g r)

  pub first_out : (j : ℕ) → out j ≡ shaped_as f x → out j ≡ shaped_as two x
  unfolding shaped_as or_refused first_of
  first_out j e = of x e
    where
      go : (a : A) (n : ℕ) → f a ≡ n → out j ≡ or_refused n a → out j ≡ or_refused (first_of n (g a)) a
      go a zero h d = never cc
      go a (suc k) h d = d

      of : (y : Option A) → out j ≡ shaped_as f y → out j ≡ shaped_as two y
      of none d = d
      of (some a) d = go a (f a) refl d

  pub first_val : (a : A) → val a ≡ shaped_as f x → or_refused (g a) a ≡ shaped_as two x
  unfolding shaped_as or_refused first_of
  first_val a e = of x e
    where
      go : (b : A) (n : ℕ) → f b ≡ n → val a ≡ or_refused n b → or_refused (g a) a ≡ or_refused (first_of n (g b)) b
      go b zero h d = let same : a ≡ b = cc in ap (λ c. or_refused (g c) c) same
      go b (suc k) h d = never cc

      of : (y : Option A) → val a ≡ shaped_as f y → or_refused (g a) a ≡ shaped_as two y
      of none d = never cc
      of (some b) d = go b (f b) refl d

-- Refusal 15 by the slots: where they keep the first n rows, looking for a row tells whether document 02 refuses it as one of them.
use Rattle.std.specs.Prelude.{ℕ, zero, suc, List, Option as Returned, Some, None, Err}
use Rattle.std.proofs.Math.Path.{◌≡◌, refl, ap}
use Rattle.std.proofs.Common.{◌∙◌, arith}
use Rattle.std.proofs.Math.Option.{Option, none, some}
use Rattle.scope.specs.Logic.Form.{negate}
use Rattle.scope.specs.File.Request.{Row}
use Rattle.scope.specs.File.Refusals.{demand, is_among, first_of}
use Rattle.scope.specs.Call.Tables.{form_entry, unpack}
use Rattle.scope.specs.Tools.Tests.{never}
use Rattle.common.specs.declared.refused.Refusal.{Refusal}
use Rattle.common.specs.declared.refused.Refusal.TheVariants as refusal
use Rattle.common.specs.Refused.{number_of, refusal_in}
use Rattle.numbering.specs.Equal.{found, found_among, among_found}
use Rattle.numbering.specs.Slots.{place_in, earlier_at, earlier_of, earlier_number}
use Rattle.numbering.specs.Numbered.{Numbered, numbered_found}

-- 'Refusals: 15 at the line of the second'
unfoldable pub repeat_refusal : Returned ℕ → ℕ
repeat_refusal (Some j) = 15
repeat_refusal None = 0

pub first_none : (k : ℕ) → k ≡ 0 → (next : ℕ) → next ≡ first_of k next
unfolding first_of
first_none k e next = rw e refl

pub first_some : (k : ℕ) → (k ≡ 0 → ⊥) → (next : ℕ) → k ≡ first_of k next
unfolding first_of
first_some zero e next = absurd (e refl)
first_some (suc k) e next = refl

-- No refusal has the number 0.
pub number_some : (r : Refusal) → number_of r ≡ 0 → ⊥
unfolding number_of
number_some refusal.TooLong e = never cc
number_some refusal.Shape e = never cc
number_some refusal.Range e = never cc
number_some refusal.NotEarlier e = never cc
number_some refusal.WrongClass e = never cc
number_some refusal.BytesAfter e = never cc
number_some refusal.StepMisfit e = never cc
number_some refusal.NoSuchNumber e = never cc
number_some refusal.FactAbsent e = never cc
number_some refusal.LimitPassed e = never cc
number_some refusal.AllClosed e = never cc
number_some refusal.LeftOpen e = never cc
number_some refusal.TableTooShort e = never cc
number_some refusal.OutputTooShort e = never cc
number_some refusal.Repeated e = never cc
number_some refusal.UnitInVersion1 e = never cc

-- A row's own refusal is the first.
pub refused_first : (r : Refusal) (next : ℕ) → refusal_in {A = Unit {0}} (Err r) ≡ first_of (refusal_in {A = Unit {0}} (Err r)) next
unfolding refusal_in
refused_first r next = first_some (number_of r) (number_some r) next

-- Nothing refused: neither of the two is.
pub neither_refused : (k next : ℕ) → first_of k next ≡ 0 → (k ≡ 0) × (next ≡ 0)
unfolding first_of
neither_refused zero next e = (refl, e)
neither_refused (suc k) next e = absurd (omega arith)

module _ (t : List ℕ) (n : ℕ) (slots : List ℕ) (w : Numbered t n slots) (r : Row) where
  pub told : earlier_at (place_in t slots r) ≡ earlier_of (found (unpack form_entry n t) r)
  told = earlier_number (place_in t slots r) ∙ ap earlier_of (numbered_found t n slots w r)

  pub repeat_told : repeat_refusal (earlier_at (place_in t slots r)) ≡ demand (negate (is_among r (unpack form_entry n t))) 15 0
  unfolding repeat_refusal earlier_of demand negate
  repeat_told = ap repeat_refusal told ∙ go (found (unpack form_entry n t) r) refl
    where
      go : (o : Option ℕ) → found (unpack form_entry n t) r ≡ o →
          repeat_refusal (earlier_of o) ≡ demand (negate (is_among r (unpack form_entry n t))) 15 0
      go none e = rw (found_among (unpack form_entry n t) r e) refl
      go (some j) e = rw (among_found (unpack form_entry n t) r j e) refl

-- The refusals of document 01 by their names in the code: the number of each, and what a call that may refuse says.
use Rattle.std.specs.Prelude.{ℕ, ◌≡◌, refl, [], ◌∷◌, get_or, Result, Ok, Err}
use Rattle.std.proofs.Common.{ap, sym, ◌∙◌}
use Rattle.common.specs.declared.refused.Refusal.{Refusal}
use Rattle.common.specs.declared.refused.Refusal.TheVariants as refusal

-- The table of document 01, and of document 02 from 15 on.
unfoldable pub number_of : Refusal → ℕ
number_of refusal.TooLong = 1
number_of refusal.Shape = 2
number_of refusal.Range = 3
number_of refusal.NotEarlier = 4
number_of refusal.WrongClass = 5
number_of refusal.BytesAfter = 6
number_of refusal.StepMisfit = 7
number_of refusal.NoSuchNumber = 8
number_of refusal.FactAbsent = 9
number_of refusal.LimitPassed = 10
number_of refusal.AllClosed = 11
number_of refusal.LeftOpen = 12
number_of refusal.TableTooShort = 13
number_of refusal.OutputTooShort = 14
number_of refusal.Repeated = 15
number_of refusal.UnitInVersion1 = 16

-- No two names have one number.
named : ℕ → Refusal
named n =
    get_or
    (
    refusal.TooLong ∷ refusal.TooLong ∷ refusal.Shape ∷ refusal.Range ∷ refusal.NotEarlier ∷ refusal.WrongClass ∷ refusal.BytesAfter ∷
    refusal.StepMisfit ∷ refusal.NoSuchNumber ∷ refusal.FactAbsent ∷ refusal.LimitPassed ∷ refusal.AllClosed ∷ refusal.LeftOpen ∷
    refusal.TableTooShort ∷ refusal.OutputTooShort ∷ refusal.Repeated ∷ refusal.UnitInVersion1 ∷ []
    )
    n refusal.TooLong

named_back : (r : Refusal) → named (number_of r) ≡ r
unfolding number_of named
named_back refusal.TooLong = refl
named_back refusal.Shape = refl
named_back refusal.Range = refl
named_back refusal.NotEarlier = refl
named_back refusal.WrongClass = refl
named_back refusal.BytesAfter = refl
named_back refusal.StepMisfit = refl
named_back refusal.NoSuchNumber = refl
named_back refusal.FactAbsent = refl
named_back refusal.LimitPassed = refl
named_back refusal.AllClosed = refl
named_back refusal.LeftOpen = refl
named_back refusal.TableTooShort = refl
named_back refusal.OutputTooShort = refl
named_back refusal.Repeated = refl
named_back refusal.UnitInVersion1 = refl

pub same_number : (a b : Refusal) → number_of a ≡ number_of b → a ≡ b
same_number a b e = sym (named_back a) ∙ ap named e ∙ named_back b

-- 0 where nothing is refused, else the refusal's number.
unfoldable pub refusal_in : {A : Type 0} → Result A Refusal → ℕ
refusal_in (Ok a) = 0
refusal_in (Err r) = number_of r

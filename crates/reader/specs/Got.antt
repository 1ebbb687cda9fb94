-- What a reading gave: one thing and one text behind it, or a refusal and neither.
use Rattle.std.specs.Prelude.{ℕ, ◌-◌, ◌≡◌, List, length, take, drop}
use Rattle.std.proofs.Common.{ap, ◌∙◌}
use Rattle.scope.specs.Call.Answer.{Answer}
use Rattle.scope.specs.Tools.Tests.{never}
use Rattle.scope.specs.File.Line.{Read, ok, bad, Reader}
use Rattle.lines.specs.Parts.{tail_part}
use Rattle.reader.specs.Many.{Ends, tail_drop}

-- The part of a text that starts at a place.
abbrev pub part_from : ℕ → List ℕ → List ℕ
part_from at s = take (length s - at) (drop at s)

pub part_is : {A : Type 0} (m : Reader A) → Ends m → (s : List ℕ) (a : A) (rest : List ℕ) (at : ℕ) → m s ≡ ok a rest → at ≡ length s - length rest
    → part_from at s ≡ rest
part_is m p s a rest at e is = tail_part at s ∙ ap (λ k. drop k s) is ∙ tail_drop rest s (p.ends s a rest e)

pub never_both : {A : Type 0} {X : Type 0} (r : Read A) (z : Answer) (a : A) (rest : List ℕ) → r ≡ bad z → r ≡ ok a rest → X
never_both r z a rest e f = never cc

pub same_things : {A : Type 0} (r : Read A) (a b : A) (s t : List ℕ) → r ≡ ok a s → r ≡ ok b t → a ≡ b
same_things r a b s t e f = cc

-- Laws of a text that grows at its end, which the proofs of the functions that write it cite. Assumes nothing.
use Prim.Native.Nat.{ℕ}
use mathlib.Core.Path.{◌≡◌, refl, ap, subst, ◌∙◌}
use mathlib.Core.List.{List, [], ◌∷◌, ◌++◌, append_assoc}
use Rattle.io.specs.Digits.{last_digits, IsDigitCount}
use Rattle.gate.specs.Shown.{bytes, Line, Longer, Shown}

-- A key, then a number's digits, then LF: the text goes on with that line.
pub line_added :
    (before key shown one two three : List ℕ) (number places : ℕ) → IsDigitCount 10 1 number places → shown ≡ last_digits 10 places number
    → one ≡ before ++ key → two ≡ one ++ shown → three ≡ two ++ (10 ∷ []) → Longer before key number three
line_added before key shown one two three number places fewest shown-is one-is two_is three-is =
    let ds = last_digits 10 places number in
    let lf : List ℕ = 10 ∷ [] in
    let middle : two ≡ before ++ (key ++ ds) =
    two_is
    ∙ ap (λ (l : List ℕ). l ++ shown) one-is
    ∙ ap (λ (l : List ℕ). before ++ key ++ l) shown-is
    ∙ append_assoc before key ds
    in
    record {
      line = key ++ ds ++ lf;
      is = record { places = places; fewest = fewest; same = refl };
      same = three-is ∙ ap (λ (l : List ℕ). l ++ lf) middle ∙ append_assoc before (key ++ ds) lf;
    }

-- The four lines, one after the other from an empty text on.
pub four_lines :
    (answer place steps column a p s k : ℕ) (one two three four : List ℕ) → a ≡ answer → p ≡ place → s ≡ steps → k ≡ column
    → Longer [] (bytes "answer=") a one → Longer one (bytes "place=") p two → Longer two (bytes "steps=") s three
    → Longer three (bytes "column=") k four → Shown answer place steps column four
four_lines answer place steps column a p s k one two three four a-is p-is s-is k-is first second third fourth =
    let to-second = second.same ∙ ap (λ (l : List ℕ). l ++ second.line) first.same in
    let to-third = third.same ∙ ap (λ (l : List ℕ). l ++ third.line) to-second in
    record {
      first = first.line;
      second = second.line;
      third = third.line;
      fourth = fourth.line;
      answer_is = subst (λ (n : ℕ). Line (bytes "answer=") n first.line) a-is first.is;
      place_is = subst (λ (n : ℕ). Line (bytes "place=") n second.line) p-is second.is;
      steps_is = subst (λ (n : ℕ). Line (bytes "steps=") n third.line) s-is third.is;
      column_is = subst (λ (n : ℕ). Line (bytes "column=") n fourth.line) k-is fourth.is;
      same = fourth.same ∙ ap (λ (l : List ℕ). l ++ fourth.line) to-third;
    }

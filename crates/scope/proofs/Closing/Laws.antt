-- Laws of closing, for any base: all that is used of the closed facts is that they are the least set that holds the base and obeys the rules.
use Rattle.std.specs.Prelude.{ℕ, ◌<◌, ◌≤◌, ◌≡◌, ◌↔◌, ◌⊎◌}
use Rattle.std.proofs.Common.{inl, inr, ⊎_elim, arith}
use Rattle.scope.specs.Logic.Facts.{Fact, le, by, unit, Sheet, Closed, given, rule1, rule6, rule7, rule10, closed, least}

-- One set of facts and another put together.
abbrev pub Joined : (Fact → Type 0) → (Fact → Type 0) → Fact → Type 0
Joined A B f = A f ⊎ B f

-- Closing is monotone in worlds, principals, logic (unit above plain) and base.
pub larger : {s t : Sheet} {A B : Fact → Type 0} {f : Fact} →
    s.worlds ≤ t.worlds → s.principals ≤ t.principals → (s.logic ≡ unit → t.logic ≡ unit) → ((g : Fact) → A g → B g) → Closed s A f → Closed t B f
larger {t} {B} p q l h =
    let c = closed t B in
    least
    (record {
      rule1 = λ u a i j. rule1 (omega arith) (omega arith);
      rule2 = c.rule2;
      rule3 = c.rule3;
      rule4 = c.rule4;
      rule5 = c.rule5;
      rule6 = c.rule6;
      rule7 = λ u i. rule7 (omega arith);
      rule8 = c.rule8;
      rule9 = c.rule9;
      rule10 = λ u v a e i. rule10 (l e) i;
    })
    (λ g a. given (h g a))

-- Rule 6 where nothing follows on the right, as document 01 had it, is the case z = w, by rule 7.
pub rule6_there : {s : Sheet} {A : Fact → Type 0} {u v w a : ℕ} →
    w < s.worlds → Closed s A (le u v) → Closed s A (by a v w) → Closed s A (by a u w)
rule6_there h p q = rule6 p q (rule7 h)

-- What follows from a base follows from each base from which that base follows.
pub through : {s : Sheet} {A B : Fact → Type 0} {f : Fact} →
    ((g : Fact) → A g → Closed s B g) → Closed s A f → Closed s B f
through {s} {B} h = least (closed s B) h

-- Closing twice changes nothing.
pub twice : (s : Sheet) (A : Fact → Type 0) (f : Fact) → Closed s (Closed s A) f ↔ Closed s A f
twice s A f = (through (λ g p. p), λ p. given p)

-- Closing the union of two bases is closing the union of their closed sets.
pub union : (s : Sheet) (A B : Fact → Type 0) (f : Fact) →
    Closed s (Joined A B) f ↔ Closed s (Joined (Closed s A) (Closed s B)) f
union s A B f = (
  through (λ g. ⊎_elim (λ a. given (inl (given a))) (λ b. given (inr (given b)))),
  through (λ g. ⊎_elim (through (λ h a. given (inl a))) (through (λ h b. given (inr b)))),
)

-- Of two sets added one after the other, with closing between, either may come first.
pub order : (s : Sheet) (A B C : Fact → Type 0) (f : Fact) →
    Closed s (Joined (Closed s (Joined A B)) C) f → Closed s (Joined (Closed s (Joined A C)) B) f
order s A B C f =
    through
    (λ g. ⊎_elim (through (λ h. ⊎_elim (λ a. given (inl (given (inl a)))) (λ b. given (inr b)))) (λ c. given (inl (given (inr c)))))

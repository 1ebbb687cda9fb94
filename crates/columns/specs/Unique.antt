-- There is one column at most, and none in a line that is in shape.
use Rattle.std.specs.Prelude.{ℕ, ◌≡◌, refl, List, [], ◌∷◌, ◌++◌}
use Rattle.std.proofs.Common.{sym, ◌∙◌, append_assoc}
use Rattle.std.proofs.Math.Seq.{append_snoc}
use Rattle.scope.specs.Tools.Tests.{never}
use Rattle.scope.specs.File.Column.{Goes, Stops, early, cannot, Column}

-- What goes on went on before.
pub goes_shorter : {P : List ℕ → Type 0} (p q : List ℕ) → Goes P (p ++ q) → Goes P p
goes_shorter p q g = record { continued = q ++ g.continued; whole = rw (append_assoc p q g.continued) at g.whole }

-- Of two beginnings of a text one begins the other.
pub data Prefix (p q : List ℕ) : Type 0 where
  shorter : (b : ℕ) (r : List ℕ) → q ≡ p ++ b ∷ r → Prefix p q
  alike : p ≡ q → Prefix p q
  longer : (b : ℕ) (r : List ℕ) → p ≡ q ++ b ∷ r → Prefix p q

pub compared : (p q r t : List ℕ) → p ++ r ≡ q ++ t → Prefix p q
compared [] [] r t e = alike refl
compared [] (b ∷ q) r t e = shorter b q refl
compared (b ∷ p) [] r t e = longer b p refl
compared (b ∷ p) (c ∷ q) r t e =
    let x : b ≡ c = cc in
    let y : p ++ r ≡ q ++ t = cc in
    go x (compared p q r t y)
  where
    go : b ≡ c → Prefix p q → Prefix (b ∷ p) (c ∷ q)
    go x (shorter d u z) = shorter d u (cc)
    go x (alike z) = alike (cc)
    go x (longer d u z) = longer d u (cc)

pub same_rest : (p a c : List ℕ) → p ++ a ≡ p ++ c → a ≡ c
same_rest [] a c e = e
same_rest (b ∷ p) a c e = same_rest p a c (cc)

-- What goes on does not pass a column.
pub not_passed : {P : List ℕ → Type 0} (p : List ℕ) {a : List ℕ} (b : ℕ) (r u : List ℕ) → Stops P p a → a ≡ b ∷ u → ¬ Goes P (p ++ b ∷ r)
not_passed p b r u early e g = never cc
not_passed p b r u (cannot {b = c} n) e g =
    let x : c ≡ b = cc in
    n (goes_shorter (p ++ (c ∷ [])) r (rw (append_snoc p c r, x) g))

-- What stands before one column is no part of what stands before another.
pub never_later :
    {P : List ℕ → Type 0} (p a q c : List ℕ) (b : ℕ) (r : List ℕ) → p ++ a ≡ q ++ c → q ≡ p ++ b ∷ r → Stops P p a → ¬ Goes P q
never_later p a q c b r e z s g =
    let w : p ++ a ≡ p ++ (b ∷ r ++ c) = e ∙ rw z (append_assoc p (b ∷ r) c) in
    not_passed p b r (r ++ c) s (same_rest p a (b ∷ r ++ c) w) (rw z at g)

pub one_column : {P : List ℕ → Type 0} (s : List ℕ) (n m : ℕ) → Column P s n → Column P s m → n ≡ m
one_column s n m c d =
    go (compared c.before d.before c.after d.after e)
  where
    e : c.before ++ c.after ≡ d.before ++ d.after
    e = sym c.text ∙ d.text

    go : Prefix c.before d.before → n ≡ m
    go (shorter b r z) = absurd (never_later c.before c.after d.before d.after b r e z c.stops d.goes)
    go (alike z) = cc (c.column, d.column)
    go (longer b r z) = absurd (never_later d.before d.after c.before c.after b r (sym e) z d.stops c.goes)

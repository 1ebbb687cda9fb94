-- `holds` computes the closed facts, for every list of given facts: what it says follows by the rules, and what follows it says.
use Rattle.std.specs.Prelude.{◌≡◌, true, false, List}
use Rattle.scope.specs.Logic.Facts.{Fact, Sheet, Closed, given, Among, Named, Basis, basis, closed, least}
use Rattle.scope.specs.Logic.Held.{named, holds}
use Rattle.scope.proofs.Closing.Paths.{untrue}
use Rattle.scope.proofs.Closing.Computed.{follows_agrees, basis_named, named_basis}
use Rattle.scope.proofs.Closing.ByRules.{by_rules, gives, obeys}

-- What `named` keeps is about the worlds and principals that there are.
inside : (s : Sheet) (fs : List Fact) (f : Fact) → Among (named s fs) f → Named s f
inside s fs f i = range (named_basis s fs f i)
  where
    range : Basis s fs f → Named s f
    range (basis i n) = n

pub agree_sound : (s : Sheet) (fs : List Fact) (f : Fact) → holds s fs f ≡ true → Closed s (Basis s fs) f
unfolding holds
agree_sound s fs f e =
    least (closed s (Basis s fs)) (λ g i. given (named_basis s fs g i))
    (by_rules s (named s fs) (inside s fs) ((follows_agrees s (named s fs) f).sound e))

pub agree_full : (s : Sheet) (fs : List Fact) (f : Fact) → Closed s (Basis s fs) f → holds s fs f ≡ true
unfolding holds
agree_full s fs f c =
    (follows_agrees s (named s fs) f).full
    (least (obeys s (named s fs) (inside s fs)) (λ g b. gives s (named s fs) (inside s fs) g (basis_named s fs g b)) c)

-- A fact that `holds` denies is absent.
pub decide_fact : (s : Sheet) (fs : List Fact) (f : Fact) → holds s fs f ≡ false → Closed s (Basis s fs) f → ⊥
decide_fact s fs f e c = untrue (rw e at (agree_full s fs f c))

-- What `follows` says, as a type: `Holds` has a constructor for each way in which the test comes out true, and speaks of the given facts
-- alone; and what `named` keeps of a list.
use Rattle.std.specs.Prelude.{ℕ, ◌<◌, ◌≡◌, refl, Bool, true, false, List, [], ◌∷◌, ◌⊎◌}
use Rattle.std.proofs.Common.{inl, inr}
use Rattle.scope.specs.Logic.Facts.{Fact, le, by, sf, Logic, plain, unit, Sheet, Among, here, there, Named, Basis, basis}
use Rattle.scope.specs.Logic.Held.{Edge, edge, way, les_of, links_of, ups_of, add_if, pairs_at, reaches, is_named, keep_if, named, follows}
use Rattle.scope.proofs.Closing.Paths.{Agrees, agrees_as, agrees_none, agrees_both, agrees_either, agrees_eqb, agrees_ltb}
use Rattle.scope.proofs.Closing.Paths.{Path, Way, path_agrees, way_agrees, On, first, later}

-- An edge of `les_of` is a given u ≤ v, and each of these is one; likewise below for the links and the pairs.
pub les_given : (fs : List Fact) {u v : ℕ} → On (edge u v) (les_of fs) → Among fs (le u v)
unfolding les_of
les_given (le u v ∷ fs) first = here
les_given (le u v ∷ fs) (later o) = there (les_given fs o)
les_given (by a u v ∷ fs) o = there (les_given fs o)
les_given (sf u a b ∷ fs) o = there (les_given fs o)
les_given [] {u = u} {v = v} o = elim o [ ]

pub given_le : {u v : ℕ} {fs : List Fact} → Among fs (le u v) → On (edge u v) (les_of fs)
unfolding les_of
given_le here = first
given_le (there {g = le x y} i) = later (given_le i)
given_le (there {g = by a x y} i) = given_le i
given_le (there {g = sf x a b} i) = given_le i

-- A link is a given u ≤ v or u S_A v.
pub data Link (fs : List Fact) (u v : ℕ) : Type 0 where
  link_le : Among fs (le u v) → Link fs u v
  link_by : {a : ℕ} → Among fs (by a u v) → Link fs u v

link_later : {g : Fact} {fs : List Fact} {u v : ℕ} → Link fs u v → Link (g ∷ fs) u v
link_later (link_le i) = link_le (there i)
link_later (link_by i) = link_by (there i)

pub links_given : (fs : List Fact) {u v : ℕ} → On (edge u v) (links_of fs) → Link fs u v
unfolding links_of
links_given (le u v ∷ fs) first = link_le here
links_given (le u v ∷ fs) (later o) = link_later (links_given fs o)
links_given (by a u v ∷ fs) first = link_by here
links_given (by a u v ∷ fs) (later o) = link_later (links_given fs o)
links_given (sf u a b ∷ fs) o = link_later (links_given fs o)
links_given [] {u = u} {v = v} o = elim o [ ]

pub le_links : {u v : ℕ} {fs : List Fact} → Among fs (le u v) → On (edge u v) (links_of fs)
unfolding links_of
le_links here = first
le_links (there {g = le x y} i) = later (le_links i)
le_links (there {g = by a x y} i) = later (le_links i)
le_links (there {g = sf x a b} i) = le_links i

pub by_links : {a u v : ℕ} {fs : List Fact} → Among fs (by a u v) → On (edge u v) (links_of fs)
unfolding links_of
by_links here = first
by_links (there {g = le x y} i) = later (by_links i)
by_links (there {g = by a x y} i) = later (by_links i)
by_links (there {g = sf x a b} i) = by_links i

-- What leads up is a given u ≤ v, or with unit a given u S_A v.
pub data Up (l : Logic) (fs : List Fact) (u v : ℕ) : Type 0 where
  up_le : Among fs (le u v) → Up l fs u v
  up_by : {a : ℕ} → l ≡ unit → Among fs (by a u v) → Up l fs u v

pub ups_given : (l : Logic) (fs : List Fact) {u v : ℕ} → On (edge u v) (ups_of l fs) → Up l fs u v
unfolding ups_of
ups_given plain fs o = up_le (les_given fs o)
ups_given unit fs o = by_link (links_given fs o)
  where
    by_link : {u v : ℕ} → Link fs u v → Up unit fs u v
    by_link (link_le i) = up_le i
    by_link (link_by i) = up_by refl i

pub le_ups : (l : Logic) {u v : ℕ} {fs : List Fact} → Among fs (le u v) → On (edge u v) (ups_of l fs)
unfolding ups_of
le_ups plain i = given_le i
le_ups unit i = le_links i

pub links_ups : (l : Logic) (fs : List Fact) → l ≡ unit → ups_of l fs ≡ links_of fs
unfolding ups_of
links_ups l fs e = rw e refl

-- A pair at u is an A sf B given at a world from which links lead to u.
pub data Pair (links : List Edge) (u a b : ℕ) (fs : List Fact) : Type 0 where
  pair : {x : ℕ} → Among fs (sf x a b) → Way links x u → Pair links u a b fs

pair_later : {links : List Edge} {u a b : ℕ} {g : Fact} {fs : List Fact} → Pair links u a b fs → Pair links u a b (g ∷ fs)
pair_later (pair i w) = pair (there i) w

pub pairs_given : (links : List Edge) (u : ℕ) (fs : List Fact) {a b : ℕ} → On (edge a b) (pairs_at links u fs) → Pair links u a b fs
unfolding pairs_at
pairs_given links u (le x v ∷ fs) o = pair_later (pairs_given links u fs o)
pairs_given links u (by c x v ∷ fs) o = pair_later (pairs_given links u fs o)
pairs_given links u (sf x c d ∷ fs) {a} {b} o =
    either_way (way links x u) (way_agrees links x u) o (λ p. pair_later (pairs_given links u fs p))
  where
    either_way : (t : Bool) {a b c d u x : ℕ} {links es : List Edge} {fs : List Fact} → Agrees t (Way links x u) →
        On (edge a b) (add_if t (edge c d) es) → (On (edge a b) es → Pair links u a b (sf x c d ∷ fs)) →
        Pair links u a b (sf x c d ∷ fs)
    either_way true r first f = pair here (r.sound refl)
    either_way true r (later o) f = f o
    either_way false r o f = f o
pairs_given links u [] {a = a} {b = b} o = elim o [ ]

pub given_pair : (links : List Edge) (u : ℕ) {x a b : ℕ} {fs : List Fact} → Among fs (sf x a b) → Way links x u →
    On (edge a b) (pairs_at links u fs)
unfolding pairs_at
given_pair links u {x} here w = rw ((way_agrees links x u).full w) first
given_pair links u (there {g = le y z} i) w = given_pair links u i w
given_pair links u (there {g = by c y z} i) w = given_pair links u i w
given_pair links u (there {g = sf y c d} i) w = under (way links y u) (edge c d) (given_pair links u i w)
  where
    under : (t : Bool) (d : Edge) {e : Edge} {es : List Edge} → On e es → On e (add_if t d es)
    under true d o = later o
    under false d o = o

-- Some x S_B w is given, to which links lead from u, with x: A sf B, and a way of ≤ leads from w to z.
pub data Reach (all : List Fact) (links les : List Edge) (a u z : ℕ) (fs : List Fact) : Type 0 where
  reach : {b x w : ℕ} → Among fs (by b x w) → Way links u x → Way (pairs_at links x all) a b → Way les w z →
      Reach all links les a u z fs

-- `follows`, constructor for case.
pub data Holds (s : Sheet) (fs : List Fact) : Fact → Type 0 where
  same : {u : ℕ} → u < s.worlds → Holds s fs (le u u)
  up : {u v : ℕ} → Path (ups_of s.logic fs) u v → Holds s fs (le u v)
  self : {u a : ℕ} → u < s.worlds → a < s.principals → Holds s fs (sf u a a)
  speaks : {u a b : ℕ} → Path (pairs_at (links_of fs) u fs) a b → Holds s fs (sf u a b)
  sees : {a u z : ℕ} → Reach fs (links_of fs) (ups_of s.logic fs) a u z fs → Holds s fs (by a u z)

reach_later : {all : List Fact} {links les : List Edge} {a u z : ℕ} {g : Fact} {fs : List Fact} →
    Reach all links les a u z fs → Reach all links les a u z (g ∷ fs)
reach_later (reach i s t r) = reach (there i) s t r

reaches_agrees : (all : List Fact) (links les : List Edge) (a u z : ℕ) (fs : List Fact) →
    Agrees (reaches all links les a u z fs) (Reach all links les a u z fs)
unfolding reaches
reaches_agrees all links les a u z [] = agrees_none none
  where
    none : Reach all links les a u z [] → ⊥
    none (reach i s t r) = elim i [ ]
reaches_agrees all links les a u z (le x v ∷ fs) = agrees_as reach_later from (reaches_agrees all links les a u z fs)
  where
    from : Reach all links les a u z (le x v ∷ fs) → Reach all links les a u z fs
    from (reach (there i) s t r) = reach i s t r
reaches_agrees all links les a u z (sf x b c ∷ fs) = agrees_as reach_later from (reaches_agrees all links les a u z fs)
  where
    from : Reach all links les a u z (sf x b c ∷ fs) → Reach all links les a u z fs
    from (reach (there i) s t r) = reach i s t r
reaches_agrees all links les a u z (by b x w ∷ fs) =
    agrees_as to from
    (agrees_either
    (agrees_both (way_agrees links u x) (agrees_both (way_agrees (pairs_at links x all) a b) (way_agrees les w z)))
    (reaches_agrees all links les a u z fs))
  where
    to : (Way links u x × (Way (pairs_at links x all) a b × Way les w z)) ⊎ Reach all links les a u z fs →
        Reach all links les a u z (by b x w ∷ fs)
    to (inl p) = reach here p.0 p.1.0 p.1.1
    to (inr r) = reach_later r

    from : Reach all links les a u z (by b x w ∷ fs) →
        (Way links u x × (Way (pairs_at links x all) a b × Way les w z)) ⊎ Reach all links les a u z fs
    from (reach here s t r) = inl (s, (t, r))
    from (reach (there i) s t r) = inr (reach i s t r)

pub follows_agrees : (s : Sheet) (fs : List Fact) (f : Fact) → Agrees (follows s fs f) (Holds s fs f)
unfolding follows
follows_agrees s fs (le u v) =
    agrees_as to from (agrees_either (agrees_both (agrees_eqb u v) (agrees_ltb u s.worlds)) (path_agrees (ups_of s.logic fs) u v))
  where
    to : ((u ≡ v) × (u < s.worlds)) ⊎ Path (ups_of s.logic fs) u v → Holds s fs (le u v)
    to (inl p) = rw (← p.0) (same p.1)
    to (inr p) = up p

    from : {v : ℕ} → Holds s fs (le u v) → ((u ≡ v) × (u < s.worlds)) ⊎ Path (ups_of s.logic fs) u v
    from (same l) = inl (refl, l)
    from (up p) = inr p
follows_agrees s fs (sf u a b) =
    agrees_as to from
    (agrees_either
    (agrees_both (agrees_eqb a b) (agrees_both (agrees_ltb u s.worlds) (agrees_ltb a s.principals)))
    (path_agrees (pairs_at (links_of fs) u fs) a b))
  where
    to : ((a ≡ b) × ((u < s.worlds) × (a < s.principals))) ⊎ Path (pairs_at (links_of fs) u fs) a b → Holds s fs (sf u a b)
    to (inl p) = rw (← p.0) (self p.1.0 p.1.1)
    to (inr p) = speaks p

    from : {b : ℕ} → Holds s fs (sf u a b) →
        ((a ≡ b) × ((u < s.worlds) × (a < s.principals))) ⊎ Path (pairs_at (links_of fs) u fs) a b
    from (self h l) = inl (refl, (h, l))
    from (speaks p) = inr p
follows_agrees s fs (by a u z) = agrees_as (λ r. sees r) from (reaches_agrees fs (links_of fs) (ups_of s.logic fs) a u z fs)
  where
    from : Holds s fs (by a u z) → Reach fs (links_of fs) (ups_of s.logic fs) a u z fs
    from (sees r) = r

-- `named` keeps of a list what is its basis.
named_agrees : (s : Sheet) (f : Fact) → Agrees (is_named s f) (Named s f)
unfolding is_named
named_agrees s (le u v) = agrees_as (λ p. (p.0, p.1)) (λ p. (p.0, p.1)) (agrees_both (agrees_ltb u s.worlds) (agrees_ltb v s.worlds))
named_agrees s (by a u v) =
    agrees_as (λ p. (p.0, p.1.0, p.1.1)) (λ p. (p.0, (p.1, p.2)))
    (agrees_both (agrees_ltb a s.principals) (agrees_both (agrees_ltb u s.worlds) (agrees_ltb v s.worlds)))
named_agrees s (sf u a b) =
    agrees_as (λ p. (p.0, p.1.0, p.1.1)) (λ p. (p.0, (p.1, p.2)))
    (agrees_both (agrees_ltb u s.worlds) (agrees_both (agrees_ltb a s.principals) (agrees_ltb b s.principals)))

later_basis : {s : Sheet} {g f : Fact} {fs : List Fact} → Basis s fs f → Basis s (g ∷ fs) f
later_basis (basis i n) = basis (there i) n

pub basis_named : (s : Sheet) (fs : List Fact) (f : Fact) → Basis s fs f → Among (named s fs) f
unfolding named
basis_named s [] f (basis i n) = elim i [ ]
basis_named s (f ∷ fs) f' (basis here n) = rw ((named_agrees s f).full n) here
basis_named s (g ∷ fs) f (basis (there i) n) = under (is_named s g) g (basis_named s fs f (basis i n))
  where
    under : (t : Bool) (g : Fact) {f : Fact} {fs : List Fact} → Among fs f → Among (keep_if t g fs) f
    under true g i = there i
    under false g i = i

pub named_basis : (s : Sheet) (fs : List Fact) (f : Fact) → Among (named s fs) f → Basis s fs f
unfolding named
named_basis s [] f i = elim i [ ]
named_basis s (g ∷ fs) f i = or_kept (is_named s g) (named_agrees s g) i (named_basis s fs f)
  where
    or_kept : (t : Bool) {g f : Fact} {fs gs : List Fact} → Agrees t (Named s g) → Among (keep_if t g gs) f → (Among gs f → Basis s fs f) →
        Basis s (g ∷ fs) f
    or_kept true r here h = basis here (r.sound refl)
    or_kept true r (there i) h = later_basis (h i)
    or_kept false r i h = later_basis (h i)

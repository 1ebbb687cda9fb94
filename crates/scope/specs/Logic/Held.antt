-- The closed facts, computed from the list of given ones: `holds` answers what `Closed` defines (proofs/Closing/Agree proves that it does, for every list).
use Rattle.std.specs.Prelude.{ℕ, ◌≡◌, refl, Bool, true, false, List, [], ◌∷◌, eqb, ltb}
use Rattle.scope.specs.Logic.Form.{both, either}
use Rattle.scope.specs.Logic.Facts.{Fact, le, by, sf, Logic, plain, unit, Sheet}

-- An edge from a number to a number: of worlds, or of principals.
pub data Edge : Type 0 where
  edge : ℕ → ℕ → Edge

-- A path of one edge or more, and a way, which may be empty. The newest edge is passed, or else the path is one of the older edges.
unfoldable pub path : List Edge → ℕ → ℕ → Bool
unfolding both either
path [] x y = false
path (edge a b ∷ es) x y =
    either (path es x y) (both (either (eqb x a) (path es x a)) (either (eqb b y) (path es b y)))

unfoldable pub way : List Edge → ℕ → ℕ → Bool
unfolding path either
way es x y = either (eqb x y) (path es x y)

-- The given u ≤ v as edges,
unfoldable pub les_of : List Fact → List Edge
les_of [] = []
les_of (le u v ∷ fs) = edge u v ∷ les_of fs
les_of (by a u v ∷ fs) = les_of fs
les_of (sf u a b ∷ fs) = les_of fs

-- and the given u ≤ v and u S_A v together: what is so at u by an `sf` is so at v (rules 4 and 5).
unfoldable pub links_of : List Fact → List Edge
links_of [] = []
links_of (le u v ∷ fs) = edge u v ∷ links_of fs
links_of (by a u v ∷ fs) = edge u v ∷ links_of fs
links_of (sf u a b ∷ fs) = links_of fs

-- What leads up from world to world: the given u ≤ v, and with unit the given u S_A v too (rule 10).
unfoldable pub ups_of : Logic → List Fact → List Edge
unfolding les_of links_of
ups_of plain fs = les_of fs
ups_of unit fs = links_of fs

abbrev pub add_if : Bool → Edge → List Edge → List Edge
add_if true e es = e ∷ es
add_if false e es = es

-- The A sf B given at worlds from which links lead to u, as edges from A to B.
unfoldable pub pairs_at : List Edge → ℕ → List Fact → List Edge
unfolding way
pairs_at links u [] = []
pairs_at links u (le x v ∷ fs) = pairs_at links u fs
pairs_at links u (by a x v ∷ fs) = pairs_at links u fs
pairs_at links u (sf x a b ∷ fs) = add_if (way links x u) (edge a b) (pairs_at links u fs)

-- Some x S_B w is given, to which links lead from u, with x: A sf B, and z is w or stands above it by what leads up.
unfoldable pub reaches : List Fact → List Edge → List Edge → ℕ → ℕ → ℕ → List Fact → Bool
unfolding way pairs_at both either
reaches all links les a u z [] = false
reaches all links les a u z (le x v ∷ fs) = reaches all links les a u z fs
reaches all links les a u z (by b x w ∷ fs) =
    either (both (way links u x) (both (way (pairs_at links x all) a b) (way les w z))) (reaches all links les a u z fs)
reaches all links les a u z (sf x b c ∷ fs) = reaches all links les a u z fs

-- Which of the given facts are about the worlds and principals that there are?
unfoldable pub is_named : Sheet → Fact → Bool
unfolding both
is_named s (le u v) = both (ltb u s.worlds) (ltb v s.worlds)
is_named s (by a u v) = both (ltb a s.principals) (both (ltb u s.worlds) (ltb v s.worlds))
is_named s (sf u a b) = both (ltb u s.worlds) (both (ltb a s.principals) (ltb b s.principals))

abbrev pub keep_if : Bool → Fact → List Fact → List Fact
keep_if true f fs = f ∷ fs
keep_if false f fs = fs

unfoldable pub named : Sheet → List Fact → List Fact
unfolding is_named
named s [] = []
named s (f ∷ fs) = keep_if (is_named s f) f (named s fs)

-- Does the fact follow from such facts?
unfoldable pub follows : Sheet → List Fact → Fact → Bool
unfolding path ups_of links_of pairs_at reaches both either
follows s fs (le u v) = either (both (eqb u v) (ltb u s.worlds)) (path (ups_of s.logic fs) u v)
follows s fs (sf u a b) =
    either (both (eqb a b) (both (ltb u s.worlds) (ltb a s.principals))) (path (pairs_at (links_of fs) u fs) a b)
follows s fs (by a u z) = reaches fs (links_of fs) (ups_of s.logic fs) a u z fs

-- For a sheet and the given facts: is the fact one of the closed ones?
unfoldable pub holds : Sheet → List Fact → Fact → Bool
unfolding follows named
holds s fs f = follows s (named s fs) f

abbrev sheet : ℕ → ℕ → Sheet
sheet n k = record { worlds = n; principals = k; logic = plain }

-- P1's sixth step needs 0 S_1 1, and has it of 0 S_0 1 and 0: 1 sf 0 by rule 2.
p1_seen : holds (sheet 2 2) (by 0 0 1 ∷ sf 0 1 0 ∷ []) (by 1 0 1) ≡ true
unfolding holds
p1_seen = refl

-- P2 has 0: 0 sf 1 instead, from which it does not follow.
p2_unseen : holds (sheet 2 2) (by 0 0 1 ∷ sf 0 0 1 ∷ []) (by 1 0 1) ≡ false
unfolding holds
p2_unseen = refl

-- 0 ≤ 1 with 1 S_0 2 gives 0 S_0 2 by rule 6, and so does 0 S_0 1 with 1 ≤ 2.
le_by_seen : holds (sheet 3 1) (by 0 1 2 ∷ le 0 1 ∷ []) (by 0 0 2) ≡ true
unfolding holds
le_by_seen = refl

by_le_seen : holds (sheet 3 1) (le 1 2 ∷ by 0 0 1 ∷ []) (by 0 0 2) ≡ true
unfolding holds
by_le_seen = refl

-- From 0 ≤ 1 and 0 S_0 2 follows nothing of 1, and from 1 ≤ 2 and 0 S_0 2 nothing of 1; and ≤ is no S, nor S ≤.
unseen :
    holds (sheet 3 1) (by 0 0 2 ∷ le 0 1 ∷ []) (by 0 1 2) ∷
    holds (sheet 3 1) (le 1 2 ∷ by 0 0 2 ∷ []) (by 0 0 1) ∷
    holds (sheet 2 1) (le 0 1 ∷ []) (by 0 0 1) ∷
    holds (sheet 2 1) (by 0 0 1 ∷ []) (le 0 1) ∷
    []
    ≡ false ∷ false ∷ false ∷ false ∷ []
unfolding holds
unseen = refl

-- With unit S is ≤, and what it leads to is seen by whoever saw its beginning; but not the other way round, and ≤ is still no S.
abbrev unit_sheet : ℕ → ℕ → Sheet
unit_sheet n k = record { worlds = n; principals = k; logic = unit }

unit_seen :
    holds (unit_sheet 2 1) (by 0 0 1 ∷ []) (le 0 1) ∷
    holds (unit_sheet 3 2) (by 1 1 2 ∷ by 0 0 1 ∷ []) (le 0 2) ∷
    holds (unit_sheet 3 2) (by 1 1 2 ∷ by 0 0 1 ∷ []) (by 0 0 2) ∷
    holds (unit_sheet 2 1) (by 0 0 1 ∷ []) (le 1 0) ∷
    holds (unit_sheet 2 1) (le 0 1 ∷ []) (by 0 0 1) ∷
    holds (unit_sheet 3 2) (by 1 1 2 ∷ by 0 0 1 ∷ []) (by 0 1 2) ∷
    []
    ≡ true ∷ true ∷ true ∷ false ∷ false ∷ false ∷ []
unfolding holds
unit_seen = refl

plain_unseen : holds (sheet 3 2) (by 1 1 2 ∷ by 0 0 1 ∷ []) (by 0 0 2) ≡ false
unfolding holds
plain_unseen = refl

-- A fact about a world that there is not counts for nothing.
unnamed : holds (sheet 1 1) (by 0 0 5 ∷ []) (by 0 0 5) ≡ false
unfolding holds
unnamed = refl

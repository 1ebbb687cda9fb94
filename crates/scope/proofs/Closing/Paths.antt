-- What the tests of Held.antt say, as types: a test agrees with a type, and a path is a proof that can be taken apart.
use Rattle.std.specs.Prelude.{ℕ, ◌<◌, ◌≡◌, refl, Bool, true, false, List, [], ◌∷◌, ◌⊎◌, eqb, ltb}
use Rattle.std.proofs.Common.{inl, inr, ⊎_elim, eqb-true, eq-eqb, ltb-true, lt-ltb, arith}
use Rattle.scope.specs.Logic.Form.{both, either}
use Rattle.scope.specs.Logic.Held.{Edge, edge, path, way}

-- The test t computes whether A holds.
pub record Agrees (t : Bool) (A : Type 0) : Type 0 where
  pub sound : t ≡ true → A
  pub full : A → t ≡ true

pub untrue : false ≡ true → ⊥
untrue e = let z : ◌≡◌ {A = ℕ} 0 1 = cc in omega arith

pub agrees_as : {t : Bool} {A B : Type 0} → (A → B) → (B → A) → Agrees t A → Agrees t B
agrees_as f g r = record { sound = λ e. f (r.sound e); full = λ b. r.full (g b) }

pub agrees_none : {A : Type 0} → (A → ⊥) → Agrees false A
agrees_none f = record { sound = λ e. absurd (untrue e); full = λ a. absurd (f a) }

pub agrees_both : {s t : Bool} {A B : Type 0} → Agrees s A → Agrees t B → Agrees (both s t) (A × B)
unfolding both
agrees_both {s = true} p q = record { sound = λ e. (p.sound refl, q.sound e); full = λ c. q.full c.1 }
agrees_both {s = false} p q = record { sound = λ e. absurd (untrue e); full = λ c. p.full c.0 }

pub agrees_either : {s t : Bool} {A B : Type 0} → Agrees s A → Agrees t B → Agrees (either s t) (A ⊎ B)
unfolding either
agrees_either {s = true} p q = record { sound = λ e. inl (p.sound e); full = λ c. refl }
agrees_either {s = false} p q =
    record { sound = λ e. inr (q.sound e); full = ⊎_elim (λ a. absurd (untrue (p.full a))) (λ b. q.full b) }

pub agrees_eqb : (m n : ℕ) → Agrees (eqb m n) (m ≡ n)
agrees_eqb m n = record { sound = eqb-true m n; full = eq-eqb m n }

pub agrees_ltb : (m n : ℕ) → Agrees (ltb m n) (m < n)
agrees_ltb m n = record { sound = ltb-true m n; full = lt-ltb m n }

-- `path` and `way`, constructor for case.
mutual
  pub data Path : List Edge → ℕ → ℕ → Type 0 where
    older : {e : Edge} {es : List Edge} {x y : ℕ} → Path es x y → Path (e ∷ es) x y
    passing : {a b : ℕ} {es : List Edge} {x y : ℕ} → Way es x a → Way es b y → Path (edge a b ∷ es) x y

  pub data Way : List Edge → ℕ → ℕ → Type 0 where
    stay : {es : List Edge} {x : ℕ} → Way es x x
    go : {es : List Edge} {x y : ℕ} → Path es x y → Way es x y

way_if_path : (es : List Edge) (x y : ℕ) → Agrees (path es x y) (Path es x y) → Agrees (way es x y) (Way es x y)
unfolding way
way_if_path es x y r = agrees_as to from (agrees_either (agrees_eqb x y) r)
  where
    to : (x ≡ y) ⊎ Path es x y → Way es x y
    to (inl e) = rw e stay
    to (inr p) = go p

    from : {y : ℕ} → Way es x y → (x ≡ y) ⊎ Path es x y
    from stay = inl refl
    from (go p) = inr p

pub path_agrees : (es : List Edge) (x y : ℕ) → Agrees (path es x y) (Path es x y)
unfolding path way
path_agrees [] x y = agrees_none (λ p. elim p [ ])
path_agrees (edge a b ∷ es) x y =
    agrees_as to from
    (agrees_either (path_agrees es x y)
    (agrees_both (way_if_path es x a (path_agrees es x a)) (way_if_path es b y (path_agrees es b y))))
  where
    to : Path es x y ⊎ (Way es x a × Way es b y) → Path (edge a b ∷ es) x y
    to (inl p) = older p
    to (inr w) = passing w.0 w.1

    from : Path (edge a b ∷ es) x y → Path es x y ⊎ (Way es x a × Way es b y)
    from (older p) = inl p
    from (passing s t) = inr (s, t)

pub way_agrees : (es : List Edge) (x y : ℕ) → Agrees (way es x y) (Way es x y)
way_agrees es x y = way_if_path es x y (path_agrees es x y)

-- An edge is one of the list.
pub data On : Edge → List Edge → Type 0 where
  first : {e : Edge} {es : List Edge} → On e (e ∷ es)
  later : {e d : Edge} {es : List Edge} → On e es → On e (d ∷ es)

-- A relation that holds along every edge, and along two stretches if along each, holds along every path.
abbrev pub Transitive : (ℕ → ℕ → Type 0) → Type 0
Transitive R = (x y z : ℕ) → R x y → R y z → R x z

module _ (R : ℕ → ℕ → Type 0) (joined : Transitive R) where
  pub before : {es : List Edge} {x y z : ℕ} → ((u v : ℕ) → Path es u v → R u v) → Way es x y → R y z → R x z
  before f stay r = r
  before {x} {y} {z} f (go p) r = joined x y z (f x y p) r

  pub after : {es : List Edge} {x y z : ℕ} → ((u v : ℕ) → Path es u v → R u v) → R x y → Way es y z → R x z
  after f r stay = r
  after {x} {y} {z} f r (go p) = joined x y z r (f y z p)

  pub along : (es : List Edge) → ((a b : ℕ) → On (edge a b) es → R a b) → (x y : ℕ) → Path es x y → R x y
  along (edge a b ∷ es) on x y (older p) = along es (λ c d o. on c d (later o)) x y p
  along (edge a b ∷ es) on x y (passing s t) =
      let f = along es (λ c d o. on c d (later o)) in before f s (after f (on a b first) t)
  along [] on x y x4 = elim x4 [ ]

pub path_joined : (es : List Edge) → Transitive (Path es)
path_joined (edge a b ∷ es) x y z (older p) (older q) = older (path_joined es x y z p q)
path_joined (edge a b ∷ es) x y z (older p) (passing s t) = passing (go (after (Path es) (path_joined es) (λ u v r. r) p s)) t
path_joined (edge a b ∷ es) x y z (passing s t) (older q) = passing s (go (before (Path es) (path_joined es) (λ u v r. r) t q))
path_joined (edge a b ∷ es) x y z (passing s t) (passing r q) = passing s q
path_joined [] x y z x4 _ = elim x4 [ ]

pub way_joined : {es : List Edge} {x y z : ℕ} → Way es x y → Way es y z → Way es x z
way_joined stay w = w
way_joined (go {es = es} p) w = go (after (Path es) (path_joined es) (λ u v r. r) p w)

-- Each edge is a path.
pub one_edge : {a b : ℕ} {es : List Edge} → On (edge a b) es → Path es a b
one_edge first = passing stay stay
one_edge (later o) = older (one_edge o)

-- Document 01's section 'Facts at the worlds'.
use Rattle.std.specs.Prelude.{ℕ, suc, ◌<◌, ◌≡◌, Bool, true, false, List, ◌∷◌}

-- A sequent has facts u ≤ v, u S_A v and u: A sf B.
pub data Fact : Type 0 where
  le : ℕ → ℕ → Fact
  by : ℕ → ℕ → ℕ → Fact
  sf : ℕ → ℕ → ℕ → Fact

-- Document 02 l): `logic=plain` or `logic=unit`.
pub data Logic : Type 0 where
  plain unit : Logic

abbrev pub is_unit : Logic → Bool
is_unit plain = false
is_unit unit = true

-- What the rules are told of a sequent: how many worlds and how many principals there are, and the logic.
pub record Sheet : Type 0 where
  pub worlds : ℕ
  pub principals : ℕ
  pub logic : Logic

-- The same with one world more.
abbrev pub grown : Sheet → Sheet
grown s = record { worlds = suc s.worlds; principals = s.principals; logic = s.logic }

-- A set of facts H is closed under the nine rules, and with unit under the tenth.
pub record Rules (s : Sheet) (H : Fact → Type 0) : Type 0 where
  -- 1. u: A sf A for each world and principal
  pub rule1 : (u a : ℕ) → u < s.worlds → a < s.principals → H (sf u a a)
  -- 2. u S_B v with u: A sf B gives u S_A v
  pub rule2 : (u v a b : ℕ) → H (by b u v) → H (sf u a b) → H (by a u v)
  -- 3. u: A sf B with u: B sf C gives u: A sf C
  pub rule3 : (u a b c : ℕ) → H (sf u a b) → H (sf u b c) → H (sf u a c)
  -- 4. u S_C v with u: A sf B gives v: A sf B
  pub rule4 : (u v a b c : ℕ) → H (by c u v) → H (sf u a b) → H (sf v a b)
  -- 5. u ≤ v with u: A sf B gives v: A sf B
  pub rule5 : (u v a b : ℕ) → H (le u v) → H (sf u a b) → H (sf v a b)
  -- 6. u ≤ v, v S_A w and w ≤ z give u S_A z
  pub rule6 : (u v w z a : ℕ) → H (le u v) → H (by a v w) → H (le w z) → H (by a u z)
  -- 7. u ≤ u
  pub rule7 : (u : ℕ) → u < s.worlds → H (le u u)
  -- 8. u ≤ v with v ≤ w gives u ≤ w
  pub rule8 : (u v w : ℕ) → H (le u v) → H (le v w) → H (le u w)
  -- 9. u S_B v with v S_A w gives u S_A w
  pub rule9 : (u v w a b : ℕ) → H (by b u v) → H (by a v w) → H (by a u w)
  -- 10. with unit, u S_A v gives u ≤ v
  pub rule10 : (u v a : ℕ) → s.logic ≡ unit → H (by a u v) → H (le u v)

-- A list of facts as a base: a fact among them,
pub data Among : List Fact → Fact → Type 0 where
  here : {f : Fact} {fs : List Fact} → Among (f ∷ fs) f
  there : {f g : Fact} {fs : List Fact} → Among fs f → Among (g ∷ fs) f

-- about the worlds and principals that there are.
abbrev pub Named : Sheet → Fact → Type 0
Named s (le u v) = (u < s.worlds) × (v < s.worlds)
Named s (by a u v) = (a < s.principals) × (u < s.worlds) × (v < s.worlds)
Named s (sf u a b) = (u < s.worlds) × (a < s.principals) × (b < s.principals)

pub data Basis (s : Sheet) (fs : List Fact) (f : Fact) : Type 0 where
  basis : Among fs f → Named s f → Basis s fs f

-- The facts that follow from a base: the base's own, and what the rules give. They hold nothing else (least such set).
pub data Closed (s : Sheet) (base : Fact → Type 0) : Fact → Type 0 where
  given : {f : Fact} → base f → Closed s base f
  rule1 : {u a : ℕ} → u < s.worlds → a < s.principals → Closed s base (sf u a a)
  rule2 : {u v a b : ℕ} → Closed s base (by b u v) → Closed s base (sf u a b) → Closed s base (by a u v)
  rule3 : {u a b c : ℕ} → Closed s base (sf u a b) → Closed s base (sf u b c) → Closed s base (sf u a c)
  rule4 : {u v a b c : ℕ} → Closed s base (by c u v) → Closed s base (sf u a b) → Closed s base (sf v a b)
  rule5 : {u v a b : ℕ} → Closed s base (le u v) → Closed s base (sf u a b) → Closed s base (sf v a b)
  rule6 : {u v w z a : ℕ} → Closed s base (le u v) → Closed s base (by a v w) → Closed s base (le w z) → Closed s base (by a u z)
  rule7 : {u : ℕ} → u < s.worlds → Closed s base (le u u)
  rule8 : {u v w : ℕ} → Closed s base (le u v) → Closed s base (le v w) → Closed s base (le u w)
  rule9 : {u v w a b : ℕ} → Closed s base (by b u v) → Closed s base (by a v w) → Closed s base (by a u w)
  rule10 : {u v a : ℕ} → s.logic ≡ unit → Closed s base (by a u v) → Closed s base (le u v)

-- `Closed` is closed under the rules,
pub closed : (s : Sheet) (base : Fact → Type 0) → Rules s (Closed s base)
closed s base =
    record {
      rule1 = λ u a p q. rule1 p q;
      rule2 = λ u v a b p q. rule2 p q;
      rule3 = λ u a b c p q. rule3 p q;
      rule4 = λ u v a b c p q. rule4 p q;
      rule5 = λ u v a b p q. rule5 p q;
      rule6 = λ u v w z a p q r. rule6 p q r;
      rule7 = λ u p. rule7 p;
      rule8 = λ u v w p q. rule8 p q;
      rule9 = λ u v w a b p q. rule9 p q;
      rule10 = λ u v a e p. rule10 e p;
    }

-- and every set that is so and holds the base holds it whole: it is the least.
pub least : {s : Sheet} {base H : Fact → Type 0} {f : Fact} →
    Rules s H → ((g : Fact) → base g → H g) → Closed s base f → H f
least r b (given {f} p) = b f p
least r b (rule1 {u} {a} p q) = r.rule1 u a p q
least r b (rule2 {u} {v} {a} {b = c} p q) = r.rule2 u v a c (least r b p) (least r b q)
least r b (rule3 {u} {a} {b = c} {c = d} p q) = r.rule3 u a c d (least r b p) (least r b q)
least r b (rule4 {u} {v} {a} {b = d} {c} p q) = r.rule4 u v a d c (least r b p) (least r b q)
least r b (rule5 {u} {v} {a} {b = c} p q) = r.rule5 u v a c (least r b p) (least r b q)
least r b (rule6 {u} {v} {w} {z} {a} p q o) = r.rule6 u v w z a (least r b p) (least r b q) (least r b o)
least r b (rule7 {u} p) = r.rule7 u p
least r b (rule8 {u} {v} {w} p q) = r.rule8 u v w (least r b p) (least r b q)
least r b (rule9 {u} {v} {w} {a} {b = c} p q) = r.rule9 u v w a c (least r b p) (least r b q)
least r b (rule10 {u} {v} {a} e p) = r.rule10 u v a e (least r b p)

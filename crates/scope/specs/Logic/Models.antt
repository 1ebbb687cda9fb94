-- The finite ones among the Kripke models of Definition 1 of document 000, with any number of worlds, and satisfaction as its Definition 2 has it.
use Rattle.std.specs.Prelude.{ℕ, ◌<◌, ◌≡◌, Bool, true, List, [], ◌∷◌, ◌⊎◌}
use Rattle.scope.specs.Logic.Facts.{Logic, unit}
use Rattle.scope.specs.Logic.Form.{Form, atom, top, bot, and, or, imp, says, sf}

-- A model is a tuple (W, ≤, {S_A}, h, sf). The worlds are the numbers below `worlds`.
pub record Model : Type 0 where
  pub worlds : ℕ
  -- le x y: x ≤ y
  pub le : ℕ → ℕ → Bool
  -- acc A x y: x S_A y
  pub acc : ℕ → ℕ → ℕ → Bool
  -- h p x: x is in h(p)
  pub h : ℕ → ℕ → Bool
  -- speaks A B x: x is in sf(A, B)
  pub speaks : ℕ → ℕ → ℕ → Bool

-- x (≤ ∪ S_*)* y, where S_* is the union of S_A over the principals A below k
pub data Future (m : Model) (k : ℕ) : ℕ → ℕ → Type 0 where
  same : {x : ℕ} → Future m k x x
  by_le : {x y z : ℕ} → y < m.worlds → m.le x y ≡ true → Future m k y z → Future m k x z
  by_acc : {x y z : ℕ} (a : ℕ) → a < k → y < m.worlds → m.acc a x y ≡ true → Future m k y z → Future m k x z

-- The frame conditions, for k principals and n atoms.
pub record Frame (k n : ℕ) (m : Model) : Type 0 where
  -- ∀x. x ≤ x
  pub refl_le : (x : ℕ) → x < m.worlds → m.le x x ≡ true
  -- x ≤ y and y ≤ z give x ≤ z
  pub trans_le : (x y z : ℕ) → x < m.worlds → y < m.worlds → z < m.worlds →
      m.le x y ≡ true → m.le y z ≡ true → m.le x z ≡ true
  -- (mon-S) x ≤ y and y S_A z give x S_A z
  pub mon_S : (a x y z : ℕ) → a < k → x < m.worlds → y < m.worlds → z < m.worlds →
      m.le x y ≡ true → m.acc a y z ≡ true → m.acc a x z ≡ true
  -- (I) x S_B y and y S_A z give x S_A z
  pub I : (a b x y z : ℕ) → a < k → b < k → x < m.worlds → y < m.worlds → z < m.worlds →
      m.acc b x y ≡ true → m.acc a y z ≡ true → m.acc a x z ≡ true
  -- (basic-sf) if w is in sf(A, B), then for all w', w S_B w' implies w S_A w'
  pub basic_sf : (a b w v : ℕ) → a < k → b < k → w < m.worlds → v < m.worlds →
      m.speaks a b w ≡ true → m.acc b w v ≡ true → m.acc a w v ≡ true
  -- (refl-sf) for all A and w, w is in sf(A, A)
  pub refl_sf : (a w : ℕ) → a < k → w < m.worlds → m.speaks a a w ≡ true
  -- (trans-sf) if w is in sf(A, B) and in sf(B, C), then w is in sf(A, C)
  pub trans_sf : (a b c w : ℕ) → a < k → b < k → c < k → w < m.worlds →
      m.speaks a b w ≡ true → m.speaks b c w ≡ true → m.speaks a c w ≡ true
  -- (mon) if x is in h(p) and x ≤ y, then y is in h(p)
  pub mon : (p x y : ℕ) → p < n → x < m.worlds → y < m.worlds → m.h p x ≡ true → m.le x y ≡ true → m.h p y ≡ true
  -- (mon-sf) if x (≤ ∪ S_*)* y and x is in sf(A, B), then y is in sf(A, B)
  pub mon_sf : (a b x y : ℕ) → a < k → b < k → x < m.worlds → y < m.worlds →
      Future m k x y → m.speaks a b x ≡ true → m.speaks a b y ≡ true

-- (unit) x S_A y gives x ≤ y: the condition of document 004, for k principals.
abbrev pub Within : ℕ → Model → Type 0
Within k m = (a x y : ℕ) → a < k → x < m.worlds → y < m.worlds → m.acc a x y ≡ true → m.le x y ≡ true

-- The models of a logic: those of Definition 1, and with unit those of them that meet the condition.
pub record ModelOf (l : Logic) (k n : ℕ) (m : Model) : Type 0 where
  pub frame : Frame k n m
  pub within : l ≡ unit → Within k m

-- Sat m w f: the world w satisfies the formula f in the model m.
unfoldable pub Sat : Model → ℕ → Form → Type 0
Sat m w (atom p) = m.h p w ≡ true
Sat m w top = Unit
Sat m w bot = ⊥
Sat m w (and f g) = Sat m w f × Sat m w g
Sat m w (or f g) = Sat m w f ⊎ Sat m w g
Sat m w (imp f g) = (v : ℕ) → v < m.worlds → m.le w v ≡ true → Sat m v f → Sat m v g
Sat m w (says a f) = (v : ℕ) → v < m.worlds → m.acc a w v ≡ true → Sat m v f
Sat m w (sf a b) = m.speaks a b w ≡ true

-- Every formula of a list holds at w.
unfoldable pub SatAll : Model → ℕ → List Form → Type 0
unfolding Sat
SatAll m w [] = Unit
SatAll m w (f ∷ fs) = Sat m w f × SatAll m w fs

-- In every model of the logic over k principals and n atoms, at each world where every formula of the policy holds, the goal holds.
unfoldable pub Entailed : Logic → ℕ → ℕ → List Form → Form → Type 0
unfolding Sat SatAll
Entailed l k n policy goal = (m : Model) → ModelOf l k n m → (w : ℕ) → w < m.worlds → SatAll m w policy → Sat m w goal

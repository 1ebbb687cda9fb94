-- The rows of formulas and the trees that they mean. `tree_row` : a formula is made of its own row and the formulas before it. `Means` says
-- so of one row with its operands' own trees, `by_means` goes by its eight kinds, and `Reading` is all that the walk asks of a form table.
use Rattle.std.specs.Prelude.{ℕ, zero, suc, ◌+◌, ◌<◌, ◌≤◌, ◌≡◌, Bool, List, [], ◌∷◌, ◌++◌, length, get_or, take}
use Rattle.std.proofs.Common.{sym, ◌∙◌, append_assoc, append-nil, arith, add-zero, zero-add, length-append}
use Rattle.std.proofs.Math.Seq.{take-append_seam, get_or-append_seam}
use Rattle.scope.specs.Limits.{most_principals}
use Rattle.scope.specs.Logic.Facts.{Logic, is_unit}
use Rattle.scope.specs.Logic.Form.{Form, atom, top, bot, and, or, imp, says, sf}
use Rattle.scope.specs.File.Request.{Row, row_form, forms_after, formula}
use Rattle.common.specs.Rows.{row_at}

-- The row (kind, left, right) means a tree, where its operands are among F formulas and k principals.
pub data Means (k F : ℕ) (tree : ℕ → Form) : ℕ → ℕ → ℕ → Form → Type 0 where
  means_atom : {p r : ℕ} → Means k F tree 0 p r (atom p)
  means_top : {l r : ℕ} → Means k F tree 1 l r top
  means_bot : {l r : ℕ} → Means k F tree 2 l r bot
  means_and : {f g : ℕ} → f < F → g < F → Means k F tree 3 f g (and (tree f) (tree g))
  means_or : {f g : ℕ} → f < F → g < F → Means k F tree 4 f g (or (tree f) (tree g))
  means_imp : {f g : ℕ} → f < F → g < F → Means k F tree 5 f g (imp (tree f) (tree g))
  means_says : {a g : ℕ} → a < k → g < F → Means k F tree 6 a g (says a (tree g))
  means_sf : {a b : ℕ} → a < k → b < k → Means k F tree 7 a b (sf a b)

-- What holds of each of the eight kinds holds of a row that means a tree.
pub by_means : {k F : ℕ} {tree : ℕ → Form} {kind l r : ℕ} {t : Form} (P : ℕ → ℕ → ℕ → Form → Type 0) →
    ((p r : ℕ) → P 0 p r (atom p)) →
    ((l r : ℕ) → P 1 l r top) →
    ((l r : ℕ) → P 2 l r bot) →
    ((f g : ℕ) → f < F → g < F → P 3 f g (and (tree f) (tree g))) →
    ((f g : ℕ) → f < F → g < F → P 4 f g (or (tree f) (tree g))) →
    ((f g : ℕ) → f < F → g < F → P 5 f g (imp (tree f) (tree g))) →
    ((a g : ℕ) → a < k → g < F → P 6 a g (says a (tree g))) →
    ((a b : ℕ) → a < k → b < k → P 7 a b (sf a b)) →
    Means k F tree kind l r t → P kind l r t
by_means P a b c d e f g h (means_atom {p} {r}) = a p r
by_means P a b c d e f g h (means_top {l} {r}) = b l r
by_means P a b c d e f g h (means_bot {l} {r}) = c l r
by_means P a b c d e f g h (means_and {f = i} {g = j} p q) = d i j p q
by_means P a b c d e f g h (means_or {f = i} {g = j} p q) = e i j p q
by_means P a b c d e f g h (means_imp {f = i} {g = j} p q) = f i j p q
by_means P a b c d e f g h (means_says {a = i} {g = j} p q) = g i j p q
by_means P a b c d e f g h (means_sf {a = i} {b = j} p q) = h i j p q

-- The logic, a form table, the principals and formulas that it counts, and the tree of each formula number.
pub record Reading : Type 0 where
  pub logic : Logic
  pub table : List ℕ
  pub principals : ℕ
  pub formulas : ℕ
  pub tree : ℕ → Form
  pub few : principals ≤ most_principals
  pub means : (f : ℕ) → f < formulas →
      Means principals formulas tree (row_at table f).kind (row_at table f).left (row_at table f).right (tree f)

abbrev pub unit_of : Reading → Bool
unit_of T = is_unit T.logic

-- The formulas of rows stand behind those before them,
extends : (fs : List Form) (rs : List Row) → (more : List Form) × (forms_after fs rs ≡ fs ++ more)
unfolding forms_after
extends fs [] = ([], sym (append-nil fs))
extends fs (r ∷ rs) =
    let m = extends (fs ++ (row_form fs r ∷ [])) rs in
    (row_form fs r ∷ m.0, m.1 ∙ append_assoc fs (row_form fs r ∷ []) m.0)

-- and each is made of its own row and the formulas before it.
row_made : (fs : List Form) (rs : List Row) (j : ℕ) (d : Row) → j < length rs →
    get_or (forms_after fs rs) (length fs + j) top ≡ row_form (take (length fs + j) (forms_after fs rs)) (get_or rs j d)
unfolding forms_after
row_made fs [] j d h = absurd (omega arith)
row_made fs (r ∷ rs) zero d h = go (extends (fs ++ (row_form fs r ∷ [])) rs)
  where
    all : List Form
    all = forms_after (fs ++ (row_form fs r ∷ [])) rs

    go : (more : List Form) × (all ≡ (fs ++ (row_form fs r ∷ [])) ++ more) →
        get_or all (length fs + 0) top ≡ row_form (take (length fs + 0) all) r
    go m =
        rw (add-zero, m.1 ∙ append_assoc fs (row_form fs r ∷ []) m.0, take-append_seam fs (row_form fs r ∷ m.0))
        (get_or-append_seam fs (row_form fs r) m.0 top)
row_made fs (r ∷ rs) (suc j) d h =
    let e : length (fs ++ (row_form fs r ∷ [])) + j ≡ length fs + suc j = rw length-append (omega arith) in
    rw e at (row_made (fs ++ (row_form fs r ∷ [])) rs j d (omega arith))

-- Formula number i.
pub tree_row : (rs : List Row) (i : ℕ) (d : Row) → i < length rs →
    formula rs i ≡ row_form (take i (forms_after [] rs)) (get_or rs i d)
unfolding formula
tree_row rs i d h = rw zero-add at (row_made [] rs i d h)

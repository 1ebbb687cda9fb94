-- What a request says: the counts, the rows of numbers that its lines give, and the formulas that the rows mean.
use Rattle.std.specs.Prelude.{ℕ, List, [], ◌∷◌, ◌++◌, Bool, get_or}
use Rattle.scope.specs.Logic.Facts.{Logic}
use Rattle.scope.specs.Logic.Form.{Form, atom, top, bot, and, or, imp, says, sf, is_goal, is_policy}

-- A `form=` or `step=` line by its numbers: the kind, then its operands, 0 where the kind lacks one. A step's second operand is 0.
pub record Row : Type 0 where
  pub kind : ℕ
  pub left : ℕ
  pub right : ℕ

-- The request that a text or lent tables give. Its formulas, policy lines and steps are numbered by their places in the lists, from 0.
pub record Request : Type 0 where
  pub version : ℕ
  pub logic : Logic
  pub principals : ℕ
  pub atoms : ℕ
  pub forms : List Row
  pub policy : List ℕ
  pub goal : ℕ
  pub steps : List Row

-- Kinds are numbered 0 to 7: p, top, bot, and, or, imp, says, sf. An operand that is a formula number means that earlier formula.
unfoldable pub row_form : List Form → Row → Form
row_form fs r =
    get_or
    (atom r.left ∷
    top ∷
    bot ∷
    and (get_or fs r.left top) (get_or fs r.right top) ∷
    or (get_or fs r.left top) (get_or fs r.right top) ∷
    imp (get_or fs r.left top) (get_or fs r.right top) ∷
    says r.left (get_or fs r.right top) ∷
    sf r.left r.right ∷
    [])
    r.kind
    top

-- The formulas of the rows, behind the formulas fs of the rows before them.
unfoldable pub forms_after : List Form → List Row → List Form
unfolding row_form
forms_after fs [] = fs
forms_after fs (r ∷ rs) = forms_after (fs ++ (row_form fs r ∷ [])) rs

-- Formula number i.
unfoldable pub formula : List Row → ℕ → Form
unfolding forms_after
formula rs i = get_or (forms_after [] rs) i top

unfoldable pub goal_class : List Row → ℕ → Bool
unfolding formula is_goal
goal_class rs i = is_goal (formula rs i)

unfoldable pub policy_class : List Row → ℕ → Bool
unfolding formula is_policy
policy_class rs i = is_policy (formula rs i)

-- 'Which formulas may stand where': the classes of a formula.
use Rattle.std.specs.Prelude.{ℕ, ◌-◌, min, List, [], ◌∷◌, ◌++◌, map, Bool, true, false, length, get_or, replicate}
use Rattle.scope.specs.Logic.Form.{Form, both, is_goal, is_clause, is_chunk, is_policy}
use Rattle.scope.specs.File.Request.{forms_after}
use Rattle.scope.specs.Call.Tables.{form_entry, unpack}
use Rattle.scope.specs.Limits.{most_formulas}
use Rattle.classes.specs.declared.Class.{Class}

-- The classes of a formula.
unfoldable pub class_of : Form → Class
class_of f = record { goal = is_goal f; policy = is_policy f; clause = is_clause f; chunk = is_chunk f }

-- What stands where no formula does.
abbrev pub no_class : Class
no_class = record { goal = false; policy = false; clause = false; chunk = false }

-- The classes of `top`.
abbrev pub all_classes : Class
all_classes = record { goal = true; policy = true; clause = true; chunk = true }

abbrev pub bot_class : Class
bot_class = record { goal = true; policy = false; clause = false; chunk = true }

abbrev pub sf_class : Class
sf_class = record { goal = true; policy = true; clause = false; chunk = true }

-- The classes of the first formulas of a table, at most as many as a table holds, then no classes.
unfoldable pub class_table : List ℕ → ℕ → List Class
class_table t n =
    let cs = map class_of (forms_after [] (unpack form_entry (min n most_formulas) t)) in
    cs ++ replicate (most_formulas - length cs) no_class

-- A class asked of a formula's classes.
abbrev pub goal_in : Class → Bool
goal_in c = c.goal

abbrev pub policy_in : Class → Bool
policy_in c = c.policy

abbrev pub clause_in : Class → Bool
clause_in c = c.clause

abbrev pub chunk_in : Class → Bool
chunk_in c = c.chunk

-- The classes of a formula from those of its parts.
unfoldable pub and_class : Class → Class → Class
unfolding both
and_class l r =
    record { goal = both l.goal r.goal; policy = both l.clause r.clause; clause = both l.clause r.clause; chunk = both l.chunk r.chunk }

unfoldable pub or_class : Class → Class → Class
unfolding both
or_class l r = record { goal = both l.goal r.goal; policy = false; clause = false; chunk = both l.chunk r.chunk }

unfoldable pub imp_class : Class → Class → Class
unfolding both
imp_class l r =
    record { goal = both l.chunk r.goal; policy = both l.goal r.clause; clause = both l.goal r.clause; chunk = both l.goal r.clause }

unfoldable pub says_class : Class → Class
says_class r = record { goal = r.goal; policy = r.clause; clause = r.clause; chunk = r.clause }

-- p, top, bot, and, or, imp, says, sf; an unknown kind means top.
unfoldable pub row_class : ℕ → Class → Class → Class
row_class kind l r =
    get_or
    (all_classes ∷
    all_classes ∷
    bot_class ∷
    and_class l r ∷
    or_class l r ∷
    imp_class l r ∷
    says_class r ∷
    sf_class ∷
    [])
    kind
    all_classes

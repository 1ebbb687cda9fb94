-- What a class table says: each class is that of document 01, and a row's classes follow from those of its parts.
use Rattle.std.specs.Prelude.{ℕ, zero, suc, ◌-◌, ◌++◌, ◌≤◌, ◌<◌, ◌≡◌, refl, List, [], map, Bool, true, false, length, get_or, replicate}
use Rattle.std.proofs.Math.Nat.{min-eq_left}
use Rattle.std.proofs.Common.{arith, ap, sym, ◌∙◌}
use Rattle.std.proofs.lemmas.List.{length-map}
use Rattle.std.proofs.Math.ListN.{get_or-append, get_or-map}
use Rattle.scope.specs.Logic.Form.{Form, atom, top, bot, and, or, imp, says, sf, either, is_goal, is_clause, is_chunk, is_policy, is_sf}
use Rattle.scope.specs.File.Request.{row_form, forms_after, formula, goal_class, policy_class}
use Rattle.scope.specs.Call.Tables.{form_entry, unpack}
use Rattle.scope.specs.Limits.{most_formulas}
use Rattle.classes.specs.declared.Class.{Class}
use Rattle.classes.specs.Class.{no_class, all_classes, bot_class, sf_class, class_of, class_table, goal_in, policy_in, clause_in, chunk_in, and_class, or_class, imp_class, says_class, row_class}
use Rattle.classes.specs.Rows.{forms_length, unpack_length, get_d_any}

-- What four classes put together say of each.
pub record Says (c : Class) (goal policy clause chunk : Bool) : Type 0 where
  pub goals : goal_in c ≡ goal
  pub policies : policy_in c ≡ policy
  pub clauses : clause_in c ≡ clause
  pub chunks : chunk_in c ≡ chunk

pub flags_say : (goal policy clause chunk : Bool) →
    Says (record { goal = goal; policy = policy; clause = clause; chunk = chunk }) goal policy clause chunk
flags_say goal policy clause chunk = record { goals = refl; policies = refl; clauses = refl; chunks = refl }

pub class_says : (f : Form) → Says (class_of f) (is_goal f) (is_policy f) (is_clause f) (is_chunk f)
unfolding class_of
class_says f = flags_say (is_goal f) (is_policy f) (is_clause f) (is_chunk f)

-- A clause is a policy line, and `and`, `imp` and `says` are no `sf`.
either_false : (b : Bool) → either b false ≡ b
unfolding either
either_false true = refl
either_false false = refl

and_class_lem : (f g : Form) → class_of (and f g) ≡ and_class (class_of f) (class_of g)
unfolding and_class class_of is_policy is_sf is_goal is_clause is_chunk
and_class_lem f g = simp either_false

or_class_lem : (f g : Form) → class_of (or f g) ≡ or_class (class_of f) (class_of g)
unfolding or_class class_of is_policy is_sf is_goal is_clause is_chunk either
or_class_lem f g = refl

imp_class_lem : (f g : Form) → class_of (imp f g) ≡ imp_class (class_of f) (class_of g)
unfolding imp_class class_of is_policy is_sf is_goal is_clause is_chunk
imp_class_lem f g = simp either_false

says_class_lem : (a : ℕ) (f : Form) → class_of (says a f) ≡ says_class (class_of f)
unfolding says_class class_of is_policy is_sf is_goal is_clause is_chunk
says_class_lem a f = simp either_false

plain_classes : (p a b : ℕ) →
    (class_of (atom p) ≡ all_classes) × (class_of top ≡ all_classes) × (class_of bot ≡ bot_class) × (class_of (sf a b) ≡ sf_class)
unfolding class_of is_policy is_sf is_goal is_clause is_chunk either
plain_classes p a b = (refl, refl, refl, refl)

part_class : (fs : List Form) (i : ℕ) → get_or (map class_of fs) i all_classes ≡ class_of (get_or fs i top)
part_class fs i = ap (λ (d : Class). get_or (map class_of fs) i d) (sym (plain_classes 0 0 0).1) ∙ get_or-map class_of fs i top

-- The classes of a row's formula, from those of the formulas before it.
pub row_class_lem : (fs : List Form) (k l r : ℕ) →
    class_of (row_form fs record { kind = k; left = l; right = r }) ≡
    row_class k (get_or (map class_of fs) l all_classes) (get_or (map class_of fs) r all_classes)
unfolding row_form row_class
row_class_lem fs zero l r = (plain_classes l l r).0
row_class_lem fs (suc zero) l r = (plain_classes l l r).1
row_class_lem fs (suc (suc zero)) l r = (plain_classes l l r).2
row_class_lem fs (suc (suc (suc zero))) l r = rw (part_class fs l, part_class fs r) (and_class_lem (get_or fs l top) (get_or fs r top))
row_class_lem fs (suc (suc (suc (suc zero)))) l r = rw (part_class fs l, part_class fs r) (or_class_lem (get_or fs l top) (get_or fs r top))
row_class_lem fs (suc (suc (suc (suc (suc zero))))) l r = rw (part_class fs l, part_class fs r) (imp_class_lem (get_or fs l top) (get_or fs r top))
row_class_lem fs (suc (suc (suc (suc (suc (suc zero)))))) l r = rw (part_class fs r) (says_class_lem l (get_or fs r top))
row_class_lem fs (suc (suc (suc (suc (suc (suc (suc zero))))))) l r = (plain_classes l l r).3
row_class_lem fs (suc (suc (suc (suc (suc (suc (suc (suc k)))))))) l r = (plain_classes l l r).1

-- Entry i of a class table is the classes of formula i.
pub class_at : (t : List ℕ) (n i : ℕ) → n ≤ most_formulas → i < n →
    get_or (class_table t n) i no_class ≡ class_of (formula (unpack form_entry n t) i)
unfolding class_table formula
class_at t n i h k =
    let fs = forms_after [] (unpack form_entry n t) in
    let l : i < length (map class_of fs) = simp (length-map, forms_length, unpack_length) (omega arith) in
    let padded : List Class → List Class = λ cs. cs ++ replicate (most_formulas - length cs) no_class in
    ap (λ (m : ℕ). get_or (padded (map class_of (forms_after [] (unpack form_entry m t)))) i no_class) (min-eq_left h) ∙
    get_or-append (map class_of fs) (replicate (most_formulas - length (map class_of fs)) no_class) no_class i l ∙
    get_d_any (map class_of fs) i no_class (class_of top) l ∙
    get_or-map class_of fs i top

-- `goal` of entry i is whether formula i is a goal, `policy` whether it may be a policy line.
pub goal_at_lem : (t : List ℕ) (n i : ℕ) → n ≤ most_formulas → i < n →
    goal_in (get_or (class_table t n) i no_class) ≡ goal_class (unpack form_entry n t) i
unfolding goal_class
goal_at_lem t n i h k = rw (class_at t n i h k) (class_says (formula (unpack form_entry n t) i)).goals

pub policy_at : (t : List ℕ) (n i : ℕ) → n ≤ most_formulas → i < n →
    policy_in (get_or (class_table t n) i no_class) ≡ policy_class (unpack form_entry n t) i
unfolding policy_class
policy_at t n i h k = rw (class_at t n i h k) (class_says (formula (unpack form_entry n t) i)).policies

-- A kind of which nothing else is said has the classes of `top`.
pub other_class : (k : ℕ) (l r : Class) → (k ≡ 2 → ⊥) → (k ≡ 3 → ⊥) → (k ≡ 4 → ⊥) → (k ≡ 5 → ⊥) → (k ≡ 6 → ⊥) → (k ≡ 7 → ⊥) → all_classes ≡ row_class k l r
unfolding row_class
other_class zero l r n2 n3 n4 n5 n6 n7 = refl
other_class (suc zero) l r n2 n3 n4 n5 n6 n7 = refl
other_class (suc (suc zero)) l r n2 n3 n4 n5 n6 n7 = absurd (n2 refl)
other_class (suc (suc (suc zero))) l r n2 n3 n4 n5 n6 n7 = absurd (n3 refl)
other_class (suc (suc (suc (suc zero)))) l r n2 n3 n4 n5 n6 n7 = absurd (n4 refl)
other_class (suc (suc (suc (suc (suc zero))))) l r n2 n3 n4 n5 n6 n7 = absurd (n5 refl)
other_class (suc (suc (suc (suc (suc (suc zero)))))) l r n2 n3 n4 n5 n6 n7 = absurd (n6 refl)
other_class (suc (suc (suc (suc (suc (suc (suc zero))))))) l r n2 n3 n4 n5 n6 n7 = absurd (n7 refl)
other_class (suc (suc (suc (suc (suc (suc (suc (suc k)))))))) l r n2 n3 n4 n5 n6 n7 = refl

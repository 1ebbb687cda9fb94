-- The classes of a row by the name of its kind.
use Rattle.std.specs.Prelude.{ℕ, zero, suc, ◌≡◌, refl, Option, Some, None}
use Rattle.common.specs.declared.rows.FormKind.{FormKind}
use Rattle.common.specs.declared.rows.FormKind.TheVariants as kind
use Rattle.common.specs.Rows.{kind_of}
use Rattle.classes.specs.declared.Class.{Class}
use Rattle.classes.specs.Class.{all_classes, bot_class, sf_class, and_class, or_class, imp_class, says_class, row_class}

abbrev pub named_class : Option FormKind → Class → Class → Class
named_class None l r = all_classes
named_class (Some kind.Atom) l r = all_classes
named_class (Some kind.Top) l r = all_classes
named_class (Some kind.Bot) l r = bot_class
named_class (Some kind.And) l r = and_class l r
named_class (Some kind.Or) l r = or_class l r
named_class (Some kind.Imp) l r = imp_class l r
named_class (Some kind.Says) l r = says_class r
named_class (Some kind.Sf) l r = sf_class

named : (k : ℕ) (l r : Class) → row_class k l r ≡ named_class (kind_of k) l r
unfolding row_class kind_of
named zero l r = refl
named (suc zero) l r = refl
named (suc (suc zero)) l r = refl
named (suc (suc (suc zero))) l r = refl
named (suc (suc (suc (suc zero)))) l r = refl
named (suc (suc (suc (suc (suc zero))))) l r = refl
named (suc (suc (suc (suc (suc (suc zero)))))) l r = refl
named (suc (suc (suc (suc (suc (suc (suc zero))))))) l r = refl
named (suc (suc (suc (suc (suc (suc (suc (suc k)))))))) l r = refl

pub by_kind : (k : ℕ) (l r : Class) (o : Option FormKind) → o ≡ kind_of k → row_class k l r ≡ named_class o l r
by_kind k l r o e = rw e (named k l r)

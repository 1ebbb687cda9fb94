-- Sequents, obligations and the eighteen kinds of step.
use Rattle.std.specs.Prelude.{ℕ, List, [], ◌∷◌, ◌++◌, map, get_or}
use Rattle.scope.specs.Logic.Form as F
use Rattle.scope.specs.Logic.Form.{Form}
use Rattle.scope.specs.Logic.Facts.{Fact, sf, Logic, Sheet, grown}
use Rattle.scope.specs.File.Request.{Row}

-- A formula at a world.
pub record Lab : Type 0 where
  pub form : Form
  pub at : ℕ

-- The worlds are 0 to worlds - 1 and world 0 is the root. The facts are those that were given; the closed ones follow by the rules.
-- A clause's number is its place. The policy lines come first, an `sf` line among them, which is no clause to use.
pub record Sequent : Type 0 where
  pub sheet : Sheet
  pub facts : List Fact
  pub clauses : List Lab

-- What stands to be done: a goal, with no chunks and no focus; chunks, the latest on top, all at the goal's world;
-- or a focus on a part of a clause at a world, aiming at an atom at a world, with the subgoals met, the last met first.
pub data Phase : Type 0 where
  goal : Lab → Phase
  chunks : Form → List Form → Lab → Phase
  focus : Lab → ℕ → ℕ → List Lab → Phase

-- An obligation is a sequent with a labelled goal, perhaps with chunks, perhaps in focus on a clause.
pub record Obligation : Type 0 where
  pub sequent : Sequent
  pub phase : Phase

-- `use` takes a clause number, `to` a world number.
pub data Step : Type 0 where
  And Or1 Or2 Imp Says Top Sf : Step
  Use : ℕ → Step
  Left Right : Step
  To : ℕ → Step
  Hit Push Split Case Absurd Drop Note : Step

-- Kinds are numbered 0 to 17.
unfoldable pub step_of : Row → Step
step_of r =
    get_or
    (And ∷
    Or1 ∷
    Or2 ∷
    Imp ∷
    Says ∷
    Top ∷
    Sf ∷
    Use r.left ∷
    Left ∷
    Right ∷
    To r.left ∷
    Hit ∷
    Push ∷
    Split ∷
    Case ∷
    Absurd ∷
    Drop ∷
    Note ∷
    [])
    r.kind
    Note

-- Making labelled formulas, obligations and sequents.

abbrev pub lab : Form → ℕ → Lab
lab f u = record { form = f; at = u }

abbrev pub ob : Sequent → Phase → Obligation
ob s p = record { sequent = s; phase = p }

-- The obligation of a goal behind chunks that are still to be worked off.
abbrev pub behind : List Form → Lab → Phase
behind [] g = goal g
behind (c ∷ cs) g = chunks c cs g

-- A new world takes the sequent's next number; the fact that leads to it is given.
abbrev pub with_world : Sequent → Fact → Sequent
with_world s f =
    record {
      sheet = grown s.sheet;
      facts = f ∷ s.facts;
      clauses = s.clauses;
    }

abbrev pub with_fact : Sequent → Fact → Sequent
with_fact s f =
    record {
      sheet = s.sheet;
      facts = f ∷ s.facts;
      clauses = s.clauses;
    }

-- A pushed clause takes the sequent's next clause number.
abbrev pub with_clause : Sequent → Lab → Sequent
with_clause s l =
    record {
      sheet = s.sheet;
      facts = s.facts;
      clauses = s.clauses ++ (l ∷ []);
    }

-- An `sf` line is a fact at world 0.
abbrev pub fact_of : Form → List Fact → List Fact
fact_of (F.atom p) fs = fs
fact_of F.top fs = fs
fact_of F.bot fs = fs
fact_of (F.and f g) fs = fs
fact_of (F.or f g) fs = fs
fact_of (F.imp f g) fs = fs
fact_of (F.says a f) fs = fs
fact_of (F.sf a b) fs = sf 0 a b ∷ fs

unfoldable pub root_facts : List Form → List Fact
root_facts [] = []
root_facts (f ∷ fs) = fact_of f (root_facts fs)

-- The first obligation: world 0 is the root, and every policy line is labelled with it.
unfoldable pub start : Logic → ℕ → List Form → Form → Obligation
unfolding root_facts
start l k policy g =
    ob
    (record {
      sheet = record { worlds = 1; principals = k; logic = l };
      facts = root_facts policy;
      clauses = map (λ (f : Form). lab f 0) policy;
    })
    (goal (lab g 0))

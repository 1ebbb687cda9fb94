-- What requests that are alike begin with, part by part: that they begin with twins is proofs/Starts.
use Rattle.std.specs.Prelude.{ℕ, zero, suc, ◌<◌, ◌≡◌, refl, false, List, [], ◌∷◌, map, length, get_or}
use Rattle.std.proofs.Common.{sym, ap, ◌∙◌, arith}
use Rattle.std.proofs.Math.Option.{some}
use Rattle.std.proofs.Math.ListN.{get_elem?}
use Rattle.std.proofs.lemmas.List.{length-map}
use Rattle.scope.specs.Tools.Tests.{never}
use Rattle.scope.specs.Logic.Form as F
use Rattle.scope.specs.Logic.Form.{Form, top, is_sf}
use Rattle.scope.specs.Logic.Facts.{Fact, Logic}
use Rattle.scope.specs.File.Request.{Request, formula}
use Rattle.scope.specs.Logic.Obligation.{Lab, lab, fact_of, root_facts, start}
use Rattle.scope.specs.Call.Judge.{policy_of, steps_of}
use Rattle.unused.specs.Alike.{Used, policy_line, LineAlike, same, unused}
use Rattle.unused.specs.Twins.{Shared, Twins, none, twin}

-- A formula that is no `sf` gives no fact.
no_fact : (f : Form) (ks : List Fact) → is_sf f ≡ false → fact_of f ks ≡ ks
unfolding is_sf
no_fact (F.atom p) ks e = refl
no_fact F.top ks e = refl
no_fact F.bot ks e = refl
no_fact (F.and f g) ks e = refl
no_fact (F.or f g) ks e = refl
no_fact (F.imp f g) ks e = refl
no_fact (F.says a f) ks e = refl
no_fact (F.sf a b) ks e = never cc

-- Lines that are alike give the same facts, and the same clause where one is used.
pub line_fact : (q r : Request) (i : ℕ) → LineAlike q r i → (ks : List Fact) → fact_of (policy_line q i) ks ≡ fact_of (policy_line r i) ks
line_fact q r i (same e) ks = rw e
line_fact q r i (unused m n u) ks = no_fact (policy_line q i) ks m ∙ sym (no_fact (policy_line r i) ks n)

pub line_used : {q r : Request} {i : ℕ} → LineAlike q r i → Used i (steps_of q) → policy_line q i ≡ policy_line r i
line_used (same e) v = e
line_used (unused m n u) v = absurd (u v)

-- The same over two lists of lines.
pub facts_same : (fs gs : List Form) → length fs ≡ length gs →
    ((i : ℕ) → i < length fs → (ks : List Fact) → fact_of (get_or fs i top) ks ≡ fact_of (get_or gs i top) ks) →
    root_facts fs ≡ root_facts gs
unfolding root_facts
facts_same [] [] e h = refl
facts_same [] (g ∷ gs) e h = absurd (omega arith)
facts_same (f ∷ fs) [] e h = absurd (omega arith)
facts_same (f ∷ fs) (g ∷ gs) e h =
    h 0 (omega arith) (root_facts fs) ∙ ap (fact_of g) (facts_same fs gs (omega arith) (λ i b. h (suc i) (omega arith)))

abbrev pub at_root : List Form → List Lab
at_root fs = map (λ (f : Form). lab f 0) fs

pub clause_same : (fs gs : List Form) (i : ℕ) → length fs ≡ length gs → (i < length fs → get_or fs i top ≡ get_or gs i top) →
    get_elem? (at_root fs) i ≡ get_elem? (at_root gs) i
clause_same [] [] i e h = refl
clause_same [] (g ∷ gs) i e h = absurd (omega arith)
clause_same (f ∷ fs) [] i e h = absurd (omega arith)
clause_same (f ∷ fs) (g ∷ gs) zero e h = ap (λ (k : Form). some (lab k 0)) (h (omega arith))
clause_same (f ∷ fs) (g ∷ gs) (suc i) e h = clause_same fs gs i (omega arith) (λ b. h (omega arith))

pub start_twins : (used : ℕ → Type 0) (l : Logic) (k : ℕ) (fs gs : List Form) (g : Form) → root_facts fs ≡ root_facts gs →
    Shared used (at_root fs) (at_root gs) → Twins used (start l k fs g ∷ []) (start l k gs g ∷ [])
unfolding start
start_twins used l k fs gs g e a = rw (← e) (twin a none)

pub policy_count : (q : Request) → length (policy_of q) ≡ length q.policy
unfolding policy_of
policy_count q = length-map q.policy (formula q.forms)

-- The models are not too few. A condition that Definition 1 of document 000 does not have would, if it were slipped into `ModelOf`, weaken
-- document 01's third demand unseen. Against each such condition a witness stands here: a model of plain or of unit that breaks the condition and
-- refutes a goal. What a witness shows is `Stands`; each is computed to pass its `tests`.
use Rattle.std.specs.Prelude.{ℕ, ◌≡◌, refl, Bool, true, false, List, [], ◌∷◌, map, eqb}
use Rattle.scope.specs.Logic.Form.{Form, atom, bot, or, imp, says, sf, both, either, negate}
use Rattle.scope.specs.Logic.Facts.{Logic, plain, unit}
use Rattle.scope.specs.File.Kinds.{same}
use Rattle.scope.specs.Logic.Obligation.{Obligation, Step, start}
use Rattle.scope.specs.Logic.Derivation.{Derivation}
use Rattle.scope.specs.Logic.Models.{Model, ModelOf, Entailed}
use Rattle.sound.specs.Over.{All}
use Rattle.sound.specs.Tests.{implies, every, alltrue}
use Rattle.sound.specs.Computed.{worlds, pairs, triples, frame, lawful, eval, eval_all}
use Rattle.sound.specs.Refuted.{refutes, over, over_all}
use Rattle.sound.specs.Unasked.{Condition, le_symmetric, le_identity, le_antisymmetric, le_total, le_rooted, acc_reflexive, acc_irreflexive, acc_symmetric, acc_within_le, le_within_acc, acc_carried_right, acc_alike, acc_serial, acc_single, acc_dense, sf_by_within, sf_turned, sf_symmetric, sf_everywhere, h_everywhere, h_along_acc}
use Rattle.sound.specs.Cases.{policy2, model2, policy5, model5, policy7, model7}

-- A model by lists: x ≤ y, x S_A y as A x y, x in h(p) as p x, x in sf(A, B) as A B x. x ≤ x and sf(A, A) need not be listed.
unfoldable pub listed : List (List ℕ) → List ℕ → Bool
listed [] r = false
listed (s ∷ ss) r = either (same s r) (listed ss r)

abbrev pub model_of : ℕ → List (List ℕ) → List (List ℕ) → List (List ℕ) → List (List ℕ) → Model
model_of count les accs hs sfs =
    record {
      worlds = count;
      le = λ x y. either (eqb x y) (listed les (x ∷ y ∷ []));
      acc = λ a x y. listed accs (a ∷ x ∷ y ∷ []);
      h = λ p x. listed hs (p ∷ x ∷ []);
      speaks = λ a b x. either (eqb a b) (listed sfs (a ∷ b ∷ x ∷ []));
    }

-- At world 0 of the model the policy holds and the goal does not; and the model breaks these conditions.
pub record Witness : Type 0 where
  pub logic : Logic
  pub principals : ℕ
  pub atoms : ℕ
  pub model : Model
  pub policy : List Form
  pub goal : Form
  pub breaks : List Condition

unfoldable pub witnesses : List Witness
witnesses =
    -- p0 is settled later: 0 ≤ 1, 0 S_0 1, p0 at 1; goal p0 or (p0 imp bot)
    record {
      logic = plain;
      principals = 1;
      atoms = 1;
      model = model_of 2 ((0 ∷ 1 ∷ []) ∷ []) ((0 ∷ 0 ∷ 1 ∷ []) ∷ []) ((0 ∷ 1 ∷ []) ∷ []) [];
      policy = [];
      goal = or (atom 0) (imp (atom 0) bot);
      breaks = le_symmetric ∷ le_identity ∷ h_everywhere ∷ [];
    } ∷
    -- and so is 0 sf 1: 0 ≤ 1, 0 sf 1 at 1; goal (0 sf 1) or ((0 sf 1) imp bot)
    record {
      logic = plain;
      principals = 2;
      atoms = 1;
      model = model_of 2 ((0 ∷ 1 ∷ []) ∷ []) [] [] ((0 ∷ 1 ∷ 1 ∷ []) ∷ []);
      policy = [];
      goal = or (sf 0 1) (imp (sf 0 1) bot);
      breaks = sf_everywhere ∷ le_symmetric ∷ le_identity ∷ [];
    } ∷
    -- two ways up: 0 ≤ 1 with p0, 0 ≤ 2 with p1; goal (p0 imp p1) or (p1 imp p0)
    record {
      logic = plain;
      principals = 1;
      atoms = 2;
      model = model_of 3 ((0 ∷ 1 ∷ []) ∷ (0 ∷ 2 ∷ []) ∷ []) [] ((0 ∷ 1 ∷ []) ∷ (1 ∷ 2 ∷ []) ∷ []) [];
      policy = [];
      goal = or (imp (atom 0) (atom 1)) (imp (atom 1) (atom 0));
      breaks = le_total ∷ le_within_acc ∷ [];
    } ∷
    -- two worlds below each other; goal p0
    record {
      logic = plain;
      principals = 1;
      atoms = 1;
      model = model_of 2 ((0 ∷ 1 ∷ []) ∷ (1 ∷ 0 ∷ []) ∷ []) [] [] [];
      policy = [];
      goal = atom 0;
      breaks = le_antisymmetric ∷ [];
    } ∷
    -- S_0 leads nowhere; policy 0 says p0, goal p0
    record {
      logic = plain;
      principals = 1;
      atoms = 1;
      model = model_of 1 [] [] [] [];
      policy = says 0 (atom 0) ∷ [];
      goal = atom 0;
      breaks = acc_reflexive ∷ acc_serial ∷ le_within_acc ∷ [];
    } ∷
    -- P5: policy p0, goal 0 says p0
    record {
      logic = plain;
      principals = 1;
      atoms = 1;
      model = model5;
      policy = policy5;
      goal = says 0 (atom 0);
      breaks = acc_within_le ∷ h_along_acc ∷ h_everywhere ∷ acc_symmetric ∷ acc_reflexive ∷ le_rooted ∷ [];
    } ∷
    -- 0 S_0 1 and no further; policy 0 says 0 says p0, goal 0 says p0
    record {
      logic = plain;
      principals = 1;
      atoms = 1;
      model = model_of 2 [] ((0 ∷ 0 ∷ 1 ∷ []) ∷ []) [] [];
      policy = says 0 (says 0 (atom 0)) ∷ [];
      goal = says 0 (atom 0);
      breaks = acc_dense ∷ acc_symmetric ∷ [];
    } ∷
    -- 0 S_0 1 and 1 ≤ 2 with p0, and not 0 S_0 2; goal 0 says (p0 or (p0 imp bot))
    record {
      logic = plain;
      principals = 1;
      atoms = 1;
      model = model_of 3 ((1 ∷ 2 ∷ []) ∷ []) ((0 ∷ 0 ∷ 1 ∷ []) ∷ []) ((0 ∷ 2 ∷ []) ∷ []) [];
      policy = [];
      goal = says 0 (or (atom 0) (imp (atom 0) bot));
      breaks = acc_carried_right ∷ le_rooted ∷ [];
    } ∷
    -- 0 S_0 1 with p0 and 0 S_0 2; goal (0 says p0) or (0 says (p0 imp bot))
    record {
      logic = plain;
      principals = 1;
      atoms = 1;
      model = model_of 3 [] ((0 ∷ 0 ∷ 1 ∷ []) ∷ (0 ∷ 0 ∷ 2 ∷ []) ∷ []) ((0 ∷ 1 ∷ []) ∷ []) [];
      policy = [];
      goal = or (says 0 (atom 0)) (says 0 (imp (atom 0) bot));
      breaks = acc_single ∷ [];
    } ∷
    -- P7: policy 1 says 0 says p0, goal 0 says p0
    record {
      logic = plain;
      principals = 2;
      atoms = 1;
      model = model7;
      policy = policy7;
      goal = says 0 (atom 0);
      breaks = acc_alike ∷ acc_irreflexive ∷ [];
    } ∷
    -- P2: policy (0 says p0) imp p0, 0 sf 1 and 1 says p0, goal p0
    record {
      logic = plain;
      principals = 2;
      atoms = 1;
      model = model2;
      policy = policy2;
      goal = atom 0;
      breaks = sf_turned ∷ sf_symmetric ∷ acc_alike ∷ [];
    } ∷
    -- S_0 and S_1 lead nowhere; goal 0 sf 1
    record {
      logic = plain;
      principals = 2;
      atoms = 1;
      model = model_of 1 [] [] [] [];
      policy = [];
      goal = sf 0 1;
      breaks = sf_by_within ∷ [];
    } ∷
    -- 0 sf 1 alone; policy 0 sf 1, goal 1 sf 0
    record {
      logic = plain;
      principals = 2;
      atoms = 1;
      model = model_of 1 [] [] [] ((0 ∷ 1 ∷ 0 ∷ []) ∷ []);
      policy = sf 0 1 ∷ [];
      goal = sf 1 0;
      breaks = sf_symmetric ∷ sf_by_within ∷ [];
    } ∷
    -- with unit: 0 ≤ 1, 0 S_0 1, p0 at 1; policy 0 says p0, goal p0
    record {
      logic = unit;
      principals = 1;
      atoms = 1;
      model = model_of 2 ((0 ∷ 1 ∷ []) ∷ []) ((0 ∷ 0 ∷ 1 ∷ []) ∷ []) ((0 ∷ 1 ∷ []) ∷ []) [];
      policy = says 0 (atom 0) ∷ [];
      goal = atom 0;
      breaks = le_symmetric ∷ le_identity ∷ acc_reflexive ∷ acc_symmetric ∷ acc_dense ∷ h_everywhere ∷ [];
    } ∷
    -- with unit: 0 ≤ 1 and no S; goal p0 or ((0 says bot) imp bot)
    record {
      logic = unit;
      principals = 1;
      atoms = 1;
      model = model_of 2 ((0 ∷ 1 ∷ []) ∷ []) [] [] [];
      policy = [];
      goal = or (atom 0) (imp (says 0 bot) bot);
      breaks = le_within_acc ∷ acc_serial ∷ [];
    } ∷
    -- with unit: P7
    record {
      logic = unit;
      principals = 2;
      atoms = 1;
      model = model7;
      policy = policy7;
      goal = says 0 (atom 0);
      breaks = acc_alike ∷ acc_irreflexive ∷ [];
    } ∷
    -- with unit: P2
    record {
      logic = unit;
      principals = 2;
      atoms = 1;
      model = model2;
      policy = policy2;
      goal = atom 0;
      breaks = sf_turned ∷ sf_symmetric ∷ acc_alike ∷ [];
    } ∷
    []

-- What a witness shows.
pub record Stands (w : Witness) : Type 0 where
  -- its model is one of its logic,
  pub meets : ModelOf w.logic w.principals w.atoms w.model
  -- which breaks each of the conditions,
  pub broken : All (λ (c : Condition). c w.principals w.atoms w.model ≡ false) w.breaks
  -- its policy does not entail its goal,
  pub not_entailed : Entailed w.logic w.principals w.atoms w.policy w.goal → ⊥
  -- and no steps derive it, whatever the limits.
  pub not_derived : (room : ℕ → List Obligation → Bool) (xs : List Step) →
      Derivation room (start w.logic w.principals w.policy w.goal) xs → ⊥

unfoldable pub breaks_all : ℕ → ℕ → Model → List Condition → Bool
breaks_all k n m [] = true
breaks_all k n m (c ∷ cs) = both (negate (c k n m)) (breaks_all k n m cs)

unfoldable pub tests : Witness → List Bool
tests w =
    refutes w.logic w.principals w.atoms w.model 0 w.policy w.goal ∷
    breaks_all w.principals w.atoms w.model w.breaks ∷
    over_all w.principals w.atoms w.policy ∷
    over w.principals w.atoms w.goal ∷
    []

pub computed : alltrue (map (λ (w : Witness). alltrue (tests w)) witnesses) ≡ true
unfolding witnesses tests breaks_all refutes frame lawful eval eval_all over over_all alltrue implies every worlds pairs triples both either negate same listed model2 model5 model7 le_symmetric le_identity le_antisymmetric le_total le_rooted acc_reflexive acc_irreflexive acc_symmetric acc_within_le le_within_acc acc_carried_right acc_alike acc_serial acc_single acc_dense sf_by_within sf_turned sf_symmetric sf_everywhere h_everywhere h_along_acc
computed = refl

-- Document 01's cases P2, P5 and P7: their policies and goals, a model that refutes each, and what it says of a case that it is refused for good.
-- Each model is computed to meet Definition 1's conditions and to refute; those of P2 and P7 meet unit's too. Each text is computed to read to its policy and goal.
use Rattle.std.specs.Prelude.{ℕ, ◌-◌, ◌≡◌, refl, Bool, true, false, List, [], ◌∷◌, eqb, get_or}
use Rattle.scope.specs.Call.Result.{result}
use Rattle.scope.specs.Logic.Form.{Form, atom, imp, says, sf, both, either, negate}
use Rattle.scope.specs.Logic.Facts.{Logic, plain, unit}
use Rattle.scope.specs.File.Bytes.{bytes}
use Rattle.scope.specs.File.Request.{Request}
use Rattle.scope.specs.File.Reader.{read_request}
use Rattle.scope.specs.Call.Calls.{request_in}
use Rattle.scope.specs.Call.Judge.{start_of, prints}
use Rattle.scope.specs.Worked.Cases.{Case, case, twelve}
use Rattle.scope.specs.Limits.{most_principals}
use Rattle.scope.specs.Logic.Obligation.{Obligation, Step, start}
use Rattle.scope.specs.Logic.Derivation.{Derivation}
use Rattle.scope.specs.Logic.Models.{Model}
use Rattle.sound.specs.Tests.{implies, every, alltrue}
use Rattle.sound.specs.Computed.{frame, lawful, eval, eval_all}
use Rattle.sound.specs.Refuted.{refutes}

-- P2: P1 with `form=sf 0 1`. The policy is (0 says p0) imp p0, 0 sf 1 and 1 says p0, the goal p0.
abbrev pub policy2 : List Form
policy2 = imp (says 0 (atom 0)) (atom 0) ∷ sf 0 1 ∷ says 1 (atom 0) ∷ []

-- One world, to which S_0 leads and S_1 does not; 0 sf 1 there; p0 nowhere.
unfoldable pub model2 : Model
model2 =
    record {
      worlds = 1;
      le = λ x y. eqb x y;
      acc = λ a x y. eqb a 0;
      h = λ p x. false;
      speaks = λ a b x. either (eqb a b) (both (eqb a 0) (eqb b 1));
    }

-- P5: policy p0, goal 0 says p0.
abbrev pub policy5 : List Form
policy5 = atom 0 ∷ []

-- Two worlds, S_0 from the first to the second; p0 at the first only.
unfoldable pub model5 : Model
model5 =
    record {
      worlds = 2;
      le = λ x y. eqb x y;
      acc = λ a x y. both (eqb a 0) (both (eqb x 0) (eqb y 1));
      h = λ p x. eqb x 0;
      speaks = λ a b x. eqb a b;
    }

-- P7: policy 1 says 0 says p0, goal 0 says p0.
abbrev pub policy7 : List Form
policy7 = says 1 (says 0 (atom 0)) ∷ []

-- One world, to which S_0 leads and S_1 does not; p0 nowhere.
unfoldable pub model7 : Model
model7 =
    record {
      worlds = 1;
      le = λ x y. eqb x y;
      acc = λ a x y. eqb a 0;
      h = λ p x. false;
      speaks = λ a b x. eqb a b;
    }

pub computed2 : (l : Logic) → refutes l 2 1 model2 0 policy2 (atom 0) ≡ true
unfolding refutes frame lawful eval eval_all alltrue implies every both either negate model2
computed2 plain = refl
computed2 unit = refl

pub computed5 : refutes plain most_principals 1 model5 0 policy5 (says 0 (atom 0)) ≡ true
unfolding refutes frame lawful eval eval_all alltrue implies every both negate model5
computed5 = refl

pub computed7 : (l : Logic) → refutes l most_principals 1 model7 0 policy7 (says 0 (atom 0)) ≡ true
unfolding refutes frame lawful eval eval_all alltrue implies every both negate model7
computed7 plain = refl
computed7 unit = refl

-- A text reads to a request, and no steps derive that request's goal, whatever the limits.
pub record ForGood (c : Case) : Type 0 where
  pub request : Request
  pub reads : read_request (bytes c.text) ≡ result request
  pub not_derived : (room : ℕ → List Obligation → Bool) (xs : List Step) → Derivation room (start_of request) xs → ⊥

-- Case P i of the twelve.
abbrev pub case_of : ℕ → Case
case_of i = get_or twelve (i - 1) (case "" (prints 0 0 0 0))

pub request_in_case : ℕ → Request
request_in_case i = request_in (read_request (bytes (case_of i).text))

-- What each text says: it reads, and its policy and goal are those above.
pub record ReadsTo (i k : ℕ) (policy : List Form) (goal : Form) : Type 0 where
  pub reads : read_request (bytes (case_of i).text) ≡ result (request_in_case i)
  pub says_so : start_of (request_in_case i) ≡ start plain k policy goal

pub text2 : ReadsTo 2 2 policy2 (atom 0)
unfolding read_request twelve request_in request_in_case start_of start
text2 = record { reads = refl; says_so = refl }

pub text5 : ReadsTo 5 1 policy5 (says 0 (atom 0))
unfolding read_request twelve request_in request_in_case start_of start
text5 = record { reads = refl; says_so = refl }

pub text7 : ReadsTo 7 2 policy7 (says 0 (atom 0))
unfolding read_request twelve request_in request_in_case start_of start
text7 = record { reads = refl; says_so = refl }

-- 'Read tables are lent as 16-bit numbers: 3 a formula (kind, two operands), 1 a policy line, 2 a step (kind, number).'
use Rattle.std.specs.Prelude.{ℕ, zero, suc, ◌-◌, ◌*◌, List, [], ◌∷◌, ◌++◌, map, Bool, leb, length, get_or, take, drop, replicate}
use Rattle.scope.specs.Logic.Facts.{Logic}
use Rattle.scope.specs.Logic.Form.{both}
use Rattle.scope.specs.File.Request.{Row, Request}
use Rattle.scope.specs.File.Bytes.{joined}
use Rattle.scope.specs.Limits.{most_formulas, most_policy_lines, most_steps}

-- What a call on tables is given: version and logic, the counts, the goal, and the three tables over their whole lent length.
pub record Lent : Type 0 where
  pub version : ℕ
  pub logic : Logic
  pub principals : ℕ
  pub atoms : ℕ
  pub formulas : ℕ
  pub policy : ℕ
  pub goal : ℕ
  pub steps : ℕ
  pub form_table : List ℕ
  pub policy_table : List ℕ
  pub step_table : List ℕ

-- How many numbers a thing takes in its table, the numbers of a thing, and the thing of that many numbers.
pub record Entry (A : Type 0) : Type 0 where
  pub width : ℕ
  pub put : A → List ℕ
  pub get : List ℕ → A

abbrev pub form_entry : Entry Row
form_entry =
    record {
      width = 3;
      put = λ r. r.kind ∷ r.left ∷ r.right ∷ [];
      get = λ l. record { kind = get_or l 0 0; left = get_or l 1 0; right = get_or l 2 0 };
    }

abbrev pub policy_entry : Entry ℕ
policy_entry = record { width = 1; put = λ n. n ∷ []; get = λ l. get_or l 0 0 }

abbrev pub step_entry : Entry Row
step_entry =
    record {
      width = 2;
      put = λ r. r.kind ∷ r.left ∷ [];
      get = λ l. record { kind = get_or l 0 0; left = get_or l 1 0; right = 0 };
    }

-- The first n things of a table.
unfoldable pub unpack : {A : Type 0} → Entry A → ℕ → List ℕ → List A
unpack e zero t = []
unpack e (suc n) t = e.get (take e.width t) ∷ unpack e n (drop e.width t)

-- The numbers of things.
unfoldable pub pack : {A : Type 0} → Entry A → List A → List ℕ
unfolding joined
pack e xs = joined (map e.put xs)

-- Numbers, then zeros up to a lent length: 'and so is each entry past the last one read'; 'written bytes are followed by zeros'.
unfoldable pub padded : ℕ → List ℕ → List ℕ
padded len ns = ns ++ replicate (len - length ns) 0

unfoldable pub table : {A : Type 0} → Entry A → ℕ → List A → List ℕ
unfolding pack padded
table e len xs = padded len (pack e xs)

-- 'Each table has room for the largest count or the call is refused.'
unfoldable pub has_room : ℕ → ℕ → ℕ → Bool
unfolding both
has_room forms policy steps = both (leb (3 * most_formulas) forms) (both (leb most_policy_lines policy) (leb (2 * most_steps) steps))

-- The request that counts and tables say.
unfoldable pub request_of : Lent → Request
unfolding unpack
request_of t =
    record {
      version = t.version;
      logic = t.logic;
      principals = t.principals;
      atoms = t.atoms;
      forms = unpack form_entry t.formulas t.form_table;
      policy = unpack policy_entry t.policy t.policy_table;
      goal = t.goal;
      steps = unpack step_entry t.steps t.step_table;
    }

-- The counts and tables that say a request, in tables of these lengths.
unfoldable pub lent_of : ℕ → ℕ → ℕ → Request → Lent
unfolding table
lent_of forms policy steps q =
    record {
      version = q.version;
      logic = q.logic;
      principals = q.principals;
      atoms = q.atoms;
      formulas = length q.forms;
      policy = length q.policy;
      goal = q.goal;
      steps = length q.steps;
      form_table = table form_entry forms q.forms;
      policy_table = table policy_entry policy q.policy;
      step_table = table step_entry steps q.steps;
    }

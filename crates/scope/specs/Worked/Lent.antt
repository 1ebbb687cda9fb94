-- Calls on lent tables that tell a misreading made in definition and code alike: the order of 13, 1, the lines, 3 at place 0 and 14; what a
-- table's numbers mean; what stands in the lent tables after reading.
use Rattle.std.specs.Prelude.{ℕ, ◌≡◌, refl, List, [], ◌∷◌, ◌++◌, map, replicate}
use Rattle.scope.specs.Call.Result.{refused, result_answer}
use Rattle.scope.specs.Logic.Facts.{Logic, plain}
use Rattle.scope.specs.Call.Answer.{told, answer}
use Rattle.scope.specs.File.Bytes.{bytes}
use Rattle.scope.specs.Call.Tables.{Lent, padded}
use Rattle.scope.specs.Call.Checked.{checked}
use Rattle.scope.specs.Call.Calls.{reading, lent_after, writing}
use Rattle.scope.specs.Call.Judge.{judge}

-- One principal, one atom, no policy lines; tables of these lengths, the numbers given and then zeros. Told with version and logic,
abbrev pub lent_as : ℕ → Logic → ℕ → ℕ → ℕ → ℕ → ℕ → ℕ → List ℕ → List ℕ → List ℕ → Lent
lent_as version logic forms lines steps formulas goal count f l s =
    record {
      version = version;
      logic = logic;
      principals = 1;
      atoms = 1;
      formulas = formulas;
      policy = 0;
      goal = goal;
      steps = count;
      form_table = padded forms f;
      policy_table = padded lines l;
      step_table = padded steps s;
    }

-- or as version 1.
abbrev pub lent : ℕ → ℕ → ℕ → ℕ → ℕ → ℕ → List ℕ → List ℕ → List ℕ → Lent
lent = lent_as 1 plain

-- 13 before 1: a file of a byte too many, into a table too short by one, and into tables with room.
pub room_before_length :
    map result_answer
    (reading 3071 128 4096 (replicate 65537 120) ∷
    reading 3072 127 4096 (replicate 65537 120) ∷
    reading 3072 128 4095 (replicate 65537 120) ∷
    reading 3072 128 4096 (replicate 65537 120) ∷
    [])
    ≡ answer 13 0 ∷ answer 13 0 ∷ answer 13 0 ∷ answer 1 0 ∷ []
unfolding reading result_answer
room_before_length = refl

-- Of tables, by what they hold.
abbrev pub tables : ℕ → ℕ → ℕ → List ℕ → List ℕ → List ℕ → Lent
tables = lent 3072 128 4096

unfoldable pub refused_tables : List Lent
refused_tables =
    -- goal `top`, step `top`: no refusal
    tables 1 0 1 (1 ∷ []) [] (5 ∷ []) ∷
    -- an unknown kind of formula, and of step
    tables 1 0 1 (8 ∷ []) [] (5 ∷ []) ∷
    tables 1 0 1 (1 ∷ []) [] (18 ∷ []) ∷
    -- an operand that the kind lacks: `top 1`, `top 0 1`, `p 0 1`, step `top 1`
    tables 1 0 1 (1 ∷ 1 ∷ []) [] (5 ∷ []) ∷
    tables 1 0 1 (1 ∷ 0 ∷ 1 ∷ []) [] (5 ∷ []) ∷
    tables 1 0 1 (0 ∷ 0 ∷ 1 ∷ []) [] (5 ∷ []) ∷
    tables 1 0 1 (1 ∷ []) [] (5 ∷ 1 ∷ []) ∷
    -- a number past the counts: right behind them, and the last of each table
    tables 1 0 1 (1 ∷ 0 ∷ 0 ∷ 1 ∷ []) [] (5 ∷ []) ∷
    tables 1 0 1 (1 ∷ []) (1 ∷ []) (5 ∷ []) ∷
    tables 1 0 1 (1 ∷ []) [] (5 ∷ 0 ∷ 1 ∷ []) ∷
    tables 1 0 1 (1 ∷ replicate 3070 0 ++ 1 ∷ []) [] (5 ∷ []) ∷
    tables 1 0 1 (1 ∷ []) (replicate 127 0 ++ 1 ∷ []) (5 ∷ []) ∷
    tables 1 0 1 (1 ∷ []) [] (5 ∷ replicate 4094 0 ++ 1 ∷ []) ∷
    -- it comes after the last line's refusal: step `top 1`
    tables 1 0 1 (1 ∷ 0 ∷ 0 ∷ 1 ∷ []) [] (5 ∷ 1 ∷ []) ∷
    -- and 13 comes before the lines'
    lent 3071 128 4096 1 0 1 (8 ∷ []) [] (5 ∷ []) ∷
    []

pub refused_tables_lem :
    map checked refused_tables
    ≡ answer 0 0 ∷
    answer 3 5 ∷
    answer 3 9 ∷
    answer 3 5 ∷
    answer 3 5 ∷
    answer 3 5 ∷
    answer 3 9 ∷
    answer 3 0 ∷
    answer 3 0 ∷
    answer 3 0 ∷
    answer 3 0 ∷
    answer 3 0 ∷
    answer 3 0 ∷
    answer 3 9 ∷
    answer 13 0 ∷
    []
unfolding checked refused_tables padded
refused_tables_lem = refl

-- 3 at place 0 comes before 14, for an output of no bytes.
pub past_before_output :
    map result_answer
    (writing (tables 1 0 1 (1 ∷ 0 ∷ 0 ∷ 1 ∷ []) [] (5 ∷ [])) 0 ∷ writing (tables 1 0 1 (1 ∷ []) [] (5 ∷ [])) 0 ∷ [])
    ≡ answer 3 0 ∷ answer 14 0 ∷ []
unfolding writing result_answer padded
past_before_output = refl

-- The first operand comes first: goal bot imp p0 by `imp, absurd`, and p0 imp bot; goal 0 says top by `says, top`; `use 0` is a kind and
-- its number, and no clause is there.
pub operands_in_order :
    map judge
    (tables 3 2 2 (0 ∷ 0 ∷ 0 ∷ 2 ∷ 0 ∷ 0 ∷ 5 ∷ 1 ∷ 0 ∷ []) [] (3 ∷ 0 ∷ 15 ∷ []) ∷
    tables 3 2 2 (0 ∷ 0 ∷ 0 ∷ 2 ∷ 0 ∷ 0 ∷ 5 ∷ 0 ∷ 1 ∷ []) [] (3 ∷ 0 ∷ 15 ∷ []) ∷
    tables 3 2 2 (2 ∷ 0 ∷ 0 ∷ 1 ∷ 0 ∷ 0 ∷ 6 ∷ 0 ∷ 1 ∷ []) [] (4 ∷ 0 ∷ 5 ∷ []) ∷
    tables 1 0 1 (0 ∷ 0 ∷ 0 ∷ []) [] (7 ∷ 10 ∷ []) ∷
    [])
    ≡ answer 0 0 ∷ answer 7 2 ∷ answer 0 0 ∷ answer 8 1 ∷ []
unfolding judge padded
operands_in_order = refl

-- What reading leaves: counts and goal, the numbers of each line in its table, then zeros.
pub what_is_read :
    lent_after 3072 128 4096
    (reading 3072 128 4096
    (bytes
    "version=1\nprincipals=3\natoms=5\nformulas=4\nform=p 4\nform=sf 1 2\nform=says 2 0\nform=and 2 0\nclauses=2\nclause=1\nclause=2\ngoal=3\nsteps=3\nstep=and\nstep=use 7\nstep=note\n"))
    ≡ record {
      version = 1;
      logic = plain;
      principals = 3;
      atoms = 5;
      formulas = 4;
      policy = 2;
      goal = 3;
      steps = 3;
      form_table = 0 ∷ 4 ∷ 0 ∷ 7 ∷ 1 ∷ 2 ∷ 6 ∷ 2 ∷ 0 ∷ 3 ∷ 2 ∷ 0 ∷ replicate 3060 0;
      policy_table = 1 ∷ 2 ∷ replicate 126 0;
      step_table = 0 ∷ 0 ∷ 7 ∷ 7 ∷ 17 ∷ 0 ∷ replicate 4090 0;
    }
unfolding lent_after reading
what_is_read = refl

-- After a refusal, whatever it is: counts, goal and tables are 0.
pub nothing_is_read :
    (k place column : ℕ)
    → lent_after 3 2 4 (refused (told k place column))
    ≡ record {
      version = 0;
      logic = plain;
      principals = 0;
      atoms = 0;
      formulas = 0;
      policy = 0;
      goal = 0;
      steps = 0;
      form_table = 0 ∷ 0 ∷ 0 ∷ [];
      policy_table = 0 ∷ 0 ∷ [];
      step_table = 0 ∷ 0 ∷ 0 ∷ 0 ∷ [];
    }
unfolding lent_after
nothing_is_read k place column = refl

-- Document 02 l), version 2 of the request file: what the gate prints for it, each refusal of the first two lines with place and column, and 16
-- of lent tables in its order.
use Rattle.std.specs.Prelude.{ℕ, ◌≡◌, refl, List, [], ◌∷◌, ◌++◌, map, take, drop}
use Prim.Native.String.{String}
use Rattle.scope.specs.Call.Result.{result, result_answer}
use Rattle.scope.specs.Logic.Facts.{Logic, plain, unit}
use Rattle.scope.specs.File.Bytes.{bytes}
use Rattle.scope.specs.Call.Answer.{answer}
use Rattle.scope.specs.Call.Tables.{Lent, padded}
use Rattle.scope.specs.Call.Checked.{checked}
use Rattle.scope.specs.Call.Calls.{reading, lent_after, writing}
use Rattle.scope.specs.Call.Judge.{Printed, prints, gate, judge}
use Rattle.scope.specs.Worked.Cases.{Case, case, twelve}
use Rattle.scope.specs.Worked.Guards.{Tell}
use Rattle.scope.specs.Worked.Lent.{lent_as}

-- A text of version 1 with other first lines.
unfoldable pub headed : String → Case → List ℕ
headed head c = bytes head ++ drop 10 (bytes c.text)

-- What cases come to in version 2 under a logic.
unfoldable pub plainly : List Case → List Printed
unfolding gate headed
plainly cs = map (λ (c : Case). gate (headed "version=2\nlogic=plain\n" c)) cs

unfoldable pub unitly : List Case → List Printed
unfolding gate headed
unitly cs = map (λ (c : Case). gate (headed "version=2\nlogic=unit\n" c)) cs

abbrev pub comings : List Case → List Printed
comings cs = map (λ (c : Case). c.comes) cs

-- Under plain the twelve print in version 2 what they print in version 1: none is refused at a line.
pub plain_twelve : plainly twelve ≡ comings twelve
unfolding plainly twelve
plain_twelve = refl

-- 'P5 is granted under unit.' The others stay.
pub unit_twelve : unitly twelve ≡ comings (take 4 twelve) ++ prints 0 0 3 0 ∷ comings (drop 5 twelve)
unfolding unitly twelve
unit_twelve = refl

-- What plain refuses and unit may grant.
unfoldable pub unit_cases : List Case
unit_cases =
    -- policy 0 says p0, goal 0 says 1 says p0: with unit S_0 then S_1 is S_0 too, by rules 10 and 6
    case
    "version=1\nprincipals=2\natoms=1\nformulas=4\nform=p 0\nform=says 0 0\nform=says 1 0\nform=says 0 2\nclauses=1\nclause=1\ngoal=3\nsteps=5\nstep=says\nstep=says\nstep=use 0\nstep=to 2\nstep=hit\n"
    (prints 9 4 5 0) ∷
    -- policy 0 says p0, goal p0: unit gives no way back from what a principal says
    case
    "version=1\nprincipals=1\natoms=1\nformulas=2\nform=p 0\nform=says 0 0\nclauses=1\nclause=1\ngoal=0\nsteps=3\nstep=use 0\nstep=to 0\nstep=hit\n"
    (prints 9 2 3 0) ∷
    []

pub both_logics : (plainly unit_cases ≡ comings unit_cases) × (unitly unit_cases ≡ prints 0 0 5 0 ∷ prints 9 2 3 0 ∷ [])
unfolding plainly unitly unit_cases
both_logics = (refl, refl)

-- The first two lines, and the lines behind them.
unfoldable pub lines : List Case
lines =
    -- no version beside 1 and 2, whatever follows
    case "version=0\nlogic=unit\n" (prints 3 1 0 0) ∷
    case "version=3\nlogic=unit\n" (prints 3 1 0 0) ∷
    case "version=99999\n" (prints 3 1 0 0) ∷
    -- another word, no word, more than a word
    case "version=2\nlogic=pnit\n" (prints 2 2 0 8) ∷
    case "version=2\nlogic=units\n" (prints 2 2 0 11) ∷
    case "version=2\nlogic=\n" (prints 2 2 0 7) ∷
    case "version=2\nlogic=plain \n" (prints 2 2 0 12) ∷
    case "version=2\nlogic=Unit\n" (prints 2 2 0 7) ∷
    case "version=2\nlogic=1\n" (prints 2 2 0 7) ∷
    -- without LF, and missing
    case "version=2\nlogic=unit" (prints 2 2 0 11) ∷
    case "version=2\n" (prints 2 2 0 1) ∷
    case "version=2\nprincipals=1\n" (prints 2 2 0 1) ∷
    case "version=2\nlogics=unit\n" (prints 2 2 0 6) ∷
    -- version 1 has no such line, and version 2 has one
    case "version=1\nlogic=plain\n" (prints 2 2 0 1) ∷
    case "version=2\nlogic=unit\nlogic=unit\n" (prints 2 3 0 1) ∷
    -- one line further down: `principals=`, the second formula, `goal=`, a step, and what follows the last
    case "version=2\nlogic=unit\nprincipals=0\n" (prints 3 3 0 0) ∷
    case "version=2\nlogic=unit\nprincipals=x\n" (prints 2 3 0 12) ∷
    case "version=2\nlogic=plain\nprincipals=1\natoms=1\nformulas=2\nform=top\nform=says 0 1\n" (prints 4 7 0 0) ∷
    case "version=2\nlogic=plain\nprincipals=1\natoms=1\nformulas=2\nform=top\nform=top\n" (prints 15 7 0 0) ∷
    case "version=2\nlogic=plain\nprincipals=1\natoms=1\nformulas=1\nform=sf 0 0\nclauses=1\nclause=0\ngoal=1\n" (prints 3 9 0 0) ∷
    case "version=2\nlogic=unit\nprincipals=1\natoms=1\nformulas=1\nform=top\nclauses=0\ngoal=0\nsteps=1\nstep=to\n" (prints 2 10 0 8) ∷
    case "version=2\nlogic=unit\nprincipals=1\natoms=1\nformulas=1\nform=top\nclauses=0\ngoal=0\nsteps=1\nstep=top\n" (prints 0 0 1 0) ∷
    case "version=2\nlogic=unit\nprincipals=1\natoms=1\nformulas=1\nform=top\nclauses=0\ngoal=0\nsteps=1\nstep=top\n\n" (prints 6 11 0 0) ∷
    []

pub lines_tell : Tell lines
unfolding gate lines
lines_tell = refl

-- Goal `top`, step `top`, told with version and logic, in tables of these lengths.
abbrev pub told_top : ℕ → Logic → List ℕ → List ℕ → Lent
told_top version logic f s = lent_as version logic 3072 128 4096 1 0 1 f [] s

unfoldable pub told_tables : List Lent
told_tables =
    told_top 1 plain (1 ∷ []) (5 ∷ []) ∷
    told_top 2 plain (1 ∷ []) (5 ∷ []) ∷
    told_top 2 unit (1 ∷ []) (5 ∷ []) ∷
    -- unit with version 1: after 13, before a line's refusal and before what is past the counts
    told_top 1 unit (1 ∷ []) (5 ∷ []) ∷
    lent_as 1 unit 3071 128 4096 1 0 1 (1 ∷ []) [] (5 ∷ []) ∷
    told_top 1 unit (8 ∷ []) (5 ∷ []) ∷
    told_top 1 unit (1 ∷ 0 ∷ 0 ∷ 1 ∷ []) (5 ∷ []) ∷
    -- another version, with either logic, before every line behind it
    told_top 0 unit (8 ∷ []) (5 ∷ []) ∷
    told_top 3 unit (8 ∷ []) (5 ∷ []) ∷
    told_top 3 plain (1 ∷ []) (5 ∷ []) ∷
    -- a formula, and a step
    told_top 2 unit (8 ∷ []) (5 ∷ []) ∷
    told_top 2 plain (1 ∷ []) (18 ∷ []) ∷
    -- past the counts
    told_top 2 unit (1 ∷ 0 ∷ 0 ∷ 1 ∷ []) (5 ∷ []) ∷
    []

pub told_tables_lem :
    map checked told_tables
    ≡ answer 0 0 ∷
    answer 0 0 ∷
    answer 0 0 ∷
    answer 16 0 ∷
    answer 13 0 ∷
    answer 16 0 ∷
    answer 16 0 ∷
    answer 3 1 ∷
    answer 3 1 ∷
    answer 3 1 ∷
    answer 3 6 ∷
    answer 3 10 ∷
    answer 3 0 ∷
    []
unfolding checked told_tables padded
told_tables_lem = refl

-- The judge and the writer give 16 too, the writer before 14.
pub unit_in_version_1 :
    (judge (told_top 1 unit (1 ∷ []) (5 ∷ [])) ≡ answer 16 0) × (result_answer (writing (told_top 1 unit (1 ∷ []) (5 ∷ [])) 0) ≡ answer 16 0)
unfolding judge writing result_answer padded
unit_in_version_1 = (refl, refl)

-- What is written: in version 1 no second line, in version 2 that of its logic.
pub heads_written :
    map (λ (t : Lent). writing t 200)
    (told_top 1 plain (1 ∷ []) (5 ∷ []) ∷ told_top 2 plain (1 ∷ []) (5 ∷ []) ∷ told_top 2 unit (1 ∷ []) (5 ∷ []) ∷ [])
    ≡ result (bytes "version=1\nprincipals=1\natoms=1\nformulas=1\nform=top\nclauses=0\ngoal=0\nsteps=1\nstep=top\n") ∷
    result (bytes "version=2\nlogic=plain\nprincipals=1\natoms=1\nformulas=1\nform=top\nclauses=0\ngoal=0\nsteps=1\nstep=top\n") ∷
    result (bytes "version=2\nlogic=unit\nprincipals=1\natoms=1\nformulas=1\nform=top\nclauses=0\ngoal=0\nsteps=1\nstep=top\n") ∷
    []
unfolding writing padded
heads_written = refl

-- What is read gives version and logic back.
pub heads_read :
    map (λ (h : String). lent_after 3072 128 4096 (reading 3072 128 4096 (bytes h ++ bytes "principals=1\natoms=1\nformulas=1\nform=top\nclauses=0\ngoal=0\nsteps=1\nstep=top\n")))
    ("version=1\n" ∷ "version=2\nlogic=plain\n" ∷ "version=2\nlogic=unit\n" ∷ [])
    ≡ told_top 1 plain (1 ∷ []) (5 ∷ []) ∷ told_top 2 plain (1 ∷ []) (5 ∷ []) ∷ told_top 2 unit (1 ∷ []) (5 ∷ []) ∷ []
unfolding lent_after reading padded
heads_read = refl

-- Each limit of document 01 on both sides, and its further cases that pin a number or a place, computed.
use Rattle.std.specs.Prelude.{ℕ, zero, suc, ◌+◌, ◌-◌, ◌≡◌, refl, List, [], ◌∷◌, ◌++◌, map, replicate}
use Rattle.scope.specs.Call.Result.{result_answer}
use Rattle.scope.specs.Logic.Facts.{plain}
use Rattle.scope.specs.Call.Answer.{Answer, answer}
use Rattle.scope.specs.File.Request.{Row, Request}
use Rattle.scope.specs.File.Bytes.{bytes}
use Rattle.scope.specs.Call.Tables.{lent_of}
use Rattle.scope.specs.Call.Calls.{writing}
use Rattle.scope.specs.Call.Judge.{prints, steps_answer, gate}

abbrev pub row : ℕ → ℕ → ℕ → Row
row k l r = record { kind = k; left = l; right = r }

-- f 0, f 1, .. : n of them
unfoldable pub list_to : (ℕ → Row) → ℕ → List Row
list_to f zero = []
list_to f (suc n) = list_to f n ++ (f n ∷ [])

-- Steps by their kinds; the number of `use` and `to` is 0.
abbrev pub says' : Row
says' = row 4 0 0

abbrev pub top' : Row
top' = row 5 0 0

abbrev pub and' : Row
and' = row 0 0 0

abbrev pub imp' : Row
imp' = row 3 0 0

abbrev pub use' : Row
use' = row 7 0 0

abbrev pub to' : Row
to' = row 10 0 0

abbrev pub hit' : Row
hit' = row 11 0 0

abbrev pub split' : Row
split' = row 13 0 0

abbrev pub push' : Row
push' = row 12 0 0

abbrev pub drop' : Row
drop' = row 16 0 0

abbrev pub request : List Row → List ℕ → ℕ → List Row → Request
request forms lines goal steps =
    record { version = 1; logic = plain; principals = 1; atoms = 1; forms = forms; policy = lines; goal = goal; steps = steps }

-- Goal `top` under n nested `says`: n worlds beside the root.
unfoldable pub nested : ℕ → Request
unfolding list_to
nested n = request (row 1 0 0 ∷ list_to (λ i. row 6 0 i) n) [] n (replicate n says' ++ (top' ∷ []))

-- n goals `and`, each the first part of the one before: n obligations wait.
unfoldable pub conjoined : ℕ → Request
unfolding list_to
conjoined n = request (row 1 0 0 ∷ list_to (λ i. row 3 i 0) n) [] n (replicate n and' ++ replicate (suc n) top')

-- A clause of n `imp`s: n subgoals met.
unfoldable pub implied : ℕ → Request
unfolding list_to
implied n =
    request (row 0 0 0 ∷ row 1 0 0 ∷ row 5 1 0 ∷ list_to (λ i. row 5 1 (i + 2)) (n - 1)) (suc n ∷ []) 0
    (use' ∷ replicate n to' ++ hit' ∷ replicate n top')

-- A chunk split n times, with a part left each time: n + 1 chunks.
unfoldable pub parted : ℕ → Request
unfolding list_to
parted n =
    request (row 1 0 0 ∷ list_to (λ i. row 3 i 0) n ++ row 5 n 0 ∷ []) [] (suc n)
    (imp' ∷ replicate n split' ++ replicate (suc n) drop' ++ top' ∷ [])

unfoldable pub pushes : ℕ → List Row
pushes zero = push' ∷ []
pushes (suc n) = split' ∷ push' ∷ pushes n

-- 128 policy lines and n + 1 pushed clauses.
unfoldable pub pushed : ℕ → Request
unfolding list_to pushes
pushed n =
    request (row 0 0 0 ∷ list_to (λ i. row 3 0 i) n ++ row 1 0 0 ∷ row 5 n (suc n) ∷ []) (replicate 128 0) (suc (suc n))
    (imp' ∷ pushes n ++ top' ∷ [])

-- The last four limits, each kept and passed by one; the place is the first step that would pass it.
abbrev pub both_sides : (ℕ → Request) → ℕ → List Answer
both_sides q n = steps_answer (q n) ∷ steps_answer (q (suc n)) ∷ []

pub worlds_hold : both_sides nested 63 ≡ answer 0 0 ∷ answer 10 64 ∷ []
unfolding steps_answer nested
worlds_hold = refl

pub waiting_hold : both_sides conjoined 255 ≡ answer 0 0 ∷ answer 10 256 ∷ []
unfolding steps_answer conjoined
waiting_hold = refl

pub met_hold : both_sides implied 255 ≡ answer 0 0 ∷ answer 10 257 ∷ []
unfolding steps_answer implied
met_hold = refl

pub chunks_hold : both_sides parted 15 ≡ answer 0 0 ∷ answer 10 17 ∷ []
unfolding steps_answer parted
chunks_hold = refl

pub clauses_hold : both_sides pushed 127 ≡ answer 0 0 ∷ answer 10 258 ∷ []
unfolding steps_answer pushed
clauses_hold = refl

-- A file of 65,536 bytes, and one of a byte more.
pub bytes_hold : gate (replicate 65536 120) ∷ gate (replicate 65537 120) ∷ [] ≡ prints 2 1 0 1 ∷ prints 1 0 0 0 ∷ []
unfolding gate
bytes_hold = refl

unfoldable pub texts : List (List ℕ)
texts =
    -- empty file
    bytes "" ∷
    -- CR LF
    bytes "version=1\r\n" ∷
    -- a version above 2
    bytes "version=3\n" ∷
    -- principals 1 to 16
    bytes "version=1\nprincipals=0\n" ∷
    bytes "version=1\nprincipals=17\n" ∷
    -- atoms 1 to 256
    bytes "version=1\nprincipals=16\natoms=0\n" ∷
    bytes "version=1\nprincipals=16\natoms=257\n" ∷
    -- formulas 1 to 1,024
    bytes "version=1\nprincipals=16\natoms=256\nformulas=0\n" ∷
    bytes "version=1\nprincipals=16\natoms=256\nformulas=1025\n" ∷
    bytes "version=1\nprincipals=16\natoms=256\nformulas=1024\n" ∷
    -- policy lines 0 to 128
    bytes "version=1\nprincipals=1\natoms=1\nformulas=1\nform=top\nclauses=129\n" ∷
    bytes "version=1\nprincipals=1\natoms=1\nformulas=1\nform=top\nclauses=128\n" ∷
    -- steps 1 to 2,048
    bytes "version=1\nprincipals=1\natoms=1\nformulas=1\nform=top\nclauses=0\ngoal=0\nsteps=0\n" ∷
    bytes "version=1\nprincipals=1\natoms=1\nformulas=1\nform=top\nclauses=0\ngoal=0\nsteps=2049\n" ∷
    bytes "version=1\nprincipals=1\natoms=1\nformulas=1\nform=top\nclauses=0\ngoal=0\nsteps=2048\n" ∷
    -- step numbers 0 to 65,535
    bytes "version=1\nprincipals=1\natoms=1\nformulas=1\nform=top\nclauses=0\ngoal=0\nsteps=1\nstep=use 65536\n" ∷
    bytes "version=1\nprincipals=1\natoms=1\nformulas=1\nform=top\nclauses=0\ngoal=0\nsteps=1\nstep=use 65535\n" ∷
    -- 3 and 4 on one line: the smaller
    bytes "version=1\nprincipals=1\natoms=1\nformulas=1\nform=says 99 99\n" ∷
    -- a formula that names itself
    bytes "version=1\nprincipals=1\natoms=1\nformulas=1\nform=says 0 0\n" ∷
    -- a policy line of the wrong class
    bytes "version=1\nprincipals=1\natoms=1\nformulas=1\nform=bot\nclauses=1\nclause=0\n" ∷
    -- `says` of an `or` is no chunk
    bytes "version=1\nprincipals=1\natoms=1\nformulas=4\nform=p 0\nform=or 0 0\nform=says 0 1\nform=imp 2 0\nclauses=0\ngoal=3\n" ∷
    -- bytes after the last step
    bytes "version=1\nprincipals=1\natoms=1\nformulas=1\nform=top\nclauses=0\ngoal=0\nsteps=1\nstep=top\nend\n" ∷
    bytes "version=1\nprincipals=1\natoms=1\nformulas=1\nform=top\nclauses=0\ngoal=0\nsteps=1\nstep=top\n\n" ∷
    -- an `sf` line is no clause to use
    bytes "version=1\nprincipals=1\natoms=1\nformulas=2\nform=sf 0 0\nform=p 0\nclauses=1\nclause=0\ngoal=1\nsteps=1\nstep=use 0\n" ∷
    -- a `top` in focus has no step
    bytes "version=1\nprincipals=1\natoms=1\nformulas=2\nform=top\nform=p 0\nclauses=1\nclause=0\ngoal=1\nsteps=2\nstep=use 0\nstep=hit\n" ∷
    []

pub texts_hold :
    map gate texts
    ≡ prints 2 1 0 1 ∷
    prints 2 1 0 10 ∷
    prints 3 1 0 0 ∷
    prints 3 2 0 0 ∷
    prints 3 2 0 0 ∷
    prints 3 3 0 0 ∷
    prints 3 3 0 0 ∷
    prints 3 4 0 0 ∷
    prints 3 4 0 0 ∷
    prints 2 5 0 1 ∷
    prints 3 6 0 0 ∷
    prints 2 7 0 1 ∷
    prints 3 8 0 0 ∷
    prints 3 8 0 0 ∷
    prints 2 9 0 1 ∷
    prints 3 9 0 0 ∷
    prints 7 1 1 0 ∷
    prints 3 5 0 0 ∷
    prints 4 5 0 0 ∷
    prints 5 7 0 0 ∷
    prints 5 10 0 0 ∷
    prints 6 10 0 0 ∷
    prints 6 10 0 0 ∷
    prints 8 1 1 0 ∷
    prints 7 2 2 0 ∷
    []
unfolding gate texts
texts_hold = refl

-- The writer over tables too short, an output too short by one byte, and one that is just long enough: the text of `nested 0` is 85 bytes.
pub writer_holds :
    map result_answer
    (writing (lent_of 3071 128 4096 (nested 0)) 85 ∷
    writing (lent_of 3072 127 4096 (nested 0)) 85 ∷
    writing (lent_of 3072 128 4095 (nested 0)) 85 ∷
    writing (lent_of 3072 128 4096 (nested 0)) 84 ∷
    writing (lent_of 3072 128 4096 (nested 0)) 85 ∷
    [])
    ≡ answer 13 0 ∷ answer 13 0 ∷ answer 13 0 ∷ answer 14 0 ∷ answer 0 0 ∷ []
unfolding writing result_answer lent_of nested
writer_holds = refl

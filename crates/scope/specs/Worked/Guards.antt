-- Texts that tell a misreading made in definition and code alike, each with what the gate prints: where the twelve cases would not tell.
use Rattle.std.specs.Prelude.{◌≡◌, refl, List, [], ◌∷◌, map}
use Rattle.scope.specs.File.Bytes.{bytes}
use Rattle.scope.specs.Call.Judge.{prints, gate}
use Rattle.scope.specs.Worked.Cases.{Case, case}

-- For each text the gate prints what stands beside it.
abbrev pub Tell : List Case → Type 0
Tell cs = map (λ (c : Case). gate (bytes c.text)) cs ≡ map (λ (c : Case). c.comes) cs

-- The steps: what fits, what is left, and which refusal.
unfoldable pub steps : List Case
steps =
    -- two subgoals, proved last met first: policy p1 imp (p2 imp p0), p1, p2, goal p0
    case
    "version=1\nprincipals=1\natoms=3\nformulas=5\nform=p 0\nform=p 1\nform=p 2\nform=imp 2 0\nform=imp 1 3\nclauses=3\nclause=4\nclause=1\nclause=2\ngoal=0\nsteps=8\nstep=use 0\nstep=to 0\nstep=to 0\nstep=hit\nstep=use 2\nstep=hit\nstep=use 1\nstep=hit\n"
    (prints 0 0 8 0) ∷
    -- a note of the first branch is gone in the second: goal ((0 sf 1) or p0) imp (0 sf 1)
    case
    "version=1\nprincipals=2\natoms=1\nformulas=4\nform=sf 0 1\nform=p 0\nform=or 0 1\nform=imp 2 0\nclauses=0\ngoal=3\nsteps=6\nstep=imp\nstep=case\nstep=note\nstep=sf\nstep=push\nstep=sf\n"
    (prints 9 6 6 0) ∷
    -- `right` is the second part: policy p0 and p1, goal p1
    case
    "version=1\nprincipals=1\natoms=2\nformulas=3\nform=p 0\nform=p 1\nform=and 0 1\nclauses=1\nclause=2\ngoal=1\nsteps=3\nstep=use 0\nstep=right\nstep=hit\n"
    (prints 0 0 3 0) ∷
    -- `to V` on an `imp`: the subgoal and the focus are at V; policy p1 imp p0, goal p1 imp p0
    case
    "version=1\nprincipals=1\natoms=2\nformulas=3\nform=p 0\nform=p 1\nform=imp 1 0\nclauses=1\nclause=2\ngoal=2\nsteps=7\nstep=imp\nstep=push\nstep=use 0\nstep=to 1\nstep=hit\nstep=use 1\nstep=hit\n"
    (prints 0 0 7 0) ∷
    -- the rest of the chunks stays in both branches: goal ((p0 or p1) and p2) imp p2
    case
    "version=1\nprincipals=1\natoms=3\nformulas=6\nform=p 0\nform=p 1\nform=p 2\nform=or 0 1\nform=and 3 2\nform=imp 4 2\nclauses=0\ngoal=5\nsteps=11\nstep=imp\nstep=split\nstep=case\nstep=push\nstep=push\nstep=use 1\nstep=hit\nstep=push\nstep=push\nstep=use 1\nstep=hit\n"
    (prints 0 0 11 0) ∷
    -- and behind a note: goal ((0 sf 1) and p0) imp p0
    case
    "version=1\nprincipals=2\natoms=1\nformulas=4\nform=sf 0 1\nform=p 0\nform=and 0 1\nform=imp 2 1\nclauses=0\ngoal=3\nsteps=6\nstep=imp\nstep=split\nstep=note\nstep=push\nstep=use 0\nstep=hit\n"
    (prints 0 0 6 0) ∷
    -- `push` of a `top`, an `or`, a `bot`: 7
    case
    "version=1\nprincipals=1\natoms=1\nformulas=2\nform=top\nform=imp 0 0\nclauses=0\ngoal=1\nsteps=2\nstep=imp\nstep=push\n"
    (prints 7 2 2 0) ∷
    -- push of an or is 7
    case
    "version=1\nprincipals=1\natoms=1\nformulas=3\nform=p 0\nform=or 0 0\nform=imp 1 0\nclauses=0\ngoal=2\nsteps=2\nstep=imp\nstep=push\n"
    (prints 7 2 2 0) ∷
    -- push of a bot is 7
    case
    "version=1\nprincipals=1\natoms=1\nformulas=3\nform=p 0\nform=bot\nform=imp 1 0\nclauses=0\ngoal=2\nsteps=2\nstep=imp\nstep=push\n"
    (prints 7 2 2 0) ∷
    -- `absurd` on a `top`: 7
    case
    "version=1\nprincipals=1\natoms=1\nformulas=3\nform=p 0\nform=top\nform=imp 1 0\nclauses=0\ngoal=2\nsteps=2\nstep=imp\nstep=absurd\n"
    (prints 7 2 2 0) ∷
    -- `to` a world that is not there: 8
    case
    "version=1\nprincipals=1\natoms=1\nformulas=2\nform=p 0\nform=says 0 0\nclauses=1\nclause=1\ngoal=0\nsteps=2\nstep=use 0\nstep=to 1\n"
    (prints 8 2 2 0) ∷
    -- `use` of a clause that is not there: 8
    case
    "version=1\nprincipals=1\natoms=1\nformulas=1\nform=p 0\nclauses=0\ngoal=0\nsteps=1\nstep=use 0\n"
    (prints 8 1 1 0) ∷
    -- another atom: 9
    case
    "version=1\nprincipals=1\natoms=2\nformulas=2\nform=p 0\nform=p 1\nclauses=1\nclause=0\ngoal=1\nsteps=2\nstep=use 0\nstep=hit\n"
    (prints 9 2 2 0) ∷
    []

pub steps_tell : Tell steps
unfolding gate steps
steps_tell = refl

-- The facts: each rule that the twelve do not need, and none beside the nine.
unfoldable pub facts : List Case
facts =
    -- a note is closed with the facts: goal (0 sf 1) imp (0 sf 1)
    case
    "version=1\nprincipals=2\natoms=1\nformulas=2\nform=sf 0 1\nform=imp 0 0\nclauses=0\ngoal=1\nsteps=3\nstep=imp\nstep=note\nstep=sf\n"
    (prints 0 0 3 0) ∷
    -- rule 3: policy 0 sf 1, 1 sf 2, goal 0 sf 2
    case
    "version=1\nprincipals=3\natoms=1\nformulas=3\nform=sf 0 1\nform=sf 1 2\nform=sf 0 2\nclauses=2\nclause=0\nclause=1\ngoal=2\nsteps=1\nstep=sf\n"
    (prints 0 0 1 0) ∷
    -- rule 4: policy 0 sf 1, goal 2 says (0 sf 1)
    case
    "version=1\nprincipals=3\natoms=1\nformulas=2\nform=sf 0 1\nform=says 2 0\nclauses=1\nclause=0\ngoal=1\nsteps=2\nstep=says\nstep=sf\n"
    (prints 0 0 2 0) ∷
    -- rule 5: policy 0 sf 1, goal p0 imp (0 sf 1)
    case
    "version=1\nprincipals=2\natoms=1\nformulas=3\nform=sf 0 1\nform=p 0\nform=imp 1 0\nclauses=1\nclause=0\ngoal=2\nsteps=3\nstep=imp\nstep=push\nstep=sf\n"
    (prints 0 0 3 0) ∷
    -- a clause used from a newer world, which stands above world 1 by ≤: policy 0 says p1, goal 0 says (p0 imp p1), `to 1`
    case
    "version=1\nprincipals=1\natoms=2\nformulas=5\nform=p 0\nform=p 1\nform=says 0 1\nform=imp 0 1\nform=says 0 3\nclauses=1\nclause=2\ngoal=4\nsteps=6\nstep=says\nstep=imp\nstep=push\nstep=use 0\nstep=to 1\nstep=hit\n"
    (prints 0 0 6 0) ∷
    -- and the straight route, by 0 S_0 1 and 1 ≤ 2 (rule 6): the same with `to 2`
    case
    "version=1\nprincipals=1\natoms=2\nformulas=5\nform=p 0\nform=p 1\nform=says 0 1\nform=imp 0 1\nform=says 0 3\nclauses=1\nclause=2\ngoal=4\nsteps=6\nstep=says\nstep=imp\nstep=push\nstep=use 0\nstep=to 2\nstep=hit\n"
    (prints 0 0 6 0) ∷
    -- rule 8: policy p1, goal p0 imp (p0 imp p1)
    case
    "version=1\nprincipals=1\natoms=2\nformulas=4\nform=p 0\nform=p 1\nform=imp 0 1\nform=imp 0 2\nclauses=1\nclause=1\ngoal=3\nsteps=6\nstep=imp\nstep=push\nstep=imp\nstep=push\nstep=use 0\nstep=hit\n"
    (prints 0 0 6 0) ∷
    []

pub facts_tell : Tell facts
unfolding gate facts
facts_tell = refl

-- The places: the line's own, behind formulas and policy lines.
unfoldable pub places : List Case
places =
    -- the second formula
    case
    "version=1\nprincipals=1\natoms=1\nformulas=2\nform=top\nform=says 0 1\nclauses=0\ngoal=0\nsteps=1\nstep=top\n"
    (prints 4 6 0 0) ∷
    -- `clauses=` behind two formulas
    case
    "version=1\nprincipals=1\natoms=1\nformulas=2\nform=top\nform=bot\nclauses=129\n"
    (prints 3 7 0 0) ∷
    -- the second policy line
    case
    "version=1\nprincipals=1\natoms=1\nformulas=2\nform=top\nform=bot\nclauses=2\nclause=0\nclause=1\ngoal=0\nsteps=1\nstep=top\n"
    (prints 5 9 0 0) ∷
    -- `goal=` behind a policy line
    case
    "version=1\nprincipals=1\natoms=1\nformulas=1\nform=top\nclauses=1\nclause=0\ngoal=1\nsteps=1\nstep=top\n"
    (prints 3 8 0 0) ∷
    -- the second step behind a policy line
    case
    "version=1\nprincipals=1\natoms=1\nformulas=1\nform=top\nclauses=1\nclause=0\ngoal=0\nsteps=2\nstep=top\nstep=use 65536\n"
    (prints 3 11 0 0) ∷
    -- bytes after the last step, behind a policy line
    case
    "version=1\nprincipals=1\natoms=1\nformulas=1\nform=top\nclauses=1\nclause=0\ngoal=0\nsteps=1\nstep=top\n\n"
    (prints 6 11 0 0) ∷
    []

pub places_tell : Tell places
unfolding gate places
places_tell = refl

-- The classes: each part of each kind. In the first six, formula 3, (0 says (p0 or p0)) imp p0, is no goal, for `says` of an `or` is no chunk.
unfoldable pub classes : List Case
classes =
    -- no goal: p0 and it
    case
    "version=1\nprincipals=1\natoms=1\nformulas=5\nform=p 0\nform=or 0 0\nform=says 0 1\nform=imp 2 0\nform=and 0 3\nclauses=0\ngoal=4\nsteps=1\nstep=and\n"
    (prints 5 11 0 0) ∷
    -- it and p0
    case
    "version=1\nprincipals=1\natoms=1\nformulas=5\nform=p 0\nform=or 0 0\nform=says 0 1\nform=imp 2 0\nform=and 3 0\nclauses=0\ngoal=4\nsteps=1\nstep=top\n"
    (prints 5 11 0 0) ∷
    -- p0 or it
    case
    "version=1\nprincipals=1\natoms=1\nformulas=5\nform=p 0\nform=or 0 0\nform=says 0 1\nform=imp 2 0\nform=or 0 3\nclauses=0\ngoal=4\nsteps=1\nstep=top\n"
    (prints 5 11 0 0) ∷
    -- it or p0
    case
    "version=1\nprincipals=1\natoms=1\nformulas=5\nform=p 0\nform=or 0 0\nform=says 0 1\nform=imp 2 0\nform=or 3 0\nclauses=0\ngoal=4\nsteps=1\nstep=top\n"
    (prints 5 11 0 0) ∷
    -- 0 says it
    case
    "version=1\nprincipals=1\natoms=1\nformulas=5\nform=p 0\nform=or 0 0\nform=says 0 1\nform=imp 2 0\nform=says 0 3\nclauses=0\ngoal=4\nsteps=1\nstep=top\n"
    (prints 5 11 0 0) ∷
    -- p0 imp it
    case
    "version=1\nprincipals=1\natoms=1\nformulas=5\nform=p 0\nform=or 0 0\nform=says 0 1\nform=imp 2 0\nform=imp 0 3\nclauses=0\ngoal=4\nsteps=1\nstep=top\n"
    (prints 5 11 0 0) ∷
    -- a clause, and so a chunk, may be an `imp` from a goal that is no chunk: goal ((0 says (p0 or p0)) imp p0) imp p0
    case
    "version=1\nprincipals=1\natoms=1\nformulas=5\nform=p 0\nform=or 0 0\nform=says 0 1\nform=imp 2 0\nform=imp 3 0\nclauses=0\ngoal=4\nsteps=5\nstep=imp\nstep=push\nstep=use 0\nstep=to 1\nstep=hit\n"
    (prints 12 6 5 0) ∷
    -- and a policy line: (0 says (p0 or p0)) imp p0
    case
    "version=1\nprincipals=1\natoms=1\nformulas=4\nform=p 0\nform=or 0 0\nform=says 0 1\nform=imp 2 0\nclauses=1\nclause=3\ngoal=0\nsteps=1\nstep=use 0\n"
    (prints 12 2 1 0) ∷
    -- `and` of clauses is a clause: policy p0 and p0
    case
    "version=1\nprincipals=1\natoms=1\nformulas=2\nform=p 0\nform=and 0 0\nclauses=1\nclause=1\ngoal=0\nsteps=3\nstep=use 0\nstep=left\nstep=hit\n"
    (prints 0 0 3 0) ∷
    -- an `sf` is no clause: policy 0 says (0 sf 0)
    case
    "version=1\nprincipals=1\natoms=1\nformulas=2\nform=sf 0 0\nform=says 0 0\nclauses=1\nclause=1\ngoal=0\nsteps=1\nstep=sf\n"
    (prints 5 8 0 0) ∷
    -- `and` of chunks that are no clauses: goal ((0 sf 0) and (0 sf 0)) imp (0 sf 0)
    case
    "version=1\nprincipals=1\natoms=1\nformulas=3\nform=sf 0 0\nform=and 0 0\nform=imp 1 0\nclauses=0\ngoal=2\nsteps=5\nstep=imp\nstep=split\nstep=note\nstep=note\nstep=sf\n"
    (prints 0 0 5 0) ∷
    []

pub classes_tell : Tell classes
unfolding gate classes
classes_tell = refl

-- The numbers: each bound met by one.
unfoldable pub numbers : List Case
numbers =
    -- `version=0`
    case
    "version=0\nprincipals=1\natoms=1\nformulas=1\nform=top\nclauses=0\ngoal=0\nsteps=1\nstep=top\n"
    (prints 3 1 0 0) ∷
    -- an atom equal to its count
    case
    "version=1\nprincipals=1\natoms=1\nformulas=1\nform=p 1\nclauses=0\ngoal=0\nsteps=1\nstep=top\n"
    (prints 3 5 0 0) ∷
    -- a `clause=` number equal to the count of formulas
    case
    "version=1\nprincipals=1\natoms=1\nformulas=1\nform=top\nclauses=1\nclause=1\ngoal=0\nsteps=1\nstep=top\n"
    (prints 3 7 0 0) ∷
    -- `to 65535` is read
    case
    "version=1\nprincipals=1\natoms=1\nformulas=1\nform=top\nclauses=0\ngoal=0\nsteps=1\nstep=to 65535\n"
    (prints 7 1 1 0) ∷
    []

pub numbers_tell : Tell numbers
unfolding gate numbers
numbers_tell = refl

-- No formula twice: 15 at the line of the second, whichever earlier line it repeats.
unfoldable pub repeats : List Case
repeats =
    -- the line before, the second of the lines before, and one further up
    case
    "version=1\nprincipals=1\natoms=1\nformulas=2\nform=top\nform=top\nclauses=0\ngoal=0\nsteps=1\nstep=top\n"
    (prints 15 6 0 0) ∷
    case
    "version=1\nprincipals=1\natoms=1\nformulas=3\nform=p 0\nform=top\nform=top\nclauses=0\ngoal=1\nsteps=1\nstep=top\n"
    (prints 15 7 0 0) ∷
    case
    "version=1\nprincipals=1\natoms=1\nformulas=3\nform=p 0\nform=top\nform=p 0\nclauses=0\ngoal=1\nsteps=1\nstep=top\n"
    (prints 15 7 0 0) ∷
    -- the second without its LF is 2
    case
    "version=1\nprincipals=1\natoms=1\nformulas=2\nform=top\nform=top"
    (prints 2 6 0 9) ∷
    -- before a later line, whatever stands there
    case
    "version=1\nprincipals=1\natoms=1\nformulas=3\nform=top\nform=top\nform=no\n"
    (prints 15 6 0 0) ∷
    -- another order and another kind are another formula; a policy line may repeat a number
    case
    "version=1\nprincipals=1\natoms=1\nformulas=5\nform=p 0\nform=top\nform=and 0 1\nform=and 1 0\nform=imp 0 1\nclauses=2\nclause=2\nclause=2\ngoal=1\nsteps=1\nstep=top\n"
    (prints 0 0 1 0) ∷
    []

pub repeats_tell : Tell repeats
unfolding gate repeats
repeats_tell = refl

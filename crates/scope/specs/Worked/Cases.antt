-- Cases P1 to P12 of document 01, as whole texts through reading and judging to what the gate prints: answer, place, steps read.
use Prim.Native.String.{String}
use Rattle.std.specs.Prelude.{◌≡◌, refl, List, [], ◌∷◌, map}
use Rattle.scope.specs.File.Bytes.{bytes}
use Rattle.scope.specs.Call.Judge.{Printed, prints, gate}

pub record Case : Type 0 where
  pub text : String
  pub comes : Printed

abbrev pub case : String → Printed → Case
case t p = record { text = t; comes = p }

unfoldable pub twelve : List Case
twelve =
    -- P1
    case
    "version=1\nprincipals=2\natoms=1\nformulas=5\nform=p 0\nform=says 0 0\nform=imp 1 0\nform=sf 1 0\nform=says 1 0\nclauses=3\nclause=2\nclause=3\nclause=4\ngoal=0\nsteps=7\nstep=use 0\nstep=to 0\nstep=hit\nstep=says\nstep=use 2\nstep=to 1\nstep=hit\n"
    (prints 0 0 7 0) ∷
    -- P2: P1 with `form=sf 0 1`
    case
    "version=1\nprincipals=2\natoms=1\nformulas=5\nform=p 0\nform=says 0 0\nform=imp 1 0\nform=sf 0 1\nform=says 1 0\nclauses=3\nclause=2\nclause=3\nclause=4\ngoal=0\nsteps=7\nstep=use 0\nstep=to 0\nstep=hit\nstep=says\nstep=use 2\nstep=to 1\nstep=hit\n"
    (prints 9 6 7 0) ∷
    -- P3: empty policy, goal 0 sf 0
    case
    "version=1\nprincipals=1\natoms=1\nformulas=1\nform=sf 0 0\nclauses=0\ngoal=0\nsteps=1\nstep=sf\n"
    (prints 0 0 1 0) ∷
    -- P4: empty policy, goal p0 imp p0
    case
    "version=1\nprincipals=1\natoms=1\nformulas=2\nform=p 0\nform=imp 0 0\nclauses=0\ngoal=1\nsteps=4\nstep=imp\nstep=push\nstep=use 0\nstep=hit\n"
    (prints 0 0 4 0) ∷
    -- P5: policy p0, goal 0 says p0
    case
    "version=1\nprincipals=1\natoms=1\nformulas=2\nform=p 0\nform=says 0 0\nclauses=1\nclause=0\ngoal=1\nsteps=3\nstep=says\nstep=use 0\nstep=hit\n"
    (prints 9 3 3 0) ∷
    -- P6: policy 0 says p0, goal 1 says 0 says p0
    case
    "version=1\nprincipals=2\natoms=1\nformulas=3\nform=p 0\nform=says 0 0\nform=says 1 1\nclauses=1\nclause=1\ngoal=2\nsteps=5\nstep=says\nstep=says\nstep=use 0\nstep=to 2\nstep=hit\n"
    (prints 0 0 5 0) ∷
    -- P7: policy 1 says 0 says p0, goal 0 says p0
    case
    "version=1\nprincipals=2\natoms=1\nformulas=3\nform=p 0\nform=says 0 0\nform=says 1 1\nclauses=1\nclause=2\ngoal=1\nsteps=3\nstep=says\nstep=use 0\nstep=to 1\n"
    (prints 9 3 3 0) ∷
    -- P8: empty policy, goal (p0 or p1) imp (p1 or p0)
    case
    "version=1\nprincipals=1\natoms=2\nformulas=5\nform=p 0\nform=p 1\nform=or 0 1\nform=or 1 0\nform=imp 2 3\nclauses=0\ngoal=4\nsteps=10\nstep=imp\nstep=case\nstep=push\nstep=or2\nstep=use 0\nstep=hit\nstep=push\nstep=or1\nstep=use 0\nstep=hit\n"
    (prints 0 0 10 0) ∷
    -- P9: goal bot, step `top`
    case
    "version=1\nprincipals=1\natoms=1\nformulas=1\nform=bot\nclauses=0\ngoal=0\nsteps=1\nstep=top\n"
    (prints 7 1 1 0) ∷
    -- P10: goal bot imp p0
    case
    "version=1\nprincipals=1\natoms=1\nformulas=3\nform=bot\nform=p 0\nform=imp 0 1\nclauses=0\ngoal=2\nsteps=2\nstep=imp\nstep=absurd\n"
    (prints 0 0 2 0) ∷
    -- P11: P3 with `sf` twice
    case
    "version=1\nprincipals=1\natoms=1\nformulas=1\nform=sf 0 0\nclauses=0\ngoal=0\nsteps=2\nstep=sf\nstep=sf\n"
    (prints 11 2 2 0) ∷
    -- P12: P1 with `steps=6` and without its last step
    case
    "version=1\nprincipals=2\natoms=1\nformulas=5\nform=p 0\nform=says 0 0\nform=imp 1 0\nform=sf 1 0\nform=says 1 0\nclauses=3\nclause=2\nclause=3\nclause=4\ngoal=0\nsteps=6\nstep=use 0\nstep=to 0\nstep=hit\nstep=says\nstep=use 2\nstep=to 1\n"
    (prints 12 7 6 0) ∷
    []

-- The checker computes all twelve.
pub twelve_hold : map (λ (c : Case). gate (bytes c.text)) twelve ≡ map (λ (c : Case). c.comes) twelve
unfolding gate twelve
twelve_hold = refl

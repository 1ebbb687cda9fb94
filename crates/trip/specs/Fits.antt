-- The text of a request without refusal has at most 65,536 bytes: what is written never meets refusal 1.
use Rattle.std.specs.Prelude.{ℕ, zero, suc, ◌+◌, ◌*◌, ◌<◌, ◌≤◌, ◌≡◌, refl, List, [], ◌∷◌, ◌++◌, map, Bool, true, false, cond, leb, ltb, length, take}
use Rattle.std.proofs.Common.{arith, mul-suc, length-append, leb-true}
use Rattle.scope.specs.Logic.Facts.{Logic, plain, unit}
use Rattle.scope.specs.Limits.{has_logic}
use Rattle.scope.specs.File.Request.{Row, Request}
use Rattle.scope.specs.File.Bytes.{joined}
use Rattle.scope.specs.File.Number.{numeral}
use Rattle.scope.specs.File.Line.{Line, line_text, many_text, counted_text}
use Rattle.scope.specs.File.Kinds.{Kind, kind_in, spaced, operands_of, row_text, form_kinds, step_kinds, logic_text}
use Rattle.scope.specs.File.Refusals.{form_refusal, step_refusal}
use Rattle.scope.specs.File.Text.{version_line, logic_line, principals_line, atoms_line, formulas_line, form_line, clauses_line, clause_line, goal_line, steps_line, step_line, logic_lines, body_text, request_text}
use Rattle.trip.specs.Words.{every_kind, every_at}
use Rattle.trip.specs.RowRanges.{row_passed, form_passed}
use Rattle.trip.specs.Small.{count_passed}
use Rattle.trip.specs.Several.{Each, none_left, one_more}
use Rattle.trip.specs.File.{Unrefused}

fits_choice : (m : ℕ) (t : Bool) (x y : List ℕ) → length x ≤ m → length y ≤ m → length (cond t x y) ≤ m
fits_choice m true x y p q = p
fits_choice m false x y p q = q

numeral_fits : (n : ℕ) → length (numeral n) ≤ 5
unfolding numeral
numeral_fits n =
    fits_choice 5 (ltb n 10) _ _ (omega arith)
    (fits_choice 5 (ltb n 100) _ _ (omega arith)
    (fits_choice 5 (ltb n 1000) _ _ (omega arith) (fits_choice 5 (ltb n 10000) _ _ (omega arith) (omega arith))))

spaced_fits : (ns : List ℕ) (w : List ℕ) → length (spaced w (map numeral ns)) ≤ length w + 6 * length ns
unfolding spaced
spaced_fits [] w = omega arith
spaced_fits (n ∷ ns) w =
    omega (arith, length-append w (32 ∷ spaced (numeral n) (map numeral ns)), spaced_fits ns (numeral n), numeral_fits n)

taken_fits : (a l r : ℕ) → length (take a (l ∷ r ∷ [])) ≤ a
taken_fits zero l r = omega arith
taken_fits (suc zero) l r = omega arith
taken_fits (suc (suc zero)) l r = omega arith
taken_fits (suc (suc (suc a))) l r = omega arith

-- A kind's word, with a space and five digits for each operand.
unfoldable short : ℕ → Kind → Bool
short m c = leb (length c.word + 6 * length c.operands) m

row_fits : (ks : List Kind) (m : ℕ) (r : Row) → every_kind (short m) ks ≡ true → r.kind < length ks → length (row_text ks r) ≤ m
unfolding row_text short
row_fits ks m r e h =
    let c = kind_in ks r.kind in
    let s = leb-true (length c.word + 6 * length c.operands) m (every_at (short m) ks r.kind e h) in
    let p = spaced_fits (take (length c.operands) (operands_of r)) c.word in
    let q = taken_fits (length c.operands) r.left r.right in
    omega arith

forms_short : every_kind (short 16) form_kinds ≡ true
unfolding every_kind short form_kinds
forms_short = refl

steps_short : every_kind (short 9) step_kinds ≡ true
unfolding every_kind short step_kinds
steps_short = refl

line_fits : {A : Type 0} (l : Line A) (a : A) (m : ℕ) → length (l.shape.text a) ≤ m → length (line_text l a) ≤ length l.key + m + 1
unfolding line_text
line_fits l a m h =
    let p = length-append (l.key ++ l.shape.text a) (10 ∷ []) in
    let q = length-append l.key (l.shape.text a) in
    omega arith

many_fits :
    {A : Type 0} {Good : List A → A → Type 0} (text : A → List ℕ) (m : ℕ) → ((before : List A) (x : A) → Good before x → length (text x) ≤ m)
    → {n : ℕ} {before xs : List A} → Each Good n before xs → length (many_text text xs) ≤ m * n
unfolding many_text
many_fits text m fits none_left = omega arith
many_fits text m fits (one_more {n = n} {before = b} {x = x} {xs = xs} g e) =
    omega (arith, length-append (text x) (many_text text xs), fits b x g, many_fits text m fits e, mul-suc m n)

-- Texts one after the other, each with a bound.
data Within : List (List ℕ) → List ℕ → Type 0 where
  no_text : Within [] []
  text_more : {t : List ℕ} {ts : List (List ℕ)} {m : ℕ} {ms : List ℕ} → length t ≤ m → Within ts ms → Within (t ∷ ts) (m ∷ ms)

abbrev sum : List ℕ → ℕ
sum [] = 0
sum (m ∷ ms) = m + sum ms

joined_fits : {ts : List (List ℕ)} {ms : List ℕ} → Within ts ms → length (joined ts) ≤ sum ms
unfolding joined
joined_fits no_text = omega arith
joined_fits (text_more {t = t} {ts = ts} h w) = omega (arith, length-append t (joined ts), joined_fits w)

counted_fits :
    {A : Type 0} {Good : List A → A → Type 0} (l : Line ℕ) (it : Line A) (m : ℕ) (xs : List A) → length (l.shape.text (length xs)) ≤ 5
    → ((before : List A) (x : A) → Good before x → length (line_text it x) ≤ m) → Each Good (length xs) [] xs
    → length (counted_text l it xs) ≤ length l.key + 6 + m * length xs
unfolding counted_text
counted_fits l it m xs h fits e =
    omega
    (arith, length-append (line_text l (length xs)) (many_text (line_text it) xs), line_fits l (length xs) 5 h, many_fits (line_text it) m fits e)

form_fits : (principals atoms : ℕ) (before : List Row) (r : Row) → form_refusal principals atoms before r ≡ 0 → length (line_text form_line r) ≤ 22
form_fits np na before r e =
    line_fits form_line r 16
    (row_fits form_kinds 16 r forms_short (row_passed np na (length before) form_kinds r (form_passed np na before r e).row).known)

step_fits : (before : List Row) (r : Row) → step_refusal r ≡ 0 → length (line_text step_line r) ≤ 15
unfolding step_refusal
step_fits before r e = line_fits step_line r 9 (row_fits step_kinds 9 r steps_short (row_passed 0 0 0 step_kinds r e).known)

logic_fits : (v : ℕ) (l : Logic) → length (logic_lines v l) ≤ 12
unfolding logic_lines logic_text
logic_fits v l = fits_choice 12 (has_logic v) _ _ (line_fits logic_line l 5 (word l)) (omega arith)
  where
    word : (l : Logic) → length (logic_text l) ≤ 5
    word plain = omega arith
    word unit = omega arith

-- The eleven kinds of lines, each with the largest numbers.
pub text_fits : (q : Request) → Unrefused q → length (request_text q) ≤ 65536
unfolding request_text body_text joined
text_fits q g =
    let f = count_passed 1 1024 (length q.forms) g.formulas in
    let c = count_passed 0 128 (length q.policy) g.clauses in
    let s = count_passed 1 2048 (length q.steps) g.step_count in
    let forms : length (counted_text formulas_line form_line q.forms) ≤ 22543 =
    omega (arith, counted_fits formulas_line form_line 22 q.forms (numeral_fits (length q.forms)) (form_fits q.principals q.atoms) g.forms) in
    let clauses : length (counted_text clauses_line clause_line q.policy) ≤ 1678 =
    omega (arith, counted_fits clauses_line clause_line 13 q.policy (numeral_fits (length q.policy)) (λ b x r. line_fits clause_line x 5 (numeral_fits x)) g.policy) in
    let steps : length (counted_text steps_line step_line q.steps) ≤ 30732 =
    omega (arith, counted_fits steps_line step_line 15 q.steps (numeral_fits (length q.steps)) step_fits g.steps) in
    let parts : Within
    (line_text version_line q.version ∷
    logic_lines q.version q.logic ∷
    line_text principals_line q.principals ∷
    line_text atoms_line q.atoms ∷
    counted_text formulas_line form_line q.forms ∷
    counted_text clauses_line clause_line q.policy ∷
    line_text goal_line q.goal ∷
    counted_text steps_line step_line q.steps ∷
    [])
    (14 ∷ 12 ∷ 17 ∷ 12 ∷ 22543 ∷ 1678 ∷ 11 ∷ 30732 ∷ []) =
    text_more (line_fits version_line q.version 5 (numeral_fits q.version))
    (text_more (logic_fits q.version q.logic)
    (text_more (line_fits principals_line q.principals 5 (numeral_fits q.principals))
    (text_more (line_fits atoms_line q.atoms 5 (numeral_fits q.atoms))
    (text_more forms
    (text_more clauses
    (text_more (line_fits goal_line q.goal 5 (numeral_fits q.goal)) (text_more steps no_text))))))) in
    let whole : length (request_text q) ≤ 55019 = joined_fits parts in
    omega arith

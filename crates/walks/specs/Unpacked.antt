-- The things of a lent table, each by its place: `unpack_at`, and for formulas, policy lines and steps `form_at_lem`, `line_at` and `steps_are`.
use Rattle.std.specs.Prelude.{ℕ, zero, suc, ◌+◌, ◌*◌, ◌<◌, ◌≡◌, refl, List, map, get_or, take, drop}
use Rattle.std.proofs.Common.{ap, ◌∙◌, arith, add-zero, get_or-take, get_or-drop, drop-drop}
use Rattle.scope.specs.File.Request.{Row}
use Rattle.scope.specs.Logic.Obligation.{step_of}
use Rattle.scope.specs.Call.Tables.{Entry, form_entry, policy_entry, step_entry, unpack}
use Rattle.steps.specs.Steps.{pair_at, step_is, step_means}
use Rattle.common.specs.Rows.{row_at}
use Rattle.machine.specs.Machine.{step_in}
use Rattle.walks.specs.Ran.{steps_from}

pub unpack_at : {A : Type 0} (e : Entry A) (n i : ℕ) (t : List ℕ) (d : A) → i < n →
    get_or (unpack e n t) i d ≡ e.get (take e.width (drop (i * e.width) t))
unfolding unpack
unpack_at e zero i t d h = absurd (omega arith)
unpack_at e (suc n) zero t d h = let z : 0 * e.width ≡ 0 = omega arith in rw z refl
unpack_at e (suc n) (suc i) t d h =
    let next : e.width + i * e.width ≡ suc i * e.width = omega arith in
    unpack_at e n i (drop e.width t) d (omega arith) ∙
    ap (λ (l : List ℕ). e.get (take e.width l)) (drop-drop (i * e.width) e.width t ∙ ap (λ (k : ℕ). drop k t) next)

-- Number j of a thing that begins at i.
number_at : (w j i : ℕ) (t : List ℕ) → j < w → get_or (take w (drop i t)) j 0 ≡ get_or t (i + j) 0
number_at w j i t h = get_or-take w (drop i t) j 0 h ∙ get_or-drop i t j 0

first_at : (w i : ℕ) (t : List ℕ) → 0 < w → get_or (take w (drop i t)) 0 0 ≡ get_or t i 0
first_at w i t h = number_at w 0 i t h ∙ ap (λ (k : ℕ). get_or t k 0) (add-zero i)

-- Row f of a form table, as scope has it.
abbrev pub row_of : List ℕ → ℕ → Row
row_of t f = record { kind = (row_at t f).kind; left = (row_at t f).left; right = (row_at t f).right }

pub form_at_lem : (n f : ℕ) (t : List ℕ) (d : Row) → f < n → get_or (unpack form_entry n t) f d ≡ row_of t f
unfolding row_at
form_at_lem n f t d h =
    let a : 0 < 3 = omega arith in
    let b : 1 < 3 = omega arith in
    let c : 2 < 3 = omega arith in
    let place : 3 * f ≡ f * 3 = omega arith in
    rw place
    (unpack_at form_entry n f t d h ∙
    rw (first_at 3 (f * 3) t a, number_at 3 1 (f * 3) t b, number_at 3 2 (f * 3) t c) refl)

pub line_at : (n i : ℕ) (t : List ℕ) → i < n → get_or (unpack policy_entry n t) i 0 ≡ get_or t i 0
line_at n i t h =
    let a : 0 < 1 = omega arith in
    let place : i * 1 ≡ i = omega arith in
    unpack_at policy_entry n i t 0 h ∙ first_at 1 (i * 1) t a ∙ ap (λ (k : ℕ). get_or t k 0) place

-- A step by its two numbers.
step_at_lem : (t : List ℕ) (i : ℕ) → step_is (step_in t i) ≡ step_of (step_entry.get (take 2 (drop (i * 2) t)))
unfolding step_in pair_at
step_at_lem t i =
    let a : 0 < 2 = omega arith in
    let b : 1 < 2 = omega arith in
    let place : 2 * i ≡ i * 2 = omega arith in
    rw (place, first_at 2 (i * 2) t a, number_at 2 1 (i * 2) t b)
    (step_means record { kind = get_or t (i * 2) 0; left = get_or t (i * 2 + 1) 0; right = 0 })

steps_after : (t : List ℕ) (n i : ℕ) → steps_from t n i ≡ map step_of (unpack step_entry n (drop (i * 2) t))
unfolding steps_from unpack
steps_after t zero i = refl
steps_after t (suc n) i =
    let next : i * 2 + 2 ≡ suc i * 2 = omega arith in
    rw (step_at_lem t i, drop-drop 2 (i * 2) t, next, steps_after t n (suc i)) refl

pub steps_are : (t : List ℕ) (n : ℕ) → steps_from t n 0 ≡ map step_of (unpack step_entry n t)
steps_are t n = steps_after t n 0

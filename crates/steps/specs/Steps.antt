-- The code's steps by their numbers, and the steps of document 01 that they mean.
use Rattle.std.specs.Prelude.{ℕ, zero, suc, ◌+◌, ◌-◌, ◌*◌, ◌≤◌, ◌<◌, ◌≡◌, refl, List, [], ◌∷◌, get_or}
use Rattle.std.proofs.Common.{arith, sym, ap, ◌∙◌}
use Rattle.std.proofs.Math.ListN.{get_or-map}
use Rattle.scope.specs.File.Request.{Row}
use Rattle.scope.specs.Logic.Obligation as O
use Rattle.scope.specs.Logic.Obligation.{step_of}
use Rattle.steps.specs.declared.Pair.{Pair}
use Rattle.steps.specs.declared.Step.{Step}
use Rattle.steps.specs.declared.Step.TheVariants.{And, Or1, Or2, Imp, Says, Top, Sf, Use, Left, Right, To, Hit, Push, Split, Case, Absurd, Drop, Note}

abbrev pub pair : ℕ → ℕ → Pair
pair k n = record { kind = k; number = n }

-- The two numbers of step i in a table, 0 past its end.
unfoldable pub pair_at : List ℕ → ℕ → Pair
pair_at steps i = pair (get_or steps (2 * i) 0) (get_or steps (2 * i + 1) 0)

-- Kinds are numbered 0 to 17.
abbrev in_order : ℕ → List Step
in_order n =
    And ∷ Or1 ∷ Or2 ∷ Imp ∷ Says ∷ Top ∷ Sf ∷ Use (record { 0 = n }) ∷ Left ∷ Right ∷ To (record { 0 = n }) ∷ Hit ∷ Push ∷ Split ∷ Case ∷ Absurd ∷
    Drop ∷ Note ∷ []

unfoldable pub step_from : ℕ → ℕ → Step
step_from kind number = get_or (in_order number) kind Note

-- The two numbers of a step: the number beside the kind is 0 where the kind carries none.
unfoldable pub pair_of : Step → Pair
pair_of And = pair 0 0
pair_of Or1 = pair 1 0
pair_of Or2 = pair 2 0
pair_of Imp = pair 3 0
pair_of Says = pair 4 0
pair_of Top = pair 5 0
pair_of Sf = pair 6 0
pair_of (Use n) = pair 7 n.0
pair_of Left = pair 8 0
pair_of Right = pair 9 0
pair_of (To v) = pair 10 v.0
pair_of Hit = pair 11 0
pair_of Push = pair 12 0
pair_of Split = pair 13 0
pair_of Case = pair 14 0
pair_of Absurd = pair 15 0
pair_of Drop = pair 16 0
pair_of Note = pair 17 0

-- The step that the code's enum means.
unfoldable pub step_is : Step → O.Step
step_is And = O.And
step_is Or1 = O.Or1
step_is Or2 = O.Or2
step_is Imp = O.Imp
step_is Says = O.Says
step_is Top = O.Top
step_is Sf = O.Sf
step_is (Use n) = O.Use n.0
step_is Left = O.Left
step_is Right = O.Right
step_is (To v) = O.To v.0
step_is Hit = O.Hit
step_is Push = O.Push
step_is Split = O.Split
step_is Case = O.Case
step_is Absurd = O.Absurd
step_is Drop = O.Drop
step_is Note = O.Note

-- A row's step means what document 01 has for the row.
pub step_means : (r : Row) → step_is (step_from r.kind r.left) ≡ step_of r
unfolding step_from step_is step_of
step_means r = sym (get_or-map step_is (in_order r.left) r.kind Note)

-- Past the last kind but one stands the last.
last_kind : (k n : ℕ) → step_from (suc (suc (suc (suc (suc (suc (suc (suc (suc (suc (suc (suc (suc (suc (suc (suc (suc k))))))))))))))))) n ≡ Note
unfolding step_from
last_kind zero n = refl
last_kind (suc k) n = refl

pub kind_note : (k n : ℕ) → 17 ≤ k → step_from k n ≡ Note
kind_note k n h =
    let j : ℕ = k - 17 in
    let e : k ≡ suc (suc (suc (suc (suc (suc (suc (suc (suc (suc (suc (suc (suc (suc (suc (suc (suc j)))))))))))))))) = omega arith in
    ap (λ (x : ℕ). step_from x n) e ∙ last_kind j n

-- A number that is none of the first n.
abbrev pub Beyond : ℕ → ℕ → Type 0
Beyond zero x = Unit
Beyond (suc n) x = Beyond n x × (x ≡ n → ⊥)

pub beyond : (n x : ℕ) → Beyond n x → n ≤ x
beyond zero x h = omega arith
beyond (suc n) x h =
    let below : n ≤ x = beyond n x h.0 in
    let other : x ≡ n → ⊥ = h.1 in
    omega arith

-- The step of a kind and a number has them back, where a kind that carries no number stands beside 0.
pub pair_back : (k n : ℕ) → k < 18 → ((k ≡ 7 → ⊥) → (k ≡ 10 → ⊥) → n ≡ 0) → pair_of (step_from k n) ≡ pair k n
unfolding step_from pair_of
pair_back zero n h z = ap (pair 0) (sym (z (λ e. omega (arith, e)) (λ e. omega (arith, e))))
pair_back (suc zero) n h z = ap (pair 1) (sym (z (λ e. omega (arith, e)) (λ e. omega (arith, e))))
pair_back (suc (suc zero)) n h z = ap (pair 2) (sym (z (λ e. omega (arith, e)) (λ e. omega (arith, e))))
pair_back (suc (suc (suc zero))) n h z = ap (pair 3) (sym (z (λ e. omega (arith, e)) (λ e. omega (arith, e))))
pair_back (suc (suc (suc (suc zero)))) n h z = ap (pair 4) (sym (z (λ e. omega (arith, e)) (λ e. omega (arith, e))))
pair_back (suc (suc (suc (suc (suc zero))))) n h z = ap (pair 5) (sym (z (λ e. omega (arith, e)) (λ e. omega (arith, e))))
pair_back (suc (suc (suc (suc (suc (suc zero)))))) n h z = ap (pair 6) (sym (z (λ e. omega (arith, e)) (λ e. omega (arith, e))))
pair_back (suc (suc (suc (suc (suc (suc (suc zero))))))) n h z = refl
pair_back (suc (suc (suc (suc (suc (suc (suc (suc zero)))))))) n h z = ap (pair 8) (sym (z (λ e. omega (arith, e)) (λ e. omega (arith, e))))
pair_back (suc (suc (suc (suc (suc (suc (suc (suc (suc zero))))))))) n h z = ap (pair 9) (sym (z (λ e. omega (arith, e)) (λ e. omega (arith, e))))
pair_back (suc (suc (suc (suc (suc (suc (suc (suc (suc (suc zero)))))))))) n h z = refl
pair_back (suc (suc (suc (suc (suc (suc (suc (suc (suc (suc (suc zero))))))))))) n h z = ap (pair 11) (sym (z (λ e. omega (arith, e)) (λ e. omega (arith, e))))
pair_back (suc (suc (suc (suc (suc (suc (suc (suc (suc (suc (suc (suc zero)))))))))))) n h z = ap (pair 12) (sym (z (λ e. omega (arith, e)) (λ e. omega (arith, e))))
pair_back (suc (suc (suc (suc (suc (suc (suc (suc (suc (suc (suc (suc (suc zero))))))))))))) n h z = ap (pair 13) (sym (z (λ e. omega (arith, e)) (λ e. omega (arith, e))))
pair_back (suc (suc (suc (suc (suc (suc (suc (suc (suc (suc (suc (suc (suc (suc zero)))))))))))))) n h z = ap (pair 14) (sym (z (λ e. omega (arith, e)) (λ e. omega (arith, e))))
pair_back (suc (suc (suc (suc (suc (suc (suc (suc (suc (suc (suc (suc (suc (suc (suc zero))))))))))))))) n h z = ap (pair 15) (sym (z (λ e. omega (arith, e)) (λ e. omega (arith, e))))
pair_back (suc (suc (suc (suc (suc (suc (suc (suc (suc (suc (suc (suc (suc (suc (suc (suc zero)))))))))))))))) n h z = ap (pair 16) (sym (z (λ e. omega (arith, e)) (λ e. omega (arith, e))))
pair_back (suc (suc (suc (suc (suc (suc (suc (suc (suc (suc (suc (suc (suc (suc (suc (suc (suc zero))))))))))))))))) n h z = ap (pair 17) (sym (z (λ e. omega (arith, e)) (λ e. omega (arith, e))))
pair_back (suc (suc (suc (suc (suc (suc (suc (suc (suc (suc (suc (suc (suc (suc (suc (suc (suc (suc k)))))))))))))))))) n h z = absurd (omega arith)

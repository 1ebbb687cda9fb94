-- The things of a lent table: one more of them, and how many.
use Rattle.std.specs.Prelude.{ℕ, zero, suc, ◌+◌, ◌*◌, ◌≡◌, refl, List, [], ◌∷◌, ◌++◌, length, take, drop}
use Rattle.std.proofs.Common.{ap, ◌∙◌, arith, mul-zero, mul-suc, drop-drop}
use Rattle.scope.specs.Call.Tables.{Entry, unpack}

pub unpack_turn :
    {A : Type 0} (e : Entry A) (n : ℕ) (t : List ℕ)
    → unpack e (suc n) t ≡ unpack e n t ++ (e.get (take e.width (drop (e.width * n) t)) ∷ [])
unfolding unpack
unpack_turn e zero t = rw (mul-zero e.width)
unpack_turn e (suc n) t =
    let w : e.width + e.width * n ≡ e.width * suc n = omega (arith, mul-suc e.width n) in
    let d : drop (e.width * n) (drop e.width t) ≡ drop (e.width * suc n) t =
    drop-drop (e.width * n) e.width t ∙ ap (λ m. drop m t) w in
    ap (λ l. e.get (take e.width t) ∷ l)
    (unpack_turn e n (drop e.width t) ∙
    ap (λ u. unpack e n (drop e.width t) ++ (e.get (take e.width u) ∷ [])) d)

pub unpack_length : {A : Type 0} (e : Entry A) (n : ℕ) (t : List ℕ) → length (unpack e n t) ≡ n
unfolding unpack
unpack_length e zero t = refl
unpack_length e (suc n) t = ap suc (unpack_length e n (drop e.width t))

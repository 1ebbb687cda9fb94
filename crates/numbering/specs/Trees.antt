-- Where no row repeats an earlier one, a formula has one number: two numbers with the same formula, as a tree, are one.
use Prim.Native.Nat.{ℕ, zero, suc, ◌+◌, ◌<◌}
use Rattle.std.proofs.Common.{not-suc-le-zero, add-zero, zero-add, arith, sym, ◌∙◌, append_assoc, append-nil, length-append, get_or-take, ltb-true, ltb-false, eqb-true}
use Rattle.std.specs.Prelude.{◌≡◌, Bool, false, List, [], ◌∷◌, ◌++◌, ltb, eqb, length, get_or, take}
use Rattle.std.proofs.Math.Path.{refl}
use Rattle.std.proofs.Math.Bool.{true}
use Rattle.std.proofs.Math.Seq.{take-append_seam, get_or-append_seam}
use Rattle.scope.specs.Logic.Form.{Form, atom, top, bot, and, or, imp, says, sf, both}
use Rattle.scope.specs.File.Request.{Row, row_form, forms_after, formula}
use Rattle.scope.specs.File.Kinds.{form_kinds}
use Rattle.scope.specs.File.Refusals.{demand, row_refusal}
use Rattle.scope.specs.Tools.Tests.{both_true}
use Rattle.refusals.specs.Rows.{row, demands, form_0, form_1, form_2, form_3, form_4, form_5, form_6, form_other}
use Rattle.numbering.specs.Equal.{no_row, NoRepeat}

-- Each row is one that its line could give: a kind that is known, 0 for what it lacks, and earlier formulas only.
pub record Fair (principals atoms : ℕ) (rows : List Row) : Type 0 where
  pub each : (i : ℕ) → i < length rows → row_refusal form_kinds principals atoms i (get_or rows i no_row) ≡ 0

-- A formula by its kind, its numbers and its parts, 0 and `top` for what it lacks.
unfoldable pub kind_of : Form → ℕ
kind_of (atom p) = 0
kind_of top = 1
kind_of bot = 2
kind_of (and f g) = 3
kind_of (or f g) = 4
kind_of (imp f g) = 5
kind_of (says a f) = 6
kind_of (sf a b) = 7

-- An operand of row i: a number, or an earlier formula's number.
pub data Operand : Type 0 where
  number : ℕ → Operand
  part : Form → Operand

unfoldable pub left_of : Form → Operand
left_of (atom p) = number p
left_of top = number 0
left_of bot = number 0
left_of (and f g) = part f
left_of (or f g) = part f
left_of (imp f g) = part f
left_of (says a f) = number a
left_of (sf a b) = number a

unfoldable pub right_of : Form → Operand
right_of (atom p) = number 0
right_of top = number 0
right_of bot = number 0
right_of (and f g) = part g
right_of (or f g) = part g
right_of (imp f g) = part g
right_of (says a f) = part f
right_of (sf a b) = number b

-- The number x stands for an operand in row i, the formulas being fs.
data Stands (fs : List Form) (i x : ℕ) : Operand → Type 0 where
  itself : {n : ℕ} → x ≡ n → Stands fs i x (number n)
  earlier : {f : Form} → x < i → get_or fs x top ≡ f → Stands fs i x (part f)

same_operand : {fs : List Form} {i j x y : ℕ} {o : Operand} → ((f g : ℕ) → f < i → g < j → get_or fs f top ≡ get_or fs g top → f ≡ g) →
    Stands fs i x o → Stands fs j y o → x ≡ y
same_operand one (itself e) (itself d) = e ∙ sym d
same_operand {x = x} {y = y} one (earlier h e) (earlier l d) = one x y h l (e ∙ sym d)

-- Row i means a formula.
record Made (fs : List Form) (i : ℕ) (r : Row) (f : Form) : Type 0 where
  kinds : r.kind ≡ kind_of f
  lefts : Stands fs i r.left (left_of f)
  rights : Stands fs i r.right (right_of f)

same_row_lem : {fs : List Form} {i j : ℕ} {a b : Row} {f : Form} → ((x y : ℕ) → x < i → y < j → get_or fs x top ≡ get_or fs y top → x ≡ y) →
    Made fs i a f → Made fs j b f → a ≡ b
same_row_lem one m n =
    let k = m.kinds ∙ sym n.kinds in
    let l = same_operand one m.lefts n.lefts in
    let r = same_operand one m.rights n.rights in
    λ j. record { kind = k j; left = l j; right = r j }

asked : (a b c : Bool) → demands a b c ≡ 0 → (a ≡ true) × (b ≡ true) × (c ≡ true)
unfolding demand
asked true true true e = (refl, refl, refl)
asked true true false e = absurd (omega arith)
asked true false c e = absurd (omega arith)
asked false b c e = absurd (omega arith)

module _ (fs : List Form) (p a i : ℕ) where
  front : (x : ℕ) → ltb x i ≡ true → Stands fs i x (part (get_or (take i fs) x top))
  front x h = earlier (ltb-true x i h) (sym (get_or-take i fs x top (ltb-true x i h)))

  plain : (x : ℕ) → eqb x 0 ≡ true → Stands fs i x (number 0)
  plain x h = itself (eqb-true x 0 h)

  made : (k l r : ℕ) → row_refusal form_kinds p a i (row k l r) ≡ 0 → Made fs i (row k l r) (row_form (take i fs) (row k l r))
  unfolding row_form kind_of left_of right_of
  made zero l r e =
      let m = asked (eqb r 0) (ltb l a) true (sym (form_0 p a i l r) ∙ e) in
      record { kinds = refl; lefts = itself refl; rights = plain r m.0 }
  made (suc zero) l r e =
      let m = asked (both (eqb l 0) (eqb r 0)) true true (sym (form_1 p a i l r) ∙ e) in
      let z = both_true (eqb l 0) (eqb r 0) m.0 in
      record { kinds = refl; lefts = plain l z.0; rights = plain r z.1 }
  made (suc (suc zero)) l r e =
      let m = asked (both (eqb l 0) (eqb r 0)) true true (sym (form_2 p a i l r) ∙ e) in
      let z = both_true (eqb l 0) (eqb r 0) m.0 in
      record { kinds = refl; lefts = plain l z.0; rights = plain r z.1 }
  made (suc (suc (suc zero))) l r e =
      let m = asked true true (both (ltb l i) (ltb r i)) (sym (form_3 p a i l r) ∙ e) in
      let z = both_true (ltb l i) (ltb r i) m.2 in
      record { kinds = refl; lefts = front l z.0; rights = front r z.1 }
  made (suc (suc (suc (suc zero)))) l r e =
      let m = asked true true (both (ltb l i) (ltb r i)) (sym (form_4 p a i l r) ∙ e) in
      let z = both_true (ltb l i) (ltb r i) m.2 in
      record { kinds = refl; lefts = front l z.0; rights = front r z.1 }
  made (suc (suc (suc (suc (suc zero))))) l r e =
      let m = asked true true (both (ltb l i) (ltb r i)) (sym (form_5 p a i l r) ∙ e) in
      let z = both_true (ltb l i) (ltb r i) m.2 in
      record { kinds = refl; lefts = front l z.0; rights = front r z.1 }
  made (suc (suc (suc (suc (suc (suc zero)))))) l r e =
      let m = asked true (ltb l p) (ltb r i) (sym (form_6 p a i l r) ∙ e) in
      record { kinds = refl; lefts = itself refl; rights = front r m.2 }
  made (suc (suc (suc (suc (suc (suc (suc zero))))))) l r e = record { kinds = refl; lefts = itself refl; rights = itself refl }
  made (suc (suc (suc (suc (suc (suc (suc (suc k)))))))) l r e =
      let other = form_other p a i l r (suc (suc (suc (suc (suc (suc (suc (suc k))))))))
      (λ z. omega arith) (λ z. omega arith) (λ z. omega arith) (λ z. omega arith) (λ z. omega arith) (λ z. omega arith) (λ z. omega arith)
      (λ z. omega arith) in
      absurd (omega arith)

-- The formulas of rows stand behind those before them, and each is made of its own row and the formulas before it.
extends : (fs : List Form) (rs : List Row) → (more : List Form) × (forms_after fs rs ≡ fs ++ more)
unfolding forms_after
extends fs [] = ([], sym (append-nil fs))
extends fs (r ∷ rs) =
    let m = extends (fs ++ (row_form fs r ∷ [])) rs in
    (row_form fs r ∷ m.0, m.1 ∙ append_assoc fs (row_form fs r ∷ []) m.0)

row_made : (fs : List Form) (rs : List Row) (j : ℕ) → j < length rs →
    get_or (forms_after fs rs) (length fs + j) top ≡ row_form (take (length fs + j) (forms_after fs rs)) (get_or rs j no_row)
unfolding forms_after
row_made fs [] j h = absurd (omega arith)
row_made fs (r ∷ rs) zero h = go (extends (fs ++ (row_form fs r ∷ [])) rs)
  where
    all : List Form
    all = forms_after (fs ++ (row_form fs r ∷ [])) rs

    go : (more : List Form) × (all ≡ (fs ++ (row_form fs r ∷ [])) ++ more) →
        get_or all (length fs + 0) top ≡ row_form (take (length fs + 0) all) r
    go m =
        rw (add-zero, m.1 ∙ append_assoc fs (row_form fs r ∷ []) m.0, take-append_seam fs (row_form fs r ∷ m.0))
        (get_or-append_seam fs (row_form fs r) m.0 top)
row_made fs (r ∷ rs) (suc j) h =
    let e : length (fs ++ (row_form fs r ∷ [])) + j ≡ length fs + suc j = rw length-append (omega arith) in
    rw e at (row_made (fs ++ (row_form fs r ∷ [])) rs j (omega arith))

module _ (principals atoms : ℕ) (rows : List Row) (fair : Fair principals atoms rows) (fresh : NoRepeat rows) where
  abbrev forms : List Form
  forms = forms_after [] rows

  row_means : (i : ℕ) → i < length rows → Made forms i (get_or rows i no_row) (get_or forms i top)
  row_means i h =
      rw (rw zero-add at (row_made [] rows i h))
      (made forms principals atoms i (get_or rows i no_row).kind (get_or rows i no_row).left (get_or rows i no_row).right (fair.each i h))

  -- No two rows are equal.
  one_row : (i j : ℕ) → i < length rows → j < length rows → get_or rows i no_row ≡ get_or rows j no_row → i ≡ j
  one_row i j h l e = go (ltb i j) (ltb j i) refl refl
    where
      go : (b c : Bool) → ltb i j ≡ b → ltb j i ≡ c → i ≡ j
      go true c p q = absurd (fresh.differ i j (ltb-true i j p) l e)
      go false true p q = absurd (fresh.differ j i (ltb-true j i q) h (sym e))
      go false false p q = omega (arith, ltb-false i j p, ltb-false j i q)

  below : (n i j : ℕ) → i < n → j < length rows → i < length rows → get_or forms i top ≡ get_or forms j top → i ≡ j
  below zero i j h l k e = absurd (not-suc-le-zero h)
  below (suc n) i j h l k e =
      let lower : (x y : ℕ) → x < i → y < j → get_or forms x top ≡ get_or forms y top → x ≡ y =
      λ x y a b. below n x y (omega arith) (omega arith) (omega arith) in
      one_row i j k l (same_row_lem lower (row_means i k) (rw e (row_means j l)))

  pub one_number : (i j : ℕ) → i < length rows → j < length rows → formula rows i ≡ formula rows j → i ≡ j
  unfolding formula
  one_number i j h l e = below (suc i) i j (omega arith) l h e

-- The classes as they are filled in, from the first formula on: the entries below i are those of the first i formulas, the others no classes.
use Prim.Native.Nat.{ℕ, suc, ◌+◌, ◌-◌, ◌*◌, ◌≤◌, ◌<◌, min}
use native.Mathlib.Numerals.{add-one}
use native.Mathlib.Omega.{arith}
use mathlib.Core.Path.{◌≡◌, refl, ap, sym, ◌∙◌}
use mathlib.Core.List.{List, [], ◌∷◌, ◌++◌, map, map-append}
use lib.ListN.{length, get_or, take, drop, set, replicate, length-set, length-map, take-append-drop}
use lib.Seq.{take-suc-set, drop-set-lt, drop-drop}
use Rattle.scope.specs.Logic.Form.{Form}
use Rattle.scope.specs.File.Request.{Row, row_form, forms_after}
use Rattle.scope.specs.Call.Tables.{form_entry, unpack}
use Rattle.scope.specs.Limits.{most_formulas}
use Rattle.classes.specs.declared.Class.{Class}
use Rattle.classes.specs.Class.{no_class, all_classes, class_of, row_class, class_table}
use Rattle.classes.specs.Rows.{form_row, form_rows, forms_more, forms_length, unpack_length}
use Rattle.classes.specs.Laws.{row_class_lem}

abbrev pub classes_below : List ℕ → ℕ → List Class
classes_below t i = map class_of (forms_after [] (unpack form_entry i t))

pub record Filled (t : List ℕ) (n i : ℕ) (cs : List Class) : Type 0 where
  pub most : i ≤ n
  pub size : length cs ≡ most_formulas
  pub front : take i cs ≡ classes_below t i
  pub back : drop i cs ≡ replicate (most_formulas - i) no_class

pub filled_none : (t : List ℕ) (n : ℕ) → Filled t n 0 (replicate most_formulas no_class)
unfolding forms_after unpack
filled_none t n = record { most = omega arith; size = refl; front = refl; back = refl }

one_more : (t : List ℕ) (i : ℕ) →
    classes_below t (suc i) ≡
    classes_below t i ++
    (row_class (get_or t (3 * i) 0) (get_or (classes_below t i) (get_or t (3 * i + 1) 0) all_classes) (get_or (classes_below t i) (get_or t (3 * i + 2) 0) all_classes) ∷ [])
one_more t i =
    let fs = forms_after [] (unpack form_entry i t) in
    ap (λ (rs : List Row). map class_of (forms_after [] rs)) (form_rows t i) ∙
    ap (λ (gs : List Form). map class_of gs) (forms_more [] (unpack form_entry i t) (form_row t i)) ∙
    map-append class_of fs (row_form fs (form_row t i) ∷ []) ∙
    ap (λ (c : Class). classes_below t i ++ (c ∷ [])) (row_class_lem fs (get_or t (3 * i) 0) (get_or t (3 * i + 1) 0) (get_or t (3 * i + 2) 0))

pub filled_more : (t : List ℕ) (n i : ℕ) (cs : List Class) → n ≤ most_formulas → i < n → Filled t n i cs →
    Filled t n (i + 1)
    (set cs i (row_class (get_or t (3 * i) 0) (get_or (take i cs) (get_or t (3 * i + 1) 0) all_classes) (get_or (take i cs) (get_or t (3 * i + 2) 0) all_classes)))
filled_more t n i cs h k f =
    let e : i < length cs = rw f.size (omega arith) in
    let rest : most_formulas - i ≡ suc (most_formulas - (i + 1)) = omega arith in
    record {
      most = omega arith;
      size = length-set cs i _ ∙ f.size;
      front =
          ap (λ (m : ℕ). take m (set cs i (next (take i cs)))) (add-one i) ∙
          take-suc-set cs i (next (take i cs)) e ∙
          ap (λ (l : List Class). l ++ (next l ∷ [])) f.front ∙
          sym (one_more t i) ∙
          ap (classes_below t) (sym (add-one i));
      back =
          drop-set-lt (i + 1) cs i (next (take i cs)) (omega arith) ∙
          sym (drop-drop 1 i cs) ∙
          ap (drop 1) (f.back ∙ ap (λ (m : ℕ). replicate m no_class) rest);
    }
  where
    next : List Class → Class
    next l = row_class (get_or t (3 * i) 0) (get_or l (get_or t (3 * i + 1) 0) all_classes) (get_or l (get_or t (3 * i + 2) 0) all_classes)

pub filled_whole : (t : List ℕ) (n i : ℕ) (cs : List Class) → Filled t (min n most_formulas) i cs → min n most_formulas ≤ i → cs ≡ class_table t n
unfolding class_table
filled_whole t n i cs f k =
    let e : i ≡ min n most_formulas = omega (arith, f.most) in
    let size : length (classes_below t i) ≡ i = simp (length-map, forms_length, unpack_length) (omega arith) in
    sym (take-append-drop i cs) ∙
    ap (λ (l : List Class). l ++ drop i cs) f.front ∙
    ap (λ (l : List Class). classes_below t i ++ l) (f.back ∙ ap (λ (m : ℕ). replicate (most_formulas - m) no_class) (sym size)) ∙
    ap (λ (m : ℕ). classes_below t m ++ replicate (most_formulas - length (classes_below t m)) no_class) e

-- The refusal of a row by its kind: of a formula by the kind's name, of a step by its operands.
use Rattle.std.specs.Prelude.{ℕ, zero, suc, ◌<◌, ◌≤◌, ◌≡◌, refl, Bool, true, false, not, List, [], map, length, get_or, Option, Some, None, eqb, ltb, leb}
use Rattle.std.proofs.Common.{arith, ap, sym, ◌∙◌}
use Rattle.std.proofs.lemmas.List.{get_or-map, get_or_past, length-map}
use Rattle.scope.specs.Logic.Form.{both}
use Rattle.scope.specs.File.Kinds.{kind, form_kinds, step_kinds}
use Rattle.scope.specs.File.Kinds.{Kind as Counted}
use Rattle.scope.specs.File.Refusals.{demand, row_refusal, step_refusal}
use Rattle.scope.specs.Limits.{most_step_number}
use Rattle.common.specs.declared.rows.FormKind.{FormKind}
use Rattle.common.specs.declared.rows.FormKind.TheVariants as named
use Rattle.common.specs.Rows.{kind_of}
use Rattle.common.specs.declared.kinds.Kind.{Kind}
use Rattle.common.specs.Kinds.{listed, sort_of}
use Rattle.common.specs.Kinds.{kind_of as listed_kind}
use Rattle.refusals.specs.Rows.{row, demands, number_carried, form_0, form_1, form_2, form_3, form_4, form_5, form_6, form_7, form_over, step_7, step_10, step_over, step_plain}

pub kind_past : (k : ℕ) → 8 ≤ k → kind_of k ≡ None
unfolding kind_of
kind_past zero h = absurd (omega arith)
kind_past (suc zero) h = absurd (omega arith)
kind_past (suc (suc zero)) h = absurd (omega arith)
kind_past (suc (suc (suc zero))) h = absurd (omega arith)
kind_past (suc (suc (suc (suc zero)))) h = absurd (omega arith)
kind_past (suc (suc (suc (suc (suc zero))))) h = absurd (omega arith)
kind_past (suc (suc (suc (suc (suc (suc zero)))))) h = absurd (omega arith)
kind_past (suc (suc (suc (suc (suc (suc (suc zero))))))) h = absurd (omega arith)
kind_past (suc (suc (suc (suc (suc (suc (suc (suc k)))))))) h = refl

module _ (p a i l r : ℕ) where
  abbrev pub form_asked : Option FormKind → ℕ
  form_asked None = 3
  form_asked (Some named.Atom) = demands (eqb r 0) (ltb l a) true
  form_asked (Some named.Top) = demands (both (eqb l 0) (eqb r 0)) true true
  form_asked (Some named.Bot) = demands (both (eqb l 0) (eqb r 0)) true true
  form_asked (Some named.And) = demands true true (both (ltb l i) (ltb r i))
  form_asked (Some named.Or) = demands true true (both (ltb l i) (ltb r i))
  form_asked (Some named.Imp) = demands true true (both (ltb l i) (ltb r i))
  form_asked (Some named.Says) = demands true (ltb l p) (ltb r i)
  form_asked (Some named.Sf) = demands true (both (ltb l p) (ltb r p)) true

  by_number : (k : ℕ) → row_refusal form_kinds p a i (row k l r) ≡ form_asked (kind_of k)
  unfolding kind_of
  by_number zero = form_0 p a i l r
  by_number (suc zero) = form_1 p a i l r
  by_number (suc (suc zero)) = form_2 p a i l r
  by_number (suc (suc (suc zero))) = form_3 p a i l r
  by_number (suc (suc (suc (suc zero)))) = form_4 p a i l r
  by_number (suc (suc (suc (suc (suc zero))))) = form_5 p a i l r
  by_number (suc (suc (suc (suc (suc (suc zero)))))) = form_6 p a i l r
  by_number (suc (suc (suc (suc (suc (suc (suc zero))))))) = form_7 p a i l r
  by_number (suc (suc (suc (suc (suc (suc (suc (suc k)))))))) = form_over p a i l r (suc (suc (suc (suc (suc (suc (suc (suc k)))))))) (omega arith)

  pub form_known : (k : ℕ) (o : Option FormKind) → o ≡ kind_of k → row_refusal form_kinds p a i (row k l r) ≡ form_asked o
  form_known k o e = rw e (by_number k)

carries : Counted → Option Bool
carries x = Some (not (eqb (length x.operands) 0))

pub carried_known : (ks : List Kind) (k : ℕ) (x : Kind) → listed ks ≡ step_kinds → k < length ks → x ≡ get_or ks k x →
    Some (not (eqb (length x.operands.now) 0)) ≡ number_carried k
unfolding number_carried carries
carried_known ks k x e within here =
    let inside : k < length (listed ks) = simp length-map within in
    let size : length (map sort_of x.operands.now) ≡ length x.operands.now = simp length-map in
    ap (λ n. Some (not (eqb n 0))) (sym size) ∙
    ap (λ y. carries (listed_kind y)) here ∙
    ap carries (sym (get_or-map listed_kind ks k x (kind "" []) within)) ∙
    sym (get_or-map carries (listed ks) k (kind "" []) None inside) ∙
    ap (λ ys. get_or (map carries ys) k None) e

pub carried_past : (ks : List Kind) (k : ℕ) → listed ks ≡ step_kinds → length ks ≤ k → None ≡ number_carried k
unfolding number_carried carries
carried_past ks k e h =
    let past : length (map carries (listed ks)) ≤ k = simp length-map h in
    sym (get_or_past (map carries (listed ks)) k None past) ∙ ap (λ ys. get_or (map carries ys) k None) e

module _ (l r : ℕ) where
  abbrev pub step_asked : Option Bool → ℕ
  step_asked None = 3
  step_asked (Some true) = demands (eqb r 0) (leb l most_step_number) true
  step_asked (Some false) = demands (both (eqb l 0) (eqb r 0)) true true

  carried : (k : ℕ) → step_refusal (row k l r) ≡ step_asked (number_carried k)
  unfolding number_carried step_kinds demand
  carried zero = step_plain l r 0 (omega arith) (λ q. omega (arith, q)) (λ q. omega (arith, q))
  carried (suc zero) = step_plain l r 1 (omega arith) (λ q. omega (arith, q)) (λ q. omega (arith, q))
  carried (suc (suc zero)) = step_plain l r 2 (omega arith) (λ q. omega (arith, q)) (λ q. omega (arith, q))
  carried (suc (suc (suc zero))) = step_plain l r 3 (omega arith) (λ q. omega (arith, q)) (λ q. omega (arith, q))
  carried (suc (suc (suc (suc zero)))) = step_plain l r 4 (omega arith) (λ q. omega (arith, q)) (λ q. omega (arith, q))
  carried (suc (suc (suc (suc (suc zero))))) = step_plain l r 5 (omega arith) (λ q. omega (arith, q)) (λ q. omega (arith, q))
  carried (suc (suc (suc (suc (suc (suc zero)))))) = step_plain l r 6 (omega arith) (λ q. omega (arith, q)) (λ q. omega (arith, q))
  carried (suc (suc (suc (suc (suc (suc (suc zero))))))) = step_7 l r
  carried (suc (suc (suc (suc (suc (suc (suc (suc zero)))))))) = step_plain l r 8 (omega arith) (λ q. omega (arith, q)) (λ q. omega (arith, q))
  carried (suc (suc (suc (suc (suc (suc (suc (suc (suc zero))))))))) = step_plain l r 9 (omega arith) (λ q. omega (arith, q)) (λ q. omega (arith, q))
  carried (suc (suc (suc (suc (suc (suc (suc (suc (suc (suc zero)))))))))) = step_10 l r
  carried (suc (suc (suc (suc (suc (suc (suc (suc (suc (suc (suc zero))))))))))) = step_plain l r 11 (omega arith) (λ q. omega (arith, q)) (λ q. omega (arith, q))
  carried (suc (suc (suc (suc (suc (suc (suc (suc (suc (suc (suc (suc zero)))))))))))) = step_plain l r 12 (omega arith) (λ q. omega (arith, q)) (λ q. omega (arith, q))
  carried (suc (suc (suc (suc (suc (suc (suc (suc (suc (suc (suc (suc (suc zero))))))))))))) = step_plain l r 13 (omega arith) (λ q. omega (arith, q)) (λ q. omega (arith, q))
  carried (suc (suc (suc (suc (suc (suc (suc (suc (suc (suc (suc (suc (suc (suc zero)))))))))))))) = step_plain l r 14 (omega arith) (λ q. omega (arith, q)) (λ q. omega (arith, q))
  carried (suc (suc (suc (suc (suc (suc (suc (suc (suc (suc (suc (suc (suc (suc (suc zero))))))))))))))) = step_plain l r 15 (omega arith) (λ q. omega (arith, q)) (λ q. omega (arith, q))
  carried (suc (suc (suc (suc (suc (suc (suc (suc (suc (suc (suc (suc (suc (suc (suc (suc zero)))))))))))))))) = step_plain l r 16 (omega arith) (λ q. omega (arith, q)) (λ q. omega (arith, q))
  carried (suc (suc (suc (suc (suc (suc (suc (suc (suc (suc (suc (suc (suc (suc (suc (suc (suc zero))))))))))))))))) = step_plain l r 17 (omega arith) (λ q. omega (arith, q)) (λ q. omega (arith, q))
  carried (suc (suc (suc (suc (suc (suc (suc (suc (suc (suc (suc (suc (suc (suc (suc (suc (suc (suc k)))))))))))))))))) = step_over l r (suc (suc (suc (suc (suc (suc (suc (suc (suc (suc (suc (suc (suc (suc (suc (suc (suc (suc k)))))))))))))))))) (omega arith)

  pub step_known : (k : ℕ) (o : Option Bool) → o ≡ number_carried k → step_refusal (row k l r) ≡ step_asked o
  step_known k o e = rw e (carried k)

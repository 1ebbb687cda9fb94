-- A row reads back from its text, and what reads as a row is its text. One law over the table of kinds serves formulas and steps.
use Rattle.std.specs.Prelude.{ℕ, zero, suc, ◌<◌, ◌≤◌, ◌≡◌, refl, List, [], ◌∷◌, map, true, eqb, length, get_or, take}
use Rattle.std.proofs.Common.{sym, ap, ◌∙◌, arith, eqb-true, eq-eqb}
use Rattle.std.proofs.Math.Option.{Option, none, some}
use Rattle.scope.specs.Logic.Form.{both}
use Rattle.scope.specs.File.Request.{Row}
use Rattle.scope.specs.File.Number.{number, numeral}
use Rattle.scope.specs.File.Kinds.{Sort, Kind, kind_in, items, spaced, kind_from, onto_numbers, numbers, row_of, operands_of, kind_row, items_row, row_in, row_text}
use Rattle.scope.specs.File.Refusals.{rest_zero}
use Rattle.scope.specs.Tools.Tests.{never, both_true, taken}
use Rattle.trip.specs.Numbers.{number_there, number_back}
use Rattle.trip.specs.Cuts.{free, items_there, items_back, spaced_free, numerals_free}
use Rattle.trip.specs.Words.{Neat, neat_kind, word_there, word_found}

-- Several numbers.
pub data AllSmall : List ℕ → Type 0 where
  none_left : AllSmall []
  one_more : {n : ℕ} {ns : List ℕ} → n < 100000 → AllSmall ns → AllSmall (n ∷ ns)

numbers_there : {ns : List ℕ} → AllSmall ns → numbers (map numeral ns) ≡ some ns
unfolding numbers
numbers_there none_left = refl
numbers_there (one_more {n = n} h s) = rw (number_there n h, numbers_there s)

onto_back :
    (x : Option ℕ) (y : Option (List ℕ)) (ns : List ℕ) → onto_numbers x y ≡ some ns
    → (m : ℕ) × (ms : List ℕ) × (x ≡ some m) × (y ≡ some ms) × (ns ≡ m ∷ ms)
unfolding onto_numbers
onto_back none y ns e = never cc
onto_back (some m) none ns e = never cc
onto_back (some m) (some ms) ns e = (m, ms, refl, refl, cc)

numbers_back : (ws : List (List ℕ)) (ns : List ℕ) → numbers ws ≡ some ns → ws ≡ map numeral ns
unfolding numbers
numbers_back [] ns e =
    let z : ns ≡ [] = cc in
    rw z
numbers_back (w ∷ ws) ns e =
    let p = onto_back (number w) (numbers ws) ns e in
    rw p.4 (cc (number_back w p.0 p.2, numbers_back ws p.1 p.3))

-- A row that its kind's text can say.
pub record SayableRow (ks : List Kind) (r : Row) : Type 0 where
  pub known : r.kind < length ks
  pub lacking : rest_zero (kind_in ks r.kind).operands (operands_of r) ≡ true
  pub left_small : r.left < 100000
  pub right_small : r.right < 100000

-- The operands that a kind has, and the row that they make.
taken_small : (a l r : ℕ) → l < 100000 → r < 100000 → AllSmall (take a (l ∷ r ∷ []))
taken_small zero l r p q = none_left
taken_small (suc zero) l r p q = one_more p none_left
taken_small (suc (suc zero)) l r p q = one_more p (one_more q none_left)
taken_small (suc (suc (suc a))) l r p q = one_more p (one_more q none_left)

taken_length : (os : List Sort) (l r : ℕ) → length os ≤ 2 → length (take (length os) (l ∷ r ∷ [])) ≡ length os
taken_length [] l r h = refl
taken_length (o ∷ []) l r h = refl
taken_length (o ∷ p ∷ []) l r h = refl
taken_length (o ∷ p ∷ q ∷ os) l r h = absurd (omega arith)

taken_row_lem :
    (os : List Sort) (r : Row) → length os ≤ 2 → rest_zero os (operands_of r) ≡ true
    → row_of r.kind (take (length os) (operands_of r)) ≡ r
unfolding rest_zero
taken_row_lem [] r h e =
    let p = both_true (eqb r.left 0) (both (eqb r.right 0) true) e in
    let q = both_true (eqb r.right 0) true p.1 in
    let x : 0 ≡ r.left = sym (eqb-true r.left 0 p.0) in
    let y : 0 ≡ r.right = sym (eqb-true r.right 0 q.0) in
    λ i. record { kind = r.kind; left = x i; right = y i }
taken_row_lem (o ∷ []) r h e =
    let p = both_true (eqb r.right 0) true e in
    let y : 0 ≡ r.right = sym (eqb-true r.right 0 p.0) in
    λ i. record { kind = r.kind; left = r.left; right = y i }
taken_row_lem (o ∷ p ∷ []) r h e = refl
taken_row_lem (o ∷ p ∷ q ∷ os) r h e = absurd (omega arith)

taken_back : (n : ℕ) (ns : List ℕ) → length ns ≡ n → n ≤ 2 → take n (get_or ns 0 0 ∷ get_or ns 1 0 ∷ []) ≡ ns
taken_back zero [] e h = refl
taken_back (suc zero) (a ∷ []) e h = refl
taken_back (suc (suc zero)) (a ∷ b ∷ []) e h = refl
taken_back (suc (suc (suc n))) ns e h = absurd (omega arith)
taken_back zero (a ∷ ns) e h = absurd (omega arith)
taken_back (suc zero) [] e h = absurd (omega arith)
taken_back (suc zero) (a ∷ b ∷ ns) e h = absurd (omega arith)
taken_back (suc (suc zero)) [] e h = absurd (omega arith)
taken_back (suc (suc zero)) (a ∷ []) e h = absurd (omega arith)
taken_back (suc (suc zero)) (a ∷ b ∷ c ∷ ns) e h = absurd (omega arith)

pub row_there : (ks : List Kind) (r : Row) → Neat ks → SayableRow ks r → row_in ks (row_text ks r) ≡ some r
unfolding row_in row_text
row_there ks r n g =
    let os = (kind_in ks r.kind).operands in
    let c = neat_kind ks r.kind n g.known in
    let xs = take (length os) (operands_of r) in
    let i = items_there (map numeral xs) (kind_in ks r.kind).word c.no_space (numerals_free 32 xs (omega arith)) in
    let w = word_there ks r.kind n.apart g.known in
    let m = numbers_there (taken_small (length os) r.left r.right g.left_small g.right_small) in
    let l = eq-eqb (length xs) (length os) (taken_length os r.left r.right c.few) in
    rw (i, w, m, l) (ap (λ x. some x) (taken_row_lem os r c.few g.lacking))

record Rowed (ks : List Kind) (x : Option ℕ) (y : Option (List ℕ)) (r : Row) : Type 0 where
  k : ℕ
  ns : List ℕ
  found : x ≡ some k
  read : y ≡ some ns
  count : length ns ≡ length (kind_in ks k).operands
  is : r ≡ row_of k ns

rowed : (ks : List Kind) (x : Option ℕ) (y : Option (List ℕ)) (r : Row) → kind_row ks x y ≡ some r → Rowed ks x y r
unfolding kind_row
rowed ks none y r e = never cc
rowed ks (some k) none r e = never cc
rowed ks (some k) (some ns) r e =
    let p = taken (eqb (length ns) (length (kind_in ks k).operands)) (some (row_of k ns)) r e in
    record {
      k = k;
      ns = ns;
      found = refl;
      read = refl;
      count = eqb-true (length ns) (length (kind_in ks k).operands) p.0;
      is = cc p.1;
    }

text_of :
    (ks : List Kind) (n : Neat ks) (w : List ℕ) (ws : List (List ℕ)) (r : Row) → Rowed ks (kind_from 0 ks w) (numbers ws) r
    → spaced w ws ≡ row_text ks r
unfolding row_text
text_of ks n w ws r d =
    let f = word_found ks w d.k d.found in
    let c = neat_kind ks d.k n f.below in
    let m = numbers_back ws d.ns d.read in
    let t = taken_back (length (kind_in ks d.k).operands) d.ns d.count c.few in
    rw (d.is, t) (cc (f.word, m))

pub row_back : (ks : List Kind) (s : List ℕ) (r : Row) → Neat ks → row_in ks s ≡ some r → s ≡ row_text ks r
unfolding row_in items_row
row_back ks s r n e = go (items s) refl e
  where
    go : (l : List (List ℕ)) → items s ≡ l → items_row ks l ≡ some r → s ≡ row_text ks r
    go [] i q = never cc
    go (w ∷ ws) i q = items_back s w ws i ∙ text_of ks n w ws r (rowed ks (kind_from 0 ks w) (numbers ws) r q)

pub row_clean : (ks : List Kind) (r : Row) → Neat ks → r.kind < length ks → free 10 (row_text ks r) ≡ true
unfolding row_text
row_clean ks r n h =
    let xs = take (length (kind_in ks r.kind).operands) (operands_of r) in
    spaced_free 10 (map numeral xs) (kind_in ks r.kind).word refl (neat_kind ks r.kind n h).no_end
    (numerals_free 10 xs (omega arith))

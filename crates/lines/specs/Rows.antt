-- A value by a table of kinds: its word, then its operands, then nothing.
use Rattle.std.specs.Prelude.{ℕ, zero, suc, ◌+◌, ◌≤◌, ◌<◌, ◌≡◌, refl, List, [], ◌∷◌, Bool, true, false, leb, ltb, eqb, cond, length, map, get_or, drop, position, slice_get, Option as Optional, None, Some}
use Rattle.std.specs.Option.{is_some}
use Rattle.std.proofs.Common.{arith, ap, leb-true, ltb-true, ltb-false, ne_eqb, sym, ◌∙◌}
use Rattle.std.proofs.lemmas.List.{length-map}
use Rattle.std.proofs.Math.Option.{Option, none, some}
use Rattle.scope.specs.Logic.Form.{both}
use Rattle.scope.specs.Tools.Tests.{never, both_true, both_met}
use Rattle.scope.specs.File.Number.{number}
use Rattle.scope.specs.File.Kinds.{Kind, kind_in, kind_from, same, items, onto_numbers, numbers, kind_row, items_row, row_in, form_kinds, step_kinds, logic_kinds}
use Rattle.lines.specs.Answers.{row_answer, kind_answer, kind_some, kind_none}
use Rattle.common.specs.Kinds.{listed, sort_of}
use Rattle.common.specs.declared.kinds.Kind.{Kind as Entry}
use Rattle.lines.specs.Operands.{operand_of}
use Rattle.lines.specs.Parts.{up_to, up_to_cons}
use Rattle.lines.specs.Codes.{AreBytes, code_of, same_codes}
use Rattle.lines.specs.Items.{place_within, kind_is, kind_within}
use Rattle.lines.specs.declared.Items.{Items}

abbrev pub codes_of : List Kind → List ℕ
codes_of ks = map (λ (k : Kind). code_of k.word) ks

abbrev pub operand_count : Kind → ℕ
operand_count k = length k.operands

-- A word of at most 7 bytes, and at most two operands.
unfoldable pub all_bytes : List ℕ → Bool
unfolding both
all_bytes [] = true
all_bytes (b ∷ w) = both (ltb b 256) (all_bytes w)

unfoldable pub is_small : Kind → Bool
unfolding both all_bytes
is_small k = both (leb (operand_count k) 2) (both (leb (length k.word) 7) (all_bytes k.word))

unfoldable pub all_small : List Kind → Bool
unfolding both is_small
all_small [] = true
all_small (k ∷ ks) = both (is_small k) (all_small ks)

-- Few kinds, all of them small.
unfoldable pub are_few : List Kind → Bool
unfolding both all_small
are_few ks = both (leb (length ks) 18) (all_small ks)

-- At most two operands, whatever the word; and few kinds of this sort.
unfoldable pub all_of_two : List Kind → Bool
unfolding both
all_of_two [] = true
all_of_two (k ∷ ks) = both (leb (length k.operands) 2) (all_of_two ks)

unfoldable pub few_of_two : List Kind → Bool
unfolding both all_of_two
few_of_two ks = both (leb (length ks) 18) (all_of_two ks)

pub small_forms : all_small form_kinds ≡ true
unfolding form_kinds all_small
small_forms = refl

pub small_steps : all_small step_kinds ≡ true
unfolding step_kinds all_small
small_steps = refl

pub small_logics : all_small logic_kinds ≡ true
unfolding logic_kinds all_small
small_logics = refl

pub few_forms : are_few form_kinds ≡ true
unfolding form_kinds are_few
few_forms = refl

pub few_steps : are_few step_kinds ≡ true
unfolding step_kinds are_few
few_steps = refl

pub few_logics : are_few logic_kinds ≡ true
unfolding logic_kinds are_few
few_logics = refl

all_two : (ks : List Kind) → all_small ks ≡ true → all_of_two ks ≡ true
unfolding all_small is_small all_of_two
all_two [] e = refl
all_two (k ∷ ks) e = both_met _ _ (both_true _ _ (both_true _ _ e).0).0 (all_two ks (both_true _ _ e).1)

pub few_two : (ks : List Kind) → are_few ks ≡ true → few_of_two ks ≡ true
unfolding are_few few_of_two
few_two ks e = both_met _ _ (both_true _ _ e).0 (all_two ks (both_true _ _ e).1)

pub few_kinds : (kinds : List Entry) → few_of_two (listed kinds) ≡ true → length kinds ≤ 18
unfolding few_of_two
few_kinds kinds e = simp length-map at (leb-true (length (listed kinds)) 18 (both_true _ _ e).0)

few_each : (ks : List Kind) → all_of_two ks ≡ true → (k : ℕ) → length (kind_in ks k).operands ≤ 2
unfolding all_of_two kind_in
few_each [] e k = omega arith
few_each (c ∷ cs) e zero = leb-true (length c.operands) 2 (both_true _ _ e).0
few_each (c ∷ cs) e (suc k) = few_each cs (both_true _ _ e).1 k

pub few_operands : (ks : List Kind) → few_of_two ks ≡ true → (k : ℕ) → length (kind_in ks k).operands ≤ 2
unfolding few_of_two
few_operands ks e k = few_each ks (both_true _ _ e).1 k

-- The place of a word's code is that of the word.
bytes_each : (w : List ℕ) → all_bytes w ≡ true → AreBytes w
unfolding all_bytes
bytes_each [] e i = omega arith
bytes_each (b ∷ w) e zero = ltb-true b 256 (both_true _ _ e).0
bytes_each (b ∷ w) e (suc i) = bytes_each w (both_true _ _ e).1 i

word_code : (c : Kind) (w : List ℕ) → is_small c ≡ true → AreBytes w → same c.word w ≡ eqb (code_of c.word) (code_of w)
unfolding is_small
word_code c w e f =
    let t = both_true (leb (length c.word) 7) (all_bytes c.word) (both_true _ _ e).1 in
    sym (same_codes c.word w (bytes_each c.word t.1) f (leb-true (length c.word) 7 t.0))

module _ (w : List ℕ) (f : AreBytes w) where
  code_found : (ks : List Kind) (k : ℕ) → all_small ks ≡ true → up_to (code_of w) (codes_of ks) < length ks
      → kind_from k ks w ≡ some (k + up_to (code_of w) (codes_of ks))
  unfolding kind_from all_small
  code_found [] k a h = absurd (omega arith)
  code_found (c ∷ cs) k a h =
      rw (word_code c w (both_true _ _ a).0 f, up_to_cons (code_of w) (code_of c.word) (codes_of cs))
      (go (eqb (code_of c.word) (code_of w)) (rw (up_to_cons (code_of w) (code_of c.word) (codes_of cs)) at h)
      (code_found cs (suc k) (both_true _ _ a).1))
    where
      go : (b : Bool) → cond b 0 (suc (up_to (code_of w) (codes_of cs))) < suc (length cs)
          → (up_to (code_of w) (codes_of cs) < length cs → kind_from (suc k) cs w ≡ some (suc k + up_to (code_of w) (codes_of cs)))
          → cond b (some k) (kind_from (suc k) cs w) ≡ some (k + cond b 0 (suc (up_to (code_of w) (codes_of cs))))
      go true h more = let e : k ≡ k + 0 = omega arith in ap some e
      go false h more =
          let e : suc k + up_to (code_of w) (codes_of cs) ≡ k + suc (up_to (code_of w) (codes_of cs)) = omega arith in
          more (omega arith) ∙ ap some e

  code_none : (ks : List Kind) (k : ℕ) → all_small ks ≡ true → length ks ≤ up_to (code_of w) (codes_of ks) → kind_from k ks w ≡ none
  unfolding kind_from all_small
  code_none [] k a h = refl
  code_none (c ∷ cs) k a h =
      rw (word_code c w (both_true _ _ a).0 f)
      (go (eqb (code_of c.word) (code_of w)) (rw (up_to_cons (code_of w) (code_of c.word) (codes_of cs)) at h)
      (code_none cs (suc k) (both_true _ _ a).1))
    where
      go : (b : Bool) → suc (length cs) ≤ cond b 0 (suc (up_to (code_of w) (codes_of cs)))
          → (length cs ≤ up_to (code_of w) (codes_of cs) → kind_from (suc k) cs w ≡ none) → cond b (some k) (kind_from (suc k) cs w) ≡ none
      go true h more = absurd (omega arith)
      go false h more = more (omega arith)

-- So a code that is found is the kind's, and one of few.
module _ (ks : List Kind) (few : are_few ks ≡ true) (cs : List ℕ) (coded : cs ≡ codes_of ks) where
  pub code_is : (w : List ℕ) → AreBytes w → (c : ℕ) → c ≡ code_of w → position (λ d. eqb d c) cs ≡ kind_answer (kind_from 0 ks w)
  unfolding are_few kind_answer
  code_is w f c e = rw (coded, e, length-map) (go (both_true _ _ few).1 (ltb (up_to (code_of w) (codes_of ks)) (length ks)) refl)
    where
      go : all_small ks ≡ true → (b : Bool) → ltb (up_to (code_of w) (codes_of ks)) (length ks) ≡ b
          → cond b (Some (up_to (code_of w) (codes_of ks))) None ≡ kind_answer (kind_from 0 ks w)
      go small true d =
          let z : up_to (code_of w) (codes_of ks) ≡ 0 + up_to (code_of w) (codes_of ks) = omega arith in
          rw (code_found w f ks 0 small (ltb-true _ _ d)) (ap {B = Optional ℕ} Some z)
      go small false d = rw (code_none w f ks 0 small (ltb-false _ _ d)) refl

  pub code_within : (c k : ℕ) → position (λ d. eqb d c) cs ≡ Some k → k < 18
  unfolding are_few
  code_within c k e =
      let l : length cs ≡ length ks = rw coded (length-map ks _) in
      omega (arith, l, leb-true (length ks) 18 (both_true _ _ few).0, place_within (λ d. eqb d c) cs k e)

-- Two operands and what is behind them.
unfoldable pub row_read : ℕ → Optional ℕ → Optional ℕ → Optional (List ℕ) → Optional Items
row_read k None right more = None
row_read k (Some l) None more = None
row_read k (Some l) (Some r) (Some w) = None
row_read k (Some l) (Some r) None = Some (record { kind = k; left = l; right = r })

-- A kind's operands are as many numbers as it wants.
module _ (ks : List Kind) (k : ℕ) where
  kind_read : (n : ℕ) (ws : List (List ℕ)) → n ≤ 2 → length (kind_in ks k).operands ≡ n →
      row_answer (kind_row ks (some k) (numbers ws)) ≡ row_read k
      (operand_of (slice_get ws 0) (ltb 0 n)) (operand_of (slice_get (drop 1 ws) 0) (ltb 1 n)) (slice_get (drop 1 (drop 1 ws)) 0)
  unfolding row_answer kind_row numbers onto_numbers operand_of kind_answer row_read
  kind_read zero [] h e = rw e refl
  kind_read zero (x ∷ ws) h e = go (number x) (numbers ws)
    where
      go : (a : Option ℕ) (o : Option (List ℕ)) → row_answer (kind_row ks (some k) (onto_numbers a o)) ≡ None
      go none o = refl
      go (some a) none = refl
      go (some a) (some ns) = rw (e, ne_eqb (suc (length ns)) 0 (λ z. omega arith)) refl
  kind_read (suc zero) [] h e = rw e refl
  kind_read (suc zero) (x ∷ []) h e = go (number x)
    where
      go : (a : Option ℕ) → row_answer (kind_row ks (some k) (onto_numbers a (some []))) ≡ row_read k (kind_answer a) (Some 0) None
      go none = refl
      go (some a) = rw e refl
  kind_read (suc zero) (x ∷ y ∷ ws) h e = go (number x) (number y) (numbers ws)
    where
      go : (a b : Option ℕ) (o : Option (List ℕ)) →
          row_answer (kind_row ks (some k) (onto_numbers a (onto_numbers b o))) ≡ row_read k (kind_answer a) None (slice_get ws 0)
      go none b o = refl
      go (some a) none o = refl
      go (some a) (some b) none = refl
      go (some a) (some b) (some ns) = rw (e, ne_eqb (suc (suc (length ns))) 1 (λ z. omega arith)) refl
  kind_read (suc (suc zero)) [] h e = rw e refl
  kind_read (suc (suc zero)) (x ∷ []) h e = go (number x)
    where
      go : (a : Option ℕ) → row_answer (kind_row ks (some k) (onto_numbers a (some []))) ≡ row_read k (kind_answer a) None None
      go none = refl
      go (some a) = rw e refl
  kind_read (suc (suc zero)) (x ∷ y ∷ []) h e = go (number x) (number y)
    where
      go : (a b : Option ℕ) →
          row_answer (kind_row ks (some k) (onto_numbers a (onto_numbers b (some [])))) ≡ row_read k (kind_answer a) (kind_answer b) None
      go none b = refl
      go (some a) none = refl
      go (some a) (some b) = rw e refl
  kind_read (suc (suc zero)) (x ∷ y ∷ z ∷ ws) h e = go (number x) (number y) (number z) (numbers ws)
    where
      go : (a b d : Option ℕ) (o : Option (List ℕ)) →
          row_answer (kind_row ks (some k) (onto_numbers a (onto_numbers b (onto_numbers d o)))) ≡ row_read k (kind_answer a) (kind_answer b) (Some z)
      go none b d o = refl
      go (some a) none d o = refl
      go (some a) (some b) none o = refl
      go (some a) (some b) (some d) none = refl
      go (some a) (some b) (some d) (some ns) = rw (e, ne_eqb (suc (suc (suc (length ns)))) 2 (λ z. omega arith)) refl
  kind_read (suc (suc (suc n))) ws h e = absurd (omega arith)

-- A value whose word is that of kind k, which wants n operands.
pub record Word (ks : List Kind) (s : List ℕ) (k n : ℕ) : Type 0 where
  pub word : List ℕ
  pub stands : Some word ≡ slice_get (items s) 0
  pub found : kind_answer (kind_from 0 ks word) ≡ Some k
  pub few : n ≤ 2
  pub wants : length (kind_in ks k).operands ≡ n

front : (ws : List (List ℕ)) (w : List ℕ) → Some w ≡ slice_get ws 0 → ws ≡ w ∷ drop 1 ws
front [] w e = never cc
front (v ∷ ws) w e = let z : v ≡ w = cc in rw z refl

known : (ks : List Kind) (s : List ℕ) (k n : ℕ) (d : Word ks s k n) (vs ws : List (List ℕ)) → items s ≡ vs → vs ≡ d.word ∷ ws
    → row_answer (row_in ks s) ≡ row_read k
    (operand_of (slice_get ws 0) (ltb 0 n)) (operand_of (slice_get (drop 1 ws) 0) (ltb 1 n)) (slice_get (drop 1 (drop 1 ws)) 0)
unfolding row_in items_row
known ks s k n d vs ws e f = rw (e, f, kind_some (kind_from 0 ks d.word) k d.found) (kind_read ks k n ws d.few d.wants)

pub row_known : (ks : List Kind) (s : List ℕ) (k n : ℕ) → Word ks s k n → row_answer (row_in ks s) ≡ row_read k
    (operand_of (slice_get (drop 1 (items s)) 0) (ltb 0 n)) (operand_of (slice_get (drop 1 (drop 1 (items s))) 0) (ltb 1 n))
    (slice_get (drop 1 (drop 1 (drop 1 (items s)))) 0)
row_known ks s k n d = known ks s k n d (items s) (drop 1 (items s)) refl (front (items s) d.word d.stands)

pub row_unknown : (ks : List Kind) (s w : List ℕ) → Some w ≡ slice_get (items s) 0 → kind_answer (kind_from 0 ks w) ≡ None → None ≡ row_answer (row_in ks s)
unfolding row_in items_row kind_row row_answer
row_unknown ks s w e f = rw (front (items s) w e, kind_none (kind_from 0 ks w) f) refl

-- The same by the table of the code: the ways in which reading a value ends behind its word.
operands_is : (kinds : List Entry) (k : ℕ) (d : Entry) → k < length kinds
    → length (kind_in (listed kinds) k).operands ≡ length (get_or kinds k d).operands.now
unfolding kind_in
operands_is [] k d h = absurd (omega arith)
operands_is (c ∷ cs) zero d h = length-map c.operands.now sort_of
operands_is (c ∷ cs) (suc k) d h = operands_is cs k d (omega arith)

module _ (kinds : List Entry) (small : few_of_two (listed kinds) ≡ true) (s w : List ℕ) (k : ℕ) (d : Entry)
    (stands : Some w ≡ slice_get (items s) 0) (found : kind_answer (kind_from 0 (listed kinds) w) ≡ Some k) where
  abbrev wanted : ℕ
  wanted = length (get_or kinds k d).operands.now

  row_is : row_answer (row_in (listed kinds) s) ≡ row_read k
      (operand_of (slice_get (drop 1 (items s)) 0) (ltb 0 wanted)) (operand_of (slice_get (drop 1 (drop 1 (items s))) 0) (ltb 1 wanted))
      (slice_get (drop 1 (drop 1 (drop 1 (items s)))) 0)
  row_is =
      let e : length (kind_in (listed kinds) k).operands ≡ wanted = operands_is kinds k d (kind_within kinds w k (kind_is kinds w ∙ found)) in
      let f : wanted ≤ 2 = rw (sym e) (few_operands (listed kinds) small k) in
      row_known (listed kinds) s k wanted (record { word = w; stands = stands; found = found; few = f; wants = e })

  module _ (x : Optional (List ℕ)) (xs : x ≡ slice_get (drop 1 (items s)) 0) where
    pub left_bad : operand_of x (ltb 0 wanted) ≡ None → None ≡ row_answer (row_in (listed kinds) s)
    unfolding row_read
    left_bad e = rw (row_is, sym xs, e) refl

    module _ (l : ℕ) (left : operand_of x (ltb 0 wanted) ≡ Some l) (y : Optional (List ℕ)) (ys : y ≡ slice_get (drop 1 (drop 1 (items s))) 0) where
      pub right_bad : operand_of y (ltb 1 wanted) ≡ None → None ≡ row_answer (row_in (listed kinds) s)
      unfolding row_read
      right_bad e = rw (row_is, sym xs, left, sym ys, e) refl

      module _ (r : ℕ) (right : operand_of y (ltb 1 wanted) ≡ Some r) (z : Optional (List ℕ)) (zs : z ≡ slice_get (drop 1 (drop 1 (drop 1 (items s)))) 0) where
        pub more_items : is_some z ≡ true → None ≡ row_answer (row_in (listed kinds) s)
        unfolding row_read
        more_items e = rw (row_is, sym xs, left, sym ys, right, sym zs) (go z e)
          where
            go : (o : Optional (List ℕ)) → is_some o ≡ true → None ≡ row_read k (Some l) (Some r) o
            go None f = never cc
            go (Some v) f = refl

        pub no_more : is_some z ≡ false → Some (record { kind = k; left = l; right = r }) ≡ row_answer (row_in (listed kinds) s)
        unfolding row_read
        no_more e = rw (row_is, sym xs, left, sym ys, right, sym zs) (go z e)
          where
            go : (o : Optional (List ℕ)) → is_some o ≡ false
                → ◌≡◌ {A = Optional Items} (Some (record { kind = k; left = l; right = r })) (row_read k (Some l) (Some r) o)
            go None f = refl
            go (Some v) f = never cc

-- Where a text stops, at a place that the code has reached.
use Rattle.std.specs.Prelude.{ℕ, zero, suc, ◌+◌, ◌-◌, ◌≤◌, ◌<◌, ◌≡◌, refl, List, [], ◌∷◌, Bool, true, false, cond, eqb, ltb, length, take, drop, get_or, max, fold, zip, take_while}
use Rattle.std.specs.List.{prefix_len}
use Rattle.std.specs.Option.{unwrap_or}
use Rattle.std.specs.Result.{result_err}
use Rattle.std.proofs.lemmas.List.{length-map}
use Rattle.std.proofs.lemmas.List.Folds.{length-prefix_len}
use Rattle.std.proofs.Math.Numerals.{add-one}
use Rattle.std.proofs.Common.{arith, sym, ap, ◌∙◌, drop_of_length-le, length-drop, drop-drop, eq-eqb, ne_eqb, ltb-true, ltb-false}
use Rattle.std.proofs.Math.Option.{Option, none, some}
use Rattle.std.proofs.Math.Seq.{drop-cons}
use Rattle.scope.specs.File.Number.{number}
use Rattle.scope.specs.File.Kinds.{kind_stop, kinds_stop}
use Rattle.scope.specs.File.Stops.{number_stop, none_stop, byte_stop, word_stop, end_stop, stopped_at, digits_stop, items_stop, larger}
use Rattle.common.specs.Kinds.{sort_of, kind_of, listed}
use Rattle.common.specs.declared.kinds.Kind.{Kind}
use Rattle.lines.specs.Parts.{tail_part}
use Rattle.lines.specs.Answers.{number_answer}
use Rattle.trip.specs.LineStops.{number_within}
use Rattle.columns.specs.NumberPart.{number_whole}
use Rattle.columns.specs.RowPart.{tells_items}

-- A byte at the front.
pub byte_met : (c : ℕ) (f : List ℕ → ℕ) (s : List ℕ) (i : ℕ) → i < length s → get_or s i 0 ≡ c → byte_stop c f (drop i s) ≡ suc (f (drop (i + 1) s))
unfolding byte_stop
byte_met c f s i h e = rw (add-one, drop-cons s i 0 h) (rw (eq-eqb (get_or s i 0) c e) refl)

pub byte_other : (c : ℕ) (f : List ℕ → ℕ) (s : List ℕ) (i : ℕ) → i < length s → (get_or s i 0 ≡ c → ⊥) → byte_stop c f (drop i s) ≡ 0
unfolding byte_stop
byte_other c f s i h e = rw (drop-cons s i 0 h) (rw (ne_eqb (get_or s i 0) c e) refl)

pub byte_ended : (c : ℕ) (f : List ℕ → ℕ) (s : List ℕ) (i : ℕ) → length s ≤ i → byte_stop c f (drop i s) ≡ 0
unfolding byte_stop
byte_ended c f s i h = rw (drop_of_length-le s h) refl

-- A word, as far as its bytes are those of the text.
unfoldable pub stands : List ℕ → List ℕ → ℕ
stands w s = length (take_while (λ (p : ℕ × ℕ). eqb p.0 p.1) (zip s w))

pub stands_is : (w s : List ℕ) → stands w s ≡ word_stop w none_stop s
unfolding stands word_stop byte_stop
stands_is w s = length-prefix_len (λ (p : ℕ × ℕ). eqb p.0 p.1) (zip s w) ∙ go w s
  where
    one : (x : Bool) (m n : ℕ) → m ≡ n → cond x (1 + m) 0 ≡ cond x (suc n) 0
    one true m n e = omega arith
    one false m n e = refl

    go : (w s : List ℕ) → prefix_len (λ (p : ℕ × ℕ). eqb p.0 p.1) (zip s w) ≡ word_stop w none_stop s
    go [] [] = refl
    go [] (b ∷ s) = refl
    go (c ∷ w) [] = refl
    go (c ∷ w) (b ∷ s) = one (eqb b c) _ _ (go w s)

-- A word that breaks off, and a word that stands whole.
pub word_short : (w : List ℕ) (f : List ℕ → ℕ) (s : List ℕ) → word_stop w none_stop s < length w → word_stop w f s ≡ word_stop w none_stop s
unfolding word_stop byte_stop
word_short [] f s h = absurd (omega arith)
word_short (c ∷ w) f [] h = refl
word_short (c ∷ w) f (b ∷ s) h = go (eqb b c) (word_short w f s) h
  where
    go :
        (x : Bool) → (word_stop w none_stop s < length w → word_stop w f s ≡ word_stop w none_stop s)
        → cond x (suc (word_stop w none_stop s)) 0 < suc (length w) → cond x (suc (word_stop w f s)) 0 ≡ cond x (suc (word_stop w none_stop s)) 0
    go true ih k = ap suc (ih (omega arith))
    go false ih k = refl

pub word_whole :
    (w : List ℕ) (f : List ℕ → ℕ) (s : List ℕ) → length w ≤ word_stop w none_stop s
    → word_stop w f s ≡ word_stop w none_stop s + f (drop (word_stop w none_stop s) s)
unfolding word_stop byte_stop
word_whole [] f s h = omega arith
word_whole (c ∷ w) f [] h = absurd (omega arith)
word_whole (c ∷ w) f (b ∷ s) h = go (eqb b c) (word_whole w f s) h
  where
    go :
        (x : Bool) → (length w ≤ word_stop w none_stop s → word_stop w f s ≡ word_stop w none_stop s + f (drop (word_stop w none_stop s) s))
        → suc (length w) ≤ cond x (suc (word_stop w none_stop s)) 0
        → cond x (suc (word_stop w f s)) 0 ≡ cond x (suc (word_stop w none_stop s)) 0 + f (drop (cond x (suc (word_stop w none_stop s)) 0) (b ∷ s))
    go true ih k = rw (ih (omega arith)) (omega arith)
    go false ih k = absurd (omega arith)

pub word_within : (w s : List ℕ) → word_stop w none_stop s ≤ length s
unfolding word_stop byte_stop
word_within [] s = omega arith
word_within (c ∷ w) [] = omega arith
word_within (c ∷ w) (b ∷ s) = go (eqb b c) (word_within w s)
  where
    go : (x : Bool) → word_stop w none_stop s ≤ length s → cond x (suc (word_stop w none_stop s)) 0 ≤ suc (length s)
    go true h = omega arith
    go false h = omega arith

-- The same, as the code finds it: `front` bytes of the word, and behind a whole word `more` bytes of the part of the text from there on.
module _ (w s : List ℕ) (f : List ℕ → ℕ) (front : ℕ) (is : front ≡ word_stop w none_stop s) where
  pub front_short : front < length w → front ≡ word_stop w f s
  front_short h = is ∙ sym (word_short w f s (rw is at h))

  pub front_whole : length w ≤ front → (more : ℕ) → more ≡ f (take (length s - front) (drop front s)) → front + more ≡ word_stop w f s
  front_whole h more e =
      let x : more ≡ f (drop front s) = e ∙ ap f (tail_part front s) in
      let y : word_stop w f s ≡ front + f (drop front s) = rw is (word_whole w f s (rw is at h)) in
      rw (x, y) refl

  pub front_within : front ≤ length s
  front_within = rw is (word_within w s)

-- What stands of a part of the text fits behind what stands before it.
pub part_within :
    (f : List ℕ → ℕ) → ((t : List ℕ) → f t ≤ length t) → (s : List ℕ) (n more : ℕ) → n ≤ length s
    → more ≡ f (take (length s - n) (drop n s)) → n + more ≤ length s
part_within f b s n more h e =
    let x : more ≡ f (drop n s) = e ∙ ap f (tail_part n s) in
    omega (arith, x, b (drop n s), length-drop n s)

-- A number.
pub digits_none : (f : List ℕ → ℕ) (s : List ℕ) (k : ℕ) → k ≡ number_stop s → k ≡ 0 → digits_stop f s ≡ 0
unfolding digits_stop stopped_at
digits_none f s k e z =
    let n : number_stop s ≡ 0 = sym e ∙ z in
    rw n refl

pub digits_some : (f : List ℕ → ℕ) (s : List ℕ) (k : ℕ) → k ≡ number_stop s → (k ≡ 0 → ⊥) → digits_stop f s ≡ k + f (drop k s)
unfolding digits_stop stopped_at
digits_some f s k e z = rw (← e) (go k z)
  where
    go : (j : ℕ) → (j ≡ 0 → ⊥) → stopped_at j f s ≡ j + f (drop j s)
    go zero q = absurd (q refl)
    go (suc j) q = refl

-- What the number reader answers.
pub stop_is : (s : List ℕ) → unwrap_or (result_err (number_answer (number s) (number_stop s))) (length s) ≡ number_stop s
unfolding number_answer
stop_is s = go (number s) refl
  where
    go : (o : Option ℕ) → number s ≡ o → unwrap_or (result_err (number_answer o (number_stop s))) (length s) ≡ number_stop s
    go none e = refl
    go (some n) e = number_whole s n e

-- The LF.
pub end_none : (s : List ℕ) → length s ≡ 0 → 0 ≡ end_stop s
unfolding end_stop
end_none s h = sym (byte_ended 10 none_stop s 0 (omega arith))

pub end_met : (s : List ℕ) → 0 < length s → get_or s 0 0 ≡ 10 → 1 ≡ end_stop s
unfolding end_stop
end_met s h e = sym (byte_met 10 none_stop s 0 h e)

pub end_other : (s : List ℕ) → 0 < length s → (get_or s 0 0 ≡ 10 → ⊥) → 0 ≡ end_stop s
unfolding end_stop
end_other s h e = sym (byte_other 10 none_stop s 0 h e)

pub end_within : (s : List ℕ) → end_stop s ≤ length s
unfolding end_stop byte_stop
end_within [] = omega arith
end_within (b ∷ s) = go (eqb b 10)
  where
    go : (x : Bool) → cond x 1 0 ≤ suc (length s)
    go true = omega arith
    go false = omega arith

-- Digits behind `front` bytes, and the LF behind them.
pub digits_ended :
    (s : List ℕ) (front k last : ℕ) → k ≡ number_stop (take (length s - front) (drop front s)) → (k ≡ 0 → ⊥)
    → last ≡ end_stop (take (length s - (front + k)) (drop (front + k) s)) → k + last ≡ digits_stop end_stop (take (length s - front) (drop front s))
digits_ended s front k last e z h =
    let part = take (length s - front) (drop front s) in
    let a : part ≡ drop front s = tail_part front s in
    let x : drop k part ≡ drop (front + k) s = ap (λ t. drop k t) a ∙ drop-drop k front s in
    let y : last ≡ end_stop (drop k part) = h ∙ ap end_stop (tail_part (front + k) s ∙ sym x) in
    ap (λ n. k + n) y ∙ sym (digits_some end_stop part k e z)

-- Items.
items_suc : (n : ℕ) (t : List ℕ) → items_stop (suc n) t ≡ byte_stop 32 (digits_stop (items_stop n)) t
unfolding items_stop
items_suc n t = refl

module _ (s : List ℕ) (i n : ℕ) (some_left : 0 < n) where
  items_first : items_stop n (drop i s) ≡ byte_stop 32 (digits_stop (items_stop (n - 1))) (drop i s)
  items_first =
      let e : n ≡ suc (n - 1) = omega arith in
      ap (λ m. items_stop m (drop i s)) e ∙ items_suc (n - 1) (drop i s)

  pub items_ended : length s ≤ i → items_stop n (drop i s) ≡ 0
  items_ended h = items_first ∙ byte_ended 32 (digits_stop (items_stop (n - 1))) s i h

  pub items_other : i < length s → (get_or s i 0 ≡ 32 → ⊥) → items_stop n (drop i s) ≡ 0
  items_other h e = items_first ∙ byte_other 32 (digits_stop (items_stop (n - 1))) s i h e

  pub items_blank : i < length s → get_or s i 0 ≡ 32 → (k : ℕ) → k ≡ number_stop (drop (i + 1) s) → k ≡ 0 → items_stop n (drop i s) ≡ 1
  items_blank h e k p z =
      items_first ∙
      byte_met 32 (digits_stop (items_stop (n - 1))) s i h e ∙
      ap suc (digits_none (items_stop (n - 1)) (drop (i + 1) s) k p z)

  pub items_goes :
      i < length s → get_or s i 0 ≡ 32 → (k : ℕ) → k ≡ number_stop (drop (i + 1) s) → (k ≡ 0 → ⊥)
      → items_stop n (drop i s) ≡ suc (k + items_stop (n - 1) (drop (i + 1 + k) s))
  items_goes h e k p z =
      items_first ∙
      byte_met 32 (digits_stop (items_stop (n - 1))) s i h e ∙
      ap suc (digits_some (items_stop (n - 1)) (drop (i + 1) s) k p z ∙ ap (λ t. k + items_stop (n - 1) t) (drop-drop k (i + 1) s))

pub items_done : (s : List ℕ) (i n : ℕ) → n ≤ 0 → items_stop n (drop i s) ≡ end_stop (drop i s)
unfolding items_stop
items_done s i zero h = refl
items_done s i (suc n) h = absurd (omega arith)

-- A kind of the table.
pub kind_stands : (k : Kind) (s : List ℕ) → kind_stop (kind_of k) s ≡ word_stop k.word.now (items_stop (length k.operands.now)) s
unfolding kind_stop
kind_stands k s = ap (λ n. word_stop k.word.now (items_stop n) s) (length-map k.operands.now sort_of)

pub items_within : (n : ℕ) (s : List ℕ) → items_stop n s ≤ length s
items_within n s = (tells_items n).bounded s

-- The kind that goes furthest.
larger_is : (m n : ℕ) → larger m n ≡ max m n
unfolding larger
larger_is m n = go (ltb m n) refl
  where
    go : (x : Bool) → ltb m n ≡ x → cond x n m ≡ max m n
    go true e = omega (arith, ltb-true m n e)
    go false e = omega (arith, ltb-false m n e)

furthest_from : (kinds : List Kind) (s : List ℕ) (best : ℕ)
    → fold (λ (b : ℕ) (k : Kind). max (kind_stop (kind_of k) s) b) best kinds ≡ max (kinds_stop (listed kinds) s) best
unfolding kinds_stop
furthest_from [] s best = omega arith
furthest_from (c ∷ cs) s best =
    furthest_from cs s (max (kind_stop (kind_of c) s) best) ∙ omega (arith, larger_is (kind_stop (kind_of c) s) (kinds_stop (listed cs) s))

pub furthest_is : (kinds : List Kind) (s : List ℕ)
    → kinds_stop (listed kinds) s ≡ fold (λ (b : ℕ) (k : Kind). max (kind_stop (kind_of k) s) b) 0 kinds
furthest_is kinds s = omega (arith, furthest_from kinds s 0)

-- What the code's goals are proved by: a word or a key, a number, the LF, and items.
pub ruleset fronts = (stands_is, word_within, word_short, word_whole, tail_part)

pub ruleset ends = (end_none, end_met, end_other)

pub ruleset digits = (digits_none, digits_some, number_within, end_within)

pub ruleset operands = (items_ended, items_other, items_blank, items_goes, items_done, number_within, end_within, tail_part)

pub ruleset kinds = (kind_stands, items_within)

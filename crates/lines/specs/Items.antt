-- Words and items as the library's searches find them.
use Rattle.std.specs.Prelude.{ℕ, suc, ◌+◌, ◌≤◌, ◌<◌, ◌≡◌, refl, List, [], ◌∷◌, Bool, true, false, ◌&&◌, not, cond, eqb, ltb, length, drop, position, Option as Optional, None, Some, slice_get}
use Rattle.std.specs.List as std
use Rattle.std.specs.List.{position_or_len, slice_split}
use Rattle.std.specs.Str.{bytes_eq}
use Rattle.std.specs.Iterator.{AlwaysYields}
use Rattle.std.specs.Fn.{CalledAt}
use Rattle.std.specs.Slice.Iter.{split_steps, split_rest, split_done, split_callee}
use Rattle.std.proofs.lemmas.Iterator.Splits.{YieldsList-from_slice_split}
use denote.Ref.{Bor}
use denote.Param.Members.{Mut}
use Rattle.std.proofs.Common.{arith, ap, ◌∙◌, ltb-true, ltb-false}
use Rattle.std.proofs.Math.Option.{none, some}
use Rattle.scope.specs.Logic.Form.{both}
use Rattle.scope.specs.File.Kinds.{same, kind_from, items, onto_first}
use Rattle.common.specs.Kinds.{listed}
use Rattle.common.specs.declared.kinds.Kind.{Kind}
use Rattle.lines.specs.Answers.{kind_answer}
use Rattle.lines.specs.Operands.{shown}

pub same_is : (s t : List ℕ) → same s t ≡ bytes_eq s t
unfolding same both
same_is [] [] = refl
same_is [] (b ∷ t) = refl
same_is (a ∷ s) [] = refl
same_is (a ∷ s) (b ∷ t) = rw (same_is s t) (go (eqb a b))
  where
    go : (x : Bool) → both x (bytes_eq s t) ≡ (x && bytes_eq s t)
    go true = refl
    go false = refl

-- The number of a word's kind is the place of the kind.
abbrev pub has_word : List ℕ → Kind → Bool
has_word w k = bytes_eq k.word.now w

abbrev pub place : List ℕ → List Kind → ℕ
place w kinds = position_or_len (has_word w) kinds

place_cons : (w : List ℕ) (c : Kind) (cs : List Kind) → place w (c ∷ cs) ≡ cond (has_word w c) 0 (suc (place w cs))
place_cons w c cs = go (has_word w c)
  where
    go : (b : Bool) → cond (not b) (1 + place w cs) 0 ≡ cond b 0 (suc (place w cs))
    go true = refl
    go false = omega arith

kind_found : (kinds : List Kind) (w : List ℕ) (k : ℕ) → place w kinds < length kinds → kind_from k (listed kinds) w ≡ some (k + place w kinds)
unfolding kind_from
kind_found [] w k h = absurd (omega arith)
kind_found (c ∷ cs) w k h =
    rw (same_is c.word.now w, place_cons w c cs) (go (has_word w c) (rw (place_cons w c cs) at h) (kind_found cs w (suc k)))
  where
    go : (b : Bool) → cond b 0 (suc (place w cs)) < suc (length cs)
        → (place w cs < length cs → kind_from (suc k) (listed cs) w ≡ some (suc k + place w cs))
        → cond b (some k) (kind_from (suc k) (listed cs) w) ≡ some (k + cond b 0 (suc (place w cs)))
    go true h more = let e : k ≡ k + 0 = omega arith in ap some e
    go false h more = let e : suc k + place w cs ≡ k + suc (place w cs) = omega arith in more (omega arith) ∙ ap some e

kind_none : (kinds : List Kind) (w : List ℕ) (k : ℕ) → length kinds ≤ place w kinds → kind_from k (listed kinds) w ≡ none
unfolding kind_from
kind_none [] w k h = refl
kind_none (c ∷ cs) w k h =
    rw (same_is c.word.now w) (go (has_word w c) (rw (place_cons w c cs) at h) (kind_none cs w (suc k)))
  where
    go : (b : Bool) → suc (length cs) ≤ cond b 0 (suc (place w cs))
        → (length cs ≤ place w cs → kind_from (suc k) (listed cs) w ≡ none) → cond b (some k) (kind_from (suc k) (listed cs) w) ≡ none
    go true h more = absurd (omega arith)
    go false h more = more (omega arith)

pub kind_is : (kinds : List Kind) (w : List ℕ) → position (has_word w) kinds ≡ kind_answer (kind_from 0 (listed kinds) w)
unfolding kind_answer
kind_is kinds w = go (ltb (place w kinds) (length kinds)) refl
  where
    go : (b : Bool) → ltb (place w kinds) (length kinds) ≡ b
        → cond b (Some (place w kinds)) None ≡ kind_answer (kind_from 0 (listed kinds) w)
    go true e =
        let z : place w kinds ≡ 0 + place w kinds = omega arith in
        rw (kind_found kinds w 0 (ltb-true _ _ e)) (ap {B = Optional ℕ} Some z)
    go false e = rw (kind_none kinds w 0 (ltb-false _ _ e)) refl

pub place_within : {A : Type 0} (p : A → Bool) (xs : List A) (k : ℕ) → position p xs ≡ Some k → k < length xs
place_within p xs k e = go (ltb (position_or_len p xs) (length xs)) refl e
  where
    go : (b : Bool) → ltb (position_or_len p xs) (length xs) ≡ b
        → ◌≡◌ {A = Optional ℕ} (cond b (Some (position_or_len p xs)) None) (Some k) → k < length xs
    go true d h = let z : position_or_len p xs ≡ k = cc in omega (arith, z, ltb-true _ _ d)
    go false d h = absurd (cc)

pub kind_within : (kinds : List Kind) (w : List ℕ) (k : ℕ) → position (has_word w) kinds ≡ Some k → k < length kinds
kind_within kinds w k e = place_within (has_word w) kinds k e

-- The items of a value are its parts between the spaces.
onto_is : (c : ℕ) (ws : List (List ℕ)) → onto_first c ws ≡ std.onto_first c ws
unfolding onto_first
onto_is c [] = refl
onto_is c (w ∷ ws) = refl

pub items_is : (s : List ℕ) → items s ≡ slice_split (λ b. eqb b 32) s
unfolding items
items_is [] = refl
items_is (c ∷ s) = rw (items_is s, onto_is c (slice_split (λ b. eqb b 32) s)) refl

-- One item is taken off.
pub record Taken {S : Type 0} (steps : S → Optional (Bor (List ℕ)) → S → Type 0) (ws : List (List ℕ)) (r : Optional (Bor (List ℕ))) (t : S) : Type 0 where
  pub item : shown r ≡ slice_get ws 0
  pub left : AlwaysYields steps (λ x. x.now) t (drop 1 ws)

pub taken : {F : Type 0} (g : Mut F (Bor ℕ × Unit {0}) Bool) (ws : List (List ℕ)) (s : _) (r : Optional (Bor (List ℕ))) (t : _)
    → AlwaysYields (split_steps g) (λ x. x.now) s ws → split_steps g s r t → Taken (split_steps g) ws r t
taken g [] s None t y k = record { item = refl; left = rw k.1 y }
taken g [] s (Some x) t y k = absurd (y x t k)
taken g (w ∷ ws) s None t y k = absurd (y.0 t k)
taken g (w ∷ ws) s (Some x) t y k = record { item = ap {B = Optional (List ℕ)} Some (y.1 x t k).0; left = (y.1 x t k).1 }

pub first_taken :
    {F : Type 0} (g : Mut F (Bor ℕ × Unit {0}) Bool) {f : F} (s : _) (v : List ℕ) → split_rest s ≡ v → split_done s ≡ false → split_callee s ≡ f
    → ((x : ℕ) (b : Bool) (q : F) → CalledAt g f x b q → (q ≡ f) × (b ≡ eqb x 32)) → (r : Optional (Bor (List ℕ))) (t : _) → split_steps g s r t
    → Taken (split_steps g) (items v) r t
first_taken g s v rest done closure tests r t k =
    taken g (items v) s r t (rw (items_is v) (YieldsList-from_slice_split g (λ b. eqb b 32) v rest done closure tests).runs) k

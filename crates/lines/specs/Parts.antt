-- A line by parts of the text: the value after the key, and what follows the LF.
use Rattle.std.specs.Prelude.{ℕ, zero, suc, ◌+◌, ◌-◌, ◌≤◌, ◌<◌, ◌≡◌, refl, List, [], ◌∷◌, Bool, true, false, not, ◌&&◌, cond, eqb, ltb, length, take, drop, position, Option as Optional, None, Some}
use Rattle.std.specs.List.{position_or_len}
use Rattle.std.specs.Str.{bytes_eq}
use Rattle.std.proofs.Math.Nat.{sub-zero, suc-sub-suc}
use Rattle.std.proofs.Math.Seq.{take-nil}
use Rattle.std.proofs.Common.{arith, ap, sym, length-drop, take_all, ltb-true, ltb-false}
use Rattle.std.proofs.Math.Option.{Option, none, some}
use Rattle.scope.specs.Call.Answer.{column_for}
use Rattle.scope.specs.File.Line.{Line, Cut, parts, uncut, cut, cut_after, strip, valued, shaped_as, placed, line_of, line_stop, line}

-- How many bytes of a text stand before the first b: all, where there is none.
abbrev pub up_to : ℕ → List ℕ → ℕ
up_to b s = position_or_len (λ c. eqb c b) s

-- What stands after the key in the first line; nothing where there is no such line.
unfoldable pub value_in : Option (List ℕ) → List ℕ
value_in none = []
value_in (some v) = v

unfoldable pub line_value : List ℕ → Cut → List ℕ
unfolding value_in strip
line_value key uncut = []
line_value key (parts t rest) = value_in (strip key t)

unfoldable pub value_of : List ℕ → List ℕ → List ℕ
unfolding line_value cut
value_of key s = line_value key (cut 10 s)

-- What stands after the first LF.
unfoldable pub line_rest : Cut → List ℕ
line_rest uncut = []
line_rest (parts t rest) = rest

unfoldable pub rest_of : List ℕ → List ℕ
unfolding line_rest cut
rest_of s = line_rest (cut 10 s)

-- A line is its value and the rest, for every shape that no empty value has.
value_parts : {A : Type 0} (l : Line A) (refusal : A → ℕ) (o : Option (List ℕ)) → l.shape.thing [] ≡ none
    → valued l refusal o ≡ shaped_as refusal (l.shape.thing (value_in o))
unfolding valued value_in shaped_as
value_parts l refusal none e = rw e refl
value_parts l refusal (some v) e = refl

cut_parts : {A : Type 0} (l : Line A) (refusal : A → ℕ) (i column : ℕ) (c : Cut) → l.shape.thing [] ≡ none
    → line_of l refusal i column c ≡ placed i column (shaped_as refusal (l.shape.thing (line_value l.key c))) (line_rest c)
unfolding line_of placed column_for shaped_as line_value line_rest
cut_parts l refusal i column uncut e = rw e refl
cut_parts l refusal i column (parts t rest) e = ap (λ v. placed i column v rest) (value_parts l refusal (strip l.key t) e)

pub line_parts : {A : Type 0} (l : Line A) (refusal : A → ℕ) (i : ℕ) (s : List ℕ) → l.shape.thing [] ≡ none
    → line l refusal i s ≡ placed i (suc (line_stop l s)) (shaped_as refusal (l.shape.thing (value_of l.key s))) (rest_of s)
unfolding line value_of rest_of
line_parts l refusal i s e = cut_parts l refusal i (suc (line_stop l s)) (cut 10 s) e

-- The first byte b, met and not met.
pub up_to_cons : (b c : ℕ) (s : List ℕ) → up_to b (c ∷ s) ≡ cond (eqb c b) 0 (suc (up_to b s))
up_to_cons b c s = go (eqb c b)
  where
    go : (t : Bool) → cond (not t) (1 + up_to b s) 0 ≡ cond t 0 (suc (up_to b s))
    go true = refl
    go false = omega arith

pub cut_found : (b : ℕ) (s : List ℕ) → up_to b s < length s → cut b s ≡ parts (take (up_to b s) s) (drop (suc (up_to b s)) s)
unfolding cut cut_after
cut_found b [] h = absurd (omega arith)
cut_found b (c ∷ s) h = rw (up_to_cons b c s) (go (eqb c b) (cut_found b s) (rw (up_to_cons b c s) at h))
  where
    go : (t : Bool) → (up_to b s < length s → cut b s ≡ parts (take (up_to b s) s) (drop (suc (up_to b s)) s))
        → cond t 0 (suc (up_to b s)) < suc (length s)
        → cond t (parts [] s) (cut_after c (cut b s)) ≡ parts (take (cond t 0 (suc (up_to b s))) (c ∷ s))
        (drop (suc (cond t 0 (suc (up_to b s)))) (c ∷ s))
    go true f h = refl
    go false f h = rw (f (omega arith)) refl

pub cut_none : (b : ℕ) (s : List ℕ) → length s ≤ up_to b s → cut b s ≡ uncut
unfolding cut cut_after
cut_none b [] h = refl
cut_none b (c ∷ s) h = go (eqb c b) (cut_none b s) (rw (up_to_cons b c s) at h)
  where
    go : (t : Bool) → (length s ≤ up_to b s → cut b s ≡ uncut) → suc (length s) ≤ cond t 0 (suc (up_to b s))
        → cond t (parts [] s) (cut_after c (cut b s)) ≡ uncut
    go true f h = absurd (omega arith)
    go false f h = rw (f (omega arith)) refl

-- The same of the place of that byte.
abbrev pub cut_at : Optional ℕ → List ℕ → Cut
cut_at None s = uncut
cut_at (Some i) s = parts (take i s) (drop (suc i) s)

pub cut_is : (b : ℕ) (s : List ℕ) → cut b s ≡ cut_at (position (λ c. eqb c b) s) s
cut_is b s = go (ltb (up_to b s) (length s)) refl
  where
    go : (t : Bool) → ltb (up_to b s) (length s) ≡ t → cut b s ≡ cut_at (cond t (Some (up_to b s)) None) s
    go true e = cut_found b s (ltb-true (up_to b s) (length s) e)
    go false e = cut_none b s (ltb-false (up_to b s) (length s) e)

-- The key, met and not met.
pub strip_is : (key t : List ℕ) → strip key t ≡ cond (bytes_eq (take (length key) t) key) (some (drop (length key) t)) none
unfolding strip
strip_is [] t = refl
strip_is (k ∷ ks) [] = refl
strip_is (k ∷ ks) (c ∷ t) = go (eqb c k) (strip_is ks t)
  where
    go : (b : Bool) → strip ks t ≡ cond (bytes_eq (take (length ks) t) ks) (some (drop (length ks) t)) none
        → cond b (strip ks t) none ≡ cond (b && bytes_eq (take (length ks) t) ks) (some (drop (length ks) t)) none
    go true e = e
    go false e = refl

pub drop_take : (n m : ℕ) (s : List ℕ) → drop n (take m s) ≡ take (m - n) (drop n s)
drop_take zero m s = rw sub-zero refl
drop_take (suc n) zero s = let e : 0 - suc n ≡ 0 = omega arith in rw e refl
drop_take (suc n) (suc m) [] = sym (take-nil (suc m - suc n))
drop_take (suc n) (suc m) (c ∷ s) = rw suc-sub-suc (drop_take n m s)

-- A part that ends where the text ends.
pub tail_part : (n : ℕ) (s : List ℕ) → take (length s - n) (drop n s) ≡ drop n s
tail_part n s = take_all (length s - n) (drop n s) (omega (arith, length-drop n s))

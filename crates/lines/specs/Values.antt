-- The parts that the code hands back are the value and the rest of the definition.
use Rattle.std.specs.Prelude.{ℕ, suc, ◌+◌, ◌-◌, ◌≤◌, ◌<◌, ◌≡◌, refl, List, [], Bool, true, false, cond, ltb, length, take, drop, MatchOption, Option as Optional, None, Some}
use Rattle.std.specs.Option.{unwrap_or}
use Rattle.std.specs.Str.{bytes_eq}
use denote.Ref.{Bor}
use Rattle.std.proofs.Common.{arith, ap, sym, ◌∙◌, length-drop, length-take-le, ltb-true, ltb-false}
use Rattle.std.proofs.Math.Option.{none, some}
use Rattle.scope.specs.File.Line.{parts, uncut, cut}
use Rattle.lines.specs.Parts.{up_to, cut_found, cut_none, value_in, line_value, value_of, line_rest, rest_of, strip_is, tail_part}

value_split : (key s t rest : List ℕ) → cut 10 s ≡ parts t rest
    → value_of key s ≡ cond (bytes_eq (take (length key) t) key) (drop (length key) t) []
unfolding value_of line_value value_in
value_split key s t rest e = rw (e, strip_is key t) (go (bytes_eq (take (length key) t) key))
  where
    go : (b : Bool) → value_in (cond b (some (drop (length key) t)) none) ≡ cond b (drop (length key) t) []
    go true = refl
    go false = refl

-- What is left of the line behind the key, as a search for it says.
pub value_is :
    (key s t rest : List ℕ) → cut 10 s ≡ parts t rest → (r : Optional (Bor (List ℕ)))
    → MatchOption r (bytes_eq (take (length key) t) key ≡ false)
    (λ x. (bytes_eq (take (length key) t) key ≡ true) × (x.now ≡ drop (length key) t) × (length x.now + length key ≡ length t))
    → (d : Bor (List ℕ)) → d.now ≡ [] → (unwrap_or r d).now ≡ value_of key s
value_is key s t rest e None h d z = rw (value_split key s t rest e, h) z
value_is key s t rest e (Some x) h d z = rw (value_split key s t rest e, h.0) h.1

pub value_none : (key s : List ℕ) → cut 10 s ≡ uncut → [] ≡ value_of key s
unfolding value_of line_value
value_none key s e = rw e refl

pub rest_is : (s t rest : List ℕ) → cut 10 s ≡ parts t rest → rest ≡ rest_of s
unfolding rest_of line_rest
rest_is s t rest e = rw e refl

pub rest_none : (s : List ℕ) → cut 10 s ≡ uncut → [] ≡ rest_of s
unfolding rest_of line_rest
rest_none s e = rw e refl

-- A value that is not empty: the line is the key, the value and the LF, and the rest begins behind them.
pub record Behind (s : List ℕ) (n : ℕ) : Type 0 where
  pub inside : n ≤ length s
  pub rest : take (length s - n) (drop n s) ≡ rest_of s

pub rest_behind : (key v s : List ℕ) (n : ℕ) → v ≡ value_of key s → 0 < length v → n ≡ length v + (length key + 1) → Behind s n
rest_behind key v s n is more at = line (ltb (up_to 10 s) (length s)) refl
  where
    never : [] ≡ value_of key s → Behind s n
    never e = absurd (omega (arith, more, ap length (is ∙ sym e)))

    first : List ℕ
    first = take (up_to 10 s) s

    here : up_to 10 s < length s → value_of key s ≡ drop (length key) first → Behind s n
    here h e =
        let l : length v ≡ length first - length key = ap length (is ∙ e) ∙ length-drop (length key) first in
        let k : length first ≡ up_to 10 s = length-take-le (up_to 10 s) s (omega arith) in
        let m : n ≡ suc (up_to 10 s) = omega (arith, l, k) in
        rw m (record { inside = omega arith; rest = tail_part (suc (up_to 10 s)) s ∙ rest_is s first _ (cut_found 10 s h) })

    word : up_to 10 s < length s → (b : Bool) → bytes_eq (take (length key) first) key ≡ b → Behind s n
    word h true e = here h (value_split key s first _ (cut_found 10 s h) ∙ rw e refl)
    word h false e = never (sym (value_split key s first _ (cut_found 10 s h) ∙ rw e refl))

    line : (b : Bool) → ltb (up_to 10 s) (length s) ≡ b → Behind s n
    line true e = word (ltb-true (up_to 10 s) (length s) e) (bytes_eq (take (length key) first) key) refl
    line false e = never (value_none key s (cut_none 10 s (ltb-false (up_to 10 s) (length s) e)))

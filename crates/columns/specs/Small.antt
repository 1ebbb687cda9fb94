-- No line can stand for long: how many bytes at most, by the key's, the words' and the numbers' lengths.
use Rattle.std.specs.Prelude.{ℕ, zero, suc, ◌+◌, ◌*◌, ◌≤◌, ◌≡◌, refl, List, [], ◌∷◌, Bool, true, false, cond, eqb, leb, ltb, length, drop}
use Rattle.std.proofs.Common.{arith, leb-true}
use Rattle.scope.specs.File.Number.{is_digit}
use Rattle.scope.specs.File.Stops.{byte_stop, word_stop, end_stop, most_digits, digits_up_to, number_stop, stopped_at, digits_stop, items_stop, larger}
use Rattle.scope.specs.File.Line.{line_stop}
use Rattle.scope.specs.File.Kinds.{Kind, kind_stop, kinds_stop, form_kinds, step_kinds, logic_kinds}
use Rattle.scope.specs.File.Text.{logic_line, form_line, step_line}
use Rattle.scope.specs.Tools.Tests.{both_true}
use Rattle.trip.specs.Words.{every_kind}
use Rattle.lines.specs.Stop.{most_five}
use Rattle.columns.specs.Shapes.{number_with}

byte_small : (c m : ℕ) (next : List ℕ → ℕ) → ((t : List ℕ) → next t ≤ m) → (s : List ℕ) → byte_stop c next s ≤ suc m
unfolding byte_stop
byte_small c m next h [] = omega arith
byte_small c m next h (b ∷ s) = go (eqb b c) (h s)
  where
    go : (x : Bool) → next s ≤ m → cond x (suc (next s)) 0 ≤ suc m
    go true k = omega arith
    go false k = omega arith

word_small : (w : List ℕ) (m : ℕ) (next : List ℕ → ℕ) → ((t : List ℕ) → next t ≤ m) → (s : List ℕ) → word_stop w next s ≤ length w + m
unfolding word_stop
word_small [] m next h s = omega (arith, h s)
word_small (c ∷ w) m next h s = omega (arith, byte_small c (length w + m) (word_stop w next) (word_small w m next h) s)

end_small : (s : List ℕ) → end_stop s ≤ 1
unfolding end_stop
end_small s = byte_small 10 0 (λ t. 0) (λ t. omega arith) s

up_to_small : (m : ℕ) (s : List ℕ) → digits_up_to m s ≤ m
unfolding digits_up_to
up_to_small zero s = omega arith
up_to_small (suc m) [] = omega arith
up_to_small (suc m) (b ∷ s) = go (is_digit b) (up_to_small m s)
  where
    go : (x : Bool) → digits_up_to m s ≤ m → cond x (suc (digits_up_to m s)) 0 ≤ suc m
    go true k = omega arith
    go false k = omega arith

number_small : (s : List ℕ) → number_stop s ≤ 5
unfolding number_stop
number_small s = omega (arith, up_to_small (most_digits s) s, most_five s)

stopped_small : (k m : ℕ) (next : List ℕ → ℕ) → ((t : List ℕ) → next t ≤ m) → (s : List ℕ) → stopped_at k next s ≤ k + m
unfolding stopped_at
stopped_small zero m next h s = omega arith
stopped_small (suc k) m next h s = omega (arith, h (drop (suc k) s))

digits_small : (m : ℕ) (next : List ℕ → ℕ) → ((t : List ℕ) → next t ≤ m) → (s : List ℕ) → digits_stop next s ≤ 5 + m
unfolding digits_stop
digits_small m next h s = omega (arith, stopped_small (number_stop s) m next h s, number_small s)

items_small : (n : ℕ) (s : List ℕ) → items_stop n s ≤ suc (6 * n)
unfolding items_stop
items_small zero s = end_small s
items_small (suc n) s =
    omega (arith, byte_small 32 (5 + suc (6 * n)) (digits_stop (items_stop n)) (digits_small (suc (6 * n)) (items_stop n) (items_small n)) s)

-- The longest that a kind can be: its word, a space and five digits for each operand, and the LF.
unfoldable fits : ℕ → Kind → Bool
fits m c = leb (length c.word + suc (6 * length c.operands)) m

kind_small : (c : Kind) (m : ℕ) (s : List ℕ) → fits m c ≡ true → kind_stop c s ≤ m
unfolding kind_stop fits
kind_small c m s f =
    let n = length c.operands in
    omega (arith, word_small c.word (suc (6 * n)) (items_stop n) (items_small n) s, leb-true (length c.word + suc (6 * n)) m f)

kinds_small : (ks : List Kind) (m : ℕ) (s : List ℕ) → every_kind (fits m) ks ≡ true → kinds_stop ks s ≤ m
unfolding kinds_stop every_kind larger
kinds_small [] m s e = omega arith
kinds_small (c ∷ cs) m s e =
    let p = both_true (fits m c) (every_kind (fits m) cs) e in
    go (ltb (kind_stop c s) (kinds_stop cs s)) (kind_small c m s p.0) (kinds_small cs m s p.1)
  where
    go : (x : Bool) → kind_stop c s ≤ m → kinds_stop cs s ≤ m → cond x (kinds_stop cs s) (kind_stop c s) ≤ m
    go true a b = b
    go false a b = a

pub number_line_small : (key s : List ℕ) → line_stop (number_with key) s ≤ length key + 6
unfolding line_stop
number_line_small key s = word_small key 6 (digits_stop end_stop) (digits_small 1 end_stop end_small) s

pub form_line_small : (s : List ℕ) → line_stop form_line s ≤ 22
unfolding line_stop every_kind fits form_kinds
form_line_small s = word_small form_line.key 17 (kinds_stop form_kinds) (λ t. kinds_small form_kinds 17 t refl) s

pub logic_line_small : (s : List ℕ) → line_stop logic_line s ≤ 22
unfolding line_stop every_kind fits logic_kinds
logic_line_small s = word_small logic_line.key 16 (kinds_stop logic_kinds) (λ t. kinds_small logic_kinds 16 t refl) s

pub step_line_small : (s : List ℕ) → line_stop step_line s ≤ 22
unfolding line_stop every_kind fits step_kinds
step_line_small s = word_small step_line.key 17 (kinds_stop step_kinds) (λ t. kinds_small step_kinds 17 t refl) s

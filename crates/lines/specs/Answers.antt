-- What the answers of the code say, case by case.
use Rattle.std.specs.Prelude.{ℕ, ◌+◌, ◌-◌, ◌≤◌, ◌<◌, ◌≡◌, refl, List, [], ◌∷◌, false, length, get_or, drop, Option as Optional, None, Some, Result, Ok, Err}
use Rattle.std.specs.Result.{result_ok}
use Rattle.std.proofs.Common.{arith, sym, ◌∙◌, drop_of_length-le}
use Rattle.std.proofs.Math.Option.{Option, none, some}
use Rattle.scope.specs.Tools.Tests.{never}
use Rattle.scope.specs.Logic.Form.{both}
use Rattle.scope.specs.File.Number.{is_digit, digits, number}
use Rattle.scope.specs.File.Stops.{most_digits, digits_up_to, number_stop}
use Rattle.scope.specs.File.Request.{Row}
use Rattle.lines.specs.Stop.{counts_full, counts_none, digits_stops, number_long, number_bad, number_good}
use Rattle.lines.specs.declared.Items.{Items}

-- A number, or where its text stops being one.
unfoldable pub number_answer : Option ℕ → ℕ → Result ℕ ℕ
number_answer none stop = Err stop
number_answer (some n) stop = Ok n

-- A row, or a value out of shape.
unfoldable pub row_answer : Option Row → Optional Items
row_answer none = None
row_answer (some r) = Some (record { kind = r.kind; left = r.left; right = r.right })

-- The number of a kind, where a word has one.
unfoldable pub kind_answer : Option ℕ → Optional ℕ
kind_answer none = None
kind_answer (some k) = Some k

-- The number alone.
pub ok_number : (o : Option ℕ) (stop : ℕ) → result_ok (number_answer o stop) ≡ kind_answer o
unfolding number_answer kind_answer
ok_number none stop = refl
ok_number (some n) stop = refl

pub kind_some : (o : Option ℕ) (k : ℕ) → kind_answer o ≡ Some k → o ≡ some k
unfolding kind_answer
kind_some none k e = never cc
kind_some (some n) k e = cc

pub kind_none : (o : Option ℕ) → kind_answer o ≡ None → o ≡ none
unfolding kind_answer
kind_none none e = refl
kind_none (some n) e = never cc

-- What an answer says of the number that was asked for.
pub number_some : (o : Option ℕ) (stop x : ℕ) → number_answer o stop ≡ Ok x → o ≡ some x
unfolding number_answer
number_some none stop x e = never cc
number_some (some n) stop x e = cc

pub number_none : (o : Option ℕ) (stop at : ℕ) → number_answer o stop ≡ Err at → o ≡ none
unfolding number_answer
number_none none stop at e = refl
number_none (some n) stop at e = never cc

-- The ways in which reading a number ends: a byte too many, a byte that is no digit, no byte at all, and a number.
module _ (s : List ℕ) (m i : ℕ) (is : m ≡ most_digits s) where
  stop_is : i + digits_up_to (m - i) (drop i s) ≡ digits_up_to m s → digits_up_to (m - i) (drop i s) ≡ 0 → number_stop s ≡ i
  unfolding number_stop
  stop_is e z = rw (← is) (omega arith)

  pub bad_long : m ≤ i → i < length s → i + digits_up_to (m - i) (drop i s) ≡ digits_up_to m s → Err i ≡ number_answer (number s) (number_stop s)
  unfolding number_answer
  bad_long h k e = rw (stop_is e (counts_full s m i h), number_long s (omega arith)) refl

  pub bad_digit : (v : ℕ) → i < length s → i < m → is_digit (get_or s i 0) ≡ false → digits v (drop i s) ≡ digits 0 s
      → i + digits_up_to (m - i) (drop i s) ≡ digits_up_to m s → Err i ≡ number_answer (number s) (number_stop s)
  unfolding number_answer
  bad_digit v h k d r e =
      rw (stop_is e (counts_none s i h m k d), number_bad s (sym r ∙ digits_stops s i h v d)) refl

  pub good_number : (v : ℕ) → 0 < i → length s ≤ i → i ≤ m → i ≤ length s → digits v (drop i s) ≡ digits 0 s → Ok v ≡ number_answer
      (number s) (number_stop s)
  unfolding number_answer digits
  good_number v h k l n r =
      let e : number s ≡ some v = number_good s (omega arith) (omega arith) ∙ sym r ∙ rw (drop_of_length-le s k) refl in
      rw e refl

pub bad_empty : (s : List ℕ) → length s ≡ 0 → Err 0 ≡ number_answer (number s) (number_stop s)
unfolding number_answer number number_stop most_digits digits_up_to both
bad_empty [] h = refl
bad_empty (b ∷ s) h = absurd (omega arith)

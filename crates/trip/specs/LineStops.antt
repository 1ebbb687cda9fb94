-- Where a line stops is told by its own bytes: nothing behind its LF matters. One law for each part of a line.
use Rattle.std.specs.Prelude.{ℕ, zero, suc, ◌+◌, ◌≤◌, ◌<◌, ◌≡◌, refl, List, [], ◌∷◌, ◌++◌, Bool, true, false, cond, eqb, length, drop}
use Prim.Native.String.{String}
use Rattle.std.proofs.Common.{sym, ap, arith, ne_eqb}
use Rattle.std.proofs.lemmas.Bool.{eqb-false}
use Rattle.scope.specs.Logic.Form.{both}
use Rattle.scope.specs.File.Number.{is_digit}
use Rattle.scope.specs.File.Stops.{byte_stop, word_stop, end_stop, most_digits, digits_up_to, number_stop, stopped_at, digits_stop, items_stop}
use Rattle.scope.specs.File.Line.{Line, line_stop}
use Rattle.scope.specs.File.Kinds.{Kind, kind_in, logic_kinds, kind_stop, kinds_stop}
use Rattle.scope.specs.File.Bytes.{bytes}
use Rattle.scope.specs.File.Text.{number_line, logic_line, row_line}
use Rattle.trip.specs.Cuts.{free, free_cons}
use Rattle.trip.specs.Words.{Neat, neat_kind, logic_kinds_neat}

-- What stands behind the first LF does not matter.
record Own (stop : List ℕ → ℕ) : Type 0 where
  own : (x t r : List ℕ) → free 10 x ≡ true → stop (x ++ 10 ∷ t) ≡ stop (x ++ 10 ∷ r)

end_own : Own end_stop
unfolding end_stop byte_stop
end_own = record { own = own }
  where
    own : (x t r : List ℕ) → free 10 x ≡ true → end_stop (x ++ 10 ∷ t) ≡ end_stop (x ++ 10 ∷ r)
    own [] t r f = refl
    own (b ∷ x) t r f = let c = free_cons 10 b x f in rw c.head refl

byte_own : (c : ℕ) (next : List ℕ → ℕ) → eqb 10 c ≡ false → Own next → Own (byte_stop c next)
unfolding byte_stop
byte_own c next h o = record { own = own }
  where
    own : (x t r : List ℕ) → free 10 x ≡ true → byte_stop c next (x ++ 10 ∷ t) ≡ byte_stop c next (x ++ 10 ∷ r)
    own [] t r f = rw h refl
    own (b ∷ x) t r f = ap (λ n. cond (eqb b c) (suc n) 0) (o.own x t r (free_cons 10 b x f).tail)

word_own : (w : List ℕ) (next : List ℕ → ℕ) → free 10 w ≡ true → Own next → Own (word_stop w next)
unfolding word_stop
word_own [] next f o = record { own = o.own }
word_own (c ∷ w) next f o =
    let d = free_cons 10 c w f in
    let h : eqb 10 c ≡ false = ne_eqb 10 c (λ e. eqb-false c 10 d.head (sym e)) in
    record { own = (byte_own c (word_stop w next) h (word_own w next d.tail o)).own }

-- Digits are bytes before the LF.
digits_front : (m : ℕ) (x t : List ℕ) → digits_up_to m (x ++ 10 ∷ t) ≡ digits_up_to m x
unfolding digits_up_to is_digit both
digits_front zero x t = refl
digits_front (suc m) [] t = refl
digits_front (suc m) (b ∷ x) t = ap (λ n. cond (is_digit b) (suc n) 0) (digits_front m x t)

pub digits_within : (m : ℕ) (x : List ℕ) → digits_up_to m x ≤ length x
unfolding digits_up_to
digits_within zero x = omega arith
digits_within (suc m) [] = omega arith
digits_within (suc m) (b ∷ x) = go (is_digit b) (digits_within m x)
  where
    go : (t : Bool) → digits_up_to m x ≤ length x → cond t (suc (digits_up_to m x)) 0 ≤ suc (length x)
    go true h = omega arith
    go false h = omega arith

drop_front : (k : ℕ) (x y : List ℕ) → k ≤ length x → drop k (x ++ y) ≡ drop k x ++ y
drop_front zero x y h = refl
drop_front (suc k) [] y h = absurd (omega arith)
drop_front (suc k) (b ∷ x) y h = drop_front k x y (omega arith)

free_drop : (k : ℕ) (x : List ℕ) → free 10 x ≡ true → free 10 (drop k x) ≡ true
free_drop zero x f = f
free_drop (suc k) [] f = f
free_drop (suc k) (b ∷ x) f = free_drop k x (free_cons 10 b x f).tail

stopped_own : (k : ℕ) (next : List ℕ → ℕ) → Own next → (x t r : List ℕ) → free 10 x ≡ true → k ≤ length x →
    stopped_at k next (x ++ 10 ∷ t) ≡ stopped_at k next (x ++ 10 ∷ r)
unfolding stopped_at
stopped_own zero next o x t r f h = refl
stopped_own (suc k) next o x t r f h =
    rw (drop_front (suc k) x (10 ∷ t) h, drop_front (suc k) x (10 ∷ r) h)
    (ap (λ n. suc k + n) (o.own (drop (suc k) x) t r (free_drop (suc k) x f)))

number_front : (x t : List ℕ) → number_stop (x ++ 10 ∷ t) ≡ number_stop x
unfolding number_stop most_digits digits_up_to is_digit both
number_front [] t = refl
number_front (b ∷ x) t = digits_front (cond (eqb b 48) 1 5) (b ∷ x) t

pub number_within : (x : List ℕ) → number_stop x ≤ length x
unfolding number_stop
number_within x = digits_within (most_digits x) x

digits_own : (next : List ℕ → ℕ) → Own next → Own (digits_stop next)
unfolding digits_stop
digits_own next o =
    record { own = λ x t r f. rw (number_front x t, number_front x r) (stopped_own (number_stop x) next o x t r f (number_within x)) }

items_own : (n : ℕ) → Own (items_stop n)
unfolding items_stop
items_own zero = record { own = end_own.own }
items_own (suc n) = record { own = (byte_own 32 (digits_stop (items_stop n)) refl (digits_own (items_stop n) (items_own n))).own }

kinds_own : (ks : List Kind) → ((j : ℕ) → j < length ks → free 10 (kind_in ks j).word ≡ true) → Own (kinds_stop ks)
unfolding kinds_stop kind_stop kind_in
kinds_own [] h = record { own = λ x t r f. refl }
kinds_own (c ∷ cs) h =
    record {
      own =
          λ x t r f.
          let a = (word_own c.word (items_stop (length c.operands)) (h 0 (omega arith)) (items_own (length c.operands))).own x t r f in
          let b = (kinds_own cs (λ j k. h (suc j) (omega arith))).own x t r f in
          rw (a, b) refl;
    }

-- Of a line: of an empty text nothing stands, and nothing behind the LF matters.
pub record OwnLine {A : Type 0} (l : Line A) : Type 0 where
  pub missing : line_stop l [] ≡ 0
  pub own : (x t r : List ℕ) → free 10 x ≡ true → line_stop l (x ++ 10 ∷ t) ≡ line_stop l (x ++ 10 ∷ r)

pub number_own : (key : String) → free 10 (bytes key) ≡ true → line_stop (number_line key) [] ≡ 0 → OwnLine (number_line key)
unfolding line_stop
number_own key f e = record { missing = e; own = (word_own (bytes key) (digits_stop end_stop) f (digits_own end_stop end_own)).own }

pub logic_own : OwnLine logic_line
unfolding line_stop word_stop byte_stop free
logic_own =
    record { missing = refl; own = (word_own (bytes "logic=") (kinds_stop logic_kinds) refl (kinds_own logic_kinds (λ j h. (neat_kind logic_kinds j logic_kinds_neat h).no_end))).own }

pub row_own : (key : String) (ks : List Kind) → free 10 (bytes key) ≡ true → Neat ks → line_stop (row_line key ks) [] ≡ 0 → OwnLine (row_line key ks)
unfolding line_stop
row_own key ks f n e =
    record { missing = e; own = (word_own (bytes key) (kinds_stop ks) f (kinds_own ks (λ j h. (neat_kind ks j n h).no_end))).own }

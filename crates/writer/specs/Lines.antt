-- The text of one line, in the parts in which it is put.
use Rattle.std.specs.Prelude.{ℕ, zero, suc, ◌/◌, ◌%◌, ◌≤◌, ◌<◌, ◌≡◌, refl, ◌⊎◌, List, [], ◌∷◌, ◌++◌, map, Bool, true, false, cond, leb, length, take, get_or}
use Rattle.std.proofs.lemmas.Bool.{cases_lt, leb-true, lt-leb, le-leb}
use Rattle.std.proofs.lemmas.List.{get_or-map, length-map}
use Rattle.std.proofs.Common.{inl, inr, arith, ap, sym, ◌∙◌, append_assoc, append-nil, lt-ltb, le-ltb}
use Rattle.std.proofs.Math.ListN.{get_or-eq_default}
use Rattle.std.proofs.Math.Seq.{take-nil}
use Rattle.scope.specs.File.Bytes.{bytes}
use Rattle.scope.specs.File.Request.{Row}
use Rattle.scope.specs.File.Number.{digit, numeral}
use Rattle.scope.specs.File.Line.{Line, line_text}
use Rattle.scope.specs.File.Kinds.{Kind, kind, kind_in, spaced, row_text, row_shape, form_kinds, step_kinds, logic_of, logic_text}
use Rattle.scope.specs.File.Text.{number_shape, logic_line}
use Rattle.common.specs.declared.kinds.Kind.{Kind as Listed}
use Rattle.common.specs.Kinds.{sort_of, kind_of, listed}

-- A number's digits, where there are 1 to 5 of them: each place's digit stands in its own byte.
unfoldable pub digits1 : ℕ → List ℕ
digits1 n = digit n ∷ []

unfoldable pub digits2 : ℕ → List ℕ
digits2 n = digits1 (n / 10) ++ digits1 (n % 10)

unfoldable pub digits3 : ℕ → List ℕ
digits3 n = digits2 (n / 10) ++ digits1 (n % 10)

unfoldable pub digits4 : ℕ → List ℕ
digits4 n = digits3 (n / 10) ++ digits1 (n % 10)

unfoldable pub digits5 : ℕ → List ℕ
digits5 n = digits4 (n / 10) ++ digits1 (n % 10)

pub one_digit : (n : ℕ) → n < 10 → digits1 n ≡ numeral n
unfolding numeral digits1
one_digit n h = rw (lt-ltb n 10 h) refl

pub two_digits : (n : ℕ) → 10 ≤ n → n < 100 → digits2 n ≡ numeral n
unfolding numeral digits1 digits2
two_digits n k h = rw (le-ltb n 10 k, lt-ltb n 100 h) refl

pub three_digits : (n : ℕ) → 100 ≤ n → n < 1000 → digits3 n ≡ numeral n
unfolding numeral digits1 digits2 digits3
three_digits n k h = rw (le-ltb n 10 (omega arith), le-ltb n 100 k, lt-ltb n 1000 h) refl

pub four_digits : (n : ℕ) → 1000 ≤ n → n < 10000 → digits4 n ≡ numeral n
unfolding numeral digits1 digits2 digits3 digits4
four_digits n k h = rw (le-ltb n 10 (omega arith), le-ltb n 100 (omega arith), le-ltb n 1000 k, lt-ltb n 10000 h) refl

pub five_digits : (n : ℕ) → 10000 ≤ n → digits5 n ≡ numeral n
unfolding numeral digits1 digits2 digits3 digits4 digits5
five_digits n k = rw (le-ltb n 10 (omega arith), le-ltb n 100 (omega arith), le-ltb n 1000 (omega arith), le-ltb n 10000 k) refl

-- The digit at a place, where the number reaches so far, and those at several.
unfoldable pub digit_at : ℕ → ℕ → List ℕ
digit_at place n = cond (leb place n) (digits1 (n / place % 10)) []

unfoldable pub digits_at : List ℕ → ℕ → List ℕ
digits_at [] n = []
digits_at (place ∷ places) n = digit_at place n ++ digits_at places n

pub digits_more : (places : List ℕ) (k n : ℕ) → k < length places →
    digits_at (take k places) n ++ digit_at (get_or places k 0) n ≡ digits_at (take (suc k) places) n
unfolding digits_at
digits_more [] k n h = absurd (omega arith)
digits_more (p ∷ ps) zero n h = sym (append-nil (digit_at p n))
digits_more (p ∷ ps) (suc k) n h =
    append_assoc (digit_at p n) (digits_at (take k ps) n) (digit_at (get_or ps k 0) n) ∙
    ap (λ (l : List ℕ). digit_at p n ++ l) (digits_more ps k n (omega arith))

abbrev pub places : List ℕ
places = 10000 ∷ 1000 ∷ 100 ∷ 10 ∷ []

-- All digits of a number: those at the places that it reaches, and the last.
pub all_digits : (n : ℕ) → n < 100000 → digits_at places n ++ digits1 (n % 10) ≡ numeral n
unfolding digits_at digit_at digits1 digits2 digits3 digits4 digits5
all_digits n h = go (cases_lt n 10) (cases_lt n 100) (cases_lt n 1000) (cases_lt n 10000)
  where
    short : (place : ℕ) → n < place → leb place n ≡ false
    short place k = lt-leb place n k

    long : (place : ℕ) → place ≤ n → leb place n ≡ true
    long place k = le-leb place n k

    two : n < 1000 → n / 100 % 10 ≡ n / 10 / 10
    two k = omega arith

    hundreds : n / 100 % 10 ≡ n / 10 / 10 % 10
    hundreds = omega arith

    thousands : n / 1000 % 10 ≡ n / 10 / 10 / 10 % 10
    thousands = omega arith

    go : (n < 10) ⊎ (10 ≤ n) → (n < 100) ⊎ (100 ≤ n) → (n < 1000) ⊎ (1000 ≤ n) → (n < 10000) ⊎ (10000 ≤ n) →
        digits_at places n ++ digits1 (n % 10) ≡ numeral n
    go (inl a) b c d =
        let last : n % 10 ≡ n = omega arith in
        rw (short 10000 (omega arith), short 1000 (omega arith), short 100 (omega arith), short 10 a, last) (one_digit n a)
    go (inr a) (inl b) c d =
        let tens : n / 10 % 10 ≡ n / 10 = omega arith in
        rw (short 10000 (omega arith), short 1000 (omega arith), short 100 b, long 10 a, tens) (two_digits n a b)
    go (inr a) (inr b) (inl c) d =
        rw (short 10000 (omega arith), short 1000 c, long 100 b, long 10 a, two c) (three_digits n b c)
    go (inr a) (inr b) (inr c) (inl d) =
        let first : n / 1000 % 10 ≡ n / 10 / 10 / 10 = omega arith in
        rw (short 10000 d, long 1000 c, long 100 b, long 10 a, first, hundreds) (four_digits n c d)
    go (inr a) (inr b) (inr c) (inr d) =
        let first : n / 10000 % 10 ≡ n / 10 / 10 / 10 / 10 = omega arith in
        rw (long 10000 d, long 1000 c, long 100 b, long 10 a, first, thousands, hundreds) (five_digits n d)

-- An operand stands behind a space.
unfoldable pub operand_text : ℕ → List ℕ
operand_text n = (32 ∷ []) ++ numeral n

-- As many operands as a kind has.
unfoldable pub operands_text : ℕ → ℕ → ℕ → List ℕ
operands_text zero l r = []
operands_text (suc zero) l r = operand_text l
operands_text (suc (suc k)) l r = operand_text l ++ operand_text r

pub two_operands : (k l r : ℕ) → (k ≡ 0 → ⊥) → (k ≡ 1 → ⊥) → operand_text l ++ operand_text r ≡ operands_text k l r
unfolding operands_text
two_operands zero l r n0 n1 = absurd (n0 refl)
two_operands (suc zero) l r n0 n1 = absurd (n1 refl)
two_operands (suc (suc k)) l r n0 n1 = refl

row_go : (w : List ℕ) (k l r : ℕ) → spaced w (map numeral (take k (l ∷ r ∷ []))) ≡ w ++ operands_text k l r
unfolding spaced operands_text operand_text
row_go w zero l r = sym (append-nil w)
row_go w (suc zero) l r = refl
row_go w (suc (suc k)) l r = rw (take-nil {A = ℕ} k) refl

pub row_text_lem : (ks : List Kind) (r : Row) →
    row_text ks r ≡ (kind_in ks r.kind).word ++ operands_text (length (kind_in ks r.kind).operands) r.left r.right
unfolding row_text
row_text_lem ks r = row_go (kind_in ks r.kind).word (length (kind_in ks r.kind).operands) r.left r.right

-- A line whose value is a number.
abbrev pub count_line : List ℕ → Line ℕ
count_line key = record { key = key; shape = number_shape }

-- A line in the order in which it is put: the key, the value, LF.
pub number_line_lem : (key : List ℕ) (n : ℕ) → (key ++ numeral n) ++ (10 ∷ []) ≡ line_text (count_line key) n
unfolding line_text
number_line_lem key n = refl

-- A line whose value is a row of these kinds.
abbrev pub kinds_line : List ℕ → List Kind → Line Row
kinds_line key ks = record { key = key; shape = row_shape ks }

-- The same of such a line.
pub row_line : (key : List ℕ) (ks : List Kind) (r : Row) → (key ++ row_text ks r) ++ (10 ∷ []) ≡ line_text (kinds_line key ks) r
unfolding line_text
row_line key ks r = refl

-- No word of these kinds has more than 16 bytes.
unfoldable pub are_short : List Kind → Bool
are_short [] = true
are_short (c ∷ ks) = cond (leb (length c.word) 16) (are_short ks) false

pub forms_short : are_short form_kinds ≡ true
unfolding are_short form_kinds
forms_short = refl

pub steps_short : are_short step_kinds ≡ true
unfolding are_short step_kinds
steps_short = refl

short_parts : (b c : Bool) → cond b c false ≡ true → (b ≡ true) × (c ≡ true)
short_parts true c h = (refl, h)
short_parts false c h = cc

pub word_short : (ks : List Kind) (k : ℕ) → are_short ks ≡ true → length (kind_in ks k).word ≤ 16
unfolding are_short kind_in
word_short [] k h = omega arith
word_short (c ∷ ks) zero h = leb-true (length c.word) 16 (short_parts (leb (length c.word) 16) (are_short ks) h).0
word_short (c ∷ ks) (suc k) h = word_short ks k (short_parts (leb (length c.word) 16) (are_short ks) h).1

-- The kind of a number in a table of the code, and what is written of a row of that kind: nothing where there is none.
pub kind_found : (ks : List Listed) (i : ℕ) (k : Listed) → i < length ks → k ≡ get_or ks i k → kind_in (listed ks) i ≡ kind_of k
unfolding kind_in
kind_found ks i k h e = get_or-map kind_of ks i k (kind "" []) h ∙ ap kind_of (sym e)

abbrev kind_text : Kind → Row → List ℕ
kind_text c r = c.word ++ operands_text (length c.operands) r.left r.right

pub found_text : (ks : List Listed) (r : Row) (k : Listed) → r.kind < length ks → k ≡ get_or ks r.kind k →
    k.word.now ++ operands_text (length k.operands.now) r.left r.right ≡ row_text (listed ks) r
found_text ks r k h e =
    ap (λ (n : ℕ). k.word.now ++ operands_text n r.left r.right) (sym (length-map k.operands.now sort_of)) ∙
    ap (λ (c : Kind). kind_text c r) (sym (kind_found ks r.kind k h e)) ∙
    sym (row_text_lem (listed ks) r)

pub past_text : (ks : List Listed) (r : Row) → length ks ≤ r.kind → [] ≡ row_text (listed ks) r
unfolding kind_in operands_text
past_text ks r h =
    let e : kind_in (listed ks) r.kind ≡ kind "" [] = get_or-eq_default (listed ks) (kind "" []) (rw (length-map ks kind_of) h) in
    ap (λ (c : Kind). kind_text c r) (sym e) ∙ sym (row_text_lem (listed ks) r)

-- The line of each logic.
pub plain_line : (logic : ℕ) → logic ≡ 0 → bytes "logic=plain\n" ≡ line_text logic_line (logic_of logic)
unfolding line_text logic_text logic_of
plain_line logic e = rw e refl

pub unit_line : (logic : ℕ) → (logic ≡ 0 → ⊥) → bytes "logic=unit\n" ≡ line_text logic_line (logic_of logic)
unfolding line_text logic_text logic_of
unit_line zero h = absurd (h refl)
unit_line (suc logic) h = refl

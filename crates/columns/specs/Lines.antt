-- For each line of the request file, there is a column exactly where the line is refused 2, and it is the computed one.
use Rattle.std.specs.Prelude.{ℕ, suc, ◌≤◌, ◌<◌, ◌≡◌, List, [], ◌∷◌, ◌++◌, true, length}
use Rattle.std.proofs.Common.{sym, append-nil, length-append, arith}
use Rattle.std.proofs.Math.Seq.{append_snoc}
use Rattle.scope.specs.Call.Answer.{told}
use Rattle.scope.specs.File.Line.{Line, bad, parts, uncut, cut, line, line_stop}
use Rattle.scope.specs.File.Kinds.{Kind, logic_kinds}
use Rattle.scope.specs.File.Bytes.{bytes}
use Rattle.scope.specs.File.Text.{logic_line}
use Rattle.scope.specs.Tools.Tests.{never}
use Rattle.trip.specs.Cuts.{free}
use Rattle.trip.specs.LineRefusals as LineRefusals
use Rattle.trip.specs.LineRefusals.{range, later, twice, class, Mild}
use Rattle.trip.specs.Words.{Neat}
use Rattle.scope.specs.File.Column.{InShape, Goes, Column}
use Rattle.columns.specs.Laws.{Tells, tells_alike, tells_word}
use Rattle.columns.specs.Unique.{one_column}
use Rattle.columns.specs.Refused.{column_refused, refused_column, refused_stop}
use Rattle.columns.specs.NumberPart.{tells_number}
use Rattle.columns.specs.RowPart.{tells_end, end_undigited, tells_table}
use Rattle.columns.specs.Small.{number_line_small, logic_line_small}
use Rattle.columns.specs.Shapes.{number_with, number_parts, number_shape_lem, logic_parts, logic_shape_lem, row_with, row_parts, row_shape_lem}

-- Of a line of the request file, whose own refusals are never 2: it is refused 2 with a column exactly where that is its column, so that the
-- bytes before it can go on and with the next one they cannot.
pub record Told {A : Type 0} (l : Line A) : Type 0 where
  pub refused :
      (refusal : A → ℕ) (i c : ℕ) (s : List ℕ) → ((a : A) → Mild (refusal a)) → line l refusal i s ≡ bad (told 2 i c) → Column (InShape l) s c
  pub only : (refusal : A → ℕ) (i c : ℕ) (s : List ℕ) → Column (InShape l) s c → line l refusal i s ≡ bad (told 2 i c)
  pub small : (s : List ℕ) (c : ℕ) → Column (InShape l) s c → c ≤ 22

pub mild_not_two : (k : ℕ) → Mild k → ¬ (k ≡ 2)
mild_not_two k m e = go (m (omega arith))
  where
    go : LineRefusals.InShape k → ⊥
    go (range h) = omega arith
    go (later h) = omega arith
    go (twice h) = omega arith
    go (class h) = omega arith

told_by : {A : Type 0} (l : Line A) → Tells (InShape l) (line_stop l) → ((s : List ℕ) → line_stop l s ≤ 22) → Told l
told_by {A} l d few = record { refused = refused; only = only; small = small }
  where
    refused :
        (refusal : A → ℕ) (i c : ℕ) (s : List ℕ) → ((a : A) → Mild (refusal a)) → line l refusal i s ≡ bad (told 2 i c) → Column (InShape l) s c
    refused refusal i c s mild e =
        let f = refused_column l refusal i c s (λ a. mild_not_two (refusal a) (mild a)) d e in
        rw (sym (refused_stop l refusal i i c s e)) at f

    only : (refusal : A → ℕ) (i c : ℕ) (s : List ℕ) → Column (InShape l) s c → line l refusal i s ≡ bad (told 2 i c)
    only refusal i c s f =
        let e = column_refused l (λ a. 0) 0 s c f in
        let n = one_column s c (suc (line_stop l s)) f (refused_column l (λ a. 0) 0 (suc (line_stop l s)) s (λ a z. omega arith) d e) in
        rw n (column_refused l refusal i s c f)

    -- The bytes before the column go on with one more, and no line is longer than 22 bytes.
    longer : (p q : List ℕ) → cut 10 p ≡ uncut → InShape l (p ++ q) → suc (length p) ≤ 22
    longer p [] u w =
        let e : cut 10 p ≡ parts (l.key ++ w.value) [] = rw (append-nil p) at w.ends in
        never cc
    longer p (b ∷ q) u w =
        let g : Goes (InShape l) (p ++ (b ∷ [])) = record { continued = q; whole = rw (append_snoc p b q) w } in
        omega (arith, d.there (p ++ (b ∷ [])) [] g, few (p ++ (b ∷ []) ++ []), length-append p (b ∷ []))

    small : (s : List ℕ) (c : ℕ) → Column (InShape l) s c → c ≤ 22
    small s c f = omega (arith, f.column, longer f.before f.goes.continued f.unended f.goes.whole)

-- A line with a number, for any key that is not longer than `principals=`.
pub number_told : (key : List ℕ) → free 10 key ≡ true → length key ≤ 11 → Told (number_with key)
unfolding line_stop
number_told key f h =
    told_by (number_with key)
    (tells_alike (λ t. number_shape_lem key t f) (number_parts key) (tells_word key (tells_number tells_end end_undigited)))
    (λ s. omega (arith, number_line_small key s))

-- The line of a logic.
pub logic_told : Told logic_line
unfolding line_stop logic_kinds
logic_told =
    told_by logic_line (tells_alike logic_shape_lem logic_parts (tells_word (bytes "logic=") (tells_table logic_kinds (omega arith)))) logic_line_small

-- A line with a kind's word and its operands, for any key and any table of kinds.
pub row_told :
    (key : List ℕ) (ks : List Kind) → free 10 key ≡ true → Neat ks → 0 < length ks → ((s : List ℕ) → line_stop (row_with key ks) s ≤ 22)
    → Told (row_with key ks)
unfolding line_stop
row_told key ks f n h few =
    told_by (row_with key ks) (tells_alike (λ t. row_shape_lem key ks t f n) (row_parts key ks) (tells_word key (tells_table ks h))) few

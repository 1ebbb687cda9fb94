-- The kinds of `form=` and `step=` lines: the two tables, and how a row is written.
use Rattle.std.specs.Prelude.{ℕ, zero, suc, List, [], ◌∷◌, ◌++◌, map, Bool, true, false, cond, eqb, length, get_or, take}
use Prim.Native.String.{String}
use Rattle.std.proofs.Math.Option.{Option, none, some}
use Rattle.scope.specs.Logic.Facts.{Logic, plain, unit}
use Rattle.scope.specs.Logic.Form.{both}
use Rattle.scope.specs.File.Request.{Row}
use Rattle.scope.specs.File.Bytes.{bytes}
use Rattle.scope.specs.File.Number.{number, numeral}
use Rattle.scope.specs.File.Stops.{word_stop, items_stop, larger}
use Rattle.scope.specs.File.Line.{Shape}

-- 'The numbers of worlds, principals, atoms, formulas and clauses count separate things.'
pub data Sort : Type 0 where
  atom_number : Sort
  principal_number : Sort
  formula_number : Sort
  clause_number : Sort
  world_number : Sort

pub record Kind : Type 0 where
  pub word : List ℕ
  pub operands : List Sort

abbrev pub kind : String → List Sort → Kind
kind w os = record { word = bytes w; operands = os }

-- '`form=` takes `p ATOM`, `top`, `bot`, `and F F`, `or F F`, `imp F F`, `says PRINCIPAL F`, `sf PRINCIPAL PRINCIPAL`. Kinds are numbered
-- 0 to 7 in that order.'
unfoldable pub form_kinds : List Kind
form_kinds =
    kind "p" (atom_number ∷ []) ∷
    kind "top" [] ∷
    kind "bot" [] ∷
    kind "and" (formula_number ∷ formula_number ∷ []) ∷
    kind "or" (formula_number ∷ formula_number ∷ []) ∷
    kind "imp" (formula_number ∷ formula_number ∷ []) ∷
    kind "says" (principal_number ∷ formula_number ∷ []) ∷
    kind "sf" (principal_number ∷ principal_number ∷ []) ∷
    []

-- 'A step is one of eighteen kinds, two of which carry a number .., numbered 0 to 17. `use` takes a clause number, `to` a world number.'
unfoldable pub step_kinds : List Kind
step_kinds =
    kind "and" [] ∷
    kind "or1" [] ∷
    kind "or2" [] ∷
    kind "imp" [] ∷
    kind "says" [] ∷
    kind "top" [] ∷
    kind "sf" [] ∷
    kind "use" (clause_number ∷ []) ∷
    kind "left" [] ∷
    kind "right" [] ∷
    kind "to" (world_number ∷ []) ∷
    kind "hit" [] ∷
    kind "push" [] ∷
    kind "split" [] ∷
    kind "case" [] ∷
    kind "absurd" [] ∷
    kind "drop" [] ∷
    kind "note" [] ∷
    []

-- l) '`logic=plain` or `logic=unit`': words with no operand, numbered 0 and 1.
unfoldable pub logic_kinds : List Kind
logic_kinds = kind "plain" [] ∷ kind "unit" [] ∷ []

abbrev pub logic_number : Logic → ℕ
logic_number plain = 0
logic_number unit = 1

-- Of a number that is told with lent tables: every number but 0 tells unit.
unfoldable pub logic_of : ℕ → Logic
logic_of zero = plain
logic_of (suc n) = unit

-- The kind of a number, of no word and no operand where there is none.
unfoldable pub kind_in : List Kind → ℕ → Kind
kind_in ks k = get_or ks k (kind "" [])

-- 'Items are parted by one space.'
unfoldable pub onto_first : ℕ → List (List ℕ) → List (List ℕ)
onto_first c [] = (c ∷ []) ∷ []
onto_first c (w ∷ ws) = (c ∷ w) ∷ ws

unfoldable pub items : List ℕ → List (List ℕ)
unfolding onto_first
items [] = [] ∷ []
items (c ∷ s) = cond (eqb c 32) ([] ∷ items s) (onto_first c (items s))

unfoldable pub spaced : List ℕ → List (List ℕ) → List ℕ
spaced w [] = w
spaced w (v ∷ vs) = w ++ 32 ∷ spaced v vs

-- Two words are the same.
unfoldable pub same : List ℕ → List ℕ → Bool
unfolding both
same [] [] = true
same [] (b ∷ t) = false
same (a ∷ s) [] = false
same (a ∷ s) (b ∷ t) = both (eqb a b) (same s t)

-- The number of a word's kind, the first of these kinds having number k.
unfoldable pub kind_from : ℕ → List Kind → List ℕ → Option ℕ
unfolding same
kind_from k [] w = none
kind_from k (c ∷ cs) w = cond (same c.word w) (some k) (kind_from (suc k) cs w)

-- The numbers that items stand for.
unfoldable pub onto_numbers : Option ℕ → Option (List ℕ) → Option (List ℕ)
onto_numbers none ns = none
onto_numbers (some n) none = none
onto_numbers (some n) (some ns) = some (n ∷ ns)

unfoldable pub numbers : List (List ℕ) → Option (List ℕ)
unfolding number onto_numbers
numbers [] = some []
numbers (w ∷ ws) = onto_numbers (number w) (numbers ws)

-- 'Operands that a kind lacks are 0.'
abbrev pub row_of : ℕ → List ℕ → Row
row_of k ns = record { kind = k; left = get_or ns 0 0; right = get_or ns 1 0 }

abbrev pub operands_of : Row → List ℕ
operands_of r = r.left ∷ r.right ∷ []

unfoldable pub kind_row : List Kind → Option ℕ → Option (List ℕ) → Option Row
unfolding kind_in
kind_row ks none ns = none
kind_row ks (some k) none = none
kind_row ks (some k) (some ns) = cond (eqb (length ns) (length (kind_in ks k).operands)) (some (row_of k ns)) none

-- A word of the table, then as many numbers as its kind has operands.
unfoldable pub items_row : List Kind → List (List ℕ) → Option Row
unfolding kind_from numbers kind_row
items_row ks [] = none
items_row ks (w ∷ ws) = kind_row ks (kind_from 0 ks w) (numbers ws)

unfoldable pub row_in : List Kind → List ℕ → Option Row
unfolding items items_row
row_in ks s = items_row ks (items s)

unfoldable pub row_text : List Kind → Row → List ℕ
unfolding kind_in spaced numeral
row_text ks r =
    spaced (kind_in ks r.kind).word (map numeral (take (length (kind_in ks r.kind).operands) (operands_of r)))

-- How many bytes can stand as a kind's word with its items and the LF, and that of the kind that goes furthest.
unfoldable pub kind_stop : Kind → List ℕ → ℕ
unfolding word_stop items_stop
kind_stop c s = word_stop c.word (items_stop (length c.operands)) s

unfoldable pub kinds_stop : List Kind → List ℕ → ℕ
unfolding larger kind_stop
kinds_stop [] s = 0
kinds_stop (c ∷ cs) s = larger (kind_stop c s) (kinds_stop cs s)

abbrev pub row_shape : List Kind → Shape Row
row_shape ks = record { thing = row_in ks; text = row_text ks; stop = kinds_stop ks }

-- A word of the table of logics, and nothing else.
unfoldable pub logic_in : Option ℕ → Option Logic
unfolding logic_of
logic_in none = none
logic_in (some n) = some (logic_of n)

unfoldable pub logic_word : List ℕ → Option Logic
unfolding logic_kinds kind_from logic_in
logic_word s = logic_in (kind_from 0 logic_kinds s)

unfoldable pub logic_text : Logic → List ℕ
unfolding logic_kinds kind_in
logic_text l = (kind_in logic_kinds (logic_number l)).word

abbrev pub logic_shape : Shape Logic
logic_shape = record { thing = logic_word; text = logic_text; stop = kinds_stop logic_kinds }

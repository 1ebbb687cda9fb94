-- Columns of refusal 2, as d) of document 02 words them, each found by computing: the first byte that cannot stand.
use Rattle.std.specs.Prelude.{ℕ, suc, ◌≡◌, refl, List, [], ◌∷◌, map}
use Prim.Native.String.{String}
use Rattle.scope.specs.File.Bytes.{bytes}
use Rattle.scope.specs.File.Line.{line_stop}
use Rattle.scope.specs.File.Text.{number_line, row_line}
use Rattle.scope.specs.File.Stops.{digits_stop, end_stop}
use Rattle.scope.specs.File.Kinds.{Kind, kinds_stop, form_kinds, step_kinds, logic_kinds}

-- A key, for a row the table of kinds, a text that begins at the line, and the column.
pub data Case : Type 0 where
  numbered : String → String → ℕ → Case
  worded : String → List Kind → String → ℕ → Case

unfoldable pub found : Case → ℕ
unfolding line_stop digits_stop end_stop kinds_stop
found (numbered key text n) = suc (line_stop (number_line key) (bytes text))
found (worded key ks text n) = suc (line_stop (row_line key ks) (bytes text))

abbrev pub said : Case → ℕ
said (numbered key text n) = n
said (worded key ks text n) = n

unfoldable pub cases : List Case
unfolding form_kinds step_kinds logic_kinds
cases =
    -- the first byte that cannot follow, also where the file then ends without LF; an empty file, an empty line, a line that is missing
    numbered "version=" "versj" 5 ∷
    numbered "version=" "" 1 ∷
    numbered "version=" "\n" 1 ∷
    numbered "version=" "vers" 5 ∷
    numbered "version=" "version=1" 10 ∷
    numbered "version=" "version=1\r\nprincipals=1\r\n" 10 ∷
    numbered "version=" "version=3" 10 ∷
    numbered "clause=" "goal=0\n" 1 ∷
    -- keys
    numbered "clauses=" "clause=3\n" 7 ∷
    numbered "clause=" "clauses=2\n" 7 ∷
    numbered "steps=" "step=7\n" 5 ∷
    -- numbers
    numbered "goal=" "goal=01\n" 7 ∷
    numbered "goal=" "goal=00\n" 7 ∷
    numbered "goal=" "goal=123456\n" 11 ∷
    numbered "goal=" "goal=\n" 6 ∷
    numbered "goal=" "goal=-1\n" 6 ∷
    numbered "goal=" "goal= 1\n" 6 ∷
    numbered "goal=" "goal=1 \n" 7 ∷
    -- items
    worded "form=" form_kinds "form=and 1\n" 11 ∷
    worded "form=" form_kinds "form=p 0 0\n" 9 ∷
    worded "form=" form_kinds "form=p 99999x\n" 13 ∷
    worded "form=" form_kinds "form=says 99999 99999" 22 ∷
    worded "step=" step_kinds "step=use 1 \n" 11 ∷
    worded "step=" step_kinds "step=top 0\n" 9 ∷
    worded "step=" step_kinds "step=to\n" 8 ∷
    -- words
    worded "form=" form_kinds "form=or1\n" 8 ∷
    worded "form=" form_kinds "form=push\n" 7 ∷
    worded "form=" form_kinds "form=to\n" 8 ∷
    worded "form=" form_kinds "form=\n" 6 ∷
    worded "step=" step_kinds "step=or3\n" 8 ∷
    worded "step=" step_kinds "step=or\n" 8 ∷
    worded "step=" step_kinds "step=p\n" 7 ∷
    worded "step=" step_kinds "step=spl\n" 9 ∷
    worded "step=" step_kinds "step=bot\n" 6 ∷
    worded "logic=" logic_kinds "logic=pnit\n" 8 ∷
    worded "logic=" logic_kinds "logic=\n" 7 ∷
    worded "logic=" logic_kinds "logic=plain \n" 12 ∷
    worded "logic=" logic_kinds "principals=2\n" 1 ∷
    []

pub as_said : map found cases ≡ map said cases
unfolding found cases
as_said = refl

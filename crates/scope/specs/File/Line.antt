-- 'ASCII lines `key=value`, each ended by LF': one line, several lines, one after the other.
use Rattle.std.specs.Prelude.{ℕ, zero, suc, List, [], ◌∷◌, ◌++◌, map, cond, eqb, length}
use Rattle.std.proofs.Math.Option.{Option, none, some}
use Rattle.scope.specs.Call.Answer.{Answer, told, column_for, further_down}
use Rattle.scope.specs.File.Bytes.{joined}
use Rattle.scope.specs.File.Stops.{word_stop}

-- How the value of a line is written: the thing that a value in shape stands for, the text of a thing, and how many bytes of a text can
-- stand as a value and its LF.
pub record Shape (A : Type 0) : Type 0 where
  pub thing : List ℕ → Option A
  pub text : A → List ℕ
  pub stop : List ℕ → ℕ

-- What a line looks like: its key, equals sign included, and the shape of its value.
pub record Line (A : Type 0) : Type 0 where
  pub key : List ℕ
  pub shape : Shape A

-- What a value gives: a thing, or a refusal.
pub data Value (A : Type 0) : Type 0 where
  val : A → Value A
  out : ℕ → Value A

-- What reading a line or more gives: a thing and the rest of the text, or a refusal at a line.
pub data Read (A : Type 0) : Type 0 where
  ok : A → List ℕ → Read A
  bad : Answer → Read A

abbrev pub Reader : Type 0 → Type 0
Reader A = List ℕ → Read A

-- What stands before and after the first byte b.
pub data Cut : Type 0 where
  parts : List ℕ → List ℕ → Cut
  uncut : Cut

unfoldable pub cut_after : ℕ → Cut → Cut
cut_after c (parts s t) = parts (c ∷ s) t
cut_after c uncut = uncut

unfoldable pub cut : ℕ → List ℕ → Cut
unfolding cut_after
cut b [] = uncut
cut b (c ∷ s) = cond (eqb c b) (parts [] s) (cut_after c (cut b s))

-- What follows the key.
unfoldable pub strip : List ℕ → List ℕ → Option (List ℕ)
strip [] s = some s
strip (k ∷ ks) [] = none
strip (k ∷ ks) (c ∷ s) = cond (eqb c k) (strip ks s) none

-- 'Key, equals sign, kind word, number of items and the writing of each number make a line's shape': out of shape is refusal 2. A
-- thing in shape may have a refusal of its own, 0 where it has none.
unfoldable pub or_refused : {A : Type 0} → ℕ → A → Value A
or_refused zero a = val a
or_refused (suc k) a = out (suc k)

unfoldable pub shaped_as : {A : Type 0} → (A → ℕ) → Option A → Value A
unfolding or_refused
shaped_as refusal none = out 2
shaped_as refusal (some a) = or_refused (refusal a) a

unfoldable pub valued : {A : Type 0} → Line A → (A → ℕ) → Option (List ℕ) → Value A
unfolding shaped_as
valued l refusal none = out 2
valued l refusal (some v) = shaped_as refusal (l.shape.thing v)

unfoldable pub placed : {A : Type 0} → ℕ → ℕ → Value A → List ℕ → Read A
unfolding column_for
placed i column (val a) rest = ok a rest
placed i column (out k) rest = bad (told k i (column_for k column))

unfoldable pub line_of : {A : Type 0} → Line A → (A → ℕ) → ℕ → ℕ → Cut → Read A
unfolding strip valued placed
line_of l refusal i column uncut = bad (told 2 i column)
line_of l refusal i column (parts s rest) = placed i column (valued l refusal (strip l.key s)) rest

-- How many bytes can stand at the front of a text where this line is to stand.
unfoldable pub line_stop : {A : Type 0} → Line A → List ℕ → ℕ
unfolding word_stop
line_stop l s = word_stop l.key l.shape.stop s

-- Line number i of the text: missing, out of shape or without LF is 2, and the column is the next after the bytes that can stand.
unfoldable pub line : {A : Type 0} → Line A → (A → ℕ) → ℕ → Reader A
unfolding cut line_of line_stop
line l refusal i s = line_of l refusal i (suc (line_stop l s)) (cut 10 s)

unfoldable pub line_text : {A : Type 0} → Line A → A → List ℕ
line_text l a = l.key ++ l.shape.text a ++ 10 ∷ []

-- One after the other: the second is read from where the first ends. The first refusal met is the answer.
unfoldable pub and_then : {A B : Type 0} → Read A → (A → Reader B) → Read B
and_then (ok a rest) next = next a rest
and_then (bad a) next = bad a

unfoldable pub ◌>>=◌ : {A B : Type 0} → Reader A → (A → Reader B) → Reader B
unfolding and_then
◌>>=◌ m next = λ s. and_then (m s) next

abbrev pub done : {A : Type 0} → A → Reader A
done a = λ s. ok a s

-- Lines that stand n lines further down: only the place of a refusal is another.
unfoldable pub moved_down : {A : Type 0} → ℕ → Read A → Read A
unfolding further_down
moved_down n (ok a rest) = ok a rest
moved_down n (bad a) = bad (further_down n a)

unfoldable pub further : {A : Type 0} → ℕ → Reader A → Reader A
unfolding moved_down
further n m = λ s. moved_down n (m s)

-- n things, each read in the light of those before it.
unfoldable pub many : {A : Type 0} → (List A → Reader A) → ℕ → List A → Reader (List A)
unfolding ◌>>=◌
many item zero before = done []
many item (suc n) before = do
  a ← item before
  more ← many item n (before ++ (a ∷ []))
  done (a ∷ more)

unfoldable pub many_text : {A : Type 0} → (A → List ℕ) → List A → List ℕ
unfolding joined
many_text text xs = joined (map text xs)

-- '`formulas=` and that many `form=` lines', and the like: a count at line i, then that many things.
unfoldable pub counted : {A : Type 0} → Line ℕ → (ℕ → ℕ) → ℕ → (List A → Reader A) → Reader (List A)
unfolding line many
counted l refusal i item = do
  n ← line l refusal i
  many item n []

unfoldable pub counted_text : {A : Type 0} → Line ℕ → Line A → List A → List ℕ
unfolding line_text many_text
counted_text l item xs = line_text l (length xs) ++ many_text (line_text item) xs

-- Texts are lists of bytes. A key or a word is written as a string and read as its bytes.
use Rattle.std.specs.Prelude.{ℕ, List, [], ◌∷◌, ◌++◌}
use Prim.Native.String.{String}
use Prim.Native.String as Str
use Prim.Native.Char.{code}

abbrev pub bytes : String → List ℕ
bytes Str.[] = []
bytes (Str.◌∷◌ c s) = code c ∷ bytes s

-- Texts one after the other.
unfoldable pub joined {ℓ} : {A : Type ℓ} → List (List A) → List A
joined [] = []
joined (t ∷ ts) = t ++ joined ts

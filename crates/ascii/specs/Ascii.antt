-- Words of formats as bytes, quoted as they are read, and the bytes that the scope names ("Plans
-- and images"). Assumes nothing.
use Rattle.std.specs.Prelude.{List, [], ◌∷◌, ◌++◌, ℕ}
use Prim.Native.Char.{code}
use Prim.Native.String as String

-- the bytes of a text of ASCII characters
abbrev pub ascii : String.String → List ℕ
ascii String.[] = []
ascii (String.◌∷◌ c s) = code c ∷ ascii s

-- fields are parted by one tab
abbrev pub tab : ℕ
tab = 9

-- lines end with byte 10
abbrev pub line_end : ℕ
line_end = 10

-- lines starting with # are skipped
abbrev pub hash : ℕ
hash = 35

-- numbers are decimal: the digit d is digit0 + d
abbrev pub digit0 : ℕ
digit0 = 48

abbrev pub digit9 : ℕ
digit9 = 57

-- words with a tab between any two
abbrev pub joined : List (List ℕ) → List ℕ
joined [] = []
joined (w ∷ []) = w
joined (w ∷ v ∷ ws) = w ++ (tab ∷ joined (v ∷ ws))

-- The fourteen names (the scope, "Plans and images"): the one table of them. Assumes nothing.
use Rattle.std.specs.Prelude.{Bool, List, [], ◌∷◌, map, ℕ, ◌^◌, leb, get_or}
use Prim.Native.String.{String}
use Rattle.ascii.specs.Ascii.{ascii}

-- a name: its bytes, the bits of its values, which are below 2 ^ bits, and its value where nothing
-- is said of it
pub record Name : Type 0 where
  pub word : List ℕ
  pub bits : ℕ
  pub default : ℕ

abbrev pub name : String → ℕ → ℕ → Name
name word bits default = record { word = ascii word; bits = bits; default = default }

-- in the scope's order: the number of a name, from 0, is its place in the table
abbrev pub name_table : List Name
name_table =
    name "SADDR" 32 0
    ∷ name "SPTCH" 32 0
    ∷ name "DADDR" 32 0
    ∷ name "DPTCH" 32 0
    ∷ name "OFFSET" 32 0
    ∷ name "WSTART" 32 0
    ∷ name "WEND" 32 0
    ∷ name "DYDX" 32 0
    ∷ name "COLOR0" 32 0
    ∷ name "COLOR1" 32 0
    ∷ name "CONTROL" 16 0
    ∷ name "PSIZE" 16 16
    ∷ name "PMASK" 16 0
    ∷ name "SEED" 64 0
    ∷ []

-- how many there are, and how many settings: all but the last name, which is SEED
abbrev pub name_count : ℕ
name_count = 14

abbrev pub setting_count : ℕ
setting_count = 13

-- the numbers of those that other definitions cite
abbrev pub dydx_at : ℕ
dydx_at = 7

abbrev pub color1_at : ℕ
color1_at = 9

abbrev pub control_at : ℕ
control_at = 10

abbrev pub psize_at : ℕ
psize_at = 11

abbrev pub pmask_at : ℕ
pmask_at = 12

abbrev pub seed_at : ℕ
seed_at = 13

-- their bytes; their values where nothing is said of them
abbrev pub names : List (List ℕ)
names = map (λ n. n.word) name_table

abbrev pub defaults : List ℕ
defaults = map (λ n. n.default) name_table

-- the name of a number; one that is none has no bytes, and its values have 64 bits
abbrev pub name_at : ℕ → Name
name_at number = get_or name_table number (name "" 64 0)

abbrev pub bits_of : ℕ → ℕ
bits_of number = (name_at number).bits

-- the values of a name are below its limit
unfoldable pub limit : ℕ → ℕ
limit number = 2 ^ bits_of number

-- is a value too large for the name of a number?
abbrev pub too_large_for : ℕ → ℕ → Bool
too_large_for number value = leb (limit number) value

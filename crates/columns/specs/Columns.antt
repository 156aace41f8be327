-- The columns of `sweep --fields`: a point's number and its experiment, whose packed numbers are
-- taken apart. The scope knows nothing of them. Assumes nothing.
use Rattle.std.specs.Prelude.{Bool, cond, List, [], ◌∷◌, ◌++◌, map, ℕ, ◌-◌, ◌/◌, ◌%◌, ◌^◌, get_or}
use Prim.Native.String.{String}
use Rattle.ascii.specs.Ascii.{ascii, line_end, joined}
use Rattle.control.specs.Control.{transparency, windowing, right_to_left, bottom_to_top}
use Rattle.control.specs.Control.{processing, disabled}
use Rattle.address.specs.Coordinate.{x_of, y_of, negative}
use Rattle.names.specs.Names.{seed_at}
use Rattle.settings.specs.declared.Settings.{Settings}
use Rattle.settings.specs.Settings.{settings_of}
use Rattle.listing.specs.Listing.{decimal}

-- a column: its name, and its text for a point
pub record TextColumn : Type 0 where
  pub word : List ℕ
  pub text : List ℕ

-- a coordinate, which is held with 2^15 added, as a signed number: `-` stands before its digits
-- where it is below 0
abbrev pub minus : ℕ
minus = 45

unfoldable pub signed_text : ℕ → List ℕ
signed_text c = cond (negative c) (minus ∷ decimal (2 ^ 15 - c)) (decimal (c - 2 ^ 15))

-- the column of a number, of a coordinate, and of a bit
abbrev pub number_column : String → ℕ → TextColumn
number_column word n = record { word = ascii word; text = decimal n }

abbrev pub signed_column : String → ℕ → TextColumn
signed_column word c = record { word = ascii word; text = signed_text c }

abbrev pub bit_column : String → Bool → TextColumn
bit_column word b = number_column word (cond b 1 0)

-- the columns of a point, its settings and its SEED, in their order
abbrev pub column_table : ℕ → Settings → ℕ → List TextColumn
column_table point s seed =
    number_column "point" point
    ∷ number_column "SADDR" s.saddr
    ∷ signed_column "SADDR_X" (x_of s.saddr)
    ∷ signed_column "SADDR_Y" (y_of s.saddr)
    ∷ number_column "SPTCH" s.sptch
    ∷ number_column "DADDR" s.daddr
    ∷ signed_column "DADDR_X" (x_of s.daddr)
    ∷ signed_column "DADDR_Y" (y_of s.daddr)
    ∷ number_column "DPTCH" s.dptch
    ∷ number_column "OFFSET" s.offset
    ∷ signed_column "WSTART_X" (x_of s.wstart)
    ∷ signed_column "WSTART_Y" (y_of s.wstart)
    ∷ signed_column "WEND_X" (x_of s.wend)
    ∷ signed_column "WEND_Y" (y_of s.wend)
    ∷ number_column "DX" (s.dydx % 2 ^ 16)
    ∷ number_column "DY" (s.dydx / 2 ^ 16)
    ∷ number_column "COLOR0" s.color0
    ∷ number_column "COLOR1" s.color1
    ∷ number_column "PP" (processing s.control)
    ∷ bit_column "T" (transparency s.control)
    ∷ number_column "W" (windowing s.control)
    ∷ bit_column "PBH" (right_to_left s.control)
    ∷ bit_column "PBV" (bottom_to_top s.control)
    ∷ bit_column "CD" (disabled s.control)
    ∷ number_column "PSIZE" s.psize
    ∷ number_column "PMASK" s.pmask
    ∷ number_column "SEED" seed
    ∷ []

-- how many there are
abbrev pub column_count : ℕ
column_count = 27

-- words with a tab between any two, and a line's end
abbrev pub text_line : List (List ℕ) → List ℕ
text_line words = joined words ++ (line_end ∷ [])

-- the heading: the names of the columns, which are the same for every point
abbrev pub column_names : List (List ℕ)
column_names = map (λ c. c.word) (column_table 0 (settings_of []) 0)

abbrev pub columns_heading : List ℕ
columns_heading = text_line column_names

-- the line of a point with the values of the fourteen names: of each as many low bits as its name
-- has are shown, as they are what is run; one past the end is 0
abbrev pub columns_of : ℕ → List ℕ → List (List ℕ)
columns_of point values =
    map (λ c. c.text) (column_table point (settings_of values) (get_or values seed_at 0))

unfoldable pub columns_line : ℕ → List ℕ → List ℕ
columns_line point values = text_line (columns_of point values)

-- no line is longer
abbrev pub longest_columns : ℕ
longest_columns = 212

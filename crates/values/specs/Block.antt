-- Values of a line in blocks, each read once. The scope knows nothing of it. Assumes nothing.
use Rattle.std.specs.Prelude.{◌≡◌, List, [], ◌∷◌, ◌++◌, map, ℕ, ◌+◌, ◌-◌, length, take, replicate}
use Rattle.lists.specs.Search.{any}
use Rattle.values.specs.declared.Block.{Block}
use Rattle.tabs.specs.Fields.{fields_from, field_value, no_number}
use Rattle.values.specs.Tests.{is_above}

-- the values from a place on
abbrev pub values_from : List ℕ → ℕ → List ℕ
values_from line p = map field_value (fields_from line p)

-- how far some fields reach, each with the tab or the end behind it
abbrev pub widths : List (List ℕ) → ℕ
widths [] = 0
widths (f ∷ fs) = length f + 1 + widths fs

-- the values of a block: as many as an axis may have, so that a good line is read in one block
abbrev pub block_size : ℕ
block_size = 64

-- the first 64 fields from a place on
abbrev pub block_of : List ℕ → ℕ → List (List ℕ)
block_of line from = take block_size (fields_from line from)

-- a block has the first 64 values from a place on, and zeros behind them; where the next field
-- starts; is one of its fields no number; is one of its values above the greatest that is good?
pub record BlockAt (line : List ℕ) (from most : ℕ) (b : Block) : Type 0 where
  pub values-are : b.values
      ≡ map field_value (block_of line from) ++ replicate (block_size - b.count) 0
  pub count-is : b.count ≡ length (block_of line from)
  pub behind-is : b.behind ≡ from + widths (block_of line from)
  pub bad-is : b.bad ≡ any no_number (block_of line from)
  pub above-is : b.above ≡ any (is_above most) (block_of line from)

-- A cache state as twelve numbers of an array: four start addresses, four numbers of eight flags,
-- and the order. Assumes nothing.
use Rattle.std.specs.Prelude.{Bool, false, List, [], ◌∷◌, ℕ, ◌+◌, ◌*◌, ◌/◌, ◌%◌, min, eqb, get_or}
use Rattle.segments.specs.declared.Segment.{Segment}
use Rattle.cache.specs.declared.Cache.{Cache}
use Rattle.cache.specs.Cache.{segment_at}
use Rattle.c_arrays.specs.Out.{flag_number}

-- the eight flags of a number: flag j is bit j; higher bits are ignored
abbrev pub flags_of : ℕ → List Bool
flags_of f =
    eqb (f % 2) 1
    ∷ eqb (f / 2 % 2) 1
    ∷ eqb (f / 4 % 2) 1
    ∷ eqb (f / 8 % 2) 1
    ∷ eqb (f / 16 % 2) 1
    ∷ eqb (f / 32 % 2) 1
    ∷ eqb (f / 64 % 2) 1
    ∷ eqb (f / 128 % 2) 1
    ∷ []

-- a segment of a start address and a number of flags
abbrev pub segment_of : ℕ → ℕ → Segment
segment_of start f = record { start = start; present = flags_of f }

-- an entry of the order, a segment's number; those above 255, none of which names a segment, count
-- as 255
abbrev pub order_entry : ℕ → ℕ
order_entry x = min x 255

-- how many numbers a state is: BH_CACHE_NUMBERS of the header
abbrev pub state_numbers : ℕ
state_numbers = 12

-- numbers 0 to 3 are the start addresses, 4 to 7 the flags, 8 to 11 the order, least recently used
-- first
unfoldable pub cache_of : List ℕ → Cache
cache_of s =
    record {
      segments =
          segment_of (get_or s 0 0) (get_or s 4 0)
          ∷ segment_of (get_or s 1 0) (get_or s 5 0)
          ∷ segment_of (get_or s 2 0) (get_or s 6 0)
          ∷ segment_of (get_or s 3 0) (get_or s 7 0)
          ∷ [];
      order =
          order_entry (get_or s 8 0)
          ∷ order_entry (get_or s 9 0)
          ∷ order_entry (get_or s 10 0)
          ∷ order_entry (get_or s 11 0)
          ∷ [];
    }

-- the number of eight flags
abbrev pub flags_number : List Bool → ℕ
flags_number p =
    flag_number (get_or p 0 false)
    + 2 * flag_number (get_or p 1 false)
    + 4 * flag_number (get_or p 2 false)
    + 8 * flag_number (get_or p 3 false)
    + 16 * flag_number (get_or p 4 false)
    + 32 * flag_number (get_or p 5 false)
    + 64 * flag_number (get_or p 6 false)
    + 128 * flag_number (get_or p 7 false)

-- the twelve numbers of a state
unfoldable pub numbers_of : Cache → List ℕ
numbers_of c =
    (segment_at c 0).start
    ∷ (segment_at c 1).start
    ∷ (segment_at c 2).start
    ∷ (segment_at c 3).start
    ∷ flags_number (segment_at c 0).present
    ∷ flags_number (segment_at c 1).present
    ∷ flags_number (segment_at c 2).present
    ∷ flags_number (segment_at c 3).present
    ∷ get_or c.order 0 0
    ∷ get_or c.order 1 0
    ∷ get_or c.order 2 0
    ∷ get_or c.order 3 0
    ∷ []

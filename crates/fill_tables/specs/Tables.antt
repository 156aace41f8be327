-- The tables of FILL timing (request One; 000 section 13.3), written once, in the order of print.
-- All figures are machine states. Assumes nothing.
use Rattle.std.specs.Prelude.{Bool, true, false, ℕ, ◌+◌, ◌*◌}
use Rattle.fill_tables.specs.declared.Adjust.{Adjust}
use Rattle.fill_tables.specs.declared.Adjust.TheVariants.{Off, Fits, Start, Dimension, Both}
use Rattle.fill_tables.specs.declared.Alignment.{Alignment}
use Rattle.fill_tables.specs.declared.Alignment.TheVariants.{A, B, C, D}
use Rattle.fill_tables.specs.declared.Entry.{Entry}

-- Table 13-5, FILL L: W=0 is its only column
abbrev pub setup_l : ℕ
setup_l = 4

-- Table 13-5, FILL XY: W=0, array fits, start adjust, dimension adjust, adjust both
abbrev pub setup_xy : Adjust → ℕ
setup_xy Off = 6
setup_xy Fits = 9
setup_xy Start = 16
setup_xy Dimension = 12
setup_xy Both = 20

-- its note: these timings are for the cache hit case; add 3 for cache disabled timing
abbrev pub uncached : Bool → ℕ
uncached false = 0
uncached true = 3

-- the length of a row in words, short, medium or long: the lines of table 13-6
pub data Length : Type 0 where
  Short : Length
  Medium : Length
  Long : Length

-- Table 13-6: an entry is (a + N x G) x L + b, with a for each row and b at the end
abbrev pub entry : ℕ → ℕ → Entry
entry a b = record { row = a; end = b }

abbrev pub transfer_entry : Length → Alignment → Entry
transfer_entry Short A = entry 1 2
transfer_entry Short B = entry 2 2
transfer_entry Short C = entry 2 1
transfer_entry Short D = entry 2 1
transfer_entry Medium A = entry 2 2
transfer_entry Medium B = entry 3 2
transfer_entry Medium C = entry 3 2
transfer_entry Medium D = entry 4 1
transfer_entry Long A = entry 1 2
transfer_entry Long B = entry 2 5
transfer_entry Long C = entry 3 2
transfer_entry Long D = entry 4 1

-- its time for N words per row, G and L
abbrev pub entry_time : Entry → ℕ → ℕ → ℕ → ℕ
entry_time e n g l = (e.row + n * g) * l + e.end

-- the columns of table 13-7: replace; the other Booleans or ADD; ADDS, SUB, MAX or MIN; SUBS
pub data Column : Type 0 where
  Replace : Column
  Boolean : Column
  Adding : Column
  Subs : Column

-- Table 13-7 (G): without and with plane masking or transparency; replace, other Booleans or ADD,
-- ADDS, SUB, MAX or MIN, and SUBS
abbrev pub word_states : Bool → Column → ℕ
word_states false Replace = 2
word_states false Boolean = 4
word_states false Adding = 5
word_states false Subs = 6
word_states true Replace = 4
word_states true Boolean = 6
word_states true Adding = 7
word_states true Subs = 8

-- alignment/graphics adjustment: 2 states (cases B and C) or 4 states (case D) per row; case A
-- requires none
abbrev pub edge_states : Alignment → ℕ
edge_states A = 0
edge_states B = 2
edge_states C = 2
edge_states D = 4

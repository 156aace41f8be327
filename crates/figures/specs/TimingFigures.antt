-- The figures of 000 section 13.3 (request One): tables 13-5 to 13-7 as they are printed, and the
-- three worked examples. The definitions are those that contracts cite. Assumes nothing.
use Rattle.std.specs.Prelude.{◌≡◌, true, false, List, [], ◌∷◌, ◌++◌, ℕ, ◌+◌, ◌*◌}
use Rattle.lists.specs.Tabulate.{tabulate}
use Rattle.fill_tables.specs.declared.Adjust.TheVariants.{Off, Fits, Start, Dimension, Both}
use Rattle.fill_tables.specs.declared.Alignment.TheVariants.{A, B, C, D}
use Rattle.fill_tables.specs.declared.Time.{Time}
use Rattle.fill_tables.specs.Tables.{Short, Medium, Long, Replace, Boolean, Adding, Subs}
use Rattle.fill_tables.specs.Tables.{setup_l, setup_xy, uncached, transfer_entry, entry_time}
use Rattle.fill_tables.specs.Tables.{word_states, edge_states}
use Rattle.fill_tables.specs.Time.{processing_column}
use Rattle.operation.specs.declared.Operation.TheVariants.{FillXY}
use Rattle.fill_timing.specs.FillTiming.{fill_states}
use Rattle.figures.specs.Figures.{filling_with}

-- what the call gives for the operands of the examples, which are the scope's figure's
abbrev pub example_time : ℕ → ℕ → Time
example_time control pmask = (fill_states FillXY (filling_with control pmask) 11208).time

pub record TimingFigures : Type 0 where
  -- table 13-5: FILL L 4; FILL XY 6, 9, 16, 12, 20; the note: add 3
  pub setup-l : setup_l ≡ 4
  pub setup-xy :
      setup_xy Off ∷ setup_xy Fits ∷ setup_xy Start ∷ setup_xy Dimension ∷ setup_xy Both ∷ []
      ≡ 6 ∷ 9 ∷ 16 ∷ 12 ∷ 20 ∷ []
  pub setup-note : uncached true ≡ 3
  -- table 13-6, Short (N=1): (1+G)L+2, (2+G)L+2, (2+G)L+1, (2+G)L+1
  pub short-a : (g l : ℕ) → entry_time (transfer_entry Short A) 1 g l ≡ (1 + g) * l + 2
  pub short-b : (g l : ℕ) → entry_time (transfer_entry Short B) 1 g l ≡ (2 + g) * l + 2
  pub short-c : (g l : ℕ) → entry_time (transfer_entry Short C) 1 g l ≡ (2 + g) * l + 1
  pub short-d : (g l : ℕ) → entry_time (transfer_entry Short D) 1 g l ≡ (2 + g) * l + 1
  -- Medium (N=2): (2+2G)L+2, (3+2G)L+2, (3+2G)L+2, (4+2G)L+1
  pub medium-a : (g l : ℕ) → entry_time (transfer_entry Medium A) 2 g l ≡ (2 + 2 * g) * l + 2
  pub medium-b : (g l : ℕ) → entry_time (transfer_entry Medium B) 2 g l ≡ (3 + 2 * g) * l + 2
  pub medium-c : (g l : ℕ) → entry_time (transfer_entry Medium C) 2 g l ≡ (3 + 2 * g) * l + 2
  pub medium-d : (g l : ℕ) → entry_time (transfer_entry Medium D) 2 g l ≡ (4 + 2 * g) * l + 1
  -- Long: (1+NG)L+2, (2+NG)L+5, (3+NG)L+2, (4+NG)L+1
  pub long-a : (n g l : ℕ) → entry_time (transfer_entry Long A) n g l ≡ (1 + n * g) * l + 2
  pub long-b : (n g l : ℕ) → entry_time (transfer_entry Long B) n g l ≡ (2 + n * g) * l + 5
  pub long-c : (n g l : ℕ) → entry_time (transfer_entry Long C) n g l ≡ (3 + n * g) * l + 2
  pub long-d : (n g l : ℕ) → entry_time (transfer_entry Long D) n g l ≡ (4 + n * g) * l + 1
  -- table 13-7: 2, 4, 5, 6 and 4, 6, 7, 8
  pub words-plain :
      word_states false Replace ∷ word_states false Boolean ∷ word_states false Adding
      ∷ word_states false Subs ∷ []
      ≡ 2 ∷ 4 ∷ 5 ∷ 6 ∷ []
  pub words-masked :
      word_states true Replace ∷ word_states true Boolean ∷ word_states true Adding
      ∷ word_states true Subs ∷ []
      ≡ 4 ∷ 6 ∷ 7 ∷ 8 ∷ []
  -- its columns, for PP 0 to 21
  pub columns : tabulate 22 processing_column
      ≡ (Replace ∷ []) ++ tabulate 16 (λ i. Boolean)
      ++ (Adding ∷ Adding ∷ Subs ∷ Adding ∷ Adding ∷ [])
  -- the adjustment of a row: none for A, 2 for B and C, 4 for D
  pub edges : edge_states A ∷ edge_states B ∷ edge_states C ∷ edge_states D ∷ []
      ≡ 0 ∷ 2 ∷ 2 ∷ 4 ∷ []
  -- example 13-1: W=3, T=0, PP=0, no plane masking: 16 + [3 + (14x2)]15 + 2 = 483
  pub example-1 : example_time 0x00C0 0
      ≡ record { setup = 16; transfer = 467; adjustment = 0; states = 483 }
  -- example 13-2: W=3, T=0, PP=20, no plane masking: 16 + [3 + (5x14)]15 + 2 = 1,113
  pub example-2 : example_time 0x50C0 0
      ≡ record { setup = 16; transfer = 1097; adjustment = 0; states = 1113 }
  -- example 13-3: W=3, PP=5, T=1, plane masking: 16 + [3 + (6x14)]15 + 2 - (2x15) = 1,293
  pub example-3 : example_time 0x14E0 1
      ≡ record { setup = 16; transfer = 1307; adjustment = 30; states = 1293 }

-- FILL time = FILL setup time + FILL transfer time - alignment adjustment (request One; 000 section
-- 13.3), on plain numbers: a row has some bits from an address on, and there are some rows.
-- Assumes nothing.
use Rattle.std.specs.Prelude.{Bool, cond, ℕ, ◌+◌, ◌-◌, ◌*◌, ◌/◌, ◌%◌, eqb, leb}
use Rattle.fill_tables.specs.declared.Alignment.{Alignment}
use Rattle.fill_tables.specs.declared.Alignment.TheVariants.{A, B, C, D}
use Rattle.fill_tables.specs.declared.Fill.{Fill}
use Rattle.fill_tables.specs.declared.Time.{Time}
use Rattle.fill_tables.specs.Tables.{Length, Short, Medium, Long}
use Rattle.fill_tables.specs.Tables.{Column, Replace, Boolean, Adding, Subs}
use Rattle.fill_tables.specs.Tables.{setup_l, setup_xy, uncached, transfer_entry, entry_time}
use Rattle.fill_tables.specs.Tables.{word_states, edge_states}

-- 13.3.1: the setup time
abbrev pub setup_time : Fill → ℕ
setup_time f = cond f.xy (setup_xy f.adjust) setup_l + uncached f.disabled

-- 13.3.2: N, the number of words per row: those that its bits lie in
abbrev pub words_of : ℕ → ℕ → ℕ
words_of start bits = (start % 16 + bits + 15) / 16

-- the leading edge of a row is on a word bound; its trailing edge is
abbrev pub leading_aligned : ℕ → Bool
leading_aligned start = eqb (start % 16) 0

abbrev pub trailing_aligned : ℕ → ℕ → Bool
trailing_aligned start bits = eqb ((start % 16 + bits) % 16) 0

-- alignment A: both are; B: the leading edge only; C: the trailing edge only; D: neither
unfoldable pub alignment_of : ℕ → ℕ → Alignment
alignment_of start bits =
    cond (leading_aligned start)
    (cond (trailing_aligned start bits) A B)
    (cond (trailing_aligned start bits) C D)

-- short: one word (none, of a row without bits); medium: two words; long: at least three words
abbrev pub length_of : ℕ → Length
length_of n = cond (leb n 1) Short (cond (eqb n 2) Medium Long)

-- the column of PP in table 13-7: 0 is replace, 1 to 15 are the other Booleans, 16 is ADD, 17 ADDS,
-- 18 SUB, 19 SUBS, 20 MAX, 21 MIN
abbrev pub processing_column : ℕ → Column
processing_column pp =
    cond (eqb pp 0) Replace (cond (leb pp 16) Boolean (cond (eqb pp 19) Subs Adding))

-- the transfer time (a + N x G) x L + b
abbrev pub transfer_time : Fill → ℕ
transfer_time f =
    let n = words_of f.start f.bits in
    let g = word_states f.masked (processing_column f.pp) in
    entry_time (transfer_entry (length_of n) (alignment_of f.start f.bits)) n g f.rows

-- the adjustment, where plane masking or transparency are enabled
abbrev pub adjustment : Fill → ℕ
adjustment f = cond f.masked (edge_states (alignment_of f.start f.bits) * f.rows) 0

-- 13.3.3: the three parts, and the FILL time
unfoldable pub time_of : Fill → Time
time_of f =
    record {
      setup = setup_time f;
      transfer = transfer_time f;
      adjustment = adjustment f;
      states = setup_time f + transfer_time f - adjustment f;
    }

-- the greatest time: 65,535 rows of 65,536 words, both edges of each misaligned, under a mask
abbrev pub most_states : ℕ
most_states = 34359214104

-- Memory, fields and images: what is proved of the definitions that the contracts of `field` and
-- `image` cite, so a statement about `field_written` is one about the memory that `field::write`
-- leaves. `Memory n m` says that m is a run of n words of 16 bits, as every lent run of u16 is. The
-- proofs are in proofs/Memory.antt. Assumes nothing.
use Rattle.std.specs.Prelude.{◌≡◌, Bool, true, false, Ok, IsOkAnd, List, ◌⊎◌, ℕ, ◌+◌, ◌*◌, ◌%◌, ◌^◌, ◌<◌, ◌≤◌, max, length, get_or}
use Rattle.answers.specs.Answer.{answer}
use Rattle.memory.specs.Bits.{most_words, Memory, bit_at}
use Rattle.memory.specs.Changed.{differing, changed_bits, word_difference, differing_by_word}
use Rattle.field_refusal.specs.Size.{bad_size, meant}
use Rattle.field.specs.Field.{field_refusal, field_read, field_written}
use Rattle.timing.specs.Cycles.{is_case, cases, case_of, holding}
use Rattle.image.specs.Image.{image}

-- Two memories of one length with the same bits are the same memory: nothing of a
-- memory is hidden from its bits.
abbrev pub BitsDecide : Type 0
BitsDecide =
    (n : ℕ) (m m' : List ℕ) → Memory n m → Memory n m'
    → ((a : ℕ) → a < 16 * n → bit_at m a ≡ bit_at m' a) → m ≡ m'

-- The count of changed bits is 0 exactly where two memories of one length are the same.
abbrev pub ChangedDecides : Type 0
ChangedDecides =
    (n : ℕ) (m m' : List ℕ) → Memory n m → Memory n m'
    → (changed_bits m m' ≡ 0 → m ≡ m') × (m ≡ m' → changed_bits m m' ≡ 0)

-- Request Three, for one word: the differing bits below bit 16 x (i + 1) are those below 16 x i and
-- the ones of the exclusive or of the two words i.
abbrev pub DifferingWord : Type 0
DifferingWord =
    (n n' : ℕ) (m m' : List ℕ) → Memory n m → Memory n' m' → (i : ℕ)
    → let ones = word_difference (get_or m i 0) (get_or m' i 0) in
    differing m m' (16 * (i + 1)) ≡ differing m m' (16 * i) + ones

-- Request Three: the count of changed bits, compared a word at a time by the ones of each
-- difference, is the count bit by bit, for any two memories. Where one has fewer words, a word past
-- its end is 0.
abbrev pub ChangedByWord : Type 0
ChangedByWord =
    (n n' : ℕ) (m m' : List ℕ) → Memory n m → Memory n' m'
    → differing_by_word m m' (max n n') ≡ changed_bits m m'

-- ---- fields

-- n is a size as it is given, and `meant n` how many bits it means

-- Reading what was written gives it back: the low bits of x, as many as the size means, for every
-- size, address and memory that the write is not refused on.
abbrev pub ReadBack : Type 0
ReadBack =
    (m : List ℕ) (a n x : ℕ) → field_refusal (length m) a n ≡ Ok tt
    → field_read (field_written m a n x) a n false ≡ Ok (x % 2 ^ meant n)

-- A write leaves every bit outside the field alone.
abbrev pub WriteFrame : Type 0
WriteFrame =
    (m : List ℕ) (a n x b : ℕ) → (b < a) ⊎ (a + meant n ≤ b)
    → bit_at (field_written m a n x) b ≡ bit_at m b

-- Writing what was read changes nothing, zero or sign extended.
abbrev pub WriteBack : Type 0
WriteBack =
    (m : List ℕ) (a n : ℕ) (signed : Bool) → Memory (length m) m
    → field_refusal (length m) a n ≡ Ok tt
    → IsOkAnd (field_read m a n signed) (λ value. field_written m a n value ≡ m)

-- A field that would pass the end is refused with 17 and never wraps, at any address.
abbrev pub PastEnd : Type 0
PastEnd =
    (words a n : ℕ) → 0 < words → words ≤ most_words → bad_size n ≡ false → 16 * words < a + meant n
    → answer (field_refusal words a n) ≡ 17

-- Every alignment and number of bits is of exactly one of the cases A to G, and it is the one whose
-- cycles and states are given.
abbrev pub OneCase : Type 0
OneCase =
    (s n : ℕ) → s < 16 → 0 < n → n ≤ 32
    → (holding cases s n ≡ 1) × (is_case (case_of s n) s n ≡ true)

-- ---- images (demand 2)

-- Two different 64-bit seeds fill any memory of four or more words differently: where the images
-- are the same, the seeds are. It says nothing of memories of fewer words.
abbrev pub SeedsDiffer : Type 0
SeedsDiffer = (x y n : ℕ) → x < 2 ^ 64 → y < 2 ^ 64 → 4 ≤ n → image n x ≡ image n y → x ≡ y

-- every statement of this file
pub record OfMemory : Type 0 where
  pub bits-decide : BitsDecide
  pub changed-decides : ChangedDecides
  pub differing-word : DifferingWord
  pub changed-by-word : ChangedByWord
  pub read_back : ReadBack
  pub write-frame : WriteFrame
  pub write-back : WriteBack
  pub past_end : PastEnd
  pub one-case : OneCase
  pub seeds-differ : SeedsDiffer

-- Fields (the scope, "Fields"; 003 section 4.1): reading and writing n bits at bit address a.
-- Assumes nothing.
use Rattle.std.specs.Prelude.{Bool, cond, Result, Ok, is_ok, List, ℕ, ◌+◌, ◌-◌, ltb, length}
use Rattle.std.specs.Result.{result_and}
use Rattle.answers.specs.declared.Refused.{Refused}
use Rattle.memory.specs.Bits.{bit_at, bits_number, with_field}
use Rattle.field_refusal.specs.Size.{meant}
unfoldable pub use Rattle.field_refusal.specs.Refusal.{field_refusal}

-- bit j of the register after a read: the field holds bits a to a+n-1, lowest first, and the upper
-- bits are filled with 0 or with the field's top bit, as asked
abbrev pub register_bit : List ℕ → ℕ → ℕ → Bool → ℕ → ℕ
register_bit m a n signed j =
    cond (ltb j n) (bit_at m (a + j)) (cond signed (bit_at m (a + n - 1)) 0)

-- the register of 32 bits after a read
unfoldable pub register : List ℕ → ℕ → ℕ → Bool → ℕ
register m a n signed = bits_number (register_bit m a n signed) 0 32

-- Of a size that is given, and so of the bits that it means

-- what a read hands back; the memory stays
unfoldable pub field_read : List ℕ → ℕ → ℕ → Bool → Result ℕ Refused
field_read m a size signed =
    result_and (field_refusal (length m) a size) (Ok (register m a (meant size) signed))

-- the memory after a write: those bits only are changed
unfoldable pub field_written : List ℕ → ℕ → ℕ → ℕ → List ℕ
field_written m a size x =
    cond (is_ok (field_refusal (length m) a size)) (with_field m a (meant size) x) m

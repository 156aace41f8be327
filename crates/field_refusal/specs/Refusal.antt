-- The refusals of a field call (the scope, "Refusal numbers"). Assumes nothing.
use Rattle.std.specs.Prelude.{Bool, cond, Result, Ok, Err, ℕ, ◌+◌, ◌-◌, ◌*◌, leb}
use Rattle.answers.specs.declared.Refused.{Refused}
use Rattle.answers.specs.declared.Refused.TheVariants.{Memory, FieldSize, End}
use Rattle.memory.specs.Bits.{no_memory}
use Rattle.field_refusal.specs.Size.{bad_size, meant}

-- refusal 17: some bit of a field of n bits has an address of 16 x words or more
abbrev pub ends_outside : ℕ → ℕ → ℕ → Bool
ends_outside words a n = leb (16 * words) (a + n - 1)

-- a field call checks 10, 18, 17 in that order
unfoldable pub field_refusal : ℕ → ℕ → ℕ → Result Unit Refused
field_refusal words a size =
    cond (no_memory words) (Err Memory)
    (cond (bad_size size) (Err FieldSize)
    (cond (ends_outside words a (meant size)) (Err End) (Ok tt)))

-- Does a walk stay in memory (the scope, "Refusal numbers", 17)? Assumes nothing.
use Rattle.std.specs.Prelude.{Bool, false, cond, ◌||◌, ℕ, zero, suc, ◌*◌, leb}
use Rattle.memory.specs.Bits.{no_memory}
use Rattle.walk.specs.declared.Walk.{Walk}
use Rattle.walk.specs.Walk.{address_of}

-- does one of the first n addresses lie at the limit or beyond?
unfoldable pub reaches : (ℕ → ℕ) → ℕ → ℕ → Bool
reaches f limit zero = false
reaches f limit (suc n) = leb limit (f n) || reaches f limit n

-- refusal 17 of a walk: some pixel that would be visited has an address of 16 x words or more (of
-- no memory 10 is said instead)
unfoldable pub leaves_memory : ℕ → Walk → ℕ → ℕ → Bool
leaves_memory words w cols rows =
    cond (no_memory words) false (reaches (address_of w cols) (16 * words) (cols * rows))

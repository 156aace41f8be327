-- The sizes of a field (the scope, "Fields" and "Refusal numbers"). Assumes nothing.
use Rattle.std.specs.Prelude.{Bool, ◌||◌, ℕ, eqb, ltb}

-- refusal 18: a field size is outside 1 to 32
abbrev pub bad_size : ℕ → Bool
bad_size size = eqb size 0 || ltb 32 size

-- how many bits a size that is given means. A call takes the size, and all below it takes the bits
unfoldable pub meant : ℕ → ℕ
meant size = size

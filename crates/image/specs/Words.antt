-- The words of a draw in a memory. The scope knows nothing of this step. Assumes nothing.
use Rattle.std.specs.Prelude.{List, ℕ, zero, suc, ◌+◌, ◌/◌, ◌%◌, ◌^◌, set}

-- m with the k low words of x from place i on, lowest first; what lies beyond its end is cut off
unfoldable pub stored_words : ℕ → List ℕ → ℕ → ℕ → List ℕ
stored_words zero m i x = m
stored_words (suc k) m i x = stored_words k (set m i (x % 2 ^ 16)) (i + 1) (x / 2 ^ 16)

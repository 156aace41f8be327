-- How many points of a listing are run between two writes: their lines have room in the buffer.
-- The scope knows nothing of it. Assumes nothing.
use Rattle.std.specs.Prelude.{ℕ}

-- `listings::BATCH`
abbrev pub most_points : ℕ
most_points = 1024

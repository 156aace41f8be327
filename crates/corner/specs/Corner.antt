-- The four starting corners of an array of pixels (request Eight): PBH=1 walks each row from its
-- right end, PBV=1 walks rows from the last one up. Assumes nothing.
use Rattle.std.specs.Prelude.{ℕ, ◌-◌, ◌%◌, ◌^◌, Bool, cond}
use Rattle.walk.specs.declared.Walk.{Walk}
use Rattle.walk.specs.Walk.{moved}

-- a distance as it is walked: the other way it falls, modulo 2^32
abbrev pub walked : Bool → ℕ → ℕ
walked falls distance = cond falls ((2 ^ 32 - distance % 2 ^ 32) % 2 ^ 32) distance

-- an array's walk in the chosen order, from a start that is the chosen corner's pixel itself
abbrev pub turned : Bool → Bool → Walk → Walk
turned pbh pbv w =
    record { start = w.start; pitch = walked pbv w.pitch; step = walked pbh w.step }

-- the corner's row or column, of n: the last one, or the first
abbrev pub corner_of : Bool → ℕ → ℕ
corner_of last n = cond last (n - 1) 0

-- the same from the upper left start: the corner is walked to linearly
unfoldable pub from_corner : Bool → Bool → ℕ → ℕ → Walk → Walk
from_corner pbh pbv cols rows w = turned pbh pbv (moved w (corner_of pbv rows) (corner_of pbh cols))

-- row or column k of n in the chosen order, counted from the upper left
abbrev pub chosen_index : Bool → ℕ → ℕ → ℕ
chosen_index falls n k = cond falls (n - 1 - k) k

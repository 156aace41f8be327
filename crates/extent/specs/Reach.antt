-- How far a walk reaches from its start. The scope knows nothing of it. Assumes nothing.
use Rattle.std.specs.Prelude.{cond, ℕ, ◌-◌, ◌*◌, ◌^◌, leb}

-- how far the last of n places, a distance apart modulo 2^32, lies above the first, and below it: a
-- distance above 2^31 falls
unfoldable pub upwards : ℕ → ℕ → ℕ
upwards n distance = cond (leb distance (2 ^ 31)) ((n - 1) * distance) 0

unfoldable pub downwards : ℕ → ℕ → ℕ
downwards n distance = cond (leb distance (2 ^ 31)) 0 ((n - 1) * (2 ^ 32 - distance))

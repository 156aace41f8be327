-- The settings as thirteen numbers of an array, of 32 bits each. Assumes nothing.
use Rattle.std.specs.Prelude.{Bool, ◌||◌, List, ℕ, get_or}
use Rattle.names.specs.Names.{setting_count, control_at, psize_at, pmask_at, too_large_for}
use Rattle.c_arrays.specs.Out.{short}

-- the number at a name's place is too large for the name
abbrev pub too_large_at : List ℕ → ℕ → Bool
too_large_at s number = too_large_for number (get_or s number 0)

-- there are fewer than thirteen, or one of CONTROL, PSIZE and PMASK, which have 16 bits, is too
-- large
abbrev pub bad_settings : List ℕ → Bool
bad_settings s =
    short setting_count s
    || (too_large_at s control_at || (too_large_at s psize_at || too_large_at s pmask_at))

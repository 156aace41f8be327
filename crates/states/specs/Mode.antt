-- How MOVE names its source, as a number. Assumes nothing.
use Rattle.std.specs.Prelude.{Bool, cond, ℕ, eqb, ltb}
use Rattle.states.specs.declared.Mode.{Mode}
use Rattle.states.specs.declared.Mode.TheVariants.{Indirect, Postincrement, Predecrement}

-- 0 indirect, 1 postincrement, 2 predecrement; no other number is a mode
abbrev pub bad_mode : ℕ → Bool
bad_mode mode = ltb 2 mode

abbrev pub mode_of : ℕ → Mode
mode_of mode = cond (eqb mode 0) Indirect (cond (eqb mode 1) Postincrement Predecrement)

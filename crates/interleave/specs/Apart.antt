-- Bits that do not meet (the scope, "Arrays, windows and slices"). Assumes nothing.
use Rattle.std.specs.Prelude.{ℕ}

-- one of two may write the bits in W and reads those in R beside these; the other one W' and R'. No
-- bit that one of them may write is written or read by the other
pub record Apart (W R W' R' : ℕ → Type 0) : Type 0 where
  pub writes : (a : ℕ) → W a → W' a → ⊥
  pub left : (a : ℕ) → W a → R' a → ⊥
  pub right : (a : ℕ) → W' a → R a → ⊥

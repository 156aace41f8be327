-- The bits that a step over a memory may write and those that it reads: what is meant. Its laws are in CommuteLaws. No contract
-- cites this file. Assumes nothing.
use mathlib.Core.Path.{◌≡◌}
use mathlib.Core.Logic.{◌⊎◌}
use mathlib.Core.List.{List}
use Prim.Native.Nat.{ℕ}
use Rattle.memory.specs.Bits.{Memory, bit_at}

-- two memories have the same bits in B
abbrev pub Agree : (ℕ → Type 0) → List ℕ → List ℕ → Type 0
Agree B m m' = (a : ℕ) → B a → bit_at m a ≡ bit_at m' a

-- over memories of n words, f may write the bits in W and no others, and it reads these and the bits in R: it leaves n words; every
-- other bit stays; and what it leaves in W depends on the bits in R and W only
pub record Foot (n : ℕ) (W R : ℕ → Type 0) (f : List ℕ → List ℕ) : Type 0 where
  pub good : (m : List ℕ) → Memory n m → Memory n (f m)
  pub frame : (m : List ℕ) → Memory n m → (a : ℕ) → (bit_at (f m) a ≡ bit_at m a) ⊎ W a
  pub depend : (m m' : List ℕ) → Memory n m → Memory n m' → Agree (λ a. R a ⊎ W a) m m' → Agree W (f m) (f m')

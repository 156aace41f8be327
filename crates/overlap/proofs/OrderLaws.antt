-- A walk that rises below its source, or falls above it, draws over no source that is still to be read, and over no pixel twice.
-- No contract cites this file. Assumes nothing.
use mathlib.Core.Logic.{◌≢◌}
use Prim.Native.Nat.{ℕ, suc, ◌<◌}
use native.Mathlib.Decide.{le_ind}
use native.Mathlib.Omega.{arith}
use Rattle.plot.specs.declared.Drawing.{Drawing}
use Rattle.plot.specs.Drawing.{pixels}
use Rattle.engine.specs.Engine.{dest_of, src_of}
use Rattle.overlap.specs.Copy.{Unspoilt, RisesBelow, FallsAbove}

-- an order of addresses in which each pixel comes before the next one, and what comes before a pixel comes before its source too
module _ (d : Drawing) (Before : ℕ → ℕ → Type 0) (strict : (a b : ℕ) → Before a b → a ≢ b)
    (trans : (a b c : ℕ) → Before a b → Before b c → Before a c)
    (next : (i : ℕ) → suc i < pixels d → Before (dest_of d i) (dest_of d (suc i)))
    (source : (a i : ℕ) → i < pixels d → Before a (dest_of d i) → Before a (src_of d i)) where
  before : (i j : ℕ) → i < j → j < pixels d → Before (dest_of d i) (dest_of d j)
  before i j h =
      le_ind (λ (k : ℕ). k < pixels d → Before (dest_of d i) (dest_of d k)) (next i)
      (λ k l b u. trans (dest_of d i) (dest_of d k) (dest_of d (suc k)) (b (omega arith)) (next k u)) j h

  unspoilt : Unspoilt d
  unspoilt =
      record {
        source = λ i j h l. strict (dest_of d i) (src_of d j) (source (dest_of d i) j l (before i j h l));
        once = λ i j h l. strict (dest_of d i) (dest_of d j) (before i j h l);
      }

pub unspoilt-of-rises : (d : Drawing) → RisesBelow d → Unspoilt d
unspoilt-of-rises d h =
    unspoilt d (λ a b. a < b) (λ a b l e. omega arith) (λ a b c l u. omega arith) h.rises (λ a i l u. omega (arith, h.below i l))

pub unspoilt-of-falls : (d : Drawing) → FallsAbove d → Unspoilt d
unspoilt-of-falls d h =
    unspoilt d (λ a b. b < a) (λ a b l e. omega arith) (λ a b c l u. omega arith) h.falls (λ a i l u. omega (arith, h.above i l))

-- A PIXBLT of pixels over itself (request Eight, "leaves the old source in all it draws"). Words of
-- statements. Assumes nothing.
use Rattle.std.specs.Prelude.{◌≡◌, false, List, ◌≢◌, ℕ, suc, ◌+◌, ◌≤◌, ◌<◌}
use Rattle.memory.specs.Bits.{bit_at}
use Rattle.plot.specs.Drawing.{pixels}
use Rattle.plot.specs.declared.Source.TheVariants.{Pixels}
use Rattle.plot.specs.declared.Drawing.{Drawing}
use Rattle.engine.specs.Engine.{dest_of, src_of}

-- a copy of pixels with replace, T=0 and PMASK 0
pub record PlainCopy (d : Drawing) : Type 0 where
  pub source : d.source ≡ Pixels
  pub replace : d.pp ≡ 0
  pub opaque : d.t ≡ false
  pub planes : d.pmask ≡ 0

-- the old source stands in all that is drawn: each bit of a destination pixel is afterwards what
-- that bit of its source pixel was before
abbrev pub OldSource : Drawing → List ℕ → List ℕ → Type 0
OldSource d before after =
    (i : ℕ) → i < pixels d → (b : ℕ) → b < d.psize
    → bit_at after (dest_of d i + b) ≡ bit_at before (src_of d i + b)

-- no pixel's source was drawn before it, and no pixel is drawn twice
pub record Unspoilt (d : Drawing) : Type 0 where
  pub source : (i j : ℕ) → i < j → j < pixels d → dest_of d i ≢ src_of d j
  pub once : (i j : ℕ) → i < j → j < pixels d → dest_of d i ≢ dest_of d j

-- the walk rises in address from pixel to pixel, and each destination pixel lies below its source
-- pixel (or on it)
pub record RisesBelow (d : Drawing) : Type 0 where
  pub rises : (i : ℕ) → suc i < pixels d → dest_of d i < dest_of d (suc i)
  pub below : (i : ℕ) → i < pixels d → dest_of d i ≤ src_of d i

-- it falls, and each destination pixel lies above its source pixel (or on it)
pub record FallsAbove (d : Drawing) : Type 0 where
  pub falls : (i : ℕ) → suc i < pixels d → dest_of d (suc i) < dest_of d i
  pub above : (i : ℕ) → i < pixels d → src_of d i ≤ dest_of d i

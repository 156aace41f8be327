-- What a user sees at a glance of a PIXBLT of pixels over itself: a scroll by settings (request
-- Eight, "with equal pitches, rows that don't share bits"). Words of statements. Assumes nothing.
use Rattle.std.specs.Prelude.{◌≡◌, true, false, ◌*◌, ◌^◌, ◌≤◌}
use Rattle.control.specs.Control.{right_to_left, bottom_to_top}
use Rattle.settings.specs.declared.Settings.{Settings}
use Rattle.engine.specs.Engine.{dest_of, src_of}
use Rattle.operation.specs.declared.Operation.{Operation}
use Rattle.arrays.specs.Array.{drawing_for}

-- equal pitches, and rows that don't share bits: columns x PSIZE <= pitch <= 2^31
pub record Scroll (op : Operation) (s : Settings) : Type 0 where
  pub pitches : s.sptch ≡ s.dptch
  pub rows : (drawing_for op s).cols * s.psize ≤ s.dptch
  pub half : s.dptch ≤ 2 ^ 31

-- PBH=PBV=0, and the first pixel lies below its source (or on it)
pub record ToLower (op : Operation) (s : Settings) : Type 0 where
  pub pbh : right_to_left s.control ≡ false
  pub pbv : bottom_to_top s.control ≡ false
  pub first : dest_of (drawing_for op s) 0 ≤ src_of (drawing_for op s) 0

-- PBH=PBV=1, and the first pixel lies above its source (or on it)
pub record ToHigher (op : Operation) (s : Settings) : Type 0 where
  pub pbh : right_to_left s.control ≡ true
  pub pbv : bottom_to_top s.control ≡ true
  pub first : src_of (drawing_for op s) 0 ≤ dest_of (drawing_for op s) 0

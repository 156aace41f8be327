-- A PIXBLT of pixels over itself (request Eight: it "leaves the old source in all it draws"). The
-- words are in overlap/specs. The proofs are in proofs/Copies.antt. Assumes nothing.
use Rattle.std.specs.Prelude.{◌≡◌, List, ◌⊎◌, ℕ, ◌≤◌}
use Rattle.memory.specs.Bits.{Memory}
use Rattle.settings.specs.declared.Settings.{Settings}
use Rattle.plot.specs.Drawing.{pixels}
use Rattle.operation.specs.declared.Operation.{Operation}
use Rattle.operation.specs.declared.Operation.TheVariants.{PixbltLL}
use Rattle.arrays.specs.Array.{drawing_for}
use Rattle.array_refusal.specs.Refusal.{refusal}
use Rattle.drawing.specs.Draw.{drawn}
use Rattle.overlap.specs.Copy.{PlainCopy, OldSource, Unspoilt, RisesBelow, FallsAbove}
use Rattle.overlap.specs.Scroll.{Scroll, ToLower, ToHigher}
use Rattle.overlap.specs.Example.{from_lower_right, from_upper_right, from_upper_left}
use Rattle.overlap.specs.Example.{two_rows, moved_right, smeared}

-- an accepted copy of pixels with replace, T=0 and PMASK 0, of which something holds, leaves the
-- old source in all it draws: whole, over any memory
abbrev KeepsSource : (Operation → Settings → Type 0) → Type 0
KeepsSource If =
    (w : ℕ) (m : List ℕ) → Memory w m
    → (op : Operation) (s : Settings) → refusal op s 0 w ≡ 0 → PlainCopy (drawing_for op s)
    → If op s
    → (b : ℕ) → pixels (drawing_for op s) ≤ b
    → OldSource (drawing_for op s) m (drawn op s 0 b m)

-- If no pixel's source was drawn before it, and no pixel is drawn twice.
abbrev pub CopyUnspoilt : Type 0
CopyUnspoilt = KeepsSource (λ op s. Unspoilt (drawing_for op s))

-- If the corner's walk rises in address from pixel to pixel where each destination pixel lies below
-- its source pixel, and falls where it lies above. (A walk that rises or falls so has no rows that
-- share bits. That pitches are equal is not asked.)
abbrev pub CopyInOrder : Type 0
CopyInOrder = KeepsSource (λ op s. RisesBelow (drawing_for op s) ⊎ FallsAbove (drawing_for op s))

-- By settings: with equal pitches and rows that don't share bits, PBH=PBV=0 where the first pixel
-- lies below its source, and PBH=PBV=1 where it lies above.
abbrev pub CopyScroll : Type 0
CopyScroll = KeepsSource (λ op s. Scroll op s × (ToLower op s ⊎ ToHigher op s))

-- ---- an example

-- Three of the four pixels of two rows, a pixel to the right over themselves: from the lower right
-- corner, and from the upper right one, they are moved. From the upper left one the first pixel of
-- each row is smeared over it.
abbrev pub ScrollRight : Type 0
ScrollRight =
    (drawn PixbltLL from_lower_right 0 6 two_rows ≡ moved_right)
    × (drawn PixbltLL from_upper_right 0 6 two_rows ≡ moved_right)
    × (drawn PixbltLL from_upper_left 0 6 two_rows ≡ smeared)

-- every statement of this file
pub record OfCopies : Type 0 where
  pub copy-unspoilt : CopyUnspoilt
  pub copy-in-order : CopyInOrder
  pub copy-scroll : CopyScroll
  pub scroll-right : ScrollRight

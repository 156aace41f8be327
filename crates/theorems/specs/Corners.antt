-- The four starting corners (request Eight), sentence by sentence. Where a pixel lies by its column
-- and row: Arrays.antt, PixelPlaces. A copy over itself: Copies.antt. The proofs are in
-- proofs/Corners.antt. Assumes nothing.
use Rattle.std.specs.Prelude.{◌≡◌, Bool, true, false, List, ◌↔◌, ℕ, suc, ◌+◌, ◌-◌, ◌*◌, ◌%◌, ◌^◌, ◌<◌}
use Rattle.std.specs.Prelude.{Result}
use Rattle.answers.specs.declared.Refused.{Refused}
use Rattle.answers.specs.Answer.{answer}
use Rattle.memory.specs.Bits.{no_memory}
use Rattle.control.specs.Control.{transparency, windowing, right_to_left, bottom_to_top}
use Rattle.control.specs.Control.{processing, last_operation}
use Rattle.pixel.specs.Pixel.{bad_pixel_size}
use Rattle.address.specs.Address.{misaligned}
use Rattle.corner.specs.Corner.{corner_of}
use Rattle.settings.specs.declared.Settings.{Settings}
use Rattle.refusal.specs.declared.Tests.{Tests}
use Rattle.refusal.specs.Refusal.{lowest}
use Rattle.plot.specs.declared.Drawing.{Drawing}
use Rattle.plot.specs.Drawing.{pixels}
use Rattle.engine.specs.Engine.{dest_of, src_of}
use Rattle.lone.specs.declared.Lone.{Lone}
use Rattle.lone.specs.Lone.{pixel_address, lone_clip, lone_v}
use Rattle.lone.specs.Lone.{linear_pixel, xy_source, xy_destination}
use Rattle.pixt.specs.Pixt.{lone_drawn}
use Rattle.operation.specs.declared.Operation.{Operation}
use Rattle.operation.specs.declared.Operation.TheVariants.{PixbltLL}
use Rattle.operation.specs.Operation.{walks_to_corner, source_of, copies, copies_pixels}
use Rattle.arrays.specs.Array.{clipped_array, dest_start, step_of, src_start, from_right, from_bottom}
use Rattle.arrays.specs.Array.{drawing_for}
use Rattle.array_refusal.specs.Refusal.{bad_pitches, refusal}
use Rattle.drawing.specs.declared.Outcome.{Outcome}
use Rattle.drawing.specs.Draw.{outcome, drawn}

-- ---- the order

-- from address a to address b it rises by a distance, or falls by it, modulo 2^32
abbrev pub Goes : (falls : Bool) → ℕ → ℕ → ℕ → Type 0
Goes false distance a b = b ≡ (a + distance) % 2 ^ 32
Goes true distance a b = a ≡ (b + distance) % 2 ^ 32

-- "PBH=1 walks each row from its right end": from a pixel to the next one of its row, the addresses
-- of destination and source rise by a pixel, or fall by one. "PBV=1 walks rows from the last one
-- up": from a pixel to the one of its column in the next row walked, by the pitch.
abbrev pub ChosenOrder : Type 0
ChosenOrder =
    (op : Operation) (s : Settings) → let d = drawing_for op s in 0 < d.cols → (i : ℕ)
    → (suc (i % d.cols) < d.cols
    → Goes (from_right op s) s.psize (dest_of d i) (dest_of d (i + 1))
    × Goes (from_right op s) (step_of (source_of op) s.psize) (src_of d i) (src_of d (i + 1)))
    × Goes (from_bottom op s) s.dptch (dest_of d i) (dest_of d (i + d.cols))
    × Goes (from_bottom op s) s.sptch (src_of d i) (src_of d (i + d.cols))

-- ---- the corner

-- "For L,L the caller gives both starts as the address of the chosen corner's pixel itself": the
-- first pixel visited, and its source, are those.
abbrev pub StartGiven : Type 0
StartGiven =
    (s : Settings)
    → (dest_of (drawing_for PixbltLL s) 0 ≡ s.daddr % 2 ^ 32)
    × (src_of (drawing_for PixbltLL s) 0 ≡ s.saddr % 2 ^ 32)

-- "for L,XY, XY,L and XY,XY the model walks to the corner linearly from the clipped array's upper
-- left start": the last row if PBV=1, the last column if PBH=1, each array by its own pitch.
abbrev pub StartWalked : Type 0
StartWalked =
    (op : Operation) (s : Settings) → walks_to_corner op ≡ true
    → let c = clipped_array op s in
    let row = corner_of (bottom_to_top s.control) c.rows in
    let column = corner_of (right_to_left s.control) c.cols in
    (dest_of (drawing_for op s) 0
    ≡ (dest_start op s c + row * s.dptch + column * s.psize) % 2 ^ 32)
    × (src_of (drawing_for op s) 0
    ≡ (src_start op s c + row * s.sptch + column * s.psize) % 2 ^ 32)

-- 16 looks at the same residue at the corner and at the upper left start, where 11 and 13 are not
-- given.
abbrev pub StartsAlike : Type 0
StartsAlike =
    (op : Operation) (s : Settings) → walks_to_corner op ≡ true
    → bad_pixel_size s.psize ≡ false → bad_pitches op s ≡ false
    → let c = clipped_array op s in
    let d = drawing_for op s in
    (misaligned s.psize d.dest.start ≡ misaligned s.psize (dest_start op s c))
    × (misaligned s.psize d.src.start ≡ misaligned s.psize (src_start op s c))

-- ---- the end

-- the first pixel visited of the last row walked, which is in the chosen corner's column
abbrev pub last_row : Drawing → ℕ
last_row d = d.cols * (d.rows - 1)

-- "At the end DADDR and SADDR are the linear address, in the chosen corner's column, of the row
-- after the last one walked (the row above if PBV=1)."
abbrev pub EndRegisters : Type 0
EndRegisters =
    (op : Operation) (s : Settings) (place : ℕ) (v : Bool) (budget words : ℕ)
    → let d = drawing_for op s in
    let o = outcome op s place v budget words in
    refusal op s place words ≡ 0 → 0 < pixels d → o.place ≡ pixels d
    → Goes (from_bottom op s) s.dptch (dest_of d (last_row d)) o.daddr
    × (copies (source_of op) ≡ true
    → Goes (from_bottom op s) s.sptch (src_of d (last_row d)) o.saddr)

-- ---- what ignores both bits

-- two CONTROLs with one T, W and PP: PBH and PBV may differ, and what no drawing reads
pub record SameButCorner (c c' : ℕ) : Type 0 where
  pub t : transparency c ≡ transparency c'
  pub w : windowing c ≡ windowing c'
  pub pp : processing c ≡ processing c'

-- settings with another CONTROL, and an outcome that hands other settings back
abbrev pub with_control : Settings → ℕ → Settings
with_control s c =
    record {
      saddr = s.saddr;
      sptch = s.sptch;
      daddr = s.daddr;
      dptch = s.dptch;
      offset = s.offset;
      wstart = s.wstart;
      wend = s.wend;
      dydx = s.dydx;
      color0 = s.color0;
      color1 = s.color1;
      control = c;
      psize = s.psize;
      pmask = s.pmask;
    }

abbrev pub handing : Settings → Outcome → Outcome
handing s o =
    record {
      answer = o.answer;
      place = o.place;
      visited = o.visited;
      v = o.v;
      request = o.request;
      saddr = o.saddr;
      daddr = o.daddr;
      dydx = o.dydx;
      settings = s;
    }

-- "B sources, FILL, PIXT and DRAV ignore both bits": a call with another PBH or PBV hands back and
-- leaves the same, refused or not.
abbrev pub DrawIgnores : Type 0
DrawIgnores =
    (op : Operation) (s : Settings) (c : ℕ) → copies_pixels (source_of op) ≡ false
    → SameButCorner s.control c
    → (place : ℕ) (v : Bool) (budget words : ℕ) (m : List ℕ)
    → (outcome op (with_control s c) place v budget words
    ≡ handing (with_control s c) (outcome op s place v budget words))
    × (drawn op (with_control s c) place budget m ≡ drawn op s place budget m)

-- A lone pixel: its refusal, or where it is and the flags; its address, what the window makes of it
-- (the request) and V, refused or not; and the memory that PIXT or DRAV leaves.
abbrev pub LoneIgnores : Type 0
LoneIgnores =
    (s : Settings) (c : ℕ) → SameButCorner s.control c → (words a : ℕ) (v : Bool)
    → (linear_pixel words (with_control s c) a v ≡ linear_pixel words s a v)
    × (xy_source words (with_control s c) a v ≡ xy_source words s a v)
    × (xy_destination words (with_control s c) a v ≡ xy_destination words s a v)
    × ((pixel_address (with_control s c) a ≡ pixel_address s a)
    × (lone_clip (with_control s c) a ≡ lone_clip s a)
    × (lone_v (with_control s c) a v ≡ lone_v s a v))
    × ((at : Result Lone Refused) (source : ℕ) (m : List ℕ)
    → lone_drawn (with_control s c) at source m ≡ lone_drawn s at source m)

-- ---- the refusal

-- "12 is given from now on only for PP above 21": of every call that takes settings, exactly then,
-- unless 10 or 11 is.
abbrev pub TwelveExactly : Type 0
TwelveExactly =
    (words : ℕ) (s : Settings) (t : Tests)
    → (answer (lowest words s t) ≡ 12)
    ↔ ((no_memory words ≡ false) × (bad_pixel_size s.psize ≡ false)
    × (last_operation < processing s.control))

-- every statement of this file
pub record OfCorners : Type 0 where
  pub chosen-order : ChosenOrder
  pub start-given : StartGiven
  pub start-walked : StartWalked
  pub starts-alike : StartsAlike
  pub end-registers : EndRegisters
  pub draw-ignores : DrawIgnores
  pub lone-ignores : LoneIgnores
  pub twelve-exactly : TwelveExactly

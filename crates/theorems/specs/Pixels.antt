-- One pixel, at every operation, mask and size P that fits its word at its place. The proofs are in
-- proofs/Pixels.antt. Assumes nothing.
use Rattle.std.specs.Prelude.{◌≡◌, Bool, cond, ◌&&◌, ◌||◌, List, ◌⊎◌, ℕ, ◌+◌, ◌-◌, ◌*◌, ◌/◌, ◌%◌, ◌^◌, ◌<◌, ◌≤◌, eqb, get_or}
use Rattle.memory.specs.Bits.{Memory, bit_of, bit_at}
use Rattle.pixel.specs.PixelOp.{processed}
use Rattle.pixel.specs.Pixel.{pixel_of, unmasked, result, plotted}
use Rattle.pixel.specs.Footprint.{Touched}

-- Drawing a pixel changes no bit but the unmasked ones of that pixel.
abbrev pub PixelFrame : Type 0
PixelFrame =
    (pp : ℕ) (t : Bool) (p pmask a n : ℕ) (m : List ℕ) (s b : ℕ)
    → a % 16 + p ≤ 16 → Memory n m → a < 16 * n
    → (bit_at (plotted pp t (2 ^ p - 1) pmask a s m) b ≡ bit_at m b) ⊎ Touched p pmask a b

-- What it writes there depends on nothing but the unmasked bits of the source and of the old pixel.
abbrev pub PixelDepends : Type 0
PixelDepends =
    (pp : ℕ) (t : Bool) (p pmask a n : ℕ) (m m' : List ℕ) (s s' : ℕ)
    → a % 16 + p ≤ 16 → Memory n m → Memory n m' → a < 16 * n
    → ((j : ℕ) → j < p → bit_of pmask ((a + j) % 16) ≡ 0 → bit_of s j ≡ bit_of s' j)
    → ((b : ℕ) → Touched p pmask a b → bit_at m b ≡ bit_at m' b)
    → (b : ℕ) → Touched p pmask a b
    → bit_at (plotted pp t (2 ^ p - 1) pmask a s m) b
    ≡ bit_at (plotted pp t (2 ^ p - 1) pmask a s' m') b

-- The pixel at address a are the P bits of the memory from there on, and its mask the bits
-- of PMASK at the same places.
abbrev pub PixelIsBits : Type 0
PixelIsBits =
    (p pmask a j : ℕ) (m : List ℕ) → a % 16 + p ≤ 16 → j < p
    → (bit_of (pixel_of (2 ^ p - 1) (get_or m (a / 16) 0) a) j ≡ bit_at m (a + j))
    × (bit_of (pixel_of (2 ^ p - 1) pmask a) j ≡ bit_of pmask ((a + j) % 16))

-- The value that each bit of a pixel D gets, drawn from S. A masked bit stays, and all
-- stay where T is 1 and the result is 0; otherwise it is the bit of the operation on S
-- and D with their masked bits 0.
abbrev pub PixelBits : Type 0
PixelBits =
    (pp : ℕ) (t : Bool) (p pmask a n : ℕ) (m : List ℕ) (s j : ℕ)
    → a % 16 + p ≤ 16 → Memory n m → a < 16 * n → j < p
    → let top = 2 ^ p - 1 in
    let mask = pixel_of top pmask a in
    let d = pixel_of top (get_or m (a / 16) 0) a in
    bit_at (plotted pp t top pmask a s m) (a + j)
    ≡ cond (eqb (bit_of pmask ((a + j) % 16)) 1 || (t && eqb (result pp top mask s d) 0))
    (bit_at m (a + j))
    (bit_of (processed pp top (unmasked top mask s) (unmasked top mask d)) j)

-- every statement of this file
pub record OfPixels : Type 0 where
  pub pixel-frame : PixelFrame
  pub pixel-depends : PixelDepends
  pub pixel-is-bits : PixelIsBits
  pub pixel-bits : PixelBits

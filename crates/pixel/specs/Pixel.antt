-- One pixel (the scope, "One pixel"; 002 sections 7.5 to 7.7): plane mask, transparency, and the
-- pixel in its word. A pixel of P bits is given by top = 2^P - 1, and its place in the word by its
-- bit address a. Assumes nothing.
use Rattle.std.specs.Prelude.{Bool, cond, ◌&&◌, ◌||◌, not, List, ℕ, ◌+◌, ◌-◌, ◌*◌, ◌/◌, ◌%◌, ◌^◌, min, eqb, get_or, set}
use Rattle.std.specs.Int.Bits.{bit_and, bit_or}
use Rattle.memory.specs.Bits.{word_bits}
use Rattle.pixel.specs.PixelOp.{complement, processed}

-- refusal 11: PSIZE isn't 1, 2, 4, 8 or 16
abbrev pub bad_pixel_size : ℕ → Bool
bad_pixel_size p = not (eqb p 1 || (eqb p 2 || (eqb p 4 || (eqb p 8 || eqb p 16))))

-- top for a pixel size: 2^P - 1 (a size above 16, which 11 refuses, counts as 16)
abbrev pub top_of : ℕ → ℕ
top_of p = 2 ^ min p word_bits - 1

-- the P bits of a word at the place of bit address a
unfoldable pub pixel_of : ℕ → ℕ → ℕ → ℕ
pixel_of top w a = bit_and (w / 2 ^ (a % word_bits)) top

-- x with the masked bits counted as 0
abbrev pub unmasked : ℕ → ℕ → ℕ → ℕ
unmasked top mask x = bit_and x (complement top mask)

-- masked bits of S and D count as 0; the operation is applied; masked bits of the result are set
-- to 0
unfoldable pub result : ℕ → ℕ → ℕ → ℕ → ℕ → ℕ
result pp top mask s d =
    unmasked top mask (processed pp top (unmasked top mask s) (unmasked top mask d))

-- if T is 1 and that result is 0, nothing is written; otherwise the unmasked bits are written and
-- masked ones stay
unfoldable pub pixel_after : ℕ → Bool → ℕ → ℕ → ℕ → ℕ → ℕ
pixel_after pp t top mask s d =
    let r = result pp top mask s d in
    cond (t && eqb r 0) d (bit_or (bit_and d mask) r)

-- the word with a pixel v in the place of its pixel at a
unfoldable pub with_pixel : ℕ → ℕ → ℕ → ℕ → ℕ
with_pixel top w a v =
    let place = 2 ^ (a % word_bits) in
    (w - pixel_of top w a * place + v * place) % 2 ^ word_bits

-- the word after the pixel at a is drawn from S: the mask of a pixel is the P bits of PMASK at its
-- destination's place in the word
unfoldable pub word_after : ℕ → Bool → ℕ → ℕ → ℕ → ℕ → ℕ → ℕ
word_after pp t top pmask a s w =
    let mask = pixel_of top pmask a in
    with_pixel top w a (pixel_after pp t top mask s (pixel_of top w a))

-- the memory after the pixel at a is drawn from S
unfoldable pub plotted : ℕ → Bool → ℕ → ℕ → ℕ → ℕ → List ℕ → List ℕ
plotted pp t top pmask a s m =
    let word = a / word_bits in
    set m word (word_after pp t top pmask a s (get_or m word 0))

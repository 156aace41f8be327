-- The pixel operations (the scope, "One pixel"; 002 section 7.7), over pixels of P bits, of which
-- top = 2^P - 1 is the greatest. Assumes nothing.
use Rattle.std.specs.Prelude.{List, [], ◌∷◌, ℕ, suc, ◌+◌, ◌-◌, ◌%◌, min, max, get_or}
use Rattle.std.specs.Int.Bits.{bit_and, bit_or, bit_xor}

-- not x: all P bits of it turned over
abbrev pub complement : ℕ → ℕ → ℕ
complement top x = bit_xor x top

-- PP 0 to 21, in the scope's order. mod 2^P is mod top + 1
unfoldable pub pixel_operations : ℕ → ℕ → ℕ → List ℕ
pixel_operations top s d =
    -- S; S and D; S and not D; 0
    s ∷ bit_and s d ∷ bit_and s (complement top d) ∷ 0
    -- S or not D; S xnor D; not D; S nor D
    ∷ bit_or s (complement top d) ∷ complement top (bit_xor s d)
    ∷ complement top d ∷ complement top (bit_or s d)
    -- S or D; D; S xor D; not S and D
    ∷ bit_or s d ∷ d ∷ bit_xor s d ∷ bit_and (complement top s) d
    -- all ones; not S or D; S nand D; not S
    ∷ top ∷ bit_or (complement top s) d ∷ complement top (bit_and s d) ∷ complement top s
    -- S + D mod 2^P; the lesser of S + D and top
    ∷ ((s + d) % suc top) ∷ min (s + d) top
    -- D - S mod 2^P; D - S, or 0 if negative; greater; lesser
    ∷ ((d + suc top - s) % suc top) ∷ (d - s) ∷ max s d ∷ min s d
    ∷ []

-- the operation PP applied
unfoldable pub processed : ℕ → ℕ → ℕ → ℕ → ℕ
processed pp top s d = get_or (pixel_operations top s d) pp 0

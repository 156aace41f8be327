-- Walks: moved walks, the address by row and column, one step on, alignment. No contract cites this file. Assumes nothing.
use Rattle.std.proofs.Common.{◌≡◌, ℕ, suc, ◌+◌, ◌*◌, ◌/◌, ◌%◌, ◌^◌, ◌<◌, ◌≤◌, sym, ap, ◌∙◌, ap₂, add-zero, mod-lt, mul_comm, div-lt_iff_lt-mul, add-mul, pos_of_ne-zero, one-mul, div-add-mod', zero-mul, arith}
use native.Mathlib.Nat.{zero-div, zero-mod}
use lib.Arith.{digits_div, digits_mod}
use Rattle.walk.specs.declared.Walk.{Walk}
use Rattle.walk.specs.Walk.{address_at, address_of, start_at, moved}
use Rattle.walk.proofs.Arithmetic.{mod-pow-mod, residue-sum}

-- ---- the column and the row of pixel i of an array
module _ (cols rows i : ℕ) (h : i < cols * rows) where
  pub cols-some : 0 < cols
  cols-some = pos_of_ne-zero (λ z. omega (arith, ap (λ (c : ℕ). c * rows) z, zero-mul rows))

  pub column-lt : i % cols < cols
  column-lt = mod-lt i cols-some

  pub row_lt : i / cols < rows
  row_lt = (div-lt_iff_lt-mul cols-some).1 (rw mul_comm h)

-- ---- cols pixels on: the same column of the next row
module _ (cols : ℕ) where
  next_row : (i : ℕ) → i + cols ≡ (i / cols + 1) * cols + i % cols
  next_row i = omega (arith, div-add-mod' i cols, add-mul (i / cols) 1 cols, one-mul cols)

  pub next-mod : (i : ℕ) → 0 < cols → (i + cols) % cols ≡ i % cols
  next-mod i h = ap (λ (x : ℕ). x % cols) (next_row i) ∙ digits_mod (i / cols + 1) (mod-lt i h)

  next-div : (i : ℕ) → 0 < cols → (i + cols) / cols ≡ i / cols + 1
  next-div i h = ap (λ (x : ℕ). x / cols) (next_row i) ∙ digits_div (i / cols + 1) (mod-lt i h)

module _ (w : Walk) where
  -- ---- rows and columns
  pub address_at-start : w.start < 2 ^ 32 → address_at w 0 0 ≡ w.start
  unfolding address_at
  address_at-start h = omega arith

  -- the next row, and the next column
  pub address_at-down : (r c : ℕ) → (address_at w r c + w.pitch) % 2 ^ 32 ≡ address_at w (r + 1) c
  unfolding address_at
  address_at-down r c = omega (arith, add-mul r 1 w.pitch, one-mul w.pitch)

  pub address_at-across : (r c : ℕ) → (address_at w r c + w.step) % 2 ^ 32 ≡ address_at w r (c + 1)
  unfolding address_at
  address_at-across r c = omega (arith, add-mul c 1 w.step, one-mul w.step)

  along_one : (a : ℕ) → address_at (start_at w a) 0 1 ≡ (a + w.step) % 2 ^ 32
  unfolding address_at
  along_one a = omega (arith, zero-mul w.pitch, one-mul w.step)

  -- rows and columns on from a row and a column
  pub address_at-moved : (r c r' c' : ℕ) → address_at (moved w r c) r' c' ≡ address_at w (r + r') (c + c')
  unfolding address_at
  address_at-moved r c r' c' = omega (arith, add-mul r r' w.pitch, add-mul c c' w.step)

  -- ---- pixels row by row
  module _ (cols : ℕ) where
    pub address_of-at : (r c : ℕ) → c < cols → address_of w cols (r * cols + c) ≡ address_at w r c
    unfolding address_of
    address_of-at r c h = ap₂ (address_at w) (digits_div r h) (digits_mod r h)

    pub address_of-first : w.start < 2 ^ 32 → address_of w cols 0 ≡ w.start
    unfolding address_of
    address_of-first h = ap₂ (address_at w) (zero-div cols) (zero-mod cols) ∙ address_at-start h

    -- j pixels on, in the same row
    pub address_of-along : (k j : ℕ) → k % cols + j < cols → address_of w cols (k + j) ≡ address_at (start_at w (address_of w cols k)) 0 j
    unfolding address_of
    address_of-along k j h =
        let e : k + j ≡ k / cols * cols + (k % cols + j) = omega (arith, div-add-mod' k cols) in
        ap (address_of w cols) e ∙ address_of-at (k / cols) (k % cols + j) h ∙ sym (back (k / cols) (k % cols))
      where
        back : (r c : ℕ) → address_at (moved w r c) 0 j ≡ address_at w r (c + j)
        back r c = address_at-moved r c 0 j ∙ ap (λ (x : ℕ). address_at w x (c + j)) (add-zero r)

    -- the next pixel of a row
    pub address_of-across : (i : ℕ) → suc (i % cols) < cols → address_of w cols (i + 1) ≡ (address_of w cols i + w.step) % 2 ^ 32
    address_of-across i h = address_of-along i 1 (omega arith) ∙ along_one (address_of w cols i)

    -- cols pixels on
    pub address_of-down : (i : ℕ) → 0 < cols → address_of w cols (i + cols) ≡ (address_of w cols i + w.pitch) % 2 ^ 32
    unfolding address_of
    address_of-down i h = rw (next-div cols i h, next-mod cols i h) (sym (address_at-down (i / cols) (i % cols)))

-- ---- alignment: with a pitch and a step that are multiples of 2^k each address has the start's residue
pub address_at-residue : (k : ℕ) (w : Walk) (r c : ℕ) → k ≤ 4 → w.pitch % 2 ^ k ≡ 0 → w.step % 2 ^ k ≡ 0
    → address_at w r c % 2 ^ k ≡ w.start % 2 ^ k
unfolding address_at
address_at-residue k w r c small hp hw =
    mod-pow-mod k 32 _ (omega arith) ∙ residue-sum (2 ^ k) w.start r w.pitch c w.step hp hw

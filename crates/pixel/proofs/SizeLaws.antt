-- Pixel sizes that are not refused: what holds of each of the five holds of them all, and an aligned pixel lies in one word.
-- No contract cites this file. Assumes nothing.
use mathlib.Core.Path.{◌≡◌, refl, sym, ap, subst}
use mathlib.Core.Bool.{Bool, true, false, ◌||◌}
use Prim.Native.Nat.{ℕ, ◌+◌, ◌-◌, ◌%◌, ◌^◌, ◌≤◌, ◌<◌}
use native.Mathlib.Nat.{min-eq_left}
use native.Mathlib.Omega.{arith}
use borrow.Author.Tests.{eqb-true, not-false}
use lib.Dec.{eqb}
use Rattle.pixel.specs.Pixel.{bad_pixel_size, top_of}

-- a size is n, or it is one of the others
either : (Q : ℕ → Type 0) (n p : ℕ) (others : Bool) → Q n → (others ≡ true → Q p) → (eqb p n || others) ≡ true → Q p
either Q n p others q k = go (eqb p n) refl
  where
    go : (u : Bool) → eqb p n ≡ u → (u || others) ≡ true → Q p
    go true e h = subst Q (sym (eqb-true p n e)) q
    go false e h = k h

pub by_size : (Q : ℕ → Type 0) → Q 1 → Q 2 → Q 4 → Q 8 → Q 16 → (p : ℕ) → bad_pixel_size p ≡ false → Q p
by_size Q q1 q2 q4 q8 q16 p e =
    either Q 1 p _ q1 (either Q 2 p _ q2 (either Q 4 p _ q4 (either Q 8 p _ q8 (λ h. subst Q (sym (eqb-true p 16 h)) q16)))) (not-false _ e)

pub size-le : (p : ℕ) → bad_pixel_size p ≡ false → p ≤ 16
size-le = by_size (λ p. p ≤ 16) (omega arith) (omega arith) (omega arith) (omega arith) (omega arith)

pub size-pos : (p : ℕ) → bad_pixel_size p ≡ false → 0 < p
size-pos = by_size (λ p. 0 < p) (omega arith) (omega arith) (omega arith) (omega arith) (omega arith)

-- a pixel whose address is a multiple of its size lies in one word
pub aligned-fits : (p : ℕ) → bad_pixel_size p ≡ false → (a : ℕ) → a % p ≡ 0 → a % 16 + p ≤ 16
aligned-fits =
    by_size (λ p. (a : ℕ) → a % p ≡ 0 → a % 16 + p ≤ 16) (λ a h. omega arith) (λ a h. omega arith) (λ a h. omega arith)
    (λ a h. omega arith) (λ a h. omega arith)

pub top_of-ones : (p : ℕ) → p ≤ 16 → top_of p ≡ 2 ^ p - 1
top_of-ones p h = ap (λ (k : ℕ). 2 ^ k - 1) (min-eq_left h)

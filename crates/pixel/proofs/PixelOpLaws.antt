-- The last arm of a match on a number. No contract cites this file. Assumes nothing.
use mathlib.Core.Path.{◌≡◌, sym}
use Prim.Native.Nat.{ℕ, zero, suc, ◌≤◌, zero-le}
use lib.Arith.{lt_of_le-ne}

-- what it knows, where the arms before it are 0 to n - 1
abbrev pub NoneOf : ℕ → ℕ → Type 0
NoneOf zero x = Unit {0}
NoneOf (suc n) x = NoneOf n x × (x ≡ n → ⊥)

pub past : (n x : ℕ) → NoneOf n x → n ≤ x
past zero x r = zero-le
past (suc n) x r = lt_of_le-ne (past n x r.0) (λ e. r.1 (sym e))

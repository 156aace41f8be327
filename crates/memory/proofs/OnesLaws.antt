-- The ones of a number are the sum of its bits. No contract cites this file. Assumes nothing.
use mathlib.Core.Path.{◌≡◌, refl, ap₂, ◌∙◌}
use Prim.Native.Nat.{ℕ, zero, suc, ◌+◌}
use lib.Count.{ones, ones_step}
use Rattle.memory.specs.Bits.{bits_number}
use Rattle.memory.proofs.NumberLaws.{Bits, number-first, number-rest}

-- the sum of f a, f (a + 1) and so on, k of them
unfoldable pub bits_sum : (ℕ → ℕ) → ℕ → ℕ → ℕ
bits_sum f a zero = 0
bits_sum f a (suc k) = f a + bits_sum f (suc a) k

-- the number that a run of bits makes has as many ones as the run
pub ones-number : (f : ℕ → ℕ) → Bits f → (a k : ℕ) → ones (bits_number f a k) ≡ bits_sum f a k
unfolding ones bits_number bits_sum
ones-number f h a zero = refl
ones-number f h a (suc k) =
    ones_step (bits_number f a (suc k))
    ∙ ap₂ (λ (x y : ℕ). x + ones y) (number-first f h a k) (number-rest f h a k)
    ∙ ap₂ ◌+◌ refl (ones-number f h (suc a) k)

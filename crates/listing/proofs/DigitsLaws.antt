-- The kit's decimal digits, of which there are as few as can be, are those of `specs/Listing.antt`. No contract cites this file.
-- Assumes nothing.
use mathlib.Core.Path.{◌≡◌, refl, sym, ap, ◌∙◌}
use Prim.Native.Nat.{ℕ, zero, suc, ◌+◌, ◌*◌, ◌-◌, ◌/◌, ◌%◌, ◌^◌, ◌≤◌, ◌<◌}
use native.Mathlib.Nat.{pow-suc, mod-eq_of_lt}
use native.Mathlib.Numerals.{add-one}
use native.Mathlib.Omega.{arith}
use borrow.Author.Tests.{lt-ltb}
use lib.ListN.{length, length-append}
use Rattle.std.specs.Prelude.{Option, None, Some, IfNone, IfSome, unwrap_or}
use Rattle.io.specs.Digits.{IsDigitCount}
use Rattle.io.specs.Digits.{last_digits as io·digits}
use Rattle.listing.specs.Listing.{digits, most_digits, decimal}
use Rattle.listing.proofs.ListingLaws.{digits-small, digits-large}

pow-ten-pos : (k : ℕ) → 0 < 10 ^ k
pow-ten-pos zero = omega arith
pow-ten-pos (suc k) = omega (arith, pow-suc 10 k, pow-ten-pos k)

pow-pred : (k : ℕ) → 10 ^ (suc k - 1) ≡ 10 ^ k
pow-pred k = ap (λ (i : ℕ). 10 ^ i) (omega arith)

-- one digit fewer holds a tenth
fewest-tenth : (r n : ℕ) → IsDigitCount 10 1 n (suc (suc r)) → IsDigitCount 10 1 (n / 10) (suc r)
fewest-tenth r n f = (
  omega arith,
  omega (arith, pow-suc 10 (suc r)),
  (λ h. omega (arith, f.2 (omega arith), pow-pred (suc r), pow-pred r, pow-suc 10 r)),
)

-- the kit's fewest digits are ours
digits-fewest : (k r n : ℕ) → r ≤ k → IsDigitCount 10 1 n r → digits k n ≡ io·digits 10 r n
digits-fewest zero r n h f = absurd (omega arith)
digits-fewest (suc k) zero n h f = absurd (omega arith)
digits-fewest (suc k) (suc zero) n h f = digits-small k n f.1 ∙ rw (mod-eq_of_lt f.1, lt-ltb n 10 f.1)
digits-fewest (suc k) (suc (suc r)) n h f =
    digits-large k n (omega (arith, f.2 (omega arith), pow-pred (suc r), pow-suc 10 r, pow-ten-pos r))
    ∙ rw (digits-fewest k (suc r) (n / 10) (omega arith) (fewest-tenth r n f), lt-ltb (n % 10) 10 (omega arith))

length-io : (k n : ℕ) → length (io·digits 10 k n) ≡ k
length-io zero n = refl
length-io (suc k) n = length-append (io·digits 10 k (n / 10)) _ ∙ omega (arith, length-io k (n / 10))

fewest-le : (k r n : ℕ) → n < 10 ^ suc k → IsDigitCount 10 1 n r → r ≤ suc k
fewest-le k zero n h f = omega arith
fewest-le k (suc zero) n h f = omega arith
fewest-le zero (suc (suc r)) n h f = absurd (omega (arith, f.2 (omega arith), pow-pred (suc r), pow-suc 10 r, pow-ten-pos r))
fewest-le (suc k) (suc (suc r)) n h f =
    omega (arith, fewest-le k (suc r) (n / 10) (omega (arith, pow-suc 10 (suc k))) (fewest-tenth r n f))

fewest-le-most : (r n : ℕ) → n < 2 ^ 64 → IsDigitCount 10 1 n r → r ≤ most_digits
fewest-le-most r n h f = fewest-le 19 r n (omega arith) f

pub decimal-of-fewest : (r n : ℕ) → n < 2 ^ 64 → IsDigitCount 10 1 n r → decimal n ≡ io·digits 10 r n
decimal-of-fewest r n h f = digits-fewest most_digits r n (fewest-le-most r n h f) f

pub length-of-fewest : (r n : ℕ) → n < 2 ^ 64 → IsDigitCount 10 1 n r → length (decimal n) ≡ r
length-of-fewest r n h f = ap length (decimal-of-fewest r n h f) ∙ length-io r n

-- one more than the logarithm, where there is one
pub length-of-log : (n : ℕ) (o : Option ℕ) → n < 2 ^ 64 → IfNone o (n ≡ 0) → IfSome o (λ k. 10 ^ k ≤ n) → IfSome o (λ k. n < 10 * 10 ^ k)
    → unwrap_or o 0 + 1 ≡ length (decimal n)
length-of-log n None h z low high = sym (length-of-fewest 1 n h (omega arith, omega arith, λ l. absurd (omega arith)))
length-of-log n (Some k) h z low high =
    sym (length-of-fewest (k + 1) n h (omega arith, rw (add-one, pow-suc 10 k) (omega arith), λ l. rw (add-one, pow-pred k) low))

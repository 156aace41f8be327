-- What a field call that is not refused has. No contract cites this file. Assumes nothing.
use mathlib.Core.Path.{◌≡◌, refl}
use mathlib.Core.Bool.{Bool, true, false, cond}
use Prim.Native.Nat.{ℕ, ◌+◌, ◌-◌, ◌*◌, ◌≤◌, ◌<◌}
use native.Mathlib.Omega.{arith}
use borrow.Author.Tests.{eqb-false, ltb-false, leb-false}
use lib.Dec.{eqb, ltb}
use Rattle.std.specs.Prelude.{Result, Ok, Err}
use Rattle.answers.specs.declared.Refused.{Refused}
use Rattle.answers.specs.declared.Refused.TheVariants.{Memory, FieldSize, End}
use Rattle.memory.specs.Bits.{no_memory}
use Rattle.memory.proofs.Tests.{Sized, sized, or-false-left, or-false-right}
use Rattle.field_refusal.specs.Size.{bad_size, meant}
use Rattle.field_refusal.specs.Refusal.{ends_outside, field_refusal}

-- 1 to 32 bits
pub record GoodBits (n : ℕ) : Type 0 where
  pub some : 0 < n
  pub most : n ≤ 32

-- are what a size that is not refused means
good-size : (size : ℕ) → bad_size size ≡ false → GoodBits (meant size)
unfolding meant
good-size size e =
    let z : size ≡ 0 → ⊥ = eqb-false size 0 (or-false-left (eqb size 0) (ltb 32 size) e) in
    record { some = omega arith; most = ltb-false 32 size (or-false-right (eqb size 0) (ltb 32 size) e) }

pub record Accepted (words a size : ℕ) : Type 0 where
  pub length : Sized words
  pub bits : GoodBits (meant size)
  pub inside : a + meant size ≤ 16 * words

pub accepted : (words a size : ℕ) → field_refusal words a size ≡ Ok tt → Accepted words a size
unfolding field_refusal
accepted words a size = go (no_memory words) (bad_size size) (ends_outside words a (meant size)) refl refl refl
  where
    go : (p q r : Bool) → no_memory words ≡ p → bad_size size ≡ q → ends_outside words a (meant size) ≡ r
        → ◌≡◌ {A = Result Unit Refused} (cond p (Err Memory) (cond q (Err FieldSize) (cond r (Err End) (Ok tt)))) (Ok tt)
        → Accepted words a size
    go true q r ep eq er e = cc
    go false true r ep eq er e = cc
    go false false true ep eq er e = cc
    go false false false ep eq er e =
        let s = good-size size eq in
        record { length = sized words ep; bits = s; inside = omega (arith, s.some, leb-false (16 * words) (a + meant size - 1) er) }

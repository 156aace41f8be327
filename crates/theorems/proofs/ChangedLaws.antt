-- Two memories of one length of which no bit differs are the same. Assumes nothing.
use mathlib.Core.Path.{◌≡◌, refl}
use mathlib.Core.Bool.{Bool, true, false, cond}
use mathlib.Core.List.{List}
use Prim.Native.Nat.{ℕ, zero, suc, ◌*◌, ◌<◌, max}
use native.Mathlib.Omega.{arith}
use borrow.Author.Tests.{eqb-true, ltb-true, ltb-false}
use lib.Dec.{eqb, ltb}
use lib.ListN.{length}
use Rattle.memory.specs.Bits.{Memory, word_bits, bit_at}
use Rattle.memory.specs.Changed.{differs, differing, changed_bits}
use Rattle.memory.proofs.MemoryLaws.{memory-ext}

same : (b c : ℕ) → differs b c ≡ 0 → b ≡ c
same b c = go (eqb b c) refl
  where
    go : (t : Bool) → eqb b c ≡ t → ◌≡◌ {A = ℕ} (cond t 0 1) 0 → b ≡ c
    go true e z = eqb-true b c e
    go false e z = absurd (omega arith)

-- where none of the bits below n differs, each is the same
same-below : (m m' : List ℕ) (n : ℕ) → differing m m' n ≡ 0 → (a : ℕ) → a < n → bit_at m a ≡ bit_at m' a
unfolding differing
same-below m m' zero e a h = absurd (omega arith)
same-below m m' (suc n) e a h = go (same-below m m' n (omega arith) a) (ltb a n) refl
  where
    go : (a < n → bit_at m a ≡ bit_at m' a) → (t : Bool) → ltb a n ≡ t → bit_at m a ≡ bit_at m' a
    go r true p = r (ltb-true _ _ p)
    go r false p = let z : a ≡ n = omega (arith, ltb-false a n p) in rw z (same (bit_at m n) (bit_at m' n) (omega arith))

pub same-of-changed_bits : {n : ℕ} {m m' : List ℕ} → Memory n m → Memory n m' → changed_bits m m' ≡ 0 → m ≡ m'
unfolding changed_bits
same-of-changed_bits {n} {m} {m'} g g' e =
    memory-ext g g' (λ a h. same-below m m' (word_bits * max (length m) (length m')) e a (omega (arith, g.size, g'.size)))

-- A walk that stays in memory: by its pixels' addresses, and by its ends. No contract cites this file. Assumes nothing.
use mathlib.Core.Path.{◌≡◌, refl, sym, subst, ◌∙◌}
use mathlib.Core.Bool.{Bool, true, false, ◌||◌}
use Prim.Native.Nat.{ℕ, zero, suc, ◌+◌, ◌*◌, ◌/◌, ◌%◌, ◌^◌, ◌≤◌, ◌<◌}
use native.Mathlib.Nat.{mod-lt, mul_comm, div-lt_iff_lt-mul}
use native.Mathlib.Decide.{dec_lt}
use native.Mathlib.Omega.{arith}
use lib.Arith.{digits_lt}
use lib.Dec.{eqb, leb, ltb}
use borrow.Author.Tests.{lt-leb, le-ltb, leb-false, ltb-false}
use Rattle.memory.specs.Bits.{no_memory}
use Rattle.memory.proofs.Tests.{or-false-left, or-false-right, cond_same}
use Rattle.walk.specs.declared.Walk.{Walk}
use Rattle.walk.specs.Walk.{address_of}
use Rattle.walk.proofs.Arithmetic.{product-zero}
use Rattle.walk.proofs.WalkLaws.{address_of-at}
use Rattle.extent.specs.Extent.{reaches, leaves_memory}
use Rattle.extent.specs.Reach.{upwards, downwards}
use Rattle.extent.proofs.ReachLaws.{Inside, inside-of-ends, ends-of-inside}

-- ---- addresses at the limit or beyond
module _ (f : ℕ → ℕ) (limit : ℕ) where
  lt-of-reaches : (n : ℕ) → reaches f limit n ≡ false → (i : ℕ) → i < n → f i < limit
  unfolding reaches
  lt-of-reaches zero e i h = absurd (omega arith)
  lt-of-reaches (suc n) e i h = go (lt-of-reaches n (or-false-right (leb limit (f n)) (reaches f limit n) e) i)
    where
      go : (i < n → f i < limit) → f i < limit
      go r = elim (dec_lt i n) [ yes l ↦ r l | no l ↦ last (omega arith) ]
        where
          last : n ≡ i → f i < limit
          last q = subst (λ (x : ℕ). f x < limit) q (leb-false limit (f n) (or-false-left (leb limit (f n)) (reaches f limit n) e))

  reaches-of-lt : (n : ℕ) → ((i : ℕ) → i < n → f i < limit) → reaches f limit n ≡ false
  unfolding reaches
  reaches-of-lt zero h = refl
  reaches-of-lt (suc n) h = rw (lt-leb limit (f n) (h n (omega arith))) (reaches-of-lt n (λ i l. h i (omega arith)))

  -- a test that fails exactly where all addresses are below the limit
  reaches-by : (n : ℕ) (t : Bool) → (t ≡ false → (i : ℕ) → i < n → f i < limit)
      → (((i : ℕ) → i < n → f i < limit) → t ≡ false) → reaches f limit n ≡ t
  reaches-by n false h k = reaches-of-lt n (h refl)
  reaches-by n true h k = go (reaches f limit n) refl
    where
      go : (b : Bool) → reaches f limit n ≡ b → reaches f limit n ≡ true
      go true e = e
      go false e = e ∙ sym (k (lt-of-reaches n e))

-- ---- a walk of some pixels, by its ends
module _ (limit : ℕ) (w : Walk) (cols rows : ℕ) (most : limit ≤ 2 ^ 24) (pos : 0 < cols) (some : 0 < rows)
    (first : w.start < 2 ^ 32) (hp : w.pitch < 2 ^ 32) (hs : w.step < 2 ^ 32) where
  -- all pixels have addresses below the limit, by number and by row and column
  abbrev Below : Type 0
  Below = (i : ℕ) → i < cols * rows → address_of w cols i < limit

  abbrev In : Type 0
  In = Inside limit w cols rows most hp hs

  below-of-inside : In → Below
  unfolding address_of
  below-of-inside h i l = h (i / cols) (i % cols) ((div-lt_iff_lt-mul pos).1 (rw mul_comm l)) (mod-lt i pos)

  inside-of-below : Below → In
  inside-of-below h r c hr hc =
      subst (λ (x : ℕ). x < limit) (address_of-at w cols r c hc) (h (r * cols + c) (rw (mul_comm cols rows) (digits_lt hr hc)))

  pub reaches-ends : reaches (address_of w cols) limit (cols * rows)
      ≡ (leb limit (w.start + (upwards rows w.pitch + upwards cols w.step))
      || ltb w.start (downwards rows w.pitch + downwards cols w.step))
  reaches-ends =
      reaches-by _ limit (cols * rows) (above || below)
      (λ e.
      below-of-inside
      (inside-of-ends limit w cols rows most hp hs
      (leb-false limit _ (or-false-left above below e)) (ltb-false w.start _ (or-false-right above below e))))
      (λ h. let ends = ends-of-inside limit w cols rows most hp hs pos some first (inside-of-below h) in
      rw (lt-leb limit _ ends.0, le-ltb w.start _ ends.1))
    where
      above : Bool
      above = leb limit (w.start + (upwards rows w.pitch + upwards cols w.step))

      below : Bool
      below = ltb w.start (downwards rows w.pitch + downwards cols w.step)

-- ---- a walk that leaves memory
module _ (words : ℕ) (w : Walk) (cols rows : ℕ) where
  leaves_memory-of-memory : no_memory words ≡ false
      → leaves_memory words w cols rows ≡ reaches (address_of w cols) (16 * words) (cols * rows)
  unfolding leaves_memory
  leaves_memory-of-memory e = rw e

  -- a walk of no pixels does not
  pub leaves_memory-of-none : (eqb cols 0 || eqb rows 0) ≡ true → leaves_memory words w cols rows ≡ false
  unfolding leaves_memory reaches
  leaves_memory-of-none e = rw (product-zero cols rows e) (cond_same (no_memory words) false)

  -- one that does not has all its pixels in memory, and the other way round
  pub lt-of-leaves_memory : no_memory words ≡ false → leaves_memory words w cols rows ≡ false
      → (i : ℕ) → i < cols * rows → address_of w cols i < 16 * words
  lt-of-leaves_memory e l = lt-of-reaches _ (16 * words) (cols * rows) (sym (leaves_memory-of-memory e) ∙ l)

  pub leaves_memory-of-lt : ((i : ℕ) → i < cols * rows → address_of w cols i < 16 * words)
      → leaves_memory words w cols rows ≡ false
  unfolding leaves_memory
  leaves_memory-of-lt h = rw (reaches-of-lt _ (16 * words) (cols * rows) h) (cond_same (no_memory words) false)

-- The count of bits that differ: at most one for each bit; 0 for a memory and itself; word by word, the ones of the words' differences.
-- No contract cites this file. Assumes nothing.
use mathlib.Core.Path.{◌≡◌, refl, sym, ap, ap₂, ◌∙◌}
use mathlib.Core.Bool.{Bool, true, false, cond}
use mathlib.Core.List.{List}
use mathlib.Core.Logic.{◌⊎◌, inl, inr}
use Prim.Native.Nat.{ℕ, zero, suc, ◌+◌, ◌*◌, ◌≤◌, ◌<◌, max}
use native.Mathlib.Nat.{zero-add, add-zero, add-suc, suc-add, add_assoc}
use native.Mathlib.Omega.{arith}
use borrow.Author.Tests.{eq-eqb}
use lib.Bits.{bit_xor, xor_lt}
use lib.Count.{ones}
use lib.Dec.{eqb}
use lib.ListN.{length, get_or}
use Rattle.memory.specs.Bits.{Memory, word_bits, bit_of, bit_at, bits_number}
use Rattle.memory.specs.Changed.{differs, differing, changed_bits, word_difference, differing_by_word}
use Rattle.memory.proofs.BitLaws.{bit-lt, bit-cases, bit-xor}
use Rattle.memory.proofs.NumberLaws.{Bits, number-ext, number-own}
use Rattle.memory.proofs.OnesLaws.{bits_sum, ones-number}
use Rattle.memory.proofs.MemoryLaws.{bit_at-word}

differs-le : (b c : ℕ) → differs b c ≤ 1
differs-le b c = go (eqb b c)
  where
    go : (t : Bool) → ◌≤◌ (cond t 0 1) 1
    go true = omega arith
    go false = omega arith

differing-le : (m m' : List ℕ) (n : ℕ) → differing m m' n ≤ n
unfolding differing
differing-le m m' zero = omega arith
differing-le m m' (suc n) = omega (arith, differing-le m m' n, differs-le (bit_at m n) (bit_at m' n))

pub changed_bits-same : (m : List ℕ) → changed_bits m m ≡ 0
unfolding changed_bits differing
changed_bits-same m = go (word_bits * max (length m) (length m))
  where
    go : (n : ℕ) → differing m m n ≡ 0
    go zero = refl
    go (suc n) = rw (go n, eq-eqb (bit_at m n) (bit_at m n) refl)

-- ---- by the word

-- two bits differ where their exclusive or is 1
differs-xor : (b c : ℕ) → b < 2 → c < 2 → differs b c ≡ bit_xor b c
differs-xor b c hb hc = go (bit-cases hb) (bit-cases hc)
  where
    go : (b ≡ 0) ⊎ (b ≡ 1) → (c ≡ 0) ⊎ (c ≡ 1) → differs b c ≡ bit_xor b c
    go (inl e) (inl e') = rw (e, e') refl
    go (inl e) (inr e') = rw (e, e') refl
    go (inr e) (inl e') = rw (e, e') refl
    go (inr e) (inr e') = rw (e, e') refl

module _ {n n' : ℕ} {m m' : List ℕ} (g : Memory n m) (g' : Memory n' m') where
  -- 1 where the bit at a differs, else 0
  abbrev differs_at : ℕ → ℕ
  differs_at a = differs (bit_at m a) (bit_at m' a)

  differs_at-lt : Bits differs_at
  differs_at-lt a = omega (arith, differs-le (bit_at m a) (bit_at m' a))

  -- k bits more
  differing-run : (a k : ℕ) → differing m m' (a + k) ≡ differing m m' a + bits_sum differs_at a k
  unfolding differing bits_sum
  differing-run a zero = ap (differing m m') (add-zero a) ∙ sym (add-zero (differing m m' a))
  differing-run a (suc k) =
      ap (differing m m') (add-suc a k ∙ sym (suc-add a k)) ∙ differing-run (suc a) k
      ∙ add_assoc (differing m m' a) (differs_at a) (bits_sum differs_at (suc a) k)

  module _ (i : ℕ) where
    abbrev v : ℕ
    v = get_or m i 0

    abbrev w : ℕ
    w = get_or m' i 0

    -- the bits of word i that differ are those of its exclusive or
    xor-number : bits_number differs_at (word_bits * i) word_bits ≡ bit_xor v w
    xor-number =
        number-ext differs_at (bit_of (bit_xor v w)) (word_bits * i) 0 word_bits
        (λ j h. ap₂ differs (bit_at-word m i j h) (bit_at-word m' i j h) ∙ differs-xor _ _ (bit-lt v j) (bit-lt w j)
        ∙ sym (bit-xor v w j) ∙ ap (bit_of (bit_xor v w)) (sym (zero-add j)))
        ∙ number-own (bit_xor v w) word_bits (xor_lt word_bits v w (g.words i) (g'.words i))

    -- the differing bits below bit 16 x (i + 1): those below 16 x i, and the ones of the words' exclusive or
    pub differing-word : differing m m' (word_bits * suc i) ≡ differing m m' (word_bits * i) + word_difference v w
    differing-word =
        let e : word_bits * suc i ≡ word_bits * i + word_bits = omega arith in
        ap (differing m m') e ∙ differing-run (word_bits * i) word_bits
        ∙ ap (λ (k : ℕ). differing m m' (word_bits * i) + k)
        (sym (ones-number differs_at differs_at-lt (word_bits * i) word_bits) ∙ ap ones xor-number)

  differing-by-word : (i : ℕ) → differing m m' (word_bits * i) ≡ differing_by_word m m' i
  unfolding differing differing_by_word
  differing-by-word zero = refl
  differing-by-word (suc i) = differing-word i ∙ ap (λ (k : ℕ). k + word_difference (get_or m i 0) (get_or m' i 0)) (differing-by-word i)

  pub changed_bits-by-word : changed_bits m m' ≡ differing_by_word m m' (max (length m) (length m'))
  unfolding changed_bits
  changed_bits-by-word = differing-by-word (max (length m) (length m'))

  pub by-word-le : (i : ℕ) → differing_by_word m m' i ≤ word_bits * i
  by-word-le i = rw (sym (differing-by-word i)) (differing-le m m' (word_bits * i))

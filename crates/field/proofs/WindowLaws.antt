-- A field in a window of one to three words: the window read and stored word by word, and the field in it. No contract cites this file.
-- Assumes nothing.
use mathlib.Core.Path.{◌≡◌, ap, ap₂, ◌∙◌}
use mathlib.Core.List.{List}
use Prim.Native.Nat.{ℕ, ◌+◌, ◌*◌, ◌/◌, ◌%◌, ◌^◌, ◌≤◌, ◌<◌}
use native.Mathlib.Nat.{add_assoc, one-mul, lt_of_lt_of_le, mod-lt}
use native.Mathlib.Omega.{arith}
use lib.ListN.{get_or, set}
use lib.Pow.{pow_pos, pow_mono, shl_exact}
use Rattle.memory.specs.Bits.{Memory, bit_at, bits_number, with_bits, with_field}
use Rattle.memory.proofs.NumberLaws.{number-add, number_lt, number-part}
use Rattle.memory.proofs.MemoryLaws.{bit_at_lt, word_number}
use Rattle.memory.proofs.FieldLaws.{memory-with_field, set-with_field, with_field-add, with_field-window}

-- the k words from word i on
abbrev pub window_of : List ℕ → ℕ → ℕ → ℕ
window_of m i k = bits_number (bit_at m) (16 * i) (16 * k)

module _ {n : ℕ} {m : List ℕ} (g : Memory n m) where
  -- one word, and more after it
  pub window-one : (i : ℕ) → window_of m i 1 ≡ get_or m i 0
  window-one i = word_number g i

  window_more : (i k : ℕ) → window_of m i (1 + k) ≡ get_or m i 0 + 65536 * window_of m (i + 1) k
  window_more i k =
      let e : 16 * (1 + k) ≡ 16 + 16 * k = omega arith in
      let f : 16 * i + 16 ≡ 16 * (i + 1) = omega arith in
      ap (bits_number (bit_at m) (16 * i)) e ∙ number-add (bit_at m) (16 * i) 16 (16 * k)
      ∙ ap₂ (λ (x y : ℕ). x + 65536 * y) (word_number g i) (ap (λ (x : ℕ). bits_number (bit_at m) x (16 * k)) f)

  pub window-two : (i : ℕ) → window_of m i 2 ≡ get_or m i 0 + 65536 * get_or m (i + 1) 0
  window-two i = window_more i 1 ∙ ap (λ (x : ℕ). get_or m i 0 + 65536 * x) (window-one (i + 1))

  pub window-three : (i : ℕ) → window_of m i 3 ≡ get_or m i 0 + 65536 * (get_or m (i + 1) 0 + 65536 * get_or m (i + 2) 0)
  window-three i =
      window_more i 2 ∙ ap (λ (x : ℕ). get_or m i 0 + 65536 * x) (window-two (i + 1))
      ∙ ap (λ (k : ℕ). get_or m i 0 + 65536 * (get_or m (i + 1) 0 + 65536 * get_or m k 0)) (add_assoc i 1 1)

  -- one word stored, and one more
  pub store-one : (i v : ℕ) → i < n → set m i (v % 65536) ≡ with_field m (16 * i) 16 v
  store-one i v h = set-with_field i v g h

  store-more : (i k v : ℕ) → i + k < n
      → set (with_field m (16 * i) (16 * k) v) (i + k) (v / 2 ^ (16 * k) % 65536) ≡ with_field m (16 * i) (16 * k + 16) v
  store-more i k v h =
      let e : 16 * (i + k) ≡ 16 * i + 16 * k = omega arith in
      set-with_field (i + k) (v / 2 ^ (16 * k)) (memory-with_field m (16 * i) (16 * k) v g) h
      ∙ ap (λ (x : ℕ). with_field (with_field m (16 * i) (16 * k) v) x 16 (v / 2 ^ (16 * k))) e
      ∙ with_field-add (16 * i) (16 * k) 16 v g (omega arith)

  pub store_two : (i v : ℕ) → i + 1 < n → set (set m i (v % 65536)) (i + 1) (v / 65536 % 65536) ≡ with_field m (16 * i) 32 v
  store_two i v h = ap (λ (l : List ℕ). set l (i + 1) (v / 65536 % 65536)) (store-one i v (omega arith)) ∙ store-more i 1 v h

  pub store-three : (i v : ℕ) → i + 2 < n
      → set (set (set m i (v % 65536)) (i + 1) (v / 65536 % 65536)) (i + 2) (v / 65536 / 65536 % 65536) ≡ with_field m (16 * i) 48 v
  store-three i v h =
      let e : v / 65536 / 65536 ≡ v / 2 ^ 32 = omega arith in
      ap₂ (λ (l : List ℕ) (x : ℕ). set l (i + 2) (x % 65536)) (store_two i v (omega arith)) e ∙ store-more i 2 v h

-- ---- a field of n bits from bit s on of k words
module _ (m : List ℕ) (i k s n : ℕ) (fits : s + n ≤ 16 * k) where
  pub field-read : bits_number (bit_at m) (16 * i + s) n ≡ window_of m i k / 2 ^ s % 2 ^ n
  field-read = number-part (bit_at m) (bit_at_lt m) (16 * i) (16 * k) s n fits

  pub field-written : (x : ℕ) {words : ℕ} → Memory words m → i + k ≤ words
      → with_field m (16 * i) (16 * k) (with_bits (window_of m i k) s n x) ≡ with_field m (16 * i + s) n x
  field-written x g h = with_field-window (16 * i) (16 * k) s n x g fits (omega arith)

-- a window of at most three words
pub window-lt : (m : List ℕ) (i k : ℕ) → k ≤ 3 → window_of m i k < 2 ^ 48
window-lt m i k h =
    lt_of_lt_of_le (number_lt (bit_at m) (bit_at_lt m) (16 * i) (16 * k)) (pow_mono {i = 16 * k} {j = 48} (omega arith))

-- a shift to the left of n bits by s, in 64 bits
pub shifted : (s n x : ℕ) → s < 16 → n ≤ 32 → x % 2 ^ n * 2 ^ s % 2 ^ 64 ≡ x % 2 ^ n * 2 ^ s
shifted s n x hs hn = shl_exact n s 64 (mod-lt x (pow_pos n)) (omega arith)

-- and of 1, which gives a power of two
pub one-shifted : (n : ℕ) → n < 64 → 1 * 2 ^ n % 2 ^ 64 ≡ 2 ^ n
one-shifted n h = shl_exact 1 n 64 (omega arith) (omega arith) ∙ one-mul (2 ^ n)

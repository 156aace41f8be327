-- Laws of `specs/Listing.antt`: lengths of numbers and lines, and bytes put after others. No contract cites this file. Assumes nothing.
use mathlib.Core.Path.{◌≡◌, refl, sym, ◌∙◌}
use mathlib.Core.Bool.{Bool, true, false}
use mathlib.Core.List.{List, [], ◌∷◌, ◌++◌, append_assoc}
use Prim.Native.Nat.{ℕ, zero, suc, ◌+◌, ◌*◌, ◌/◌, ◌%◌, ◌^◌, ◌≤◌, ◌<◌}
use native.Mathlib.Nat.{pow-suc, add_assoc}
use native.Mathlib.Numerals.{add-one}
use native.Mathlib.Omega.{arith}
use borrow.Author.Tests.{ltb-true, ltb-false, lt-ltb, le-ltb}
use lib.Dec.{ltb}
use lib.ListN.{length, take, drop, set, length-append}
use lib.Seq.{take-length, paste, length-paste, take-paste, drop-paste, drop-drop, set_split, take-append_seam}
use Rattle.ascii.specs.Ascii.{tab, line_end, digit0}
use Rattle.listing.specs.Listing.{digits, most_digits, decimal, numbers_line, line_length, put, refused_line}

-- Decimal numbers

pub digits-small : (k n : ℕ) → n < 10 → digits (suc k) n ≡ (digit0 + n) ∷ []
unfolding digits
digits-small k n h = rw (lt-ltb n 10 h)

pub digits-large : (k n : ℕ) → 10 ≤ n → digits (suc k) n ≡ digits k (n / 10) ++ ((digit0 + n % 10) ∷ [])
unfolding digits
digits-large k n h = rw (le-ltb n 10 h)

by_size : {P : Type 0} (n : ℕ) → (n < 10 → P) → (10 ≤ n → P) → P
by_size {P} n f g = go (ltb n 10) refl
  where
    go : (b : Bool) → ltb n 10 ≡ b → P
    go true e = f (ltb-true n 10 e)
    go false e = g (ltb-false n 10 e)

length-large : (k n : ℕ) → 10 ≤ n → length (digits (suc k) n) ≡ length (digits k (n / 10)) + 1
length-large k n h = rw (digits-large k n h) (length-append (digits k (n / 10)) _)

length-digits-le : (k n : ℕ) → length (digits k n) ≤ k
unfolding digits
length-digits-le zero n = omega arith
length-digits-le (suc k) n =
    by_size n (λ h. rw (digits-small k n h) (omega arith)) (λ h. omega (arith, length-large k n h, length-digits-le k (n / 10)))

length-decimal-le : (n : ℕ) → length (decimal n) ≤ most_digits
length-decimal-le n = length-digits-le most_digits n

-- k + 1 digits are enough below 10 ^ (k + 1)
length-digits-of-lt : (m k n : ℕ) → n < 10 ^ suc k → length (digits m n) ≤ suc k
unfolding digits
length-digits-of-lt zero k n h = omega arith
length-digits-of-lt (suc m) zero n h = rw (digits-small m n h) (omega arith)
length-digits-of-lt (suc m) (suc k) n h =
    by_size n (λ l. rw (digits-small m n l) (omega arith))
    (λ l. omega (arith, length-large m n l, length-digits-of-lt m k (n / 10) (omega (arith, pow-suc 10 (suc k)))))

-- Lines of numbers

pub numbers_line-cons : (n : ℕ) (ns : List ℕ) → 0 < length ns → numbers_line (n ∷ ns) ≡ decimal n ++ (tab ∷ []) ++ numbers_line ns
unfolding numbers_line
numbers_line-cons n [] h = absurd (omega arith)
numbers_line-cons n (m ∷ ns) h = sym (append_assoc (decimal n) (tab ∷ []) (numbers_line (m ∷ ns)))

pub numbers_line-empty : (ns : List ℕ) → length ns ≡ 0 → numbers_line ns ≡ line_end ∷ []
unfolding numbers_line
numbers_line-empty [] h = refl
numbers_line-empty (n ∷ ns) h = absurd (omega arith)

pub length-numbers_line : (ns : List ℕ) → 0 < length ns → length (numbers_line ns) ≡ line_length ns
unfolding numbers_line line_length
length-numbers_line [] h = absurd (omega arith)
length-numbers_line (n ∷ []) h = length-append (decimal n) (line_end ∷ []) ∙ omega arith
length-numbers_line (n ∷ m ∷ ns) h = length-append (decimal n) _ ∙ omega (arith, length-numbers_line (m ∷ ns) (omega arith))

-- no number with the byte after it is longer
abbrev pub most_number : ℕ
most_number = most_digits + 1

pub line_length-le : (ns : List ℕ) → line_length ns ≤ most_number * length ns
unfolding line_length
line_length-le [] = omega arith
line_length-le (n ∷ ns) = omega (arith, length-decimal-le n, line_length-le ns)

-- six numbers, the second below 100, the fourth below 10 and the last below 10 ^ 11, take at most 80 bytes
pub length-six : (a b c d e f : ℕ) → b < 100 → d < 10 → f < 10 ^ 11 → length (numbers_line (a ∷ b ∷ c ∷ d ∷ e ∷ f ∷ [])) ≤ 80
unfolding line_length
length-six a b c d e f hb hd hf =
    omega (
      arith,
      length-numbers_line (a ∷ b ∷ c ∷ d ∷ e ∷ f ∷ []) (omega arith),
      length-decimal-le a,
      length-digits-of-lt most_digits 1 b (omega arith),
      length-decimal-le c,
      length-digits-of-lt most_digits 0 d (omega arith),
      length-decimal-le e,
      length-digits-of-lt most_digits 10 f (omega arith),
    )

pub length-refused_line-le : (number line : ℕ) → length (refused_line number line) ≤ 50
unfolding line_length
length-refused_line-le number line =
    omega (arith, length-numbers_line (number ∷ line ∷ []) (omega arith), length-decimal-le number, length-decimal-le line)

-- Bytes put

pub put-paste : (at : ℕ) (bs out : List ℕ) → put at bs out ≡ paste out at bs (length bs)
unfolding put
put-paste at bs out = rw take-length (sym (append_assoc (take at out) bs _))

pub length-put : (at : ℕ) (bs out : List ℕ) → at + length bs ≤ length out → length (put at bs out) ≡ length out
length-put at bs out h = rw put-paste (length-paste out at bs (length bs) h (omega arith))

-- bytes put after others are put with them
put-after : (at : ℕ) (a b out o : List ℕ) → take (at + length a) o ≡ take at out ++ a → drop (at + length a) o ≡ drop (at + length a) out
    → put (at + length a) b o ≡ put at (a ++ b) out
unfolding put
put-after at a b out o t d =
    rw (t, ← drop-drop (length b) (at + length a) o, d, drop-drop, length-append, ← add_assoc at (length a) (length b)) (simp append_assoc)

pub put-put : (at : ℕ) (a b out : List ℕ) → at + length a ≤ length out → put (at + length a) b (put at a out) ≡ put at (a ++ b) out
put-put at a b out h =
    put-after at a b out (put at a out)
    (rw put-paste (take-paste out at a (length a) (omega arith) (omega arith) ∙ rw take-length))
    (rw put-paste (drop-paste out at a (length a) (omega arith) (omega arith)))

-- one byte put
pub put_one : (at b : ℕ) (out : List ℕ) → at < length out → set out at b ≡ put at (b ∷ []) out
unfolding put
put_one at b out h = set_split out at b h ∙ rw add-one

-- put at the start, they are the first bytes
pub take_put : (bs out : List ℕ) → length bs ≤ length out → take (length bs) (put 0 bs out) ≡ bs
unfolding put
take_put bs out h = take-append_seam bs _

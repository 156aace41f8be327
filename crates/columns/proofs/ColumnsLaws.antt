-- Laws of `specs/Columns.antt`: how long texts and lines are, and what the code holds. No contract cites this file. Assumes nothing.
use mathlib.Core.Path.{◌≡◌, refl, ap, ◌∙◌}
use mathlib.Core.Bool.{Bool, true, false, cond}
use mathlib.Core.List.{List, [], ◌∷◌, ◌++◌, map}
use Prim.Native.Nat.{ℕ, zero, suc, ◌+◌, ◌-◌, ◌/◌, ◌%◌, ◌^◌, ◌≤◌, ◌<◌}
use native.Mathlib.Nat.{pow-suc}
use native.Mathlib.Omega.{arith}
use borrow.Author.Tests.{ltb-true, ltb-false}
use lib.Dec.{ltb}
use lib.ListN.{length, length-append, get_or}
use Rattle.ascii.specs.Ascii.{tab, line_end}
use Rattle.control.specs.Control.{transparency, windowing, right_to_left, bottom_to_top, processing, disabled}
use Rattle.address.specs.Coordinate.{x_of, y_of, negative}
use Rattle.names.specs.Names.{seed_at}
use Rattle.settings.specs.declared.Settings.{Settings}
use Rattle.settings.specs.Settings.{settings_of}
use Rattle.listing.specs.Listing.{digits, most_digits, decimal, line_length}
use Rattle.listing.proofs.ListingLaws.{digits-small, digits-large, line_length-le}
use Rattle.columns.specs.Columns.{minus, signed_text, text_line, column_table, columns_of, columns_line, longest_columns}
use Rattle.columns.specs.declared.Held.{Held}
use Rattle.columns.specs.Held.{held_text, held_line}
use Rattle.columns.proofs.TextLaws.{text_line-cons}

-- what is held is the line
pub held_line-is : (point : ℕ) (vs : List ℕ) (cs : List Held) (s : Settings) (seed : ℕ)
    → map held_text cs ≡ map (λ c. c.text) (column_table point s seed) → s ≡ settings_of vs → seed ≡ get_or vs seed_at 0
    → held_line cs ≡ columns_line point vs
unfolding columns_line
held_line-is point vs cs s seed n f g = rw (n, f, g)

-- How many digits a number has

length-digits-of-lt : (m k n : ℕ) → n < 10 ^ suc k → length (digits m n) ≤ suc k
unfolding digits
length-digits-of-lt zero k n h = omega arith
length-digits-of-lt (suc m) k n h = go (ltb n 10) refl k h (λ i l. length-digits-of-lt m i (n / 10) l)
  where
    go : (b : Bool) → ltb n 10 ≡ b → (k : ℕ) → n < 10 ^ suc k → ((i : ℕ) → n / 10 < 10 ^ suc i → length (digits m (n / 10)) ≤ suc i)
        → length (digits (suc m) n) ≤ suc k
    go true e k h f = rw (digits-small m n (ltb-true n 10 e)) (omega arith)
    go false e zero h f = absurd (omega (arith, ltb-false n 10 e))
    go false e (suc k) h f =
        rw (digits-large m n (ltb-false n 10 e))
        (omega (arith, length-append (digits m (n / 10)) ((48 + n % 10) ∷ []), f k (omega (arith, pow-suc 10 (suc k)))))

length-decimal : (k n : ℕ) → n < 10 ^ suc k → length (decimal n) ≤ suc k
length-decimal k n h = length-digits-of-lt most_digits k n h

length-signed_text : (c : ℕ) → c < 2 ^ 16 → length (signed_text c) ≤ 6
unfolding signed_text
length-signed_text c h = go (negative c)
  where
    go : (b : Bool) → length (cond b (minus ∷ decimal (2 ^ 15 - c)) (decimal (c - 2 ^ 15))) ≤ 6
    go true = omega (arith, length-decimal 4 (2 ^ 15 - c) (omega arith))
    go false = omega (arith, length-decimal 4 (c - 2 ^ 15) (omega arith))

-- How long a line is: after each text stands one byte

abbrev text_length : List (List ℕ) → ℕ
text_length [] = 0
text_length (t ∷ ts) = length t + 1 + text_length ts

length-text_line : (ts : List (List ℕ)) → 0 < length ts → length (text_line ts) ≡ text_length ts
length-text_line [] h = absurd (omega arith)
length-text_line (t ∷ []) h = length-append t (line_end ∷ []) ∙ omega arith
length-text_line (t ∷ u ∷ ts) h =
    ap length (text_line-cons t (u ∷ ts) (omega arith)) ∙ length-append (t ++ (tab ∷ [])) (text_line (u ∷ ts))
    ∙ omega (arith, length-append t (tab ∷ []), length-text_line (u ∷ ts) (omega arith))

-- The most bytes of each column: of any number, a 32-bit and a 16-bit one, the high half of a register, its coordinates, a bit

long : (n : ℕ) → length (decimal n) ≤ 20
unfolding line_length
long n = omega (arith, line_length-le (n ∷ []))

word : (n : ℕ) → length (decimal (n % 2 ^ 32)) ≤ 10
word n = length-decimal 9 (n % 2 ^ 32) (omega arith)

half : (n : ℕ) → length (decimal (n % 2 ^ 16)) ≤ 5
half n = length-decimal 4 (n % 2 ^ 16) (omega arith)

high : (n : ℕ) → length (decimal (n % 2 ^ 32 / 2 ^ 16)) ≤ 5
high n = length-decimal 4 (n % 2 ^ 32 / 2 ^ 16) (omega arith)

x : (n : ℕ) → length (signed_text (x_of n)) ≤ 6
x n = length-signed_text (x_of n) (omega arith)

y : (n : ℕ) → length (signed_text (y_of n)) ≤ 6
y n = length-signed_text (y_of n) (omega arith)

bit : (b : Bool) → length (decimal (cond b 1 0)) ≤ 1
bit true = length-decimal 0 1 (omega arith)
bit false = length-decimal 0 0 (omega arith)

pub length-columns_line : (point : ℕ) (vs : List ℕ) → length (columns_line point vs) ≤ longest_columns
unfolding columns_line settings_of
length-columns_line point vs =
    let v : ℕ → ℕ = λ i. get_or vs i 0 in
    let c : ℕ = v 10 % 2 ^ 16 in
    omega (
      arith,
      length-text_line (columns_of point vs) (omega arith),
      long point,
      word (v 0),
      x (v 0 % 2 ^ 32),
      y (v 0 % 2 ^ 32),
      word (v 1),
      word (v 2),
      x (v 2 % 2 ^ 32),
      y (v 2 % 2 ^ 32),
      word (v 3),
      word (v 4),
      x (v 5 % 2 ^ 32),
      y (v 5 % 2 ^ 32),
      x (v 6 % 2 ^ 32),
      y (v 6 % 2 ^ 32),
      half (v 7 % 2 ^ 32),
      high (v 7),
      word (v 8),
      word (v 9),
      length-decimal 1 (processing c) (omega arith),
      bit (transparency c),
      length-decimal 0 (windowing c) (omega arith),
      bit (right_to_left c),
      bit (bottom_to_top c),
      bit (disabled c),
      half (v 11),
      half (v 12),
      long (v 13),
    )

-- Laws of `specs/Names.antt`. No contract cites this file. Assumes nothing.
use mathlib.Core.Path.{◌≡◌, refl, sym}
use mathlib.Core.Bool.{Bool, true, false, cond, ◌&&◌, and-eq-true_iff}
use mathlib.Core.List.{List, [], ◌∷◌}
use Prim.Native.Nat.{ℕ, zero, suc, ◌+◌, ◌^◌, ◌<◌, ◌≤◌}
use native.Mathlib.Omega.{arith}
use borrow.Author.Tests.{lt-ltb, le-ltb, lt-leb, le-leb, eqb-true, ltb-true, ltb-false}
use lib.Dec.{eqb, ltb}
use lib.ListN.{length, get_or, get_or-map}
use lib.Pow.{pow_pos}
use Rattle.names.specs.Names.{Name, name, name_table, name_count, defaults, bits_of, limit, too_large_for}

-- the count stands by itself: it is the table's
length-table : length name_table ≡ name_count
length-table = refl

-- A test of all rows, each with its number

abbrev rows_pass : (ℕ → Name → Bool) → List Name → Bool
rows_pass p [] = true
rows_pass p (n ∷ ns) = p 0 n && rows_pass (λ i. p (suc i)) ns

rows_pass-get_or : (p : ℕ → Name → Bool) (ns : List Name) (d : Name) → rows_pass p ns ≡ true → ((i : ℕ) → length ns ≤ i → p i d ≡ true)
    → (i : ℕ) → p i (get_or ns i d) ≡ true
rows_pass-get_or p [] d r past i = past i (omega arith)
rows_pass-get_or p (n ∷ ns) d r past zero = ((and-eq-true_iff (p 0 n) (rows_pass (λ i. p (suc i)) ns)).0 r).0
rows_pass-get_or p (n ∷ ns) d r past (suc i) =
    let later = ((and-eq-true_iff (p 0 n) (rows_pass (λ i. p (suc i)) ns)).0 r).1 in
    rows_pass-get_or (λ j. p (suc j)) ns d later (λ j h. past (suc j) (omega arith)) i

abbrev past_table : Name
past_table = name "" 64 0

-- The limits by number: the first ten names have 32 bits, the next three 16, SEED and what is no name 64

abbrev width_of : ℕ → ℕ
width_of i = cond (ltb i 10) 32 (cond (ltb i 13) 16 64)

bits_of-width_of : (i : ℕ) → bits_of i ≡ width_of i
bits_of-width_of i =
    eqb-true _ _
    (rows_pass-get_or (λ j n. eqb n.bits (width_of j)) name_table past_table refl
    (λ j h. rw (le-ltb j 10 (omega arith), le-ltb j 13 (omega arith))) i)

pub limit-wide : (i : ℕ) → i < 10 → 2 ^ 32 ≡ limit i
unfolding limit
limit-wide i h = rw (bits_of-width_of i, lt-ltb i 10 h)

pub limit-narrow : (i : ℕ) → 10 ≤ i → i < 13 → 2 ^ 16 ≡ limit i
unfolding limit
limit-narrow i l h = rw (bits_of-width_of i, le-ltb i 10 l, lt-ltb i 13 h)

pub limit-seed : (i : ℕ) → 13 ≤ i → 2 ^ 64 ≡ limit i
unfolding limit
limit-seed i h = rw (bits_of-width_of i, le-ltb i 10 (omega arith), le-ltb i 13 h)

pub limit-pos : (i : ℕ) → 0 < limit i
unfolding limit
limit-pos i = pow_pos (bits_of i)

-- a value is too large where it is above the greatest one
pub too_large_for-greatest : (i greatest value : ℕ) → greatest + 1 ≡ limit i → ltb greatest value ≡ too_large_for i value
too_large_for-greatest i greatest value e = go (ltb greatest value) refl
  where
    go : (b : Bool) → ltb greatest value ≡ b → b ≡ too_large_for i value
    go true f = sym (le-leb (limit i) value (omega (arith, ltb-true greatest value f)))
    go false f = sym (lt-leb (limit i) value (omega (arith, ltb-false greatest value f)))

-- every default is a value that its name may have
pub default-lt-limit : (i : ℕ) → get_or defaults i 0 < limit i
unfolding limit
default-lt-limit i =
    let row = get_or name_table i past_table in
    let e : get_or defaults i 0 ≡ row.default = get_or-map (λ n. n.default) name_table i past_table in
    let test = rows_pass-get_or (λ j n. ltb n.default (2 ^ n.bits)) name_table past_table refl (λ j h. refl) i in
    rw e (ltb-true row.default (2 ^ row.bits) test)

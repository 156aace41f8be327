-- Bytes put where they fit, else nothing: what each public function leaves. No contract cites this file. Assumes nothing.
use mathlib.Core.Path.{◌≡◌, refl, sym, ap, ◌∙◌}
use mathlib.Core.Bool.{Bool, true, false}
use mathlib.Core.List.{List, [], ◌∷◌, ◌++◌}
use Prim.Native.Nat.{ℕ, ◌+◌, ◌-◌, ◌/◌, ◌^◌, ◌≤◌, ◌<◌}
use native.Mathlib.Omega.{arith}
use borrow.Author.Tests.{leb-true, leb-false, le-leb, lt-leb}
use lib.Dec.{leb}
use lib.ListN.{length, take, set, length-append}
use Rattle.io.specs.Digits.{IsDigitCount}
use Rattle.io.specs.Digits.{last_digits as io·digits}
use Rattle.ascii.specs.Ascii.{digit0}
use Rattle.listing.specs.Listing.{decimal, line_length, put, put_if, index_after}
use Rattle.listing.proofs.DigitsLaws.{decimal-of-fewest, length-of-fewest}
use Rattle.listing.proofs.ListingLaws.{digits-small, most_number, line_length-le, length-put, put-put, put_one, take_put}

-- Tests of what fits

-- two of which each implies the other
pub leb-eq : (a b c d : ℕ) → (a ≤ b → c ≤ d) → (c ≤ d → a ≤ b) → leb a b ≡ leb c d
leb-eq a b c d f g = go (leb a b) (leb c d) refl refl
  where
    go : (p q : Bool) → leb a b ≡ p → leb c d ≡ q → p ≡ q
    go true true e e' = refl
    go true false e e' = absurd (omega (arith, leb-false c d e', f (leb-true a b e)))
    go false true e e' = absurd (omega (arith, leb-false a b e, g (leb-true c d e')))
    go false false e e' = refl

-- past the end nothing fits; before it, what fits into the bytes left
pub past_end : (size at count : ℕ) → size < at → leb (at + count) size ≡ false
past_end size at count h = lt-leb (at + count) size (omega arith)

pub leb-sub : (size at count : ℕ) → at ≤ size → leb count (size - at) ≡ leb (at + count) size
leb-sub size at count h = leb-eq count (size - at) (at + count) size (λ p. omega arith) (λ p. omega arith)

-- so many bytes a number are enough
pub line-fits-most : (size at : ℕ) (ns : List ℕ) → at ≤ size → length ns ≤ (size - at) / most_number → leb (at + line_length ns) size ≡ true
line-fits-most size at ns h l = le-leb (at + line_length ns) size (omega (arith, line_length-le ns))

-- Bytes put where they fit

abbrev pub Placed : ℕ → List ℕ → List ℕ → ℕ → List ℕ → Type 0
Placed at bs out r o = (r ≡ index_after at bs (length out)) × (o ≡ put_if at bs out)

pub placed : (at : ℕ) (bs out : List ℕ) → at + length bs ≤ length out → Placed at bs out (at + length bs) (put at bs out)
placed at bs out h = rw (le-leb _ _ h) (refl, refl)

pub not-placed : (at : ℕ) (bs out : List ℕ) → leb (at + length bs) (length out) ≡ false → Placed at bs out at out
not-placed at bs out e = rw e (refl, refl)

-- what putting bytes that fit leaves
pub fitted : (at : ℕ) (bs out : List ℕ) (r : ℕ) (o : List ℕ) → at + length bs ≤ length out → Placed at bs out r o
    → (r ≡ at + length bs) × (o ≡ put at bs out)
fitted at bs out r o h p = (p.0 ∙ sym (placed at bs out h).0, p.1 ∙ sym (placed at bs out h).1)

-- bytes put after others
pub fitted-append : (at : ℕ) (a b out : List ℕ) (r r' : ℕ) (o o' : List ℕ) → at + length (a ++ b) ≤ length out
    → Placed at a out r o → Placed r b o r' o' → (r' ≡ at + length (a ++ b)) × (o' ≡ put at (a ++ b) out)
fitted-append at a b out r r' o o' h p q =
    let n = length-append a b in
    let f = fitted at a out r o (omega arith) p in
    let g = fitted r b o r' o' (omega (arith, f.0, ap length f.1, length-put at a out (omega arith))) q in
    (omega (arith, f.0, g.0), g.1 ∙ rw (f.0, f.1) (put-put at a b out (omega arith)))

length-ended : (bs : List ℕ) (end : ℕ) → length (bs ++ (end ∷ [])) ≡ length bs + 1
length-ended bs end = length-append bs (end ∷ [])

-- a byte put after bytes
ended-placed : (at end : ℕ) (bs out : List ℕ) → at + (length bs + 1) ≤ length out
    → Placed at (bs ++ (end ∷ [])) out (at + length bs + 1) (set (put at bs out) (at + length bs) end)
ended-placed at end bs out h =
    let room : at + length bs < length (put at bs out) = omega (arith, length-put at bs out (omega arith)) in
    rw (length-ended bs end, le-leb _ _ h)
    (omega arith, put_one (at + length bs) end (put at bs out) room ∙ put-put at bs (end ∷ []) out (omega arith))

-- the kit's digits put, and a byte after them
module _ (at n end k : ℕ) (out : List ℕ) (small : n < 2 ^ 64) (fewest : IsDigitCount 10 1 n k) where
  pub number-placed : (t o : List ℕ) → t ≡ io·digits 10 k n → o ≡ put at t out → at + (k + 1) ≤ length out
      → Placed at (decimal n ++ (end ∷ [])) out (at + k + 1) (set o (at + k) end)
  number-placed t o e p h =
      let d : t ≡ decimal n = e ∙ sym (decimal-of-fewest k n small fewest) in
      let l : k ≡ length (decimal n) = sym (length-of-fewest k n small fewest) in
      rw (p, d, l) (ended-placed at end (decimal n) out (rw l at h))

  pub number-not-placed : leb (at + (k + 1)) (length out) ≡ false → Placed at (decimal n ++ (end ∷ [])) out at out
  number-not-placed h = not-placed at (decimal n ++ (end ∷ [])) out (rw (length-ended (decimal n) end, length-of-fewest k n small fewest) h)

-- a number of one digit, and a byte after it
digit-is : (n : ℕ) → n < 10 → decimal n ≡ (digit0 + n) ∷ []
digit-is n h = digits-small 19 n h

module _ (at n end : ℕ) (out : List ℕ) (small : n < 10) where
  pub digit-placed : leb (at + 2) (length out) ≡ true
      → Placed at (decimal n ++ (end ∷ [])) out (at + 1 + 1) (set (set out at (digit0 + n)) (at + 1) end)
  digit-placed e =
      let h : at + 2 ≤ length out = leb-true _ _ e in
      rw (digit-is n small, put_one at (digit0 + n) out (omega arith)) (ended-placed at end ((digit0 + n) ∷ []) out h)

  pub digit-not-placed : leb (at + 2) (length out) ≡ false → Placed at (decimal n ++ (end ∷ [])) out at out
  digit-not-placed e = rw (digit-is n small) (not-placed at ((digit0 + n) ∷ end ∷ []) out e)

-- bytes put at the start of a text: how many there are, and the text's part with them
pub first-bytes : (bs t : List ℕ) → length bs ≤ length t → (k : ℕ) (o : List ℕ) → k ≡ 0 + length bs → o ≡ put 0 bs t
    → (k ≤ length o) × (k ≡ length (take k o)) × (take k o ≡ bs)
first-bytes bs t h k o e p =
    let n : k ≡ length bs = omega arith in
    let q : take k o ≡ bs = rw (n, p) (take_put bs t h) in
    (omega (arith, ap length p, length-put 0 bs t (omega arith)), n ∙ sym (ap length q), q)

-- Values joined bit by bit against a name's limit (`Rattle.names.specs.Names`), and the greatest
-- value. No contract cites this file. Assumes nothing.
use mathlib.Core.Path.{◌≡◌, refl, sym, ◌∙◌}
use mathlib.Core.Bool.{Bool, true, false, ◌||◌}
use mathlib.Core.List.{List}
use Prim.Native.Nat.{ℕ, ◌+◌, ◌^◌, ◌<◌, ◌≤◌}
use native.Mathlib.Numerals.{add-one}
use native.Mathlib.Omega.{arith}
use borrow.Author.Tests.{lt-leb, le-leb, leb-true, leb-false}
use lib.Bits.{bit_or, or_lt, or_add_and, and_le_l, and_le_r}
use lib.Dec.{ltb, leb}
use lib.ListN.{length, get_or, take}
use lib.Seq.{take-suc, take_all}
use Rattle.lists.specs.Search.{any}
use Rattle.lists.proofs.SearchLaws.{any_snoc}
use Rattle.names.specs.Names.{bits_of, limit}
use Rattle.names.proofs.NamesLaws.{limit-pos, too_large_for-greatest}

-- joined, two numbers reach a power of two exactly where one of them does
leb-or : (k x y : ℕ) → leb (2 ^ k) (bit_or x y) ≡ (leb (2 ^ k) y || leb (2 ^ k) x)
leb-or k x y = go (leb (2 ^ k) y) (leb (2 ^ k) x) refl refl
  where
    go : (b c : Bool) → leb (2 ^ k) y ≡ b → leb (2 ^ k) x ≡ c → leb (2 ^ k) (bit_or x y) ≡ (b || c)
    go true c e f = le-leb (2 ^ k) _ (omega (arith, or_add_and x y, and_le_l x y, leb-true (2 ^ k) y e))
    go false true e f = le-leb (2 ^ k) _ (omega (arith, or_add_and x y, and_le_r x y, leb-true (2 ^ k) x f))
    go false false e f = lt-leb (2 ^ k) _ (or_lt k x y (leb-false (2 ^ k) x f) (leb-false (2 ^ k) y e))

leb-or-limit : (name x y : ℕ) → leb (limit name) (bit_or x y) ≡ (leb (limit name) y || leb (limit name) x)
unfolding limit
leb-or-limit name = leb-or (bits_of name)

-- The loop over an axis's values

abbrev pub Joined : ℕ → List ℕ → ℕ → ℕ → Type 0
Joined name vs all i = leb (limit name) all ≡ any (leb (limit name)) (take i vs)

pub joined-start : (name : ℕ) (vs : List ℕ) → Joined name vs 0 0
unfolding any
joined-start name vs = lt-leb (limit name) 0 (limit-pos name)

pub joined-next : (name : ℕ) (vs : List ℕ) (all i : ℕ) → i < length vs → Joined name vs all i
    → Joined name vs (bit_or all (get_or vs i 0)) (i + 1)
joined-next name vs all i h e =
    leb-or-limit name all (get_or vs i 0)
    ∙ rw (e, add-one i, take-suc vs i 0 h) (sym (any_snoc (leb (limit name)) (get_or vs i 0) (take i vs)))

-- Every alignment and size is of exactly one of the cases A to G: a test that computes over all 512 of them. No contract cites this file.
-- Assumes nothing.
use mathlib.Core.Path.{◌≡◌, refl, sym, ap, ◌∙◌}
use mathlib.Core.Bool.{Bool, true, false, ◌&&◌, and-eq-true_iff}
use Prim.Native.Nat.{ℕ, zero, suc, ◌-◌, ◌≤◌, ◌<◌}
use native.Mathlib.Omega.{arith}
use borrow.Author.Tests.{ltb-true, ltb-false, eqb-true}
use lib.Dec.{eqb, ltb}
use Rattle.timing.specs.Cycles.{is_case, cases, case_of, holding}

-- ---- a test of every number below k
abbrev all_below : ℕ → (ℕ → Bool) → Bool
all_below zero f = true
all_below (suc k) f = f k && all_below k f

below : (k : ℕ) (f : ℕ → Bool) → all_below k f ≡ true → (i : ℕ) → i < k → f i ≡ true
below zero f e i h = absurd (omega arith)
below (suc k) f e i h = go (below k f ((and-eq-true_iff (f k) (all_below k f)).0 e).1 i) (ltb i k) refl
  where
    go : (i < k → f i ≡ true) → (t : Bool) → ltb i k ≡ t → f i ≡ true
    go r true p = r (ltb-true i k p)
    go r false p =
        let z : i ≡ k = omega (arith, ltb-false i k p) in
        ap f z ∙ ((and-eq-true_iff (f k) (all_below k f)).0 e).0

-- at alignment s and size n + 1 one case holds, and it is the one that `case_of` gives
one : ℕ → ℕ → Bool
one s n = eqb (holding cases s (suc n)) 1 && is_case (case_of s (suc n)) s (suc n)

all_one : all_below 16 (λ s. all_below 32 (one s)) ≡ true
unfolding one case_of
all_one = refl

pub one-case : (s n : ℕ) → s < 16 → 0 < n → n ≤ 32 → (holding cases s n ≡ 1) × (is_case (case_of s n) s n ≡ true)
unfolding one
one-case s n hs p hn =
    let t : ℕ → Bool = λ k. eqb (holding cases s k) 1 && is_case (case_of s k) s k in
    let z : suc (n - 1) ≡ n = omega arith in
    let e : t n ≡ true =
    ap t (sym z) ∙ below 32 (one s) (below 16 (λ i. all_below 32 (one i)) all_one s hs) (n - 1) (omega arith) in (
      eqb-true (holding cases s n) 1 ((and-eq-true_iff (eqb (holding cases s n) 1) (is_case (case_of s n) s n)).0 e).0,
      ((and-eq-true_iff (eqb (holding cases s n) 1) (is_case (case_of s n) s n)).0 e).1,
    )

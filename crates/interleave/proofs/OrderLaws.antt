-- Numbers in an order. No contract cites this file. Assumes nothing.
use mathlib.Core.Path.{sym, ◌∙◌}
use mathlib.Core.Logic.{inl, inr, ◌≢◌, by_cases}
use mathlib.Core.List.{List, [], ◌∷◌}
use Prim.Native.Nat.{ℕ, zero, suc, ◌<◌}
use native.Mathlib.Decide.{ℕ_discrete}
use native.Mathlib.Omega.{arith}
use Rattle.interleave.specs.Order.{In, Distinct, Order}

pub in-ne : (j x : ℕ) (xs : List ℕ) → In j xs → (In x xs → ⊥) → j ≢ x
in-ne j x [] x3 h = elim x3 [ ]
in-ne j x (y ∷ ys) (inl e) h = λ p. h (inl (sym p ∙ e))
in-ne j x (y ∷ ys) (inr i) h = in-ne j x ys i (λ k. h (inr k))

-- the numbers below n, in one order
unfoldable below : ℕ → List ℕ
below zero = []
below (suc n) = n ∷ below n

in-below-lt : (n j : ℕ) → In j (below n) → j < n
unfolding below
in-below-lt zero j x' = elim x' [ ]
in-below-lt (suc n) j (inl e) = omega arith
in-below-lt (suc n) j (inr i) = let h : j < n = in-below-lt n j i in omega arith

in-below : (n j : ℕ) → j < n → In j (below n)
unfolding below
in-below zero j h = absurd (omega arith)
in-below (suc n) j h = by_cases (ℕ_discrete j n) (λ e. inl e) (λ ne. inr (in-below n j (omega arith)))

distinct-below : (n : ℕ) → Distinct (below n)
unfolding below
distinct-below zero = tt
distinct-below (suc n) = (λ i. let h : n < n = in-below-lt n n i in omega arith, distinct-below n)

-- there is an order
pub some_order : (n : ℕ) → (os : List ℕ) × Order n os
some_order n = (below n, record { once = distinct-below n; all = in-below n; only = in-below-lt n })

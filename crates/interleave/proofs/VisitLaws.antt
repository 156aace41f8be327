-- Steps one after another, from any step on. No contract cites this file. Assumes nothing.
use mathlib.Core.Path.{◌≡◌, refl, sym, ap, ap₂, ◌∙◌}
use Prim.Native.Nat.{ℕ, zero, suc, ◌+◌, ◌<◌}
use native.Mathlib.Nat.{add-zero, add-suc, zero-add}
use native.Mathlib.Omega.{arith}

-- c steps of f, from step k on
unfoldable pub visits : {S : Type 0} → (ℕ → S → S) → ℕ → ℕ → S → S
visits f k zero m = m
visits f k (suc c) m = f (k + c) (visits f k c m)

-- the steps below k
unfoldable pub upto : {S : Type 0} → (ℕ → S → S) → ℕ → S → S
upto f zero m = m
upto f (suc k) m = f k (upto f k m)

module _ {S : Type 0} (f : ℕ → S → S) where
  pub visits-zero : (c : ℕ) (m : S) → visits f 0 c m ≡ upto f c m
  unfolding visits upto
  visits-zero zero m = refl
  visits-zero (suc c) m = ap₂ f (zero-add c) (visits-zero c m)

  pub visits-upto : (k c : ℕ) (m : S) → visits f k c (upto f k m) ≡ upto f (k + c) m
  unfolding visits upto
  visits-upto k zero m = ap (λ (x : ℕ). upto f x m) (sym (add-zero k))
  visits-upto k (suc c) m = ap (f (k + c)) (visits-upto k c m) ∙ ap (λ (x : ℕ). upto f x m) (sym (add-suc k c))

  -- what every step keeps
  pub visits-keep : (P : S → Type 0) (k c : ℕ) → ((i : ℕ) → i < k + c → (m : S) → P m → P (f i m)) → (m : S) → P m → P (visits f k c m)
  unfolding visits
  visits-keep P k zero h m g = g
  visits-keep P k (suc c) h m g = h (k + c) (omega arith) (visits f k c m) (visits-keep P k c (λ i hi. h i (omega arith)) m g)

  pub upto-keep : (P : S → Type 0) (k : ℕ) → ((i : ℕ) → i < k → (m : S) → P m → P (f i m)) → (m : S) → P m → P (upto f k m)
  unfolding upto
  upto-keep P zero h m g = g
  upto-keep P (suc k) h m g = h k (omega arith) (upto f k m) (upto-keep P k (λ i hi. h i (omega arith)) m g)

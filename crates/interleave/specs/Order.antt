-- Orders: the numbers below a count, each once. Assumes nothing.
use Rattle.std.specs.Prelude.{◌≡◌, ◌⊎◌, List, [], ◌∷◌, ℕ, ◌<◌}

-- j stands in a list
abbrev pub In : ℕ → List ℕ → Type 0
In j [] = ⊥
In j (x ∷ xs) = (j ≡ x) ⊎ In j xs

-- no number stands in it twice
abbrev pub Distinct : List ℕ → Type 0
Distinct [] = Unit
Distinct (x ∷ xs) = (In x xs → ⊥) × Distinct xs

-- the numbers below count, each once, in some order
pub record Order (count : ℕ) (os : List ℕ) : Type 0 where
  pub once : Distinct os
  pub all : (j : ℕ) → j < count → In j os
  pub only : (j : ℕ) → In j os → j < count

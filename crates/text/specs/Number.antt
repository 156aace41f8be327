-- Numbers are decimal without leading zeros, at most 2^64 - 1 (the scope, "Plans and images").
-- Assumes nothing.
use Rattle.std.specs.Prelude.{Bool, true, cond, ◌&&◌, List, [], ◌∷◌, ℕ, ◌+◌, ◌-◌, ◌*◌, ◌^◌, eqb, ltb, leb}
use Rattle.std.specs.Prelude.{Option, Some, None}
use Rattle.ascii.specs.Ascii.{digit0, digit9}

-- a byte from `0` to `9`; bytes that all are
abbrev pub is_digit : ℕ → Bool
is_digit c = leb digit0 c && leb c digit9

unfoldable pub are_digits : List ℕ → Bool
are_digits [] = true
are_digits (c ∷ cs) = is_digit c && are_digits cs

-- the value of digits that follow a value
unfoldable pub digits_value : ℕ → List ℕ → ℕ
digits_value v [] = v
digits_value v (c ∷ cs) = digits_value (v * 10 + (c - digit0)) cs

-- a value, where it is at most 2^64 - 1
abbrev pub fitting : ℕ → Option ℕ
fitting v = cond (ltb v (2 ^ 64)) (Some v) None

-- digits that follow a value; one digit
abbrev pub digits_of : ℕ → List ℕ → Option ℕ
digits_of v cs = cond (are_digits cs) (fitting (digits_value v cs)) None

abbrev pub pushed : ℕ → ℕ → Option ℕ
pushed v c = cond (is_digit c) (fitting (v * 10 + (c - digit0))) None

-- a field as a number: not an empty one, and no leading zero but in 0 itself
unfoldable pub number_of : List ℕ → Option ℕ
number_of [] = None
number_of (c ∷ []) = digits_of 0 (c ∷ [])
number_of (c ∷ d ∷ cs) = cond (eqb c digit0) None (digits_of 0 (c ∷ d ∷ cs))

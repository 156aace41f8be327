-- Searches in a list by a computed test. Assumes nothing.
use Rattle.std.specs.Prelude.{Bool, false, cond, ◌||◌, List, [], ◌∷◌, ℕ, suc}

-- does some element pass the test?
unfoldable pub any : {A : Type 0} → (A → Bool) → List A → Bool
any p [] = false
any p (x ∷ xs) = p x || any p xs

-- the index of the first element that passes the test, or the length where none does
unfoldable pub first : {A : Type 0} → (A → Bool) → List A → ℕ
first p [] = 0
first p (x ∷ xs) = cond (p x) 0 (suc (first p xs))

-- does some element stand in the relation to a later one?
unfoldable pub any_pair : {A : Type 0} → (A → A → Bool) → List A → Bool
any_pair r [] = false
any_pair r (x ∷ xs) = any (r x) xs || any_pair r xs

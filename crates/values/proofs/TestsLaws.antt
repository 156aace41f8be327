-- Laws of `specs/Tests.antt`: searches among the values of fields. No contract cites this file. Assumes nothing.
use mathlib.Core.Path.{◌≡◌, refl}
use mathlib.Core.Bool.{Bool}
use mathlib.Core.List.{List, [], ◌∷◌, map}
use Prim.Native.Nat.{ℕ, ◌+◌}
use native.Mathlib.Numerals.{add-one}
use lib.Dec.{ltb, leb}
use Rattle.lists.specs.Search.{any}
use Rattle.tabs.specs.Fields.{field_value}
use Rattle.values.specs.Tests.{is_above}

pub any-map : {A B : Type 0} (p : B → Bool) (f : A → B) (l : List A) → any p (map f l) ≡ any (λ x. p (f x)) l
unfolding any
any-map p f [] = refl
any-map p f (x ∷ l) = rw (any-map p f l)

-- at or above a limit is above the greatest value below it
pub any-above : (most limit : ℕ) (fs : List (List ℕ)) → most + 1 ≡ limit
    → any (leb limit) (map field_value fs) ≡ any (is_above most) fs
any-above most limit fs e = rw (← e, add-one) (any-map (ltb most) field_value fs)

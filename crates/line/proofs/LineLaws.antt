-- Laws of `specs/Line.antt`. No contract cites this file. Assumes nothing.
use mathlib.Core.Path.{◌≡◌, refl}
use mathlib.Core.Bool.{cond}
use mathlib.Core.List.{List, [], ◌∷◌}
use Prim.Native.Nat.{ℕ, suc}
use native.Mathlib.Omega.{arith}
use borrow.Author.Tests.{ne_eqb}
use lib.ListN.{length, get_or}
use Rattle.names.specs.Drawings.{drawing_count}
use Rattle.line.specs.Words.{memory_word, draw_word}
use Rattle.tabs.specs.Fields.{field_value}
use Rattle.line.specs.Line.{size_of, drawing_number, memory_of, draw_of}
use Rattle.line.specs.Tests.{is_pair}

-- A line of two fields

pub memory_of-is_pair : (fields : List (List ℕ))
    → memory_of fields ≡ cond (is_pair memory_word fields) (size_of (field_value (get_or fields 1 []))) 0
unfolding memory_of
memory_of-is_pair [] = refl
memory_of-is_pair (word ∷ []) = refl
memory_of-is_pair (word ∷ size ∷ []) = refl
memory_of-is_pair (word ∷ size ∷ f ∷ fs) = rw (ne_eqb (suc (suc (suc (length fs)))) 2 (λ e. omega arith))

pub draw_of-is_pair : (fields : List (List ℕ))
    → draw_of fields ≡ cond (is_pair draw_word fields) (drawing_number (get_or fields 1 [])) drawing_count
unfolding draw_of
draw_of-is_pair [] = refl
draw_of-is_pair (word ∷ []) = refl
draw_of-is_pair (word ∷ name ∷ []) = refl
draw_of-is_pair (word ∷ name ∷ f ∷ fs) = rw (ne_eqb (suc (suc (suc (length fs)))) 2 (λ e. omega arith))

-- Names and drawings are the fields of one text each: a word's number is found there. No contract cites this file. Assumes nothing.
use mathlib.Core.Path.{◌≡◌, refl, ap, ◌∙◌}
use mathlib.Core.List.{List}
use Prim.Native.Nat.{ℕ}
use Rattle.lists.specs.Search.{first}
use Rattle.ascii.specs.Ascii.{joined}
use Rattle.names.specs.Names.{names}
use Rattle.names.specs.Drawings.{drawing_names}
use Rattle.text.specs.Text.{in_front, parts, fields_of, same}
use Rattle.line.specs.Line.{name_number, drawing_number}

names-joined : fields_of (joined names) ≡ names
unfolding in_front parts
names-joined = refl

drawings-joined : fields_of (joined drawing_names) ≡ drawing_names
unfolding in_front parts
drawings-joined = refl

module _ (word list : List ℕ) where
  pub name_number-joined : list ≡ joined names → first (same word) (fields_of list) ≡ name_number word
  name_number-joined e = ap (λ (l : List ℕ). first (same word) (fields_of l)) e ∙ ap (first (same word)) names-joined

  pub drawing_number-joined : list ≡ joined drawing_names → first (same word) (fields_of list) ≡ drawing_number word
  drawing_number-joined e = ap (λ (l : List ℕ). first (same word) (fields_of l)) e ∙ ap (first (same word)) drawings-joined

-- The values of an axis line by the blocks of them that are read. No contract cites this file. Assumes nothing.
use mathlib.Core.Path.{◌≡◌, refl, sym, ap, ◌∙◌}
use mathlib.Core.Bool.{Bool, true, false, ◌||◌}
use mathlib.Core.List.{List, map}
use Prim.Native.Nat.{ℕ, ◌+◌, ◌-◌, min}
use native.Mathlib.Omega.{arith}
use borrow.Author.Tests.{leb-true, leb-false, lt-ltb, le-ltb}
use lib.Dec.{ltb, leb}
use lib.ListN.{length, length-take, length-drop}
use lib.Seq.{length-take-le}
use Rattle.text.specs.Text.{fields_of}
use Rattle.names.specs.Names.{limit}
use Rattle.points.specs.Axes.{axis_length, most_axes, most_values}
use Rattle.points.proofs.AxesLaws.{axis_length-listed, axis_values-listed}
use Rattle.values.specs.declared.Block.{Block}
use Rattle.tabs.specs.Fields.{field_value}
use Rattle.line.specs.Line.{name_of}
use Rattle.axis.specs.Axis.{values_of, axis_of, bad_values, too_many}
use Rattle.tabs.specs.Fields.{third_at}
use Rattle.values.specs.Block.{values_from}
use Rattle.tabs.proofs.FieldsLaws.{fields_from-cons, fields_from-past, fields_from-third_at}
use Rattle.values.proofs.BlockLaws.{Held, bad_from}

-- At the third field these are the values of an axis line, against the greatest of its name
pub bad_from-third_at : (line : List ℕ) (from name most : ℕ) → from ≡ third_at line → name ≡ name_of (fields_of line)
    → most + 1 ≡ limit name
    → bad_from line from most ≡ bad_values (axis_of (fields_of line))
unfolding values_of
bad_from-third_at line from name most at named greatest =
    rw (at, greatest, named, fields_from-third_at line, axis_values-listed (axis_of (fields_of line)))

-- More than 64 values: some are left behind the first block

module _ {line : List ℕ} {from most : ℕ} {b : Block} (at : Held line from most b) where
  block-left : ltb 64 (length (values_from line from)) ≡ leb b.behind (length line)
  block-left = go _ refl
    where
      left : length (values_from line b.behind) ≡ length (values_from line from) - 64
      left = ap length at.left ∙ length-drop 64 (values_from line from)

      go : (t : Bool) → leb b.behind (length line) ≡ t → ltb 64 (length (values_from line from)) ≡ t
      go true t =
          let some = ap (λ (fs : List (List ℕ)). length (map field_value fs)) (fields_from-cons line b.behind _ refl (leb-true _ _ t)) in
          lt-ltb 64 (length (values_from line from)) (omega (arith, left, some))
      go false t =
          let none = ap (λ (fs : List (List ℕ)). length (map field_value fs)) (fields_from-past line b.behind (leb-false _ _ t)) in
          le-ltb 64 (length (values_from line from)) (omega (arith, left, none))

  pub count-third_at : from ≡ third_at line → b.count ≡ min most_values (axis_length (axis_of (fields_of line)))
  unfolding values_of axis_length
  count-third_at e =
      sym (length-take-le b.count b.values at.room)
      ∙ ap length at.held
      ∙ length-take most_values (values_from line from)
      ∙ rw (e, fields_from-third_at line)

  pub too_many-third_at : (axes : ℕ) → from ≡ third_at line
      → too_many axes (axis_of (fields_of line)) ≡ (leb most_axes axes || leb b.behind (length line))
  unfolding values_of
  too_many-third_at axes e =
      rw (axis_length-listed (axis_of (fields_of line)), ← fields_from-third_at line, ← e)
      (ap (λ (t : Bool). leb most_axes axes || t) block-left)

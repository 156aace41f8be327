-- Laws of `specs/Table.antt`: a table holds the axes that it was made of. No contract cites this file. Assumes nothing.
use mathlib.Core.Path.{◌≡◌, refl, ap, ◌∙◌}
use mathlib.Core.Bool.{true, false}
use mathlib.Core.List.{List, [], ◌∷◌, ◌++◌, append_assoc}
use Prim.Native.Nat.{ℕ, ◌+◌, ◌*◌, ◌≤◌}
use native.Mathlib.Omega.{arith}
use borrow.Author.Tests.{leb-false, lt-ltb, le-leb}
use lib.ListN.{length, length-append}
use lib.Seq.{take_at, drop_at}
use Rattle.lists.specs.Search.{any}
use Rattle.lists.proofs.TestLaws.{or-eq-false}
use Rattle.points.specs.Axes.{Axis, axis_length, axis_values, most_axes, most_values, count}
use Rattle.points.specs.Table.{entry_of, table_of, axis_in, axes_in, later_in, holds_axis, holds, points_in}
use Rattle.points.specs.OneToOne.{unknown, bad_length, too_large, Sound}
use Rattle.points.proofs.AxesLaws.{axis_length-listed, length-axis_values, axis_values-listed, good_length}

-- an axis's own numbers, where its values are listed
pub entry_of-listed : (a : Axis) → entry_of a ≡ a.name ∷ length a.values ∷ a.values
entry_of-listed a = rw (axis_length-listed a, axis_values-listed a)

-- an axis, and what follows it in a table
abbrev front : Axis → List ℕ → List ℕ
front a t = entry_of a ++ t

table_of-front : (a : Axis) (later : List Axis) (rest : List ℕ) → table_of (a ∷ later) ++ rest ≡ front a (table_of later ++ rest)
unfolding table_of
table_of-front a later rest = append_assoc (entry_of a) (table_of later) rest

axis_in-front : (a : Axis) (t : List ℕ) → axis_in (front a t) ≡ a
axis_in-front a t =
    ap (λ (vs : List ℕ). record { name = a.name; values = vs })
    (take_at (axis_values a) t (axis_length a) (length-axis_values a) ∙ axis_values-listed a)

later_in-front : (a : Axis) (t : List ℕ) → later_in (front a t) ≡ t
later_in-front a t = drop_at (entry_of a) t (2 + axis_length a) (omega (arith, length-axis_values a))

pub axes_in-table_of : (axes : List Axis) (rest : List ℕ) → axes_in (length axes) (table_of axes ++ rest) ≡ axes
unfolding axes_in
axes_in-table_of [] rest = refl
axes_in-table_of (a ∷ later) rest =
    rw (
      table_of-front a later rest,
      axis_in-front a (table_of later ++ rest),
      later_in-front a
          (table_of later ++ rest),
      axes_in-table_of later rest,
    )

pub length-table_of-le : (axes : List Axis) → any bad_length axes ≡ false → length (table_of axes) ≤ (2 + most_values) * length axes
unfolding any table_of
length-table_of-le [] l = omega arith
length-table_of-le (a ∷ later) l =
    let p = or-eq-false (bad_length a) _ l in
    omega (arith, length-append (entry_of a) (table_of later), length-axis_values a, good_length a p.0, length-table_of-le later p.1)

pub table_of-append : (axes more : List Axis) → table_of (axes ++ more) ≡ table_of axes ++ table_of more
unfolding table_of
table_of-append [] more = refl
table_of-append (a ∷ later) more = rw (table_of-append later more, append_assoc (entry_of a) (table_of later) (table_of more))

holds_axis-front : (a : Axis) (t : List ℕ) → unknown a ≡ false → bad_length a ≡ false → too_large a ≡ false → holds_axis (front a t) ≡ true
unfolding holds_axis
holds_axis-front a t u l s =
    let n = axis_length a in
    let (some, few) = good_length a l in
    rw (
      lt-ltb a.name 14 (leb-false 14 a.name u),
      le-leb 1 n some,
      le-leb n most_values few,
      le-leb (2 + n) (length (front a t)) (omega (arith, length-append (entry_of a) t, length-axis_values a)),
      ap too_large (axis_in-front a t) ∙ s,
    )

holds-table_of : (axes : List Axis) (rest : List ℕ) → any unknown axes ≡ false → any bad_length axes ≡ false → any too_large axes ≡ false
    → holds (length axes) (table_of axes ++ rest) ≡ true
unfolding any holds
holds-table_of [] rest u l s = refl
holds-table_of (a ∷ later) rest u l s =
    let p = or-eq-false (unknown a) _ u in
    let q = or-eq-false (bad_length a) _ l in
    let r = or-eq-false (too_large a) _ s in
    rw (table_of-front a later rest, holds_axis-front a (table_of later ++ rest) p.0 q.0 r.0, later_in-front a (table_of later ++ rest))
    (holds-table_of later rest p.1 q.1 r.1)

-- so the points of an accepted plan's table are the plan's
module _ (axes : List Axis) (rest : List ℕ) (s : Sound axes) where
  pub points_in-table_of : points_in (length axes) (table_of axes ++ rest) ≡ count axes
  points_in-table_of =
      rw (le-leb (length axes) most_axes s.few, holds-table_of axes rest s.known s.lengths s.small, axes_in-table_of axes rest)

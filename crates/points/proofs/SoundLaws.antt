-- Laws of an accepted plan's axes (`Sound` of `specs/OneToOne.antt`). No contract cites this file. Assumes nothing.
use mathlib.Core.Path.{◌≡◌}
use mathlib.Core.Bool.{false}
use mathlib.Core.List.{List, [], ◌∷◌}
use Prim.Native.Nat.{◌<◌}
use native.Mathlib.Omega.{arith}
use borrow.Author.Tests.{leb-false}
use lib.Dec.{eqb}
use Rattle.lists.specs.Search.{any, any_pair}
use Rattle.lists.proofs.TestLaws.{or-eq-false}
use Rattle.points.specs.Axes.{Axis, axis_length, axis_values}
use Rattle.points.specs.OneToOne.{is_named, same_name, unknown, bad_length, too_large, repeats, Sound}
use Rattle.points.proofs.AxesLaws.{good_length}
use Rattle.points.proofs.PointsLaws.{Filled}

-- An accepted plan's first axis, and the others

pub record First (a : Axis) (later : List Axis) : Type 0 where
  pub known : a.name < 14
  pub distinct : any (is_named a.name) later ≡ false
  pub filled : 0 < axis_length a
  pub once : any_pair eqb (axis_values a) ≡ false

pub first-sound : (a : Axis) (later : List Axis) → Sound (a ∷ later) → First a later
unfolding any any_pair
first-sound a later s =
    record {
      known = leb-false 14 a.name (or-eq-false (unknown a) _ s.known).0;
      distinct = (or-eq-false (any (same_name a) later) _ s.distinct).0;
      filled = (good_length a (or-eq-false (bad_length a) _ s.lengths).0).0;
      once = (or-eq-false (repeats a) _ s.unrepeated).0;
    }

pub later-sound : (a : Axis) (later : List Axis) → Sound (a ∷ later) → Sound later
unfolding any any_pair
later-sound a later s =
    record {
      few = omega (arith, s.few);
      known = (or-eq-false (unknown a) _ s.known).1;
      distinct = (or-eq-false (any (same_name a) later) _ s.distinct).1;
      lengths = (or-eq-false (bad_length a) _ s.lengths).1;
      small = (or-eq-false (too_large a) _ s.small).1;
      unrepeated = (or-eq-false (repeats a) _ s.unrepeated).1;
    }

pub sound-filled : (axes : List Axis) → Sound axes → Filled axes
sound-filled [] s = tt
sound-filled (a ∷ later) s = ((first-sound a later s).filled, sound-filled later (later-sound a later s))

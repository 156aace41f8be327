-- What is known of an axis line that is not refused. No contract cites this file. Assumes nothing.
use mathlib.Core.Path.{◌≡◌, refl}
use mathlib.Core.Bool.{Bool, true, false, true≢false, cond}
use mathlib.Core.List.{List, [], ◌∷◌}
use Prim.Native.Nat.{ℕ, ◌<◌, ◌≤◌}
use native.Mathlib.Omega.{arith}
use borrow.Author.Tests.{ltb-false, leb-false}
use lib.Dec.{eqb}
use lib.ListN.{length}
use Rattle.std.specs.Prelude.{Result, Ok, Err}
use Rattle.answers.specs.declared.Refused.{Refused}
use Rattle.answers.specs.declared.Refused.TheVariants.{Form, Name, Value, Count}
use Rattle.axis.specs.declared.AxisLine.{AxisLine}
use Rattle.lists.specs.Search.{any}
use Rattle.lists.proofs.TestLaws.{or-eq-false}
use Rattle.names.specs.Names.{name_count}
use Rattle.points.specs.Axes.{Axis, axis_length, most_axes, most_values}
use Rattle.points.specs.OneToOne.{too_large, repeats}
use Rattle.line.specs.Line.{name_of}
use Rattle.axis.specs.Axis.{values_of, axis_of, bad_form, bad_name, bad_values, too_many, axis_line, axis_after}

-- the line's name is known and new, and its values are few, all different and below the name's limit
pub record Good (came : ℕ → Bool) (axes : ℕ) (fields : List (List ℕ)) : Type 0 where
  pub known : name_of fields < name_count
  pub new : came (name_of fields) ≡ false
  pub below : too_large (axis_of fields) ≡ false
  pub once : repeats (axis_of fields) ≡ false
  pub some : 1 ≤ axis_length (axis_of fields)
  pub few : axis_length (axis_of fields) ≤ most_values
  pub room : axes < most_axes

some-values : (fields : List (List ℕ)) → bad_form fields ≡ false → 1 ≤ axis_length (axis_of fields)
unfolding bad_form values_of axis_length
some-values [] e = absurd (true≢false e)
some-values (word ∷ []) e = absurd (true≢false e)
some-values (word ∷ name ∷ []) e = absurd (true≢false e)
some-values (word ∷ name ∷ v ∷ vs) e = omega arith

-- a test that is passed, and what is left of the line where all are
passed : {A : Type 0} (b : Bool) (r : Refused) {x : Result A Refused} {a : A} → cond b (Err r) x ≡ Ok a → (b ≡ false) × (x ≡ Ok a)
passed true r e = let z : ◌≡◌ {A = ℕ} 0 1 = cc in absurd (omega arith)
passed false r e = (refl, e)

module _ (came : ℕ → Bool) (axes : ℕ) (fields : List (List ℕ)) (a : AxisLine) (e : axis_line came axes fields ≡ Ok a) where
  pub taken-is : record { name = name_of fields; count = axis_length (axis_of fields) } ≡ a
  unfolding axis_line
  taken-is =
      let (form, e21) = passed (bad_form fields) Form e in
      let (named, e22) = passed (bad_name came (name_of fields)) Name e21 in
      let (valued, e23) = passed (bad_values (axis_of fields)) Value e22 in
      let (many, e24) = passed (too_many axes (axis_of fields)) Count e23 in
      cc

  pub good : Good came axes fields
  unfolding axis_line
  good =
      let (form, e21) = passed (bad_form fields) Form e in
      let (named, e22) = passed (bad_name came (name_of fields)) Name e21 in
      let (valued, e23) = passed (bad_values (axis_of fields)) Value e22 in
      let (many, e24) = passed (too_many axes (axis_of fields)) Count e23 in
      let (unknown, new) = or-eq-false _ _ named in
      let (below, once) = or-eq-false _ _ valued in
      let (axes8, values64) = or-eq-false _ _ many in
      record {
        known = leb-false _ _ unknown;
        new = new;
        below = below;
        once = once;
        some = some-values fields form;
        few = ltb-false _ _ values64;
        room = leb-false _ _ axes8;
      }

-- after these axes

abbrev pub came_on : List Axis → ℕ → Bool
came_on axes name = any (λ (a : Axis). eqb a.name name) axes

abbrev pub GoodOn : List Axis → List (List ℕ) → Type 0
GoodOn axes fields = Good (came_on axes) (length axes) fields

pub good-on : (axes : List Axis) (fields : List (List ℕ)) {a : AxisLine} → axis_after axes fields ≡ Ok a → GoodOn axes fields
good-on axes fields e = good (came_on axes) (length axes) fields _ e

-- The second pass: the axes of an accepted plan are stored one after the other. No contract cites this file. Assumes nothing.
use mathlib.Core.Path.{◌≡◌, refl, sym, ap, ◌∙◌}
use mathlib.Core.List.{List, [], ◌∷◌, ◌++◌}
use Prim.Native.Nat.{ℕ, suc, ◌+◌, ◌<◌, ◌≤◌}
use native.Mathlib.Numerals.{add-one}
use native.Mathlib.Omega.{arith}
use lib.ListN.{length, get_or, take, drop, length-map, length-append, take-append-drop, get_or-map}
use lib.Seq.{length-take-le, take-suc, drop-cons}
use Rattle.text.specs.Text.{fields_of}
use Rattle.points.specs.Axes.{Axis}
use Rattle.points.specs.Table.{entry_of, table_of}
use Rattle.points.proofs.TableLaws.{length-table_of-le, table_of-append}
use Rattle.axis.specs.Axis.{axis_of, stored_at}
use Rattle.plan.specs.Table.{stored_axes, room as table_room}
use Rattle.plan.specs.Cursor.{line_at, lines_from, axes_read}
use Rattle.plan.specs.State.{StartsAt}
use Rattle.plan.proofs.SoundLaws.{memory_line-sound}
use Rattle.plan.proofs.TableLaws.{stored-none, stored_next, length-stored, length-with_axis}

-- the first k axes of the plan are stored
pub record AxesStored (text t : List ℕ) (starts : List ℕ) (axes : ℕ) (table : List ℕ) (used k : ℕ) : Type 0 where
  pub room : table_room ≤ length t
  pub starts-at : StartsAt text starts axes
  pub few : k ≤ axes
  pub table_is : table ≡ stored_axes (take k (axes_read text)) t
  pub used-is : used ≡ length (table_of (take k (axes_read text)))

module _ {text t starts : List ℕ} {axes : ℕ} where
  pub none-stored : table_room ≤ length t → StartsAt text starts axes → AxesStored text t starts axes t 0 0
  unfolding table_of
  none-stored h s = record { room = h; starts-at = s; few = omega arith; table_is = stored-none t; used-is = refl }

  module _ {table : List ℕ} {used k : ℕ} (i : AxesStored text t starts axes table used k) where
    abbrev plan-axes : List Axis
    plan-axes = axes_read text

    -- what stands for an axis that there is not
    abbrev no-axis : Axis
    no-axis = axis_of (fields_of (line_at text 0))

    all_fit : length (table_of plan-axes) ≤ table_room
    all_fit =
        let s = memory_line-sound (lines_from text 0 1) in
        omega (arith, length-table_of-le plan-axes s.lengths, s.few)

    how-many : length plan-axes ≡ axes
    how-many =
        rw i.starts-at.axes-are
        (length-map (take axes starts) _ ∙ length-take-le axes starts (omega (arith, i.starts-at.few, i.starts-at.size)))

    -- those stored and those left
    apart : length (table_of plan-axes) ≡ length (table_of (take k plan-axes)) + length (table_of (drop k plan-axes))
    apart =
        ap (λ (l : List Axis). length (table_of l)) (sym (take-append-drop k plan-axes))
        ∙ ap length (table_of-append (take k plan-axes) (drop k plan-axes))
        ∙ length-append (table_of (take k plan-axes)) _

    same-table : length table ≡ length t
    same-table = ap length i.table_is ∙ length-stored (take k plan-axes) t (omega (arith, i.room, all_fit, apart))

    -- the next one is that of the line at its place
    module _ (index : k < length (take axes starts)) (line : List ℕ) (is : line ≡ line_at text (get_or (take axes starts) k 0)) where
      more : k < axes
      more = omega (arith, index, length-take-le axes starts (omega (arith, i.starts-at.few, i.starts-at.size)))

      axis-is : axis_of (fields_of line) ≡ get_or plan-axes k no-axis
      axis-is =
          ap (λ (l : List ℕ). axis_of (fields_of l)) is
          ∙ sym (ap (λ (l : List Axis). get_or l k no-axis) i.starts-at.axes-are
          ∙ get_or-map (λ at. axis_of (fields_of (line_at text at))) (take axes starts) k 0)

      one_more : take (k + 1) plan-axes ≡ take k plan-axes ++ (axis_of (fields_of line) ∷ [])
      one_more = rw (add-one k, axis-is) (take-suc plan-axes k _ (omega (arith, more, how-many)))

      fits : length (table_of (take k plan-axes)) + length (entry_of (axis_of (fields_of line))) ≤ length t
      unfolding table_of
      fits =
          let a = get_or plan-axes k no-axis in
          let next = ap (λ (l : List Axis). length (table_of l)) (drop-cons plan-axes k no-axis (omega (arith, more, how-many))) in
          let split = length-append (entry_of a) (table_of (drop (suc k) plan-axes)) in
          omega (arith, i.room, all_fit, apart, next, split, ap (λ (b : Axis). length (entry_of b)) axis-is)

      pub turn-room : used + length (entry_of (axis_of (fields_of line))) ≤ length table
      turn-room = omega (arith, same-table, i.used-is, fits)

      pub turn-stored : {table' : List ℕ} {used' : ℕ} → table' ≡ stored_at used (entry_of (axis_of (fields_of line))) table
          → used' ≡ used + length (entry_of (axis_of (fields_of line))) → AxesStored text t starts axes table' used' (k + 1)
      turn-stored te ue =
          let a = axis_of (fields_of line) in
          record {
            room = i.room;
            starts-at = i.starts-at;
            few = omega (arith, more);
            table_is = te ∙ rw (i.table_is, i.used-is, one_more) (stored_next (take k plan-axes) a t (omega (arith, fits)));
            used-is = ue ∙ rw one_more (omega (arith, i.used-is, length-with_axis (take k plan-axes) a));
          }

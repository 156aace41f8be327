-- `axis::store_values` meets its contract. The invariant: storing all the values comes out as storing those left in the table as it is.
use mathlib.Core.Path.{◌≡◌}
use mathlib.Core.List.{map}
use Prim.Native.Nat.{◌+◌, ◌-◌, ◌≤◌}
use lib.ListN.{length, take}
use Rattle.text.specs.Text.{fields_of}
use Rattle.tabs.specs.Fields.{fields_from}
use Rattle.tabs.specs.Fields.{field_value}
use Rattle.axis.specs.Axis.{values_of, stored_at}
use Rattle.axis.proofs.store_values.Given as goal

abbrev pub invariant-loop-i : goal.invariant-loop-i
invariant-loop-i l =
    (length l.table ≡ length l.initial.table)
    × (stored_at l.at (values_of (fields_of l.line)) l.initial.table ≡ stored_at l.i (map field_value (fields_from l.line l.p)) l.table)
    × (l.at ≤ l.i)
    × (length (take (length l.initial.table - l.at) (values_of (fields_of l.line)))
    ≡ l.i - l.at + length (take (length l.initial.table - l.i) (map field_value (fields_from l.line l.p))))

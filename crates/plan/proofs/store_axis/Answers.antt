-- `store_axis` meets its contract: the name, the values behind it, and their number between the two. Assumes nothing.
use mathlib.Core.Path.{◌≡◌, sym, ap, ◌∙◌}
use mathlib.Core.List.{List}
use Prim.Native.Nat.{ℕ, ◌+◌, ◌-◌, ◌≤◌}
use native.Mathlib.Omega.{arith}
use lib.ListN.{length, set, length-set}
use lib.Seq.{take_all}
use Rattle.text.specs.Text.{fields_of}
use Rattle.axis.specs.Axis.{values_of, axis_of, stored_at}
use Rattle.points.proofs.TableLaws.{entry_of-listed}
use Rattle.plan.proofs.TableLaws.{stored_at-between}
use Rattle.plan.proofs.store_axis.Goals as goal

-- The line's fields, the table with the name, and the room for all

abbrev fields : (c : goal.After-slice_known-2-1) → List (List ℕ)
fields c =
    fields_of c.args.line.now

room : (c : goal.After-slice_known-2-1) → c.args.at + (2 + length (values_of (fields c))) ≤ length c.args.table.now
room c =
    omega (arith, c.requires, ap length (entry_of-listed (axis_of (fields c))))

named : (c : goal.After-slice_known-2-1) → length (set c.args.table.now c.args.at c.name_of.result) ≡ length c.args.table.now
named c =
    length-set c.args.table.now c.args.at c.name_of.result

-- all values fit
counted : (c : goal.After-slice_known-2-1) → c.store_values-count.result ≡ length (values_of (fields c))
counted c =
    let table = set c.args.table.now c.args.at c.name_of.result in
    c.store_values-count.ensures.told
    ∙ ap length (take_all (length table - (c.args.at + 2)) (values_of (fields c)) (omega (arith, room c, named c)))

pub returns-clause-after : goal.returns-clause-after
returns-clause-after c =
    let t = c.args.table.now in
    let at = c.args.at in
    let entry = entry_of-listed (axis_of (fields c)) in
    rw (counted c) (omega (arith, ap length entry))

pub returns-clause-entered : goal.returns-clause-entered
returns-clause-entered c =
    let t = c.args.table.now in
    let at = c.args.at in
    let entry = entry_of-listed (axis_of (fields c)) in
    rw (c.store_values-count.ensures.entered, c.name_of.ensures, counted c)
    (stored_at-between t at _ _ _ ∙ ap (λ (e : List ℕ). stored_at at e t) (sym entry))

-- `axis::store_values` meets its contract. The invariant: storing all the values comes out as storing those left in the table as it is.
use mathlib.Core.Path.{◌≡◌, refl, sym, ◌∙◌}
use Prim.Native.Nat.{ℕ, ◌-◌, ◌≤◌}
use native.Mathlib.Nat.{add-zero}
use native.Mathlib.Omega.{arith}
use lib.ListN.{length, length-set}
use Rattle.text.proofs.TextLaws.{part-end-le}
use Rattle.axis.specs.Axis.{values_of, stored_at}
use Rattle.tabs.proofs.FieldsLaws.{fields_from-past, fields_from-third_at}
use Rattle.axis.proofs.AxisLaws.{stored_at-past, stored_at-cons, fitting-past, fitting-cons}
use Rattle.axis.proofs.store_values.Goals as goal

none_left : (n i : ℕ) → n ≤ i → n - i ≡ 0
none_left n i h = omega arith

pub loop-i-init : goal.loop-i-init
unfolding values_of
loop-i-init c =
    rw (c.third_at-p.ensures, fields_from-third_at c.args.line.now)
    (refl, refl, omega arith, omega arith)

pub returns-then-line-p-clause-told : goal.returns-then-line-p-clause-told
unfolding stored_at
returns-then-line-p-clause-told c =
    let l = c.loop-i in
    let line = c.args.line.now in
    let past = c.if-line-p.true in
    sym (l.invariant.3 ∙ rw (fitting-past line l.p _ past) (add-zero _))

pub returns-then-line-p-clause-entered : goal.returns-then-line-p-clause-entered
unfolding stored_at
returns-then-line-p-clause-entered c =
    let l = c.loop-i in
    let line = c.args.line.now in
    let past = c.if-line-p.true in
    sym (l.invariant.1 ∙ rw (fields_from-past line l.p past))

pub slice_bounds-field_value-end : goal.slice_bounds-field_value-end
slice_bounds-field_value-end c =
    part-end-le 9 _ _ _ c.part_end-end.ensures c.if-line-p.false

pub loop-i-preserved : goal.loop-i-preserved
loop-i-preserved c =
    let x = c.args in
    let l = c.loop-i in
    let n = length x.table.now in (
      length-set l.table l.i _ ∙ l.invariant.0,
      l.invariant.1 ∙ stored_at-cons _ _ _ _ _ _ c.part_end-end.ensures c.if-line-p.false c.field_value.ensures,
      omega (arith, l.invariant.2),
      l.invariant.3
          ∙ rw (fitting-cons _ _ _ l.i n c.part_end-end.ensures c.if-line-p.false (omega (arith, l.invariant.0)))
          (omega (arith, l.invariant.2)),
    )

pub returns-clause-entered : goal.returns-clause-entered
returns-clause-entered c =
    let l = c.loop-i in
    sym (l.invariant.1 ∙ stored_at-past l.i _ l.table (omega (arith, l.invariant.0, c.loop-i-test.false)))

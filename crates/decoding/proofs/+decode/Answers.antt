-- `decoding::decode` meets its contract. Assumes nothing.
use mathlib.Core.Path.{◌∙◌}
use native.Mathlib.Omega.{arith}
use lib.ListN.{length-set}
use Rattle.points.specs.Table.{size_in}
use Rattle.points.proofs.StepLaws.{part-drop, decoding, assigned-none, assigned-next, last-lt, assigned-last}
use Rattle.decoding.proofs.+decode.Goals as goal

pub returns-then-axes-eq0 : goal.returns-then-axes-eq0
returns-then-axes-eq0 t c =
    assigned-none c.args.axes c.args.number c.args.table.now c.args.out.now c.if-axes-eq0.true

pub bounds-table-0 : goal.bounds-table-0
bounds-table-0 t c =
    let d = decoding c.args.axes c.args.total c.args.number c.args.table.now c.if-axes-eq0.false c.requires.0 c.requires.1 c.requires.2 in
    omega (arith, d.axis)

pub value-requires : goal.value-requires
value-requires t c =
    let d = decoding c.args.axes c.args.total c.args.number c.args.table.now c.if-axes-eq0.false c.requires.0 c.requires.1 c.requires.2 in
    omega (arith, last-lt c.args.axes c.args.total c.args.number c.args.table.now c.if-axes-eq1.true d, d.axis)

pub offset_bounds-out-name : goal.offset_bounds-out-name
offset_bounds-out-name t c =
    let d = decoding c.args.axes c.args.total c.args.number c.args.table.now c.if-axes-eq0.false c.requires.0 c.requires.1 c.requires.2 in
    record { fits = omega (arith, d.axis) }

pub bounds-out-name : goal.bounds-out-name
bounds-out-name t c =
    let d = decoding c.args.axes c.args.total c.args.number c.args.table.now c.if-axes-eq0.false c.requires.0 c.requires.1 c.requires.2 in
    omega (arith, d.axis, c.requires.3)

pub returns-then-axes-eq1 : goal.returns-then-axes-eq1
returns-then-axes-eq1 t c =
    let d = decoding c.args.axes c.args.total c.args.number c.args.table.now c.if-axes-eq0.false c.requires.0 c.requires.1 c.requires.2 in
    rw c.value.ensures
    (assigned-last c.args.axes c.args.total c.args.number c.args.table.now c.if-axes-eq1.true d c.args.out.now)

pub bounds-table-1 : goal.bounds-table-1
bounds-table-1 t c =
    let d = decoding c.args.axes c.args.total c.args.number c.args.table.now c.if-axes-eq0.false c.requires.0 c.requires.1 c.requires.2 in
    omega (arith, d.axis)

pub nonzero_div-later : goal.nonzero_div-later
nonzero_div-later t c =
    let d = decoding c.args.axes c.args.total c.args.number c.args.table.now c.if-axes-eq0.false c.requires.0 c.requires.1 c.requires.2 in
    d.axis.some

pub nonzero_div-number : goal.nonzero_div-number
nonzero_div-number t c =
    let d = decoding c.args.axes c.args.total c.args.number c.args.table.now c.if-axes-eq0.false c.requires.0 c.requires.1 c.requires.2 in
    d.positive

pub value-requires-2 : goal.value-requires-2
value-requires-2 t c =
    let d = decoding c.args.axes c.args.total c.args.number c.args.table.now c.if-axes-eq0.false c.requires.0 c.requires.1 c.requires.2 in
    omega (arith, d.index, d.axis)

pub offset_bounds-out-name-2 : goal.offset_bounds-out-name-2
offset_bounds-out-name-2 t c =
    let d = decoding c.args.axes c.args.total c.args.number c.args.table.now c.if-axes-eq0.false c.requires.0 c.requires.1 c.requires.2 in
    record { fits = omega (arith, d.axis) }

pub bounds-out-name-2 : goal.bounds-out-name-2
bounds-out-name-2 t c =
    let d = decoding c.args.axes c.args.total c.args.number c.args.table.now c.if-axes-eq0.false c.requires.0 c.requires.1 c.requires.2 in
    omega (arith, d.axis, c.requires.3)

pub overflow_add-end : goal.overflow_add-end
overflow_add-end t c =
    let d = decoding c.args.axes c.args.total c.args.number c.args.table.now c.if-axes-eq0.false c.requires.0 c.requires.1 c.requires.2 in
    record { fits = omega (arith, d.axis) }

pub offset_bounds-table-end : goal.offset_bounds-table-end
offset_bounds-table-end t c =
    let d = decoding c.args.axes c.args.total c.args.number c.args.table.now c.if-axes-eq0.false c.requires.0 c.requires.1 c.requires.2 in
    record { fits = omega (arith, d.axis) }

pub slice_bounds-decode-count : goal.slice_bounds-decode-count
slice_bounds-decode-count t c =
    let d = decoding c.args.axes c.args.total c.args.number c.args.table.now c.if-axes-eq0.false c.requires.0 c.requires.1 c.requires.2 in
    omega (arith, d.axis)

pub slice_bounds-decode-start : goal.slice_bounds-decode-start
slice_bounds-decode-start t c =
    let d = decoding c.args.axes c.args.total c.args.number c.args.table.now c.if-axes-eq0.false c.requires.0 c.requires.1 c.requires.2 in
    omega (arith, d.axis)

pub nonzero_rem-number : goal.nonzero_rem-number
nonzero_rem-number t c =
    let d = decoding c.args.axes c.args.total c.args.number c.args.table.now c.if-axes-eq0.false c.requires.0 c.requires.1 c.requires.2 in
    d.positive

pub decode-requires : goal.decode-requires
decode-requires t c =
    let d = decoding c.args.axes c.args.total c.args.number c.args.table.now c.if-axes-eq0.false c.requires.0 c.requires.1 c.requires.2 in
    rw (part-drop (size_in c.args.table.now) c.args.table.now) (
      omega (arith, c.decreases, c.if-axes-eq0.false),
      (d.later, d.counted, d.rest, simp length-set c.requires.3),
    )

pub returns : goal.returns
returns t c =
    let d = decoding c.args.axes c.args.total c.args.number c.args.table.now c.if-axes-eq0.false c.requires.0 c.requires.1 c.requires.2 in
    c.decode.ensures
    ∙ rw (c.value-2.ensures, part-drop (size_in c.args.table.now) c.args.table.now)
    (assigned-next c.args.axes c.args.total c.args.number c.args.table.now c.args.out.now c.if-axes-eq0.false d)

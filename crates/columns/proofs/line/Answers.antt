-- `columns::line` meets its contract: each turn puts one column, and the last one ends the line. Assumes nothing.
use mathlib.Core.Path.{◌≡◌, sym, ◌∙◌}
use mathlib.Core.List.{map}
use Prim.Native.Nat.{◌<◌}
use native.Mathlib.Omega.{arith}
use Rattle.std.proofs.lemmas.List.{length-map, length-take-le}
use Rattle.columns.specs.Held.{held_text}
use Rattle.columns.proofs.TextLaws.{text-before, text-at, texted-room, texted-room-last, texted-step, texted-end}
use Rattle.columns.proofs.line.Goals as goal

pub slice_bounds-c-items-end : goal.slice_bounds-c-items-end
slice_bounds-c-items-end c =
    sym (length-take-le 26 c.args.columns.now (omega arith))

pub offset_bounds-c-items-c-index : goal.offset_bounds-c-items-c-index
offset_bounds-c-items-c-index c =
    record { fits = omega (arith, length-take-le 26 c.args.columns.now (omega arith)) }

pub column-to-requires : goal.column-to-requires
column-to-requires c =
    let cs = c.args.columns.now in
    let below : c.loop-c.c-index < 26 = omega (arith, length-take-le 26 cs (omega arith)) in
    let n = length-map cs held_text in
    texted-room (map held_text cs) c.args.text.now c.requires.room _ _ _ c.loop-c.invariant _
    (text-before cs 26 _ below (omega arith) ∙ sym c.parts-coordinate.ensures) (omega arith)

pub loop-c-preserved : goal.loop-c-preserved
loop-c-preserved c =
    let cs = c.args.columns.now in
    let below : c.loop-c.c-index < 26 = omega (arith, length-take-le 26 cs (omega arith)) in
    let n = length-map cs held_text in
    let p = c.column-to.ensures in
    texted-step (map held_text cs) c.args.text.now c.requires.room _ _ _ c.loop-c.invariant _
    (text-before cs 26 _ below (omega arith) ∙ sym c.parts-coordinate.ensures) _ _
    (omega arith) p.value p.out_after

pub column-requires : goal.column-requires
column-requires c =
    let cs = c.args.columns.now in
    let last : c.loop-c.c-index ≡ 26 = omega (arith, length-take-le 26 cs (omega arith)) in
    let n = length-map cs held_text in
    texted-room-last (map held_text cs) c.args.text.now c.requires.room _ _ _ c.loop-c.invariant _
    (text-at cs 26 _ last (omega arith) ∙ sym c.parts-coordinate-2.ensures) (omega arith)

pub returns : goal.returns
returns c =
    let cs = c.args.columns.now in
    let last : c.loop-c.c-index ≡ 26 = omega (arith, length-take-le 26 cs (omega arith)) in
    let n = length-map cs held_text in
    let p = c.column.ensures in
    let d = texted-end (map held_text cs) c.args.text.now c.requires.room _ _ _ c.loop-c.invariant _
    (text-at cs 26 _ last (omega arith) ∙ sym c.parts-coordinate-2.ensures) _ _
    (omega arith) p.value p.out_after in
    record { value = d.0; text_after = d.1 }

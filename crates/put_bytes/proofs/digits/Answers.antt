-- `put_bytes::digits` meets its contract: the kit's digits and the byte after them are put where they fit. Assumes nothing.
use mathlib.Core.Path.{sym, ◌∙◌}
use borrow.Author.Tests.{leb-true}
use Rattle.listing.proofs.PlacedLaws.{number-placed, number-not-placed}
use Rattle.put_bytes.proofs.digits.Goals as goal

pub returns-then-has_room : goal.returns-then-has_room
returns-then-has_room c =
    let d = c.decimal-k.ensures in
    let room = leb-true _ _ (sym c.has_room.ensures ∙ c.if-has_room.true) in
    let p = number-placed _ _ _ _ _ c.ranges.n.fits d.len _ _ d.digits c.copy.ensures room in
    record { value = p.0; out_after = p.1 }

pub returns : goal.returns
returns c =
    let d = c.decimal-k.ensures in
    let p = number-not-placed _ _ _ c.decimal-k.result _ c.ranges.n.fits d.len (sym c.has_room.ensures ∙ c.if-has_room.false) in
    record { value = p.0; out_after = p.1 }

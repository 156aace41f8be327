-- `put_bytes::digit` meets its contract. Assumes nothing.
use mathlib.Core.Path.{sym, ◌∙◌}
use Rattle.listing.proofs.PlacedLaws.{digit-placed, digit-not-placed}
use Rattle.put_bytes.proofs.digit.Goals as goal

pub returns-then-has_room : goal.returns-then-has_room
returns-then-has_room c =
    let x = c.args in
    let d = digit-placed x.at x.n x.end x.out.now c.requires (sym c.has_room.ensures ∙ c.if-has_room.true) in
    record { value = d.0; out_after = d.1 }

pub returns : goal.returns
returns c =
    let x = c.args in
    let d = digit-not-placed x.at x.n x.end x.out.now c.requires (sym c.has_room.ensures ∙ c.if-has_room.false) in
    record { value = d.0; out_after = d.1 }

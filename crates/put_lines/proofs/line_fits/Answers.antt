-- `put_lines::line_fits` meets its contract: past the buffer's end nothing fits, and 21 bytes a number are enough. Assumes nothing.
use mathlib.Core.Path.{sym}
use Rattle.listing.proofs.PlacedLaws.{line-fits-most}
use Rattle.put_lines.proofs.line_fits.Goals as goal

pub returns-then-ns-room : goal.returns-then-ns-room
returns-then-ns-room c =
    sym (line-fits-most _ _ c.args.ns.now c.if-size-at.false c.if-ns-room.true)

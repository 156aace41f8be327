-- `put_lines::line_within` meets its contract. The loop keeps whether the numbers left fit into what is left. Assumes nothing.
use mathlib.Core.Path.{◌≡◌}
use lib.Dec.{leb}
use lib.ListN.{drop}
use Rattle.listing.specs.Listing.{line_length}
use Rattle.put_lines.proofs.line_within.Given as goal

abbrev pub invariant-loop-n : goal.invariant-loop-n
invariant-loop-n l =
    leb (line_length l.ns) l.room ≡ leb (line_length (drop l.n-index l.ns)) l.left

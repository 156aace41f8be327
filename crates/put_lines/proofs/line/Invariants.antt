-- `put_lines::line` meets its contract: each turn puts one number, and the last one ends the line. Assumes nothing.
use Rattle.listing.proofs.LoopLaws.{Lined}
use Rattle.put_lines.proofs.line.Given as goal

abbrev pub invariant-loop-n : goal.invariant-loop-n
invariant-loop-n l =
    Lined l.ns l.at l.initial.out l.n-index l.to l.out

-- `line_from` meets its contract: the lines that the loop passes are skipped ones. Assumes nothing.
use Prim.Native.Nat.{◌-◌}
use lib.ListN.{length}
use Rattle.plan.specs.Cursor.{FoundLine}
use Rattle.plan.proofs.line_from.Given as goal

abbrev pub invariant-loop-at : goal.invariant-loop-at
invariant-loop-at l =
    FoundLine l.text l.from l.number (record { at = l.at; end = l.end; line = l.line })

abbrev pub decreases-loop-at : goal.decreases-loop-at
decreases-loop-at l =
    length l.text - l.at

-- `read_lines` meets its contract: the lines before the reader's place are read, and another one is wanted. Assumes nothing.
use Rattle.std.proofs.Common.{◌≡◌, ◌+◌, ◌-◌, length}
use Rattle.plan.specs.Cursor.{PositionIn}
use Rattle.plan.specs.State.{LinesRead}
use Rattle.plan.proofs.read_lines.Given as goal

abbrev pub invariant-loop-r : goal.invariant-loop-r
invariant-loop-r l = (l.r.text.now ≡ l.text) × PositionIn l.text l.r.at l.r.line × LinesRead l.text l.s l.r.at l.r.line

abbrev pub decreases-loop-r : goal.decreases-loop-r
decreases-loop-r l = length l.text + 1 - l.r.at

-- Each turn leaves less room beside the bytes that are not handed out.
use Rattle.std.proofs.Common.{◌+◌, ◌-◌}
use Rattle.programs.specs.declared.reader.TheConstants.{SPACE}
use Rattle.programs.proofs.reader.Reader.next.Given as goal

abbrev pub decreases-loop-n : goal.decreases-loop-n
decreases-loop-n l = SPACE + l.self.from - l.self.end

-- What is proved, beyond each call's own contract: one record, with a field for each file of
-- statements, whose fields are the statements. Its one value is in proofs/Theorems.antt, so a
-- statement without a proof is refused. Assumes nothing.
use Rattle.theorems.specs.Memory.{OfMemory}
use Rattle.theorems.specs.Cache.{OfCache}
use Rattle.theorems.specs.Pixels.{OfPixels}
use Rattle.theorems.specs.Arrays.{OfArrays}
use Rattle.theorems.specs.Windows.{OfWindows}
use Rattle.theorems.specs.Corners.{OfCorners}
use Rattle.theorems.specs.Copies.{OfCopies}
use Rattle.theorems.specs.Refused.{OfRefusals}
use Rattle.theorems.specs.Slices.{OfSlices}
use Rattle.theorems.specs.Names.{OfNames}
use Rattle.theorems.specs.Plans.{OfPlans}
use Rattle.theorems.specs.Runs.{OfRuns}
use Rattle.theorems.specs.Columns.{OfColumns}
use Rattle.theorems.specs.Resume.{OfResume}
use Rattle.theorems.specs.Timing.{OfTiming}
use Rattle.theorems.specs.Example.{OfExample}

pub record Theorems : Type 0 where
  pub memory : OfMemory
  pub cache : OfCache
  pub pixels : OfPixels
  pub arrays : OfArrays
  pub windows : OfWindows
  pub corners : OfCorners
  pub copies : OfCopies
  pub refusals : OfRefusals
  pub slices : OfSlices
  pub names : OfNames
  pub plans : OfPlans
  pub runs : OfRuns
  pub columns : OfColumns
  pub resume : OfResume
  pub timing : OfTiming
  pub example : OfExample

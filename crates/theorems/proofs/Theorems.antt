-- The one value of `Theorems`: every statement of specs/ has its proof. Assumes nothing.
use Rattle.theorems.specs.Theorems.{Theorems}
use Rattle.theorems.proofs.Memory.{of-memory}
use Rattle.theorems.proofs.Cache.{of-cache}
use Rattle.theorems.proofs.Pixels.{of-pixels}
use Rattle.theorems.proofs.Arrays.{of-arrays}
use Rattle.theorems.proofs.Windows.{of-windows}
use Rattle.theorems.proofs.Corners.{of-corners}
use Rattle.theorems.proofs.Copies.{of-copies}
use Rattle.theorems.proofs.Refused.{of-refusals}
use Rattle.theorems.proofs.Slices.{of-slices}
use Rattle.theorems.proofs.Names.{of-names}
use Rattle.theorems.proofs.Plans.{of-plans}
use Rattle.theorems.proofs.Runs.{of-runs}
use Rattle.theorems.proofs.Columns.{of-columns}
use Rattle.theorems.proofs.Resume.{of-resume}
use Rattle.theorems.proofs.Timing.{of-timing}
use Rattle.theorems.proofs.Example.{of-example}

pub theorems : Theorems
theorems =
    record {
      memory = of-memory;
      cache = of-cache;
      pixels = of-pixels;
      arrays = of-arrays;
      windows = of-windows;
      corners = of-corners;
      copies = of-copies;
      refusals = of-refusals;
      slices = of-slices;
      names = of-names;
      plans = of-plans;
      runs = of-runs;
      columns = of-columns;
      resume = of-resume;
      timing = of-timing;
      example = of-example;
    }

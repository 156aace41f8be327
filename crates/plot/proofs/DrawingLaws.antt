-- The pixels of a drawing fit 32 bits. No contract cites this file. Assumes nothing.
use Prim.Native.Nat.{◌^◌, ◌<◌}
use Rattle.walk.proofs.Arithmetic.{product_lt}
use Rattle.plot.specs.declared.Drawing.{Drawing}
use Rattle.plot.specs.Drawing.{pixels}

pub pixels-lt : (d : Drawing) → d.cols < 2 ^ 16 → d.rows < 2 ^ 16 → pixels d < 2 ^ 32
pixels-lt d hc hr = product_lt 16 16 hc hr

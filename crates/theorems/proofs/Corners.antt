-- The proofs of specs/Corners.antt. Assumes nothing.
use mathlib.Core.Path.{refl}
use Rattle.theorems.specs.Corners.{DrawIgnores, LoneIgnores, OfCorners}
use Rattle.theorems.proofs.CornerLaws as laws
use Rattle.theorems.proofs.IgnoreLaws as ignore

pub draw-ignores : DrawIgnores
draw-ignores op s c e same k v b w m = (ignore.outcome-ignores op s c e same k v b w, ignore.drawn-ignores op s c e same k b m)

pub lone-ignores : LoneIgnores
lone-ignores s c same words a v = (
  ignore.linear-ignores s c same words a v,
  ignore.source-ignores s c same words a v,
  ignore.destination-ignores s c same words a v,
  (refl, ignore.clip-ignores s c same words a v, ignore.v-ignores s c same words a v),
  ignore.lone_drawn-ignores s c same,
)

pub of-corners : OfCorners
of-corners =
    record {
      chosen-order = laws.chosen-order;
      start-given = laws.start-given;
      start-walked = laws.start-walked;
      starts-alike = laws.starts-alike;
      end-registers = laws.end-registers;
      draw-ignores = draw-ignores;
      lone-ignores = lone-ignores;
      twelve-exactly = ignore.twelve-exactly;
    }

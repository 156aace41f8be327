-- The proofs of specs/Slices.antt. Assumes nothing.
use mathlib.Core.Path.{sym}
use Rattle.slices.proofs.OutcomeLaws as outcome
use Rattle.slices.proofs.JoinLaws as join
use Rattle.slices.proofs.Interleaved as interleaved
use Rattle.slices.proofs.Demand3 as two
use Rattle.theorems.specs.Slices.{NewPlace, SlicesJoin, AnySlices, ManyDrawings, TwoDrawings, Stopped, Untouched, StaysDone, OfSlices}

pub new-place : NewPlace
new-place = outcome.new-place

pub slices-join : SlicesJoin
slices-join op s place v b c m = (join.memory-joins op s place v b c m, sym (join.outcomes-join op s place v b c m))

pub any-slices : AnySlices
any-slices op s place v b bs m = (join.all_join op s place v b bs m, join.all-together op s place v b bs m)

pub many-drawings : ManyDrawings
many-drawings = interleaved.any-drawings

pub two-drawings : TwoDrawings
two-drawings = two.demand3

pub stopped : Stopped
stopped = interleaved.stopped-anywhere

pub untouched : Untouched
untouched = interleaved.others-stay

pub stays-done : StaysDone
stays-done = interleaved.done-for-good

pub of-slices : OfSlices
of-slices =
    record {
      new-place = new-place;
      slices-join = slices-join;
      any-slices = any-slices;
      many-drawings = many-drawings;
      two-drawings = two-drawings;
      stopped = stopped;
      untouched = untouched;
      stays-done = stays-done;
    }

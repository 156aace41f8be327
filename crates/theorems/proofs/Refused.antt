-- The proofs of specs/Refused.antt. Assumes nothing.
use mathlib.Core.Path.{refl}
use mathlib.Core.Bool.{Bool, true, false, cond}
use Rattle.std.specs.Prelude.{Ok, Err}
use Prim.Native.Nat.{◌+◌, ◌≤◌}
use native.Mathlib.Omega.{arith}
use borrow.Author.Tests.{eq-eqb, ne_eqb}
use lib.Dec.{eqb}
use Rattle.field.proofs.RoundLaws as field
use Rattle.image.specs.Image.{imaged}
use Rattle.cache.specs.Cache.{fetched}
use Rattle.plot.specs.Drawing.{pixels}
use Rattle.arrays.specs.Array.{drawing_for}
use Rattle.drawing.specs.Draw.{outcome_at, visited_by, outcome, drawn}
use Rattle.array_refusal.proofs.RefusalLaws.{refusal-number}
use Rattle.drawing.proofs.OutcomeLaws.{outcome-refused}
use Rattle.plan.proofs.PlanLaws.{table_after-refused}
use Rattle.theorems.specs.Refused.{DrawRefused, DrawAccepted, DrawNumbers, PixtRefused, DravRefused, WriteRefused, ImageRefused}
use Rattle.theorems.specs.Refused.{FetchRefused, PlanRefused, OfRefusals}

pub draw-refused : DrawRefused
unfolding outcome drawn
draw-refused op s place v budget m h = let e = ne_eqb _ _ h in (rw e, rw e)

pub draw-accepted : DrawAccepted
unfolding outcome outcome_at
draw-accepted op s place v budget words e = rw (eq-eqb _ _ e) (go (eqb (place + visited_by op s place budget) (pixels (drawing_for op s))))
  where
    go : (t : Bool) → cond t 0 1 ≤ 1
    go true = omega arith
    go false = omega arith

pub draw-numbers : DrawNumbers
draw-numbers op s place v budget words h =
    let n = refusal-number op s place words in
    rw (outcome-refused op s place v budget words h) (n.least h, n.most)

pub pixt-refused : PixtRefused
pixt-refused s v (Ok l) source m h = absurd (h refl)
pixt-refused s v (Err r) source m h = ((refl, refl), (refl, refl), refl)

pub drav-refused : DravRefused
drav-refused s v point step (Ok l) h = absurd (h refl)
drav-refused s v point step (Err r) h = (refl, refl)

pub write-refused : WriteRefused
write-refused = field.written-refused

pub image-refused : ImageRefused
unfolding imaged
image-refused m seed e = rw e

pub fetch-refused : FetchRefused
unfolding fetched
fetch-refused c address control e = rw e (refl, refl)

pub plan-refused : PlanRefused
plan-refused text t = table_after-refused text t

pub of-refusals : OfRefusals
of-refusals =
    record {
      draw-refused = draw-refused;
      draw-accepted = draw-accepted;
      draw-numbers = draw-numbers;
      pixt-refused = pixt-refused;
      drav-refused = drav-refused;
      write-refused = write-refused;
      image-refused = image-refused;
      fetch-refused = fetch-refused;
      plan-refused = plan-refused;
    }

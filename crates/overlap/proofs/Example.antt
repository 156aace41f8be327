-- That the hypotheses of a scroll can be met: the example from its lower right corner, whose source and destination overlap, and the
-- old source in all it draws. No contract cites this file. Assumes nothing.
use mathlib.Core.Path.{refl}
use mathlib.Core.Logic.{inr}
use Prim.Native.Nat.{ℕ, zero, suc, ◌^◌, ◌<◌}
use native.Mathlib.Omega.{arith}
use lib.ListN.{get_or}
use Rattle.memory.specs.Bits.{Memory}
use Rattle.walk.specs.Walk.{address_at, address_of}
use Rattle.extent.specs.Extent.{reaches, leaves_memory}
use Rattle.operation.specs.declared.Operation.TheVariants.{PixbltLL}
use Rattle.arrays.specs.Array.{clipped_array, dest_start, src_start, chosen_walk, drawing_of, drawing_for}
use Rattle.refusal.specs.Refusal.{lowest}
use Rattle.array_refusal.specs.Refusal.{refusal_of, refusal}
use Rattle.drawing.specs.Draw.{drawn}
use Rattle.overlap.specs.Copy.{OldSource}
use Rattle.overlap.specs.Example.{from_lower_right, two_rows}
use Rattle.overlap.proofs.AcceptedLaws.{copy-scroll}

good : Memory 2 two_rows
good = record { size = refl; words = small }
  where
    small : (i : ℕ) → get_or two_rows i 0 < 2 ^ 16
    small zero = omega arith
    small (suc zero) = omega arith
    small (suc (suc i)) = omega arith

applied : OldSource (drawing_for PixbltLL from_lower_right) two_rows (drawn PixbltLL from_lower_right 0 6 two_rows)
unfolding refusal refusal_of lowest drawing_of chosen_walk clipped_array dest_start src_start leaves_memory reaches address_at address_of
applied =
    copy-scroll 2 two_rows good PixbltLL from_lower_right refl
    (record { source = refl; replace = refl; opaque = refl; planes = refl })
    6 (omega arith)
    (record { pitches = refl; rows = omega arith; half = omega arith })
    (inr (record { pbh = refl; pbv = refl; first = omega arith }))

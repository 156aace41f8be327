-- Laws of `specs/Run.antt`. No contract cites this file. Assumes nothing.
use mathlib.Core.Path.{◌≡◌, refl}
use mathlib.Core.Bool.{false}
use mathlib.Core.List.{List, append-nil}
use mathlib.Core.Logic.{◌≢◌}
use Prim.Native.Nat.{ℕ, ◌+◌, ◌^◌, ◌<◌}
use native.Mathlib.Omega.{arith}
use borrow.Author.Tests.{eq-eqb, ne_eqb}
use lib.ListN.{length, drop_of_length-le}
use Rattle.std.specs.Prelude.{Ok}
use Rattle.memory.specs.Bits.{no_memory}
use Rattle.memory.specs.Changed.{changed_bits, counted}
use Rattle.memory.proofs.ChangedLaws.{changed_bits-same}
use Rattle.settings.specs.declared.Settings.{Settings}
use Rattle.plot.specs.Drawing.{pixels}
use Rattle.plot.proofs.DrawingLaws.{pixels-lt}
use Rattle.operation.specs.declared.Operation.{Operation}
use Rattle.arrays.specs.Array.{drawing_of, drawing_for}
use Rattle.arrays.proofs.ArrayLaws.{cols-rows-le}
use Rattle.array_refusal.specs.Refusal.{refusal}
use Rattle.drawing.specs.Draw.{unlimited, outcome_at, visited_by, outcome, drawn}
use Rattle.fill_timing.proofs.FillTimingLaws.{fill_time-none}
use Rattle.points.specs.Points.{experiment}
use Rattle.points.specs.Table.{axes_in, points_in, out_after}
use Rattle.points.proofs.AnswerLaws.{answer-done}
use Rattle.run.specs.Run.{ran_over}

-- the experiment of a point in a list of fourteen
pub out_after-fourteen : (k n : ℕ) (t out : List ℕ) → length out ≡ 14 → n < points_in k t → out_after k t n out ≡ experiment (axes_in k t) n
out_after-fourteen k n t out l h =
    rw (← (answer-done k n t out (omega arith) h).0, drop_of_length-le out {i = 14} (omega arith)) (append-nil (experiment (axes_in k t) n))

-- the count of a memory and one of its length
pub counted-bits : (m m' : List ℕ) → no_memory (length m) ≡ false → length m' ≡ length m → counted m m' ≡ Ok (changed_bits m m')
unfolding counted
counted-bits m m' e l = rw (l, e)

-- a refused point gives its number, and zeros
pub ran_over-refused : (op : Operation) (s : Settings) (m : List ℕ) → refusal op s 0 (length m) ≢ 0
    → ran_over op s m ≡ record { answer = refusal op s 0 (length m); visited = 0; v = false; changed = 0; states = 0 }
unfolding ran_over outcome drawn
ran_over-refused op s m h = rw (ne_eqb _ _ h, changed_bits-same m, fill_time-none op s)

pixels-lt-pow : (op : Operation) (s : Settings) → s.dydx < 2 ^ 32 → pixels (drawing_for op s) < 2 ^ 32
unfolding drawing_of
pixels-lt-pow op s h = pixels-lt (drawing_for op s) (omega (arith, (cols-rows-le op s).0)) (omega (arith, (cols-rows-le op s).1))

-- an accepted point is drawn whole: it is done, and all its pixels are visited
pub ran_over-done : (op : Operation) (s : Settings) (m : List ℕ) → s.dydx < 2 ^ 32 → refusal op s 0 (length m) ≡ 0
    → ((ran_over op s m).answer ≡ 0) × ((ran_over op s m).visited ≡ pixels (drawing_for op s))
unfolding ran_over outcome outcome_at
ran_over-done op s m h e =
    let n = pixels-lt-pow op s h in
    let all : visited_by op s 0 unlimited ≡ pixels (drawing_for op s) = omega (arith, n) in
    rw (eq-eqb _ _ e, all) (rw (eq-eqb (0 + pixels (drawing_for op s)) (pixels (drawing_for op s)) (omega arith)), refl)

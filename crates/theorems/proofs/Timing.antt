-- The proofs of specs/Timing.antt. Assumes nothing.
use mathlib.Core.Path.{ap, ◌∙◌}
use mathlib.Core.Bool.{false}
use Prim.Native.Nat.{ℕ, ◌*◌, ◌<◌}
use native.Mathlib.Omega.{arith}
use lib.ListN.{length}
use Rattle.fill_tables.specs.declared.Fill.{Fill}
use Rattle.fill_tables.specs.declared.Time.{Time}
use Rattle.fill_tables.specs.Time.{time_of}
use Rattle.fill_tables.proofs.TimeLaws.{setup_time-some, adjustment-le}
use Rattle.fill_tables.proofs.RowLaws.{alignment_of-same}
use Rattle.image.proofs.ImageLaws.{length-image}
use Rattle.settings.specs.Settings.{settings_of}
use Rattle.operation.specs.Operation.{operation_of}
use Rattle.arrays.specs.Array.{drawing_of, drawing_for}
use Rattle.array_refusal.proofs.RefusalLaws.{passes}
use Rattle.drawing.specs.Draw.{unlimited, outcome}
use Rattle.fill_timing.specs.FillTiming.{fill_of, fill_time, fill_states}
use Rattle.fill_timing.proofs.FillTimingLaws.{fill_time-none, fill_time-copies, fill_time-some, fill_time-le}
use Rattle.points.specs.Points.{experiment}
use Rattle.run.specs.Run.{seed_of, ran_over, image_for}
use Rattle.run.proofs.RunLaws.{ran_over-refused}
use Rattle.run.proofs.LinesLaws.{dydx-lt}
use Rattle.run.specs.declared.Ran.{Ran}
use Rattle.theorems.specs.Timing.{RowsAlike, RowWords, TimeAddsUp, StatesAreTime, StatesNone, StatesSome, StatesFit, OfTiming}
use Rattle.theorems.specs.Timing.{pixel_at}
use Rattle.theorems.proofs.RowLaws.{row-alike, words-within, words-holding}

pub rows_alike : RowsAlike
unfolding fill_of
rows_alike op s place words e row =
    alignment_of-same (pixel_at op s row 0) (drawing_for op s).dest.start ((drawing_for op s).cols * s.psize)
    (row-alike op s place words (passes op s place words e) row)

pub row_words : RowWords
unfolding fill_of drawing_of
row_words op s place words e straight some row below =
    let p = passes op s place words e in
    (words-within op s place words p straight some row below, words-holding op s place words p straight some row below)

pub time-adds-up : TimeAddsUp
unfolding time_of
time-adds-up f = omega (arith, adjustment-le f)

pub states-are-time : StatesAreTime
unfolding ran_over fill_states
states-are-time words draw axes n =
    let vs = experiment axes n in
    let op = operation_of draw in
    ap (λ (w : ℕ). (fill_time op (settings_of vs) (outcome op (settings_of vs) 0 false unlimited w).visited).states)
    (length-image words (seed_of vs))

-- no time is 0: the setup isn't, and the adjustment is no more than the transfer
time-some : (f : Fill) → 0 < (time_of f).states
unfolding time_of
time-some f = omega (arith, adjustment-le f, setup_time-some f)

-- the states of a time
abbrev states_in : Time → ℕ
states_in t = t.states

pub states-none : StatesNone
unfolding ran_over
states-none op s m = (
  (λ e. ap states_in (fill_time-copies op s (outcome op s 0 false unlimited (length m)).visited e)),
  (λ e. ap (λ (r : Ran). r.states) (ran_over-refused op s m e)),
  (λ e. ap (λ (n : ℕ). (fill_time op s n).states) e ∙ ap states_in (fill_time-none op s)),
)

pub states-some : StatesSome
unfolding ran_over
states-some op s m e n =
    let t = ap states_in (fill_time-some op s (outcome op s 0 false unlimited (length m)).visited e n) in
    (t, rw t (time-some (fill_of op s)))

pub states-fit : StatesFit
unfolding ran_over
states-fit words draw axes n =
    let vs = experiment axes n in
    fill_time-le (operation_of draw) (settings_of vs) 0 false unlimited (length (image_for words vs)) (dydx-lt vs)

pub of-timing : OfTiming
of-timing =
    record {
      rows_alike = rows_alike;
      row_words = row_words;
      time-adds-up = time-adds-up;
      states-are-time = states-are-time;
      states-none = states-none;
      states-some = states-some;
      states-fit = states-fit;
    }

-- The figures of FILL timing, by computing. Assumes nothing.
use mathlib.Core.Path.{refl}
use native.Mathlib.Nat.{one-mul}
use Rattle.fill_tables.specs.Time.{alignment_of, time_of}
use Rattle.address.specs.Address.{xy_address, bad_xy_pitch}
use Rattle.windows.specs.Window.{common, clipped, v_under}
use Rattle.walk.specs.Walk.{address_at, address_of}
use Rattle.extent.specs.Extent.{reaches, leaves_memory}
use Rattle.refusal.specs.Refusal.{lowest}
use Rattle.arrays.specs.Array.{clipped_array, v_after, dest_start, src_start, chosen_walk, drawing_of}
use Rattle.array_refusal.specs.Refusal.{refusal_of, refusal}
use Rattle.drawing.specs.Draw.{outcome_at, outcome}
use Rattle.fill_timing.specs.FillTiming.{adjust_of, fill_of, fill_time, fill_states}
use Rattle.figures.specs.TimingFigures.{TimingFigures}

pub timing-figures : TimingFigures
unfolding alignment_of time_of xy_address bad_xy_pitch common clipped v_under address_at address_of reaches leaves_memory lowest
    clipped_array
    v_after dest_start src_start chosen_walk drawing_of refusal_of refusal outcome_at outcome adjust_of fill_of fill_time fill_states
timing-figures =
    record {
      setup-l = refl;
      setup-xy = refl;
      setup-note = refl;
      short-a = λ g l. rw (one-mul g);
      short-b = λ g l. rw (one-mul g);
      short-c = λ g l. rw (one-mul g);
      short-d = λ g l. rw (one-mul g);
      medium-a = λ g l. refl;
      medium-b = λ g l. refl;
      medium-c = λ g l. refl;
      medium-d = λ g l. refl;
      long-a = λ n g l. refl;
      long-b = λ n g l. refl;
      long-c = λ n g l. refl;
      long-d = λ n g l. refl;
      words-plain = refl;
      words-masked = refl;
      columns = refl;
      edges = refl;
      example-1 = refl;
      example-2 = refl;
      example-3 = refl;
    }

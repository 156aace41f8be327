-- What a run of points keeps from one point to the next. The scope knows nothing of it. Assumes
-- nothing.
use Rattle.std.specs.Prelude.{◌≡◌, Option, Some, IfSome, List, ℕ, ◌+◌, length}
use Rattle.image.specs.Image.{image}
use Rattle.points.specs.Axes.{Axis}
use Rattle.points.specs.Points.{experiment}
use Rattle.running.specs.declared.Progress.{Progress}
use Rattle.run.specs.Run.{seed_of, point_line}

-- where an image was made, a memory holds that of the seed
abbrev pub HoldsImage : Option ℕ → List ℕ → Type 0
HoldsImage held m = IfSome held (λ seed. m ≡ image (length m) seed)

-- after a point
abbrev pub progressed : ℕ → ℕ → List Axis → ℕ → Progress → Progress
progressed words draw axes point p =
    record {
      seed = Some (seed_of (experiment axes point));
      at = p.at + length (point_line words draw axes point);
    }

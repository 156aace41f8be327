-- A drawing after the window (the scope, "Arrays, windows and slices"). Assumes nothing.
use Rattle.std.specs.Prelude.{ℕ, ◌*◌}
use Rattle.plot.specs.declared.Drawing.{Drawing}

-- the pixels of a drawing
abbrev pub pixels : Drawing → ℕ
pixels d = d.cols * d.rows

-- The two colours of a B source, as the loop over a row holds them. The scope knows nothing of it.
-- Assumes nothing.
use Rattle.std.specs.Prelude.{ℕ, List, [], ◌∷◌}
use Rattle.plot.specs.declared.Drawing.{Drawing}

-- COLOR0 and COLOR1, by the bit that chooses
abbrev pub colors_of : Drawing → List ℕ
colors_of d = d.color0 ∷ d.color1 ∷ []

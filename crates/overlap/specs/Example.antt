-- A scroll to the right over itself: three of the four pixels of 4 bits of two rows, 16 bits apart.
-- Assumes nothing.
use Rattle.std.specs.Prelude.{List, [], ◌∷◌, ℕ}
use Rattle.settings.specs.declared.Settings.{Settings}

-- PIXBLT L,L: CONTROL, and the addresses of the corner's pixel in source and destination
abbrev scroll : ℕ → ℕ → ℕ → Settings
scroll control from to =
    record {
      saddr = from;
      sptch = 16;
      daddr = to;
      dptch = 16;
      offset = 0;
      wstart = 0;
      wend = 0;
      dydx = 131075;
      color0 = 0;
      color1 = 0;
      control = control;
      psize = 4;
      pmask = 0;
    }

-- PBH=PBV=1; PBH=1; neither
abbrev pub from_lower_right : Settings
from_lower_right = scroll 768 24 28

abbrev pub from_upper_right : Settings
from_upper_right = scroll 256 8 12

abbrev pub from_upper_left : Settings
from_upper_left = scroll 0 0 4

-- the pixels 1, 2, 3, 4 and 5, 6, 7, 8
abbrev pub two_rows : List ℕ
two_rows = 17185 ∷ 34661 ∷ []

-- 1, 1, 2, 3 and 5, 5, 6, 7
abbrev pub moved_right : List ℕ
moved_right = 12817 ∷ 30293 ∷ []

-- 1, 1, 1, 1 and 5, 5, 5, 5
abbrev pub smeared : List ℕ
smeared = 4369 ∷ 21845 ∷ []

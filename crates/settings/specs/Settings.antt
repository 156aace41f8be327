-- The settings as numbers of a list: the thirteen names in the scope's order ("Plans and images").
-- Assumes nothing.
use Rattle.std.specs.Prelude.{List, ℕ, ◌%◌, ◌^◌, get_or}
use Rattle.names.specs.Names.{bits_of}
use Rattle.settings.specs.declared.Settings.{Settings}

-- the settings whose values in that order are f 0, f 1 and so on
abbrev pub in_order : (ℕ → ℕ) → Settings
in_order f =
    record {
      saddr = f 0;
      sptch = f 1;
      daddr = f 2;
      dptch = f 3;
      offset = f 4;
      wstart = f 5;
      wend = f 6;
      dydx = f 7;
      color0 = f 8;
      color1 = f 9;
      control = f 10;
      psize = f 11;
      pmask = f 12;
    }

-- the settings that the first thirteen numbers are: of each as many low bits as its name has, which
-- are all of them where it is below the name's limit; one past the end is 0
unfoldable pub settings_of : List ℕ → Settings
settings_of ns = in_order (λ i. get_or ns i 0 % 2 ^ bits_of i)

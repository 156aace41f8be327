-- The refusals 10 to 17 of the calls that take settings (the scope, "Refusal numbers"): FILL,
-- PIXBLT, PIXT and DRAV. 10, 11 and 12 ask the same of every call; what the others ask of one is
-- its own, and is handed over as `Tests`. Assumes nothing.
use Rattle.std.specs.Prelude.{Bool, cond, ◌&&◌, ℕ, Result, Ok, Err, ⊤}
use Rattle.answers.specs.declared.Refused.{Refused}
use Rattle.answers.specs.declared.Refused.TheVariants.{Memory, PixelSize, Control, Pitch, Window}
use Rattle.answers.specs.declared.Refused.TheVariants.{Place, Start, End}
use Rattle.memory.specs.Bits.{no_memory}
use Rattle.control.specs.Control.{windowing, bad_control}
use Rattle.pixel.specs.Pixel.{bad_pixel_size}
use Rattle.windows.specs.Window.{window_of, bad_windowing}
use Rattle.settings.specs.declared.Settings.{Settings}
use Rattle.refusal.specs.declared.Tests.{Tests}

-- the table: the refusal of the lowest number whose test is true, where one is
abbrev pub refusal_table : Bool → Bool → Bool → Tests → Result ⊤ Refused
refusal_table memory size control t =
    cond memory (Err Memory)
    (cond size (Err PixelSize)
    (cond control (Err Control)
    (cond t.pitch (Err Pitch)
    (cond t.window (Err Window)
    (cond t.place (Err Place)
    (cond t.start (Err Start)
    (cond t.end (Err End) (Ok tt))))))))

-- the lowest number that applies to a call over this many words with these settings, where one does
unfoldable pub lowest : ℕ → Settings → Tests → Result ⊤ Refused
lowest words s t =
    refusal_table (no_memory words) (bad_pixel_size s.psize) (bad_control s.control) t

-- 14: W isn't 0, the destination is XY, and the window is bad
abbrev pub bad_window_of : Bool → Settings → Bool
bad_window_of xy s = xy && bad_windowing (windowing s.control) (window_of s.wstart s.wend)

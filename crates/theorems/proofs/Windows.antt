-- The proofs of specs/Windows.antt. Assumes nothing.
use Rattle.windows.proofs.WindowLaws as window
use Rattle.theorems.specs.Windows.{KeptIsSeen, SeenIsKept, MeetByPixels, InsideByPixels, VByPixels, WindowDecides, OfWindows}
use Rattle.theorems.proofs.SeenLaws as seen

pub kept-is-seen : KeptIsSeen
kept-is-seen w r win nonzero a b p = (window.pixel-of-kept w r win a b p, window.seen-of-kept w r win nonzero a b p)

pub seen-is-kept : SeenIsKept
seen-is-kept = window.kept-pixel

pub meet-by-pixels : MeetByPixels
meet-by-pixels = seen.meet-iff

pub inside-by-pixels : InsideByPixels
inside-by-pixels = seen.inside-iff

pub v-by-pixels : VByPixels
v-by-pixels = seen.by-pixels

pub window-decides : WindowDecides
window-decides op s place v budget words e = (seen.call-v op s v place budget words e, seen.call-request op s v place budget words e)

pub of-windows : OfWindows
of-windows =
    record {
      kept-is-seen = kept-is-seen;
      seen-is-kept = seen-is-kept;
      meet-by-pixels = meet-by-pixels;
      inside-by-pixels = inside-by-pixels;
      v-by-pixels = v-by-pixels;
      window-decides = window-decides;
    }

-- That the hypotheses of `Demand3` can be met: a FILL XY of three pixels in its window and a PIXBLT L,L of two, which share a word, and
-- a list of calls of them that is computed, and to which the theorem applies. No contract cites this file. Assumes nothing.
use mathlib.Core.Path.{◌≡◌, refl, ap}
use mathlib.Core.Bool.{true, false, true≢false, false≢true}
use mathlib.Core.List.{List, [], ◌∷◌}
use Prim.Native.Nat.{ℕ, zero, suc, ◌+◌, ◌*◌, ◌/◌, ◌%◌, ◌^◌, ◌≤◌, ◌<◌}
use native.Mathlib.Omega.{arith}
use lib.ListN.{get_or}
use Rattle.memory.specs.Bits.{Memory}
use Rattle.pixel.specs.PixelOp.{pixel_operations, processed}
use Rattle.pixel.specs.Pixel.{pixel_of, result, pixel_after, with_pixel, word_after, plotted}
use Rattle.address.specs.Address.{xy_address, bad_xy_pitch}
use Rattle.windows.specs.Window.{common, clipped, v_under}
use Rattle.walk.specs.Walk.{address_at, address_of}
use Rattle.extent.specs.Extent.{reaches, leaves_memory}
use Rattle.row.specs.Row.{source_at, drawn_at}
use Rattle.engine.specs.Engine.{visits}
use Rattle.engine.specs.Footprint.{pixel-bit, source-bit}
use Rattle.operation.specs.declared.Operation.TheVariants.{FillXY, PixbltLL}
use Rattle.operation.specs.Operation.{copies, copies_pixels}
use Rattle.arrays.specs.Array.{clipped_array, v_after, dest_start, src_start, chosen_walk, drawing_of}
use Rattle.refusal.specs.Refusal.{lowest}
use Rattle.array_refusal.specs.Refusal.{refusal_of, refusal}
use Rattle.drawing.specs.Draw.{outcome_at, outcome, drawn}
use Rattle.slices.specs.Calls.{Job, Call, slice, other, next, run}
use Rattle.slices.specs.Demand3.{Writes, Reads, BitsApart, after_calls, OneThenOther}
use Rattle.slices.proofs.Demand3.{demand3}

-- four pixels of 4 bits from 0,0, of which a window of three columns lets three be drawn (W=3)
abbrev fill : Job
fill =
    record {
      operation = FillXY;
      settings =
          record {
            saddr = 0;
            sptch = 0;
            daddr = 0;
            dptch = 16;
            offset = 0;
            wstart = 0;
            wend = 2;
            dydx = 65540;
            color0 = 0;
            color1 = 65535;
            control = 192;
            psize = 4;
            pmask = 0;
          };
    }

-- two pixels from word 2 to the last pixel of word 0 and the first of word 1
abbrev copy : Job
copy =
    record {
      operation = PixbltLL;
      settings =
          record {
            saddr = 32;
            sptch = 16;
            daddr = 12;
            dptch = 16;
            offset = 0;
            wstart = 0;
            wend = 0;
            dydx = 65538;
            color0 = 0;
            color1 = 0;
            control = 0;
            psize = 4;
            pmask = 0;
          };
    }

-- ---- their bits
fill-writes : (a : ℕ) → Writes fill a → a < 12
unfolding drawing_of chosen_walk clipped_array clipped common dest_start xy_address address_at address_of
fill-writes a (i, h, t) = let z : a < (0 + i / 3 * 16 + i % 3 * 4) % 2 ^ 32 + 4 = t.to in omega arith

fill-reads : (a : ℕ) → Reads fill a → ⊥
unfolding drawing_of
fill-reads a (i, h, pixel-bit t) = false≢true (ap copies_pixels t.pixel)
fill-reads a (i, h, source-bit t) = false≢true (ap copies t.bits)

copy_writes : (a : ℕ) → Writes copy a → 12 ≤ a
unfolding drawing_of chosen_walk clipped_array dest_start address_at address_of
copy_writes a (i, h, t) = let z : (12 + i / 2 * 16 + i % 2 * 4) % 2 ^ 32 ≤ a = t.from in omega arith

copy-reads : (a : ℕ) → Reads copy a → 32 ≤ a
unfolding drawing_of chosen_walk clipped_array src_start address_at address_of
copy-reads a (i, h, pixel-bit t) = let z : (32 + i / 2 * 16 + i % 2 * 4) % 2 ^ 32 ≤ a = t.from in omega arith
copy-reads a (i, h, source-bit t) = absurd (true≢false (ap copies_pixels t.bits))

apart : BitsApart fill copy
apart =
    record {
      writes = λ a p q. omega (arith, fill-writes a p, copy_writes a q);
      left = λ a p q. omega (arith, fill-writes a p, copy-reads a q);
      right = λ a p q. fill-reads a q;
    }

-- ---- a list of calls of them
abbrev m : List ℕ
m = 0 ∷ 0 ∷ 171 ∷ []

good : Memory 3 m
good = record { size = refl; words = small }
  where
    small : (i : ℕ) → get_or m i 0 < 2 ^ 16
    small zero = omega arith
    small (suc zero) = omega arith
    small (suc (suc zero)) = omega arith
    small (suc (suc (suc i))) = omega arith

-- a refused call, at a place past the end, stands among the slices, and one more slice follows when all is done
abbrev cs : List Call
cs = slice 0 2 ∷ slice 1 1 ∷ other fill 4 9 true ∷ slice 0 5 ∷ slice 1 0 ∷ slice 1 1 ∷ slice 0 1 ∷ []

computed : ((after_calls fill copy false true m cs).memory ≡ 49151 ∷ 10 ∷ 171 ∷ [])
    × ((after_calls fill copy false true m cs).held 0
    ≡ record { answer = 0; place = 3; v = true; request = false; saddr = 0; daddr = 16; dydx = 65540; settings = fill.settings })
    × ((after_calls fill copy false true m cs).held 1
    ≡ record { answer = 0; place = 2; v = true; request = false; saddr = 48; daddr = 28; dydx = 65538; settings = copy.settings })
unfolding run next outcome outcome_at drawn refusal refusal_of lowest v_after v_under drawing_of chosen_walk clipped_array dest_start
    src_start
    clipped common xy_address bad_xy_pitch leaves_memory reaches address_at address_of visits drawn_at source_at plotted word_after
    with_pixel
    pixel_after result processed pixel_operations pixel_of
computed = (refl, refl, refl)

applied : OneThenOther 0 1 fill copy false true 3 9 m (after_calls fill copy false true m cs)
    × OneThenOther 1 0 copy fill true false 9 3 m (after_calls fill copy false true m cs)
unfolding refusal refusal_of lowest drawing_of chosen_walk clipped_array dest_start src_start clipped common xy_address bad_xy_pitch
    leaves_memory reaches address_at address_of
applied =
    demand3 3 m good fill copy refl refl apart false true cs
    (omega arith, (omega arith, ((λ z. omega arith), (omega arith, (omega arith, (omega arith, (omega arith, tt)))))))
    (ap (λ h. h.answer) computed.1) (ap (λ h. h.answer) computed.2) 3 9 (omega arith) (omega arith)

-- What ignores PBH and PBV, and what 12 asks for. No contract cites this file. Assumes nothing.
use mathlib.Core.Path.{◌≡◌, refl}
use mathlib.Core.Bool.{Bool, true, false, cond}
use mathlib.Core.List.{List}
use mathlib.Core.Logic.{◌≢◌}
use Prim.Native.Nat.{ℕ, ◌<◌}
use native.Mathlib.Omega.{arith}
use borrow.Author.Tests.{ltb-true, lt-ltb}
use lib.Dec.{eqb}
use lib.ListN.{length}
use Rattle.std.specs.Prelude.{Option, Some, None, Result, Ok, Err, ⊤}
use Rattle.answers.specs.declared.Refused.{Refused}
use Rattle.answers.specs.declared.Refused.TheVariants.{Memory, PixelSize, Control, Pitch, Window, Place, Start, End}
use Rattle.answers.specs.Answer.{refusal_number, answer}
use Rattle.memory.specs.Bits.{no_memory}
use Rattle.control.specs.Control.{processing, bad_control, last_operation}
use Rattle.pixel.specs.Pixel.{bad_pixel_size}
use Rattle.settings.specs.declared.Settings.{Settings}
use Rattle.operation.specs.declared.Operation.{Operation}
use Rattle.operation.specs.Operation.{source_of, copies_pixels}
use Rattle.arrays.specs.Array.{clipped_array, v_after, dest_start, src_start}
use Rattle.arrays.specs.Array.{chosen_walk, drawing_of, drawing_for}
use Rattle.refusal.specs.Refusal.{lowest}
use Rattle.array_refusal.specs.Refusal.{refusal_of, refusal}
use Rattle.drawing.specs.declared.Outcome.{Outcome}
use Rattle.drawing.specs.Draw.{outcome_at, outcome, drawn}
use Rattle.lone.specs.declared.Lone.{Lone}
use Rattle.lone.specs.Lone.{linear_pixel, xy_source, xy_destination, lone_clip, lone_v}
use Rattle.pixt.specs.Pixt.{pixel_drawn, lone_drawn}
use Rattle.theorems.specs.Corners.{TwelveExactly}
use Rattle.theorems.specs.Corners.{SameButCorner, with_control, handing}

-- ---- what ignores the bits
module _ (op : Operation) (s : Settings) (c : ℕ) (ignores : copies_pixels (source_of op) ≡ false) (same : SameButCorner s.control c) where
  abbrev other : Settings
  other = with_control s c

  same-array : clipped_array op other ≡ clipped_array op s
  unfolding clipped_array
  same-array = rw same.w

  same-drawing : drawing_for op other ≡ drawing_for op s
  unfolding drawing_of chosen_walk dest_start src_start
  same-drawing = rw (same-array, ignores, same.t, same.pp)

  same-v : (v : Bool) → v_after op other v ≡ v_after op s v
  unfolding v_after
  same-v v = rw same.w

  same-refusal : (k w : ℕ) → refusal op other k w ≡ refusal op s k w
  unfolding refusal refusal_of lowest
  same-refusal k w = rw (same-drawing, same-array, same.w, same.pp)

  -- what is handed back, refused or not
  same-handed : (t : Bool) (a b a' b' : Outcome) → a' ≡ handing other a → b' ≡ handing other b
      → cond t a' b' ≡ handing other (cond t a b)
  same-handed true a b a' b' h k = h
  same-handed false a b a' b' h k = k

  pub outcome-ignores : (k : ℕ) (v : Bool) (b w : ℕ) → outcome op other k v b w ≡ handing other (outcome op s k v b w)
  unfolding outcome outcome_at
  outcome-ignores k v b w =
      rw (same-refusal k w)
      (same-handed (eqb (refusal op s k w) 0) _ _ _ _ (rw (same-drawing, same-array, same-v v, same.w)) refl)

  pub drawn-ignores : (k b : ℕ) (m : List ℕ) → drawn op other k b m ≡ drawn op s k b m
  unfolding drawn
  drawn-ignores k b m = rw (same-refusal k (length m), same-drawing)

-- a lone pixel
module _ (s : Settings) (c : ℕ) (same : SameButCorner s.control c) (words a : ℕ) (v : Bool) where
  pub linear-ignores : linear_pixel words (with_control s c) a v ≡ linear_pixel words s a v
  unfolding linear_pixel lowest
  linear-ignores = rw same.pp

  pub source-ignores : xy_source words (with_control s c) a v ≡ xy_source words s a v
  unfolding xy_source lowest
  source-ignores = rw same.pp

  pub destination-ignores : xy_destination words (with_control s c) a v ≡ xy_destination words s a v
  unfolding xy_destination lowest
  destination-ignores = rw (same.pp, same.w)

  pub clip-ignores : lone_clip (with_control s c) a ≡ lone_clip s a
  clip-ignores = rw same.w

  pub v-ignores : lone_v (with_control s c) a v ≡ lone_v s a v
  v-ignores = rw same.w

-- the memory that it leaves
module _ (s : Settings) (c : ℕ) (same : SameButCorner s.control c) where
  pixel_drawn-ignores : (pixel : Option ℕ) (source : ℕ) (m : List ℕ)
      → pixel_drawn (with_control s c) pixel source m ≡ pixel_drawn s pixel source m
  pixel_drawn-ignores (Some a) source m = rw (same.pp, same.t)
  pixel_drawn-ignores None source m = refl

  pub lone_drawn-ignores : (at : Result Lone Refused) (source : ℕ) (m : List ℕ)
      → lone_drawn (with_control s c) at source m ≡ lone_drawn s at source m
  lone_drawn-ignores (Ok l) source m = pixel_drawn-ignores l.pixel source m
  lone_drawn-ignores (Err r) source m = refl

-- ---- 12
abbrev Given : ℕ → Settings → Type 0
Given words s = (no_memory words ≡ false) × (bad_pixel_size s.psize ≡ false) × (last_operation < processing s.control)

abbrev accepted : Result ⊤ Refused
accepted = Ok tt

pub twelve-exactly : TwelveExactly
unfolding lowest
twelve-exactly words s t = (there, back)
  where
    cases : (a b c : Bool) (d : Result ⊤ Refused) → answer d ≢ 12
        → answer (cond a (Err Memory) (cond b (Err PixelSize) (cond c (Err Control) d))) ≡ 12 → (a ≡ false) × (b ≡ false) × (c ≡ true)
    cases true b c d ne e = absurd (omega arith)
    cases false true c d ne e = absurd (omega arith)
    cases false false true d ne e = (refl, refl, refl)
    cases false false false d ne e = absurd (ne e)

    other : (b : Bool) (r : Refused) (d : Result ⊤ Refused) → refusal_number r ≢ 12 → answer d ≢ 12 → answer (cond b (Err r) d) ≢ 12
    other true r d h k = h
    other false r d h k = k

    rest : ◌≢◌ {A = ℕ} (answer (cond t.pitch (Err Pitch) (cond t.window (Err Window) (cond t.place (Err Place) (cond t.start (Err Start)
        (cond t.end (Err End) accepted)))))) 12
    rest =
        other t.pitch Pitch _ (λ z. omega arith)
        (other t.window Window _ (λ z. omega arith)
        (other t.place Place _ (λ z. omega arith)
        (other t.start Start _ (λ z. omega arith) (other t.end End accepted (λ z. omega arith) (λ z. omega arith)))))

    there : answer (lowest words s t) ≡ 12 → Given words s
    there e =
        let p = cases (no_memory words) (bad_pixel_size s.psize) (bad_control s.control) _ rest e in
        (p.0, p.1, ltb-true last_operation (processing s.control) p.2)

    back : Given words s → answer (lowest words s t) ≡ 12
    back (a, b, h) = rw (a, b, lt-ltb last_operation (processing s.control) h)

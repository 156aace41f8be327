-- The axes that are read are sound; a refused plan has none. No contract cites this file. Assumes nothing.
use mathlib.Core.Path.{◌≡◌, refl, ◌∙◌}
use mathlib.Core.Bool.{false}
use mathlib.Core.List.{List, [], ◌∷◌, ◌++◌}
use Prim.Native.Nat.{ℕ}
use native.Mathlib.Omega.{arith}
use borrow.Author.Tests.{lt-leb, le-ltb, ne_eqb}
use lib.Dec.{eqb, ltb}
use lib.ListN.{length, length-append}
use Rattle.std.specs.Prelude.{Result}
use Rattle.lists.specs.Search.{any, any_pair}
use Rattle.lists.proofs.TestLaws.{cond_both, eqb_comm}
use Rattle.lists.proofs.SearchLaws.{any_snoc, any_none, any_pair-snoc}
use Rattle.text.specs.Text.{lines_of, fields_of}
use Rattle.points.specs.Axes.{Axis, axis_length}
use Rattle.points.specs.OneToOne.{unknown, same_name, bad_length, too_large, repeats, Sound}
use Rattle.line.specs.Line.{memory_of, draw_of, name_of}
use Rattle.axis.specs.Axis.{axis_of, axis_after}
use Rattle.plan.specs.declared.BadPlan.{BadPlan}
use Rattle.plan.specs.Reading.{Line, kept_lines, Reading, or_nothing, text_limit, read_axes, read_draw, read_memory, reading, plan_in}
use Rattle.plan.proofs.ReadingLaws.{unless_refused-both}
use Rattle.plan.proofs.AxisLaws.{GoodOn, good-on}

pub sound_none : Sound []
unfolding any any_pair
sound_none = record { few = omega arith; known = refl; distinct = refl; lengths = refl; small = refl; unrepeated = refl }

module _ {axes : List Axis} {fields : List (List ℕ)} (s : Sound axes) (g : GoodOn axes fields) where
  new-name : any (same_name (axis_of fields)) axes ≡ false
  new-name =
      any_none (λ (a : Axis). eqb a.name (name_of fields)) (same_name (axis_of fields)) axes (λ a e. eqb_comm (name_of fields) a.name ∙ e)
      g.new

  pub sound-next : Sound (axes ++ (axis_of fields ∷ []))
  sound-next =
      let a = axis_of fields in
      record {
        few = omega (arith, length-append axes (a ∷ []), g.room);
        known = any_snoc unknown a axes ∙ rw (lt-leb _ _ g.known) s.known;
        distinct = any_pair-snoc same_name (λ b c. eqb_comm b.name c.name) a axes ∙ rw new-name s.distinct;
        lengths = any_snoc bad_length a axes ∙ rw (ne_eqb (axis_length a) 0 (λ z. omega (arith, g.some)), le-ltb _ _ g.few) s.lengths;
        small = any_snoc too_large a axes ∙ rw g.below s.small;
        unrepeated = any_snoc repeats a axes ∙ rw g.once s.unrepeated;
      }

-- The reading of a text

abbrev SoundReading : Result Reading BadPlan → Type 0
SoundReading r = Sound (or_nothing r).axes

axis_lines-sound : (words draw : ℕ) (axes : List Axis) (ls : List Line) → Sound axes → SoundReading (read_axes words draw axes ls)
unfolding read_axes
axis_lines-sound words draw axes [] s = s
axis_lines-sound words draw axes (l ∷ []) s = cond_both SoundReading (eqb (length l.bytes) 0) _ _ (λ e. s) (λ e. sound_none)
axis_lines-sound words draw axes (l ∷ m ∷ ls) s =
    unless_refused-both SoundReading (axis_after axes (fields_of l.bytes)) l.number _
    (λ a e. axis_lines-sound words draw (axes ++ (axis_of (fields_of l.bytes) ∷ [])) (m ∷ ls) (sound-next s (good-on axes _ e)))
    (λ r e. sound_none)

draw_line-sound : (words : ℕ) (ls : List Line) → SoundReading (read_draw words ls)
unfolding read_draw
draw_line-sound words [] = sound_none
draw_line-sound words (l ∷ []) = sound_none
draw_line-sound words (l ∷ m ∷ ls) =
    cond_both SoundReading (ltb (draw_of (fields_of l.bytes)) 8) _ _ (λ e. axis_lines-sound words _ [] (m ∷ ls) sound_none)
    (λ e. sound_none)

pub memory_line-sound : (ls : List Line) → SoundReading (read_memory ls)
unfolding read_memory
memory_line-sound [] = sound_none
memory_line-sound (l ∷ []) = sound_none
memory_line-sound (l ∷ m ∷ ls) =
    cond_both SoundReading (eqb (memory_of (fields_of l.bytes)) 0) _ _ (λ e. sound_none) (λ e. draw_line-sound _ (m ∷ ls))

pub reading-sound : (text : List ℕ) → Sound (plan_in text).axes
unfolding reading
reading-sound text =
    cond_both SoundReading (ltb text_limit (length text)) _ _ (λ e. sound_none) (λ e. memory_line-sound (kept_lines 1 (lines_of text)))

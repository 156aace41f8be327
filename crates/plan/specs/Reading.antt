-- The reading of a plan's text (the scope, "Plans and images"): the first bad line decides. Assumes
-- nothing.
use Rattle.std.specs.Prelude.{Bool, true, cond, List, [], ◌∷◌, ◌++◌, ℕ, suc, eqb, ltb, length}
use Rattle.std.specs.Prelude.{Result, Ok, Err}
use Rattle.answers.specs.declared.Refused.{Refused}
use Rattle.answers.specs.declared.Refused.TheVariants.{Form}
use Rattle.ascii.specs.Ascii.{hash}
use Rattle.names.specs.Drawings.{drawing_count}
use Rattle.text.specs.Text.{lines_of, fields_of}
use Rattle.points.specs.Axes.{Axis}
use Rattle.line.specs.Line.{memory_of, draw_of}
use Rattle.axis.specs.Axis.{axis_of, axis_after}
use Rattle.plan.specs.declared.BadPlan.{BadPlan}

-- a line and its number; lines count from 1, skipped ones too
pub record Line : Type 0 where
  pub number : ℕ
  pub bytes : List ℕ

-- empty lines and lines starting with # are skipped
abbrev pub skipped : List ℕ → Bool
skipped [] = true
skipped (c ∷ cs) = eqb c hash

-- the lines that are not skipped, and last what follows the last line
unfoldable pub kept_lines : ℕ → List (List ℕ) → List Line
kept_lines n [] = []
kept_lines n (rest ∷ []) = record { number = n; bytes = rest } ∷ []
kept_lines n (l ∷ m ∷ ls) =
    cond (skipped l) (kept_lines (suc n) (m ∷ ls))
    (record { number = n; bytes = l } ∷ kept_lines (suc n) (m ∷ ls))

-- what is read: the memory's words; the drawing's number; the axes
pub record Reading : Type 0 where
  pub words : ℕ
  pub draw : ℕ
  pub axes : List Axis

abbrev pub accepted_reading : ℕ → ℕ → List Axis → Result Reading BadPlan
accepted_reading words draw axes = Ok (record { words = words; draw = draw; axes = axes })

-- or the refusal and its line
abbrev pub refused_at : {A : Type 0} → Refused → ℕ → Result A BadPlan
refused_at refused line = Err (record { refused = refused; line = line })

-- a line's refusal, or what follows from the lines behind it
abbrev pub unless_refused : {A B : Type 0}
    → Result A Refused → ℕ → Result B BadPlan → Result B BadPlan
unless_refused (Ok a) line behind = behind
unless_refused (Err refused) line behind = refused_at refused line

-- a refused plan has no words, no drawing, and no axes
abbrev pub or_nothing : Result Reading BadPlan → Reading
or_nothing (Ok r) = r
or_nothing (Err bad) = record { words = 0; draw = 0; axes = [] }

-- then axis lines, to the end; what follows the last byte 10 is a line that is not ended, where it
-- is anything
unfoldable pub read_axes : ℕ → ℕ → List Axis → List Line → Result Reading BadPlan
read_axes words draw axes [] = accepted_reading words draw axes
read_axes words draw axes (rest ∷ []) =
    cond (eqb (length rest.bytes) 0)
    (accepted_reading words draw axes)
    (refused_at Form rest.number)
read_axes words draw axes (l ∷ m ∷ ls) =
    unless_refused (axis_after axes (fields_of l.bytes)) l.number
    (read_axes words draw (axes ++ (axis_of (fields_of l.bytes) ∷ [])) (m ∷ ls))

-- then the draw line; a missing one is 20 at the line after the last one, and one that is not ended
-- 20 at its own: the same number
unfoldable pub read_draw : ℕ → List Line → Result Reading BadPlan
read_draw words [] = refused_at Form 1
read_draw words (rest ∷ []) = refused_at Form rest.number
read_draw words (l ∷ m ∷ ls) =
    cond (ltb (draw_of (fields_of l.bytes)) drawing_count)
    (read_axes words (draw_of (fields_of l.bytes)) [] (m ∷ ls))
    (refused_at Form l.number)

-- first the memory line
unfoldable pub read_memory : List Line → Result Reading BadPlan
read_memory [] = refused_at Form 1
read_memory (rest ∷ []) = refused_at Form rest.number
read_memory (l ∷ m ∷ ls) =
    cond (eqb (memory_of (fields_of l.bytes)) 0)
    (refused_at Form l.number)
    (read_draw (memory_of (fields_of l.bytes)) (m ∷ ls))

-- a text is at most 65,536 bytes, else 20 on line 1
abbrev pub text_limit : ℕ
text_limit = 65536

unfoldable pub reading : List ℕ → Result Reading BadPlan
reading text =
    cond (ltb text_limit (length text)) (refused_at Form 1)
    (read_memory (kept_lines 1 (lines_of text)))

-- the plan in a text
abbrev pub plan_in : List ℕ → Reading
plan_in text = or_nothing (reading text)

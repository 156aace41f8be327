-- What an accepted plan has. No contract cites this file. Assumes nothing.
use mathlib.Core.Path.{◌≡◌, refl, sym}
use mathlib.Core.Bool.{true≢false}
use mathlib.Core.List.{List, [], ◌∷◌, ◌++◌}
use Prim.Native.Nat.{ℕ, ◌<◌, ◌≤◌}
use native.Mathlib.Nat.{pos_of_ne-zero}
use native.Mathlib.Omega.{arith}
use borrow.Author.Tests.{eqb-false, ltb-true, leb-true}
use lib.Dec.{eqb, ltb, leb}
use lib.ListN.{length}
use Rattle.std.specs.Prelude.{Result, Ok, Err, IfOk, IsOk}
use Rattle.text.specs.Text.{lines_of, fields_of, same}
use Rattle.names.specs.Drawings.{drawing_count}
use Rattle.names.specs.Limits.{plan_words}
use Rattle.points.specs.Axes.{Axis}
use Rattle.points.specs.OneToOne.{Sound}
use Rattle.line.specs.Words.{memory_word}
use Rattle.tabs.specs.Fields.{field_value}
use Rattle.line.specs.Line.{memory_of, draw_of}
use Rattle.axis.specs.Axis.{axis_of, axis_after}
use Rattle.plan.specs.declared.BadPlan.{BadPlan}
use Rattle.plan.specs.Reading.{Line, kept_lines, Reading, or_nothing, text_limit, read_axes, read_draw, read_memory, reading, plan_in}
use Rattle.plan.proofs.ReadingLaws.{unless_refused-both}
use Rattle.lists.proofs.TestLaws.{cond_both}
use Rattle.plan.proofs.SoundLaws.{reading-sound}

-- a memory of 1 to 32768 words, one of the eight drawings, and sound axes
pub record Accepted (r : Reading) : Type 0 where
  pub some_words : 1 ≤ r.words
  pub words-le : r.words ≤ plan_words
  pub draw-lt : r.draw < drawing_count
  pub sound : Sound r.axes

-- the memory line's words
abbrev Few : ℕ → Type 0
Few n = n ≤ plan_words

memory_of-le : (fields : List (List ℕ)) → memory_of fields ≤ plan_words
unfolding memory_of
memory_of-le [] = omega arith
memory_of-le (word ∷ []) = omega arith
memory_of-le (word ∷ size ∷ []) =
    cond_both Few (same word memory_word) _ _
    (λ e. cond_both Few (leb (field_value size) plan_words) _ _ (λ l. leb-true _ _ l) (λ l. omega arith)) (λ e. omega arith)
memory_of-le (word ∷ size ∷ f ∷ fs) = omega arith

-- what holds of a reading that is accepted
abbrev Where : (Reading → Type 0) → Result Reading BadPlan → Type 0
Where P r = IfOk r P

-- the axis lines keep the words and the drawing
abbrev Keeps : ℕ → ℕ → Reading → Type 0
Keeps words draw r = (r.words ≡ words) × (r.draw ≡ draw)

axis_lines-keeps : (words draw : ℕ) (axes : List Axis) (ls : List Line) → Where (Keeps words draw) (read_axes words draw axes ls)
unfolding read_axes
axis_lines-keeps words draw axes [] = (refl, refl)
axis_lines-keeps words draw axes (l ∷ []) =
    cond_both (Where (Keeps words draw)) (eqb (length l.bytes) 0) _ _ (λ q. (refl, refl)) (λ q. tt)
axis_lines-keeps words draw axes (l ∷ m ∷ ls) =
    unless_refused-both (Where (Keeps words draw)) (axis_after axes (fields_of l.bytes)) l.number _
    (λ a q. axis_lines-keeps words draw (axes ++ (axis_of (fields_of l.bytes) ∷ [])) (m ∷ ls)) (λ r q. tt)

-- the draw line keeps the words, and has one of the eight drawings
abbrev Draws : ℕ → Reading → Type 0
Draws words r = (r.words ≡ words) × (r.draw < drawing_count)

-- of a reading more is known where all of what is accepted has it
where-all : {P Q : Reading → Type 0} (r : Result Reading BadPlan) → ((x : Reading) → P x → Q x) → Where P r → Where Q r
where-all (Ok x) f p = f x p
where-all (Err bad) f p = tt

draw_line-draws : (words : ℕ) (ls : List Line) → Where (Draws words) (read_draw words ls)
unfolding read_draw
draw_line-draws words [] = tt
draw_line-draws words (l ∷ []) = tt
draw_line-draws words (l ∷ m ∷ ls) =
    let draw = draw_of (fields_of l.bytes) in
    cond_both (Where (Draws words)) (ltb draw drawing_count) _ _
    (λ q. where-all (read_axes words draw [] (m ∷ ls)) (λ x k. (k.0, rw k.1 (ltb-true _ _ q))) (axis_lines-keeps words draw [] (m ∷ ls)))
    (λ q. tt)

abbrev Ranged : Reading → Type 0
Ranged r = (1 ≤ r.words) × (r.words ≤ plan_words) × (r.draw < drawing_count)

memory_line-ranged : (ls : List Line) → Where Ranged (read_memory ls)
unfolding read_memory
memory_line-ranged [] = tt
memory_line-ranged (l ∷ []) = tt
memory_line-ranged (l ∷ m ∷ ls) =
    let words = memory_of (fields_of l.bytes) in
    cond_both (Where Ranged) (eqb words 0) _ _ (λ q. tt)
    (λ q.
    where-all (read_draw words (m ∷ ls))
    (λ x k. rw k.0 (pos_of_ne-zero (eqb-false _ _ q), memory_of-le (fields_of l.bytes), k.1)) (draw_line-draws words (m ∷ ls)))

reading-ranged : (text : List ℕ) → Where Ranged (reading text)
unfolding reading
reading-ranged text =
    cond_both (Where Ranged) (ltb text_limit (length text)) _ _ (λ q. tt)
    (λ q. memory_line-ranged (kept_lines 1 (lines_of text)))

accepted-ranged : (r : Result Reading BadPlan) → Where Ranged r → IsOk r → Ranged (or_nothing r)
accepted-ranged (Ok x) w e = w
accepted-ranged (Err bad) w e = absurd (true≢false (sym e))

pub reading-accepted : (text : List ℕ) → IsOk (reading text) → Accepted (plan_in text)
reading-accepted text e =
    let (some, few, d) = accepted-ranged (reading text) (reading-ranged text) e in
    record { some_words = some; words-le = few; draw-lt = d; sound = reading-sound text }

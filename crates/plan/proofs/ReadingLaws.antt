-- Laws of `specs/Reading.antt`: a line taken from the front. No contract cites this file. Assumes nothing.
use mathlib.Core.Path.{◌≡◌, refl}
use mathlib.Core.Bool.{true, false}
use mathlib.Core.List.{List, [], ◌∷◌, ◌++◌}
use Prim.Native.Nat.{ℕ, suc, ◌<◌, ◌≤◌}
use native.Mathlib.Omega.{arith}
use borrow.Author.Tests.{eq-eqb, ne_eqb, lt-ltb, le-ltb}
use lib.Dec.{eqb}
use lib.ListN.{length}
use Rattle.std.specs.Prelude.{Result, Ok, Err}
use Rattle.answers.specs.declared.Refused.{Refused}
use Rattle.answers.specs.declared.Refused.TheVariants.{Form}
use Rattle.text.specs.Text.{in_front, parts, fields_of}
use Rattle.points.specs.Axes.{Axis}
use Rattle.line.specs.Line.{memory_of, draw_of}
use Rattle.axis.specs.Axis.{axis_of, axis_after}
use Rattle.axis.specs.declared.AxisLine.{AxisLine}
use Rattle.plan.specs.declared.BadPlan.{BadPlan}
use Rattle.plan.specs.Reading.{Line, skipped, kept_lines, accepted_reading, refused_at, unless_refused, read_axes, read_draw, read_memory}
use Rattle.lists.proofs.TestLaws.{cond_both}

-- There is always a line

pub parts-some : (mark : ℕ) (s : List ℕ) → 0 < length (parts mark s)
unfolding in_front parts
parts-some mark [] = omega arith
parts-some mark (c ∷ s) =
    cond_both (λ (ps : List (List ℕ)). 0 < length ps) (eqb c mark) _ _ (λ e. omega arith) (λ e. before-some (parts mark s))
  where
    before-some : (ps : List (List ℕ)) → 0 < length (in_front c ps)
    before-some [] = omega arith
    before-some (p ∷ ps) = omega arith

pub kept-some : (n : ℕ) (ls : List (List ℕ)) → 0 < length ls → 0 < length (kept_lines n ls)
unfolding kept_lines
kept-some n [] h = h
kept-some n (l ∷ []) h = omega arith
kept-some n (l ∷ m ∷ ls) h =
    cond_both (λ (ks : List Line). 0 < length ks) (skipped l) _ _ (λ e. kept-some _ (m ∷ ls) (omega arith)) (λ e. omega arith)

-- A line that is skipped, and one that is not

module _ (n : ℕ) (l : List ℕ) where
  pub kept-skip : (ls : List (List ℕ)) → 0 < length ls → skipped l ≡ true → kept_lines n (l ∷ ls) ≡ kept_lines (suc n) ls
  unfolding kept_lines
  kept-skip [] h e = absurd (omega arith)
  kept-skip (m ∷ ls) h e = rw e

  pub kept-keep : (ls : List (List ℕ)) → 0 < length ls → skipped l ≡ false
      → kept_lines n (l ∷ ls) ≡ record { number = n; bytes = l } ∷ kept_lines (suc n) ls
  unfolding kept_lines
  kept-keep [] h e = absurd (omega arith)
  kept-keep (m ∷ ls) h e = rw e

  pub kept-last : kept_lines n (l ∷ []) ≡ record { number = n; bytes = l } ∷ []
  unfolding kept_lines
  kept-last = refl

-- A memory line, a draw line, an axis line

module _ (l : Line) where
  pub memory-last : read_memory (l ∷ []) ≡ refused_at Form l.number
  unfolding read_memory
  memory-last = refl

  pub memory-bad : (ls : List Line) → memory_of (fields_of l.bytes) ≡ 0 → read_memory (l ∷ ls) ≡ refused_at Form l.number
  unfolding read_memory
  memory-bad [] e = refl
  memory-bad (m ∷ ls) e = rw (eq-eqb _ _ e)

  pub memory-next : (ls : List Line) → 0 < length ls → (memory_of (fields_of l.bytes) ≡ 0 → ⊥)
      → read_memory (l ∷ ls) ≡ read_draw (memory_of (fields_of l.bytes)) ls
  unfolding read_memory
  memory-next [] h n = absurd (omega arith)
  memory-next (m ∷ ls) h n = rw (ne_eqb _ _ n)

module _ (words : ℕ) (l : Line) where
  pub draw-last : read_draw words (l ∷ []) ≡ refused_at Form l.number
  unfolding read_draw
  draw-last = refl

  pub draw-bad : (ls : List Line) → 8 ≤ draw_of (fields_of l.bytes) → read_draw words (l ∷ ls) ≡ refused_at Form l.number
  unfolding read_draw
  draw-bad [] h = refl
  draw-bad (m ∷ ls) h = rw (le-ltb _ _ h)

  pub draw-next : (ls : List Line) → 0 < length ls → draw_of (fields_of l.bytes) < 8
      → read_draw words (l ∷ ls) ≡ read_axes words (draw_of (fields_of l.bytes)) [] ls
  unfolding read_draw
  draw-next [] h d = absurd (omega arith)
  draw-next (m ∷ ls) h d = rw (lt-ltb _ _ d)

module _ (words draw : ℕ) (axes : List Axis) (l : Line) where
  pub axes-end : length l.bytes ≡ 0 → read_axes words draw axes (l ∷ []) ≡ accepted_reading words draw axes
  unfolding read_axes
  axes-end e = rw (eq-eqb _ _ e)

  pub axes-last : (length l.bytes ≡ 0 → ⊥) → read_axes words draw axes (l ∷ []) ≡ refused_at Form l.number
  unfolding read_axes
  axes-last n = rw (ne_eqb _ _ n)

  pub axes-bad : (ls : List Line) → 0 < length ls → {r : Refused} → axis_after axes (fields_of l.bytes) ≡ Err r
      → read_axes words draw axes (l ∷ ls) ≡ refused_at r l.number
  unfolding read_axes
  axes-bad [] h e = absurd (omega arith)
  axes-bad (m ∷ ls) h e = rw e

  pub axes-next : (ls : List Line) → 0 < length ls → {a : AxisLine} → axis_after axes (fields_of l.bytes) ≡ Ok a
      → read_axes words draw axes (l ∷ ls) ≡ read_axes words draw (axes ++ (axis_of (fields_of l.bytes) ∷ [])) ls
  unfolding read_axes
  axes-next [] h e = absurd (omega arith)
  axes-next (m ∷ ls) h e = rw e

-- A line's refusal, or what follows from the lines behind it

pub unless_refused-both : {A B : Type 0} (P : Result B BadPlan → Type 0) (x : Result A Refused) (line : ℕ) (behind : Result B BadPlan)
    → ((a : A) → x ≡ Ok a → P behind) → ((r : Refused) → x ≡ Err r → P (refused_at r line)) → P (unless_refused x line behind)
unless_refused-both P (Ok a) line behind f g = f a refl
unless_refused-both P (Err r) line behind f g = g r refl

-- A line is taken in: what follows from what each kind of line makes of the state. No contract cites this file. Assumes nothing.
use mathlib.Core.Path.{◌≡◌, refl, sym, ap, ◌∙◌}
use mathlib.Core.Bool.{Bool, true, false, true≢false, ◌||◌}
use mathlib.Core.List.{List, [], ◌∷◌, ◌++◌}
use Prim.Native.Nat.{ℕ, ◌<◌, ◌≤◌}
use native.Mathlib.Omega.{arith}
use borrow.Author.Tests.{eqb-true, eqb-false, ne_eqb, ltb-true, ltb-false}
use lib.Dec.{eqb, ltb}
use Rattle.std.specs.Prelude.{Result}
use Rattle.answers.specs.declared.Refused.TheVariants.{Form}
use lib.ListN.{length, drop, length-drop}
use Rattle.lists.proofs.TestLaws.{cond_both, or-eq-false}
use Rattle.text.specs.Text.{fields_of}
use Rattle.line.specs.Line.{memory_of, draw_of}
use Rattle.axis.specs.Axis.{axis_of}
use Rattle.plan.specs.declared.Cursor.{Cursor}
use Rattle.plan.specs.declared.State.{State}
use Rattle.plan.specs.declared.BadPlan.{BadPlan}
use Rattle.plan.specs.Reading.{Reading, or_nothing, accepted_reading, refused_at, read_axes, read_draw, read_memory}
use Rattle.plan.specs.Cursor.{line_at, lines_from, reading_of, NextLine}
use Rattle.plan.specs.State.{nothing_read, after_memory, after_draw, after_end, after_axis, held_axis}
use Rattle.plan.specs.State.{LinesRead, AllRead, PlanRead, LineRead}
use Rattle.plan.proofs.ReadingLaws.{memory-last, memory-bad, memory-next, draw-last, draw-bad, draw-next, axes-end, axes-last}
use Rattle.plan.proofs.ReadingLaws.{axes-bad, axes-next, unless_refused-both}
use Rattle.plan.proofs.CursorLaws.{line_of, lines_behind, some-behind, next-line, next_last}
use Rattle.plan.proofs.StateLaws.{holds-none, holds-going, holds-next, held_axis-is}

-- Before the first line
pub reads_none : (text : List ℕ) → LinesRead text nothing_read 0 1
reads_none text =
    record {
      memory = λ e. (refl, refl);
      draw = λ n e. absurd (n refl);
      none = λ e. holds-none text;
      axes = λ n e. absurd (n refl);
    }

-- At the next line that is not skipped

module _ {text : List ℕ} {n m : ℕ} {c : Cursor} (x : NextLine text n m c) where
  -- it is the next one from itself, and the lines before it are read too
  pub here : NextLine text c.at c.line c
  here =
      record {
        reached = record { place = x.reached.place; onwards = omega arith; ends = x.reached.ends; lines = refl };
        stays = x.stays;
      }

  pub read-here : {s : State} → LinesRead text s n m → LinesRead text s c.at c.line
  read-here {s} r =
      let same = x.reached.lines in
      record {
        memory = λ e. let (d, whole) = r.memory e in (d, whole ∙ ap read_memory same);
        draw = λ w e. r.draw w e ∙ ap (read_draw s.plan.words) same;
        none = r.none;
        axes =
            λ w e.
            let y = r.axes w e in
            record { axes = y.axes; holds = y.holds; ahead = y.ahead ∙ ap (read_axes s.plan.words s.plan.draw y.axes) same };
      }

module _ {text : List ℕ} {c : Cursor} {s : State} (n : NextLine text c.at c.line c) (r : LinesRead text s c.at c.line) where
  -- Behind the last line

  module _ (last : length text ≤ c.end) where
    rest : lines_from text c.at c.line ≡ line_of c (drop c.at text) ∷ []
    rest = next_last n last

    -- something is left, or a line is missing
    end_refused : (ltb c.at (length text) || eqb s.plan.draw 8) ≡ true → reading_of text ≡ refused_at Form c.line
    end_refused e = words _ refl
      where
        left : (s.plan.draw ≡ 8 → ⊥) → c.at < length text
        left d = ltb-true _ _ (go _ (ltb c.at (length text)) (ne_eqb _ 8 d) e)
          where
            go : (b a : Bool) → b ≡ false → (a || b) ≡ true → a ≡ true
            go b true f t = refl
            go b false f t = sym f ∙ t ∙ absurd (true≢false (sym t ∙ f))

        drawn : (s.plan.words ≡ 0 → ⊥) → (b : Bool) → eqb s.plan.draw 8 ≡ b → reading_of text ≡ refused_at Form c.line
        drawn w true q = r.draw w (eqb-true _ _ q) ∙ rw rest (draw-last s.plan.words _)
        drawn w false q =
            let d = eqb-false s.plan.draw 8 q in
            let x = r.axes w d in
            x.ahead ∙ rw rest (axes-last _ _ x.axes _ (λ z. omega (arith, length-drop c.at text, z, left d)))

        words : (b : Bool) → eqb s.plan.words 0 ≡ b → reading_of text ≡ refused_at Form c.line
        words true q = (r.memory (eqb-true _ _ q)).1 ∙ rw rest (memory-last _)
        words false q = drawn (eqb-false _ _ q) _ refl

    -- nothing is
    end-accepted : (ltb c.at (length text) || eqb s.plan.draw 8) ≡ false → AllRead text s
    end-accepted e =
        let (none, q) = or-eq-false (ltb c.at (length text)) (eqb s.plan.draw 8) e in
        let d = eqb-false s.plan.draw 8 q in
        let x = r.axes (λ w. d (r.memory w).0) d in
        let h = x.holds in
        let whole : reading_of text ≡ accepted_reading s.plan.words s.plan.draw x.axes =
        x.ahead ∙ rw rest (axes-end _ _ x.axes _ (omega (arith, length-drop c.at text, ltb-false c.at (length text) none))) in
        record {
          plan-is = rw (whole, ← h.axes-is, ← h.points-is);
          starts-at =
              record {
                few = omega (arith, h.axes-is, h.sound.few);
                size = h.places;
                axes-are = ap (λ (w : Result Reading BadPlan). (or_nothing w).axes) whole ∙ h.starts-are;
              };
        }

    pub after-end : PlanRead text (after_end s (ltb c.at (length text)) c.line)
    after-end = cond_both (PlanRead text) (ltb c.at (length text) || eqb s.plan.draw 8) _ _ end_refused end-accepted

  -- At a line that is ended, and is this one

  module _ (ended : c.end < length text) (line : List ℕ) (is : line ≡ line_at text c.at) where
    lines : lines_from text c.at c.line ≡ line_of c line ∷ lines_behind text c
    lines = next-line n ended is

    pub after-memory : s.plan.words ≡ 0 → LineRead text c (after_memory s (memory_of (fields_of line)) c.line)
    after-memory w =
        let (d, whole) = r.memory w in
        let m = memory_of (fields_of line) in
        cond_both (LineRead text c) (eqb m 0) _ _
        (λ e. whole ∙ rw lines (memory-bad (line_of c line) _ (eqb-true _ _ e)))
        (λ e.
        let z = eqb-false m 0 e in
        record {
          memory = λ q. absurd (z q);
          draw = λ f q. whole ∙ rw lines (memory-next (line_of c line) _ (some-behind text c) z);
          none = λ q. holds-going m 8 (r.none d);
          axes = λ f q. absurd (q refl);
        })

    pub after-draw : (s.plan.words ≡ 0 → ⊥) → s.plan.draw ≡ 8 → LineRead text c (after_draw s (draw_of (fields_of line)) c.line)
    after-draw w d =
        let whole = r.draw w d in
        let k = draw_of (fields_of line) in
        cond_both (LineRead text c) (ltb k 8) _ _
        (λ e.
        let less = ltb-true k 8 e in
        record {
          memory = λ q. absurd (w q);
          draw = λ f q. absurd (omega arith);
          none = λ q. absurd (omega arith);
          axes =
              λ f q.
              record {
                axes = [];
                holds = holds-going s.plan.words k (r.none d);
                ahead = whole ∙ rw lines (draw-next s.plan.words (line_of c line) _ (some-behind text c) less);
              };
        })
        (λ e. whole ∙ rw lines (draw-bad s.plan.words (line_of c line) _ (ltb-false _ _ e)))

    pub after-axis : (s.plan.words ≡ 0 → ⊥) → (s.plan.draw ≡ 8 → ⊥) → LineRead text c (after_axis s (fields_of line) c)
    after-axis w d =
        let x = r.axes w d in
        let fields = fields_of line in
        let is-line = held_axis-is fields x.holds in
        unless_refused-both (LineRead text c) (held_axis s fields) c.line _
        (λ a e.
        let good = sym is-line ∙ e in
        record {
          memory = λ q. absurd (w q);
          draw = λ f q. absurd (d q);
          none = λ q. absurd (d q);
          axes =
              λ f q.
              record {
                axes = x.axes ++ (axis_of fields ∷ []);
                holds = holds-next fields c.at (ap fields_of is) x.holds good;
                ahead = x.ahead ∙ rw lines (axes-next _ _ x.axes (line_of c line) _ (some-behind text c) good);
              };
        })
        (λ b e. x.ahead ∙ rw lines (axes-bad _ _ x.axes (line_of c line) _ (some-behind text c) (sym is-line ∙ e)))

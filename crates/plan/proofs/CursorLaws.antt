-- Laws of `specs/Cursor.antt`. No contract cites this file. Assumes nothing.
use mathlib.Core.Path.{◌≡◌, refl, ap, ◌∙◌}
use mathlib.Core.Bool.{Bool, true, false, cond, and-eq-true_iff}
use mathlib.Core.List.{List, [], ◌∷◌}
use Prim.Native.Nat.{ℕ, ◌+◌, ◌<◌, ◌≤◌}
use native.Mathlib.Nat.{add-zero}
use native.Mathlib.Numerals.{add-one}
use native.Mathlib.Omega.{arith}
use borrow.Author.Tests.{ltb-true, lt-ltb}
use lib.Dec.{eqb}
use lib.ListN.{length, get_or, drop}
use lib.Seq.{get_or-drop}
use Rattle.text.specs.Text.{up_to}
use Rattle.text.proofs.TextLaws.{part-end-le, parts-before, parts_last}
use Rattle.plan.specs.declared.Cursor.{Cursor}
use Rattle.plan.specs.Reading.{Line, skipped, kept_lines}
use Rattle.plan.specs.Cursor.{line_at, lines_from, skipped_at, FoundLine, NextLine}
use Rattle.plan.proofs.ReadingLaws.{parts-some, kept-some, kept-skip, kept-keep, kept-last}

-- The test of a line

skipped-nil : (l : List ℕ) → length l ≡ 0 → true ≡ skipped l
skipped-nil [] h = refl
skipped-nil (c ∷ l) h = absurd (omega arith)

skipped-up_to : (s : List ℕ) → (length (up_to 10 s) ≡ 0 → ⊥) → eqb (get_or s 0 0) 35 ≡ skipped (up_to 10 s)
unfolding up_to
skipped-up_to [] n = absurd (n refl)
skipped-up_to (c ∷ s) n = go (eqb c 10) n
  where
    go : (b : Bool) → (length (cond b [] (c ∷ up_to 10 s)) ≡ 0 → ⊥) → eqb c 35 ≡ skipped (cond b [] (c ∷ up_to 10 s))
    go true n = absurd (n refl)
    go false n = refl

module _ (text : List ℕ) (at end : ℕ) where
  module _ (is : end ≡ at + length (line_at text at)) (ended : end < length text) where
    pub skipped_at-first : (at ≡ end → ⊥) → eqb (get_or text at 0) 35 ≡ skipped_at text at end
    skipped_at-first n =
        let first : get_or (drop at text) 0 0 ≡ get_or text at 0 = get_or-drop at text 0 0 ∙ rw add-zero in
        rw (lt-ltb _ _ ended, ← first) (skipped-up_to (drop at text) (λ z. n (omega arith)))

-- The lines from a line on

lines-some : (text : List ℕ) (at number : ℕ) → 0 < length (lines_from text at number)
lines-some text at number = kept-some number _ (parts-some 10 (drop at text))

module _ (text : List ℕ) (at end number : ℕ) (is : end ≡ at + length (line_at text at)) where
  lines-skip : skipped_at text at end ≡ true → lines_from text at number ≡ lines_from text (end + 1) (number + 1)
  lines-skip e =
      let (l, s) = (and-eq-true_iff _ _).0 e in
      ap (kept_lines number) (parts-before 10 text at end is (ltb-true _ _ l))
      ∙ kept-skip number _ _ (parts-some 10 _) s
      ∙ rw (add-one end, add-one number)

  lines_keep : end < length text → skipped_at text at end ≡ false
      → lines_from text at number ≡ record { number = number; bytes = line_at text at } ∷ lines_from text (end + 1) (number + 1)
  lines_keep h e =
      ap (kept_lines number) (parts-before 10 text at end is h)
      ∙ kept-keep number _ _ (parts-some 10 _) (rw (lt-ltb _ _ h) at e)
      ∙ rw (add-one end, add-one number)

  lines-last : length text ≤ end → lines_from text at number ≡ record { number = number; bytes = drop at text } ∷ []
  lines-last h = ap (kept_lines number) (parts_last 10 text at end is h) ∙ kept-last number _

-- The next line: from a place on, past a line that is skipped, and where one is not

module _ {text : List ℕ} {from number : ℕ} where
  module _ {at end line : ℕ} (r : FoundLine text from number (record { at = at; end = end; line = line })) where
    pub end-le : end ≤ length text
    end-le = part-end-le 10 text at end r.ends r.place.within

    pub reached-next : {end' : ℕ} → skipped_at text at end ≡ true → end' ≡ end + 1 + length (line_at text (end + 1))
        → (end < length text) × FoundLine text from number (record { at = end + 1; end = end'; line = line + 1 })
    reached-next s e =
        let h : end < length text = ltb-true _ _ ((and-eq-true_iff _ _).0 s).0 in (
          h,
          record {
            place = record { within = omega arith; numbered = omega (arith, r.place.numbered, r.ends) };
            onwards = omega (arith, r.onwards, r.ends);
            ends = e;
            lines = r.lines ∙ lines-skip text at end line r.ends s;
          },
        )

-- The line that is next

abbrev pub line_of : Cursor → List ℕ → Line
line_of c line = record { number = c.line; bytes = line }

abbrev pub lines_behind : List ℕ → Cursor → List Line
lines_behind text c = lines_from text (c.end + 1) (c.line + 1)

pub some-behind : (text : List ℕ) (c : Cursor) → 0 < length (lines_behind text c)
some-behind text c = lines-some text (c.end + 1) (c.line + 1)

module _ {text : List ℕ} {from number : ℕ} {c : Cursor} (n : NextLine text from number c) where
  -- a line that is ended: it, and the lines behind it
  module _ (ended : c.end < length text) where
    pub next-line : {line : List ℕ} → line ≡ line_at text c.at → lines_from text from number ≡ line_of c line ∷ lines_behind text c
    next-line is = n.reached.lines ∙ rw is (lines_keep text c.at c.end c.line n.reached.ends ended n.stays)

  -- what follows the last line
  pub next_last : length text ≤ c.end → lines_from text from number ≡ line_of c (drop c.at text) ∷ []
  next_last h = n.reached.lines ∙ lines-last text c.at c.end c.line n.reached.ends h

-- Laws of `lines`: when a run of points answers 9, and one law for each way out. No contract cites this file. Assumes nothing.
use mathlib.Core.Path.{◌≡◌, refl, sym, ap, ◌∙◌}
use mathlib.Core.Bool.{Bool, true, false, cond}
use mathlib.Core.List.{List, []}
use Prim.Native.Nat.{ℕ}
use native.Mathlib.Omega.{arith}
use lib.Dec.{eqb}
use lib.ListN.{length, set}
use Rattle.std.specs.Prelude.{Result, Ok, Err}
use Rattle.std.specs.Result.{result_unwrap_or}
use Rattle.answers.specs.Answer.{answer}
use Rattle.answers.specs.declared.Refused.{Refused}
use Rattle.answers.specs.declared.Refused.TheVariants.{Arguments, Memory, Point}
use Rattle.memory.specs.Bits.{no_memory}
use Rattle.points.specs.Table.{axes_in}
use Rattle.run.specs.Lines.{bad_shape, bad_points, point_lines}
use Rattle.run.proofs.AnswerLaws as run
use Rattle.c_arrays.specs.Out.{bad_call, short}
use Rattle.c_plan.specs.Plan.{bad_lines, LinesCall}

-- what a run gives, by its tests
abbrev given : Bool → Bool → Bool → List ℕ → Result ℕ Refused
given a b c lines = cond a (Err Arguments) (cond b (Err Memory) (cond c (Err Point) (Ok (length lines))))

-- 9 is no other answer's number
arguments : (a b c : Bool) (lines : List ℕ) → answer (given a b c lines) ≡ bad_call → a ≡ true
arguments true b c lines e = refl
arguments false true c lines e = absurd (omega arith)
arguments false false true lines e = absurd (omega arith)
arguments false false false lines e = absurd (omega arith)

other : (a b c : Bool) (lines : List ℕ) → (answer (given a b c lines) ≡ bad_call → ⊥) → a ≡ false
other true b c lines h = absurd (h refl)
other false b c lines h = refl

-- how many bytes it writes
bytes-given : (a b c : Bool) (lines : List ℕ)
    → result_unwrap_or (given a b c lines) 0 ≡ length (cond (eqb (answer (given a b c lines)) 0) lines [])
bytes-given true b c lines = refl
bytes-given false true c lines = refl
bytes-given false false true lines = refl
bytes-given false false false lines = refl

module _ (table : List ℕ) (axes draw first count : ℕ) (image memory out bytes : List ℕ) where
  -- there is one, and the run has ended so
  module _ {r : Result ℕ Refused} {image' memory' out' : List ℕ} (g : short 1 bytes ≡ false)
      (l : run.Ends draw axes table first count image memory out r image' memory' out') where
    -- its tests, in their order, the lines, and the answer
    abbrev shape : Bool
    shape = bad_shape (length image) (length memory) draw count (length out)

    abbrev empty : Bool
    empty = no_memory (length image)

    abbrev points : Bool
    points = bad_points axes table first count

    abbrev lines : List ℕ
    lines = point_lines (length image) draw (axes_in axes table) first count

    answer-is : answer r ≡ answer (given shape empty points lines)
    answer-is = ap answer l.0

    pub ends-nine : answer r ≡ bad_call → LinesCall table axes draw first count image memory out bytes bad_call image' memory' out' bytes
    ends-nine h =
        let e = arguments shape empty points lines (sym answer-is ∙ h) in
        let n = run.ends-nine draw axes table first count image memory out e in
        record {
          answers = rw (g, e);
          image-is = rw (g, e) (l.1.0 ∙ sym n.1.0);
          memory-is = rw (g, e) (l.1.1.0 ∙ sym n.1.1.0);
          out-is = rw (g, e) (l.1.1.1 ∙ sym n.1.1.1);
          bytes-is = rw (g, e);
        }

    -- nothing is bad where the run does not answer 9
    good : (answer r ≡ bad_call → ⊥) → bad_lines draw count image memory out bytes ≡ false
    good h = rw (g, other shape empty points lines (λ q. h (answer-is ∙ q)))

    pub ends-run : (answer r ≡ bad_call → ⊥)
        → LinesCall table axes draw first count image memory out bytes (answer r) image' memory' out' (set bytes 0 (result_unwrap_or r 0))
    ends-run h =
        let e = good h in
        record {
          answers = rw e answer-is;
          image-is = rw e l.1.0;
          memory-is = rw e l.1.1.0;
          out-is = rw e l.1.1.1;
          bytes-is = rw (e, l.0, bytes-given shape empty points lines);
        }

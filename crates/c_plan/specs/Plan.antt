-- Plans for C: bad arguments, what is read as five results, and the promises of the calls. Assumes
-- nothing.
use Rattle.std.specs.Prelude.{◌≡◌, Bool, cond, ◌||◌, Result, Ok, Err, List, [], ◌∷◌, ℕ, length}
use Rattle.plan.specs.declared.Plan.{Plan}
use Rattle.plan.specs.declared.BadPlan.{BadPlan}
use Rattle.plan.specs.Table.{room, plan_of, plan_answer, table_after}
use Rattle.listing.specs.Listing.{put}
use Rattle.run.specs.Lines.{bad_shape, answer_of, written, image_after, memory_after}
use Rattle.c_arrays.specs.Out.{short, answered, stored_out}

-- how many results of reading there are: BH_PLAN_RESULTS of the header
abbrev pub plan_result_count : ℕ
plan_result_count = 5

-- the table has no room for the axes, or the output for the results
abbrev pub bad_read : List ℕ → List ℕ → Bool
bad_read table out = short room table || short plan_result_count out

-- the line of the refusal, 0 where there is none; the memory's words, the drawing's number, and how
-- many axes and points there are, zeros of a refused plan
abbrev pub plan_results : Result Plan BadPlan → List ℕ
plan_results (Ok p) = 0 ∷ p.words ∷ p.draw ∷ p.axes ∷ p.points ∷ []
plan_results (Err bad) = bad.line ∷ 0 ∷ 0 ∷ 0 ∷ 0 ∷ []

-- the promise of `read`: what it answers, and what it leaves in the table and the output array
pub record PlanReadCall (text table out : List ℕ)
    (answer : ℕ) (table' out' : List ℕ) : Type 0 where
  pub answers : answer ≡ answered (bad_read table out) (plan_answer (plan_of text (length table)))
  pub out-is :
      out' ≡ stored_out (bad_read table out) out (plan_results (plan_of text (length table)))
  pub table_is : table' ≡ cond (bad_read table out) table (table_after text table)

-- the memories, the drawing or the output cannot be used, or there is no place for the number of
-- bytes
abbrev pub bad_lines : (draw count : ℕ) (image memory out bytes : List ℕ) → Bool
bad_lines draw count image memory out bytes =
    short 1 bytes || bad_shape (length image) (length memory) draw count (length out)

-- the promise of `lines`: what it answers, and what it leaves in the image, the memory, the output
-- and the number of bytes
pub record LinesCall (table : List ℕ) (axes draw first count : ℕ) (image memory out bytes : List ℕ)
    (answer : ℕ) (image' memory' out' bytes' : List ℕ) : Type 0 where
  pub answers :
      let call =
      answer_of (length image) (length memory) (length out) draw axes table first count in
      answer ≡ answered (bad_lines draw count image memory out bytes) call
  pub image-is :
      let after = image_after image (length memory) (length out) draw axes table first count in
      image' ≡ cond (bad_lines draw count image memory out bytes) image after
  pub memory-is :
      let after = memory_after memory (length image) (length out) draw axes table first count in
      memory' ≡ cond (bad_lines draw count image memory out bytes) memory after
  pub out-is :
      let text = written (length image) (length memory) (length out) draw axes table first count in
      out' ≡ cond (bad_lines draw count image memory out bytes) out (put 0 text out)
  pub bytes-is :
      let text = written (length image) (length memory) (length out) draw axes table first count in
      bytes' ≡ stored_out (bad_lines draw count image memory out bytes) bytes (length text ∷ [])

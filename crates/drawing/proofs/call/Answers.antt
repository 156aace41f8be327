-- `call` meets its contract. Assumes nothing.
use mathlib.Core.Path.{◌≡◌, sym, ap, ◌∙◌}
use mathlib.Core.Bool.{cond}
use mathlib.Core.Logic.{◌≢◌}
use Prim.Native.Nat.{ℕ, ◌+◌, ◌≤◌}
use native.Mathlib.Omega.{arith}
use borrow.Author.Tests.{eq-eqb, ne_eqb}
use Rattle.answers.specs.Answer.{refusal_number, answer}
use Rattle.refusal.proofs.RefusalLaws.{numbered}
use Rattle.plot.specs.declared.Drawing.{Drawing}
use Rattle.plot.specs.Drawing.{pixels}
use Rattle.engine.specs.Engine.{visits, visited_from}
use Rattle.arrays.specs.Array.{clipped_array, v_after, drawing_for}
use Rattle.array_refusal.specs.Refusal.{refusal}
use Rattle.array_refusal.proofs.RefusalLaws.{place-le}
use Rattle.drawing.specs.Draw.{refused_call, outcome_at, outcome}
use Rattle.drawing.proofs.OutcomeLaws.{drawing-is, refusal-is, left-refused, left-accepted}
use Rattle.drawing.proofs.call.Goals as goal

pub returns-in-Err : goal.returns-in-Err
unfolding outcome
returns-in-Err c =
    let x = c.args in
    let n : refusal x.op x.s x.place x.words ≡ refusal_number c.in-Err.r =
    refusal-is x.op x.s c.clipped_array-c.ensures c.drawing_of-d.ensures x.place x.words c.refusal_of.ensures ∙ ap answer c.in-Err.is
    in
    let nz : refusal x.op x.s x.place x.words ≢ 0 = λ z. numbered c.in-Err.r (sym n ∙ z) in (
      rw (ne_eqb _ _ nz) (c.refused.ensures ∙ ap (refused_call x.s x.place x.v) (c.from.ensures ∙ sym n)),
      left-refused x.op x.s x.dry x.place x.budget x.words x.memory.now c.requires nz,
    )

pub place_after-next-requires : goal.place_after-next-requires
place_after-next-requires c =
    let x = c.args in
    let accepted =
    refusal-is x.op x.s c.clipped_array-c.ensures c.drawing_of-d.ensures x.place x.words c.refusal_of.ensures ∙ ap answer c.in_default.is
    in
    let at : x.place ≤ pixels c.drawing_of-d.result =
    rw (drawing-is x.op x.s c.clipped_array-c.ensures c.drawing_of-d.ensures) (place-le x.op x.s x.place x.words accepted)
    in
    omega (arith, at, c.visit-visited.ensures.0)

pub returns : goal.returns
unfolding outcome
returns c =
    let x = c.args in
    let m = x.memory.now in
    let array : c.clipped_array-c.result ≡ clipped_array x.op x.s = c.clipped_array-c.ensures in
    let drawing : c.drawing_of-d.result ≡ drawing_for x.op x.s = drawing-is x.op x.s array c.drawing_of-d.ensures in
    let accepted : refusal x.op x.s x.place x.words ≡ 0 =
    refusal-is x.op x.s array c.drawing_of-d.ensures x.place x.words c.refusal_of.ensures ∙ ap answer c.in_default.is
    in
    let visited : c.visit-visited.result ≡ visited_from (drawing_for x.op x.s) x.place x.budget =
    c.visit-visited.ensures.0 ∙ ap (λ (e : Drawing). visited_from e x.place x.budget) drawing
    in
    let v : c.v_after-after.result ≡ v_after x.op x.s x.v = c.v_after-after.ensures in
    let place : c.place_after-next.result ≡ x.place + visited_from (drawing_for x.op x.s) x.place x.budget =
    c.place_after-next.ensures ∙ ap (λ (n : ℕ). x.place + n) visited
    in (
      rw (eq-eqb _ _ accepted)
          (c.outcome_at.ensures ∙ (λ i. outcome_at x.op x.s (array i) (drawing i) (v i) (place i) (visited i))),
      c.visit-visited.ensures.1
          ∙ ap (λ (e : Drawing). cond x.dry m (visits e x.place (visited_from e x.place x.budget) m)) drawing
          ∙ left-accepted x.op x.s x.dry x.place x.budget x.words m c.requires accepted,
    )

-- What a call hands back and leaves, refused or not, and how its answer says which. No contract cites this file. Assumes nothing.
use mathlib.Core.Path.{◌≡◌, refl, sym, ap, ◌∙◌}
use mathlib.Core.Logic.{◌≢◌, by_cases}
use mathlib.Core.Bool.{Bool, true, false, cond}
use mathlib.Core.List.{List}
use Prim.Native.Nat.{ℕ, ◌+◌, ◌≤◌, ◌<◌}
use native.Mathlib.Decide.{ℕ_discrete}
use native.Mathlib.Omega.{arith}
use borrow.Author.Tests.{eq-eqb, ne_eqb}
use lib.Dec.{eqb}
use lib.ListN.{length}
use Rattle.std.specs.Prelude.{Result, ⊤}
use Rattle.answers.specs.declared.Refused.{Refused}
use Rattle.answers.specs.Answer.{answer}
use Rattle.windows.specs.declared.Clipped.{Clipped}
use Rattle.plot.specs.declared.Drawing.{Drawing}
use Rattle.settings.specs.declared.Settings.{Settings}
use Rattle.plot.specs.Drawing.{pixels}
use Rattle.engine.specs.Engine.{visits}
use Rattle.operation.specs.declared.Operation.{Operation}
use Rattle.arrays.specs.Array.{clipped_array, v_after, drawing_of, drawing_for}
use Rattle.array_refusal.specs.Refusal.{refusal_of, refusal}
use Rattle.array_refusal.proofs.RefusalLaws.{refusal-number}
use Rattle.drawing.specs.declared.Outcome.{Outcome}
use Rattle.drawing.specs.Draw.{refused_call, outcome_at, visited_by, outcome, drawn}

module _ (op : Operation) (s : Settings) where
  -- ---- the drawing and the refusal that a call works out are the call's
  module _ {c : Clipped} {d : Drawing} (array-is : c ≡ clipped_array op s) (is-of : d ≡ drawing_of op s c) where
    pub drawing-is : d ≡ drawing_for op s
    drawing-is = is-of ∙ ap (drawing_of op s) array-is

    pub refusal-is : {r : Result ⊤ Refused} (k w : ℕ) → r ≡ refusal_of op s c d k w → refusal op s k w ≡ answer r
    unfolding refusal
    refusal-is k w e = ap answer (sym (e ∙ (λ i. refusal_of op s (array-is i) (drawing-is i) k w)))

  -- ---- a call that is not refused, and one that is
  abbrev pub at : Bool → ℕ → ℕ → Outcome
  at v place visited = outcome_at op s (clipped_array op s) (drawing_for op s) v place visited

  pub outcome-accepted : (k : ℕ) (v : Bool) (b w : ℕ) → refusal op s k w ≡ 0
      → outcome op s k v b w ≡ at (v_after op s v) (k + visited_by op s k b) (visited_by op s k b)
  unfolding outcome
  outcome-accepted k v b w e = rw (eq-eqb _ _ e)

  pub outcome-refused : (k : ℕ) (v : Bool) (b w : ℕ) → refusal op s k w ≢ 0 → outcome op s k v b w ≡ refused_call s k v (refusal op s k w)
  unfolding outcome
  outcome-refused k v b w e = rw (ne_eqb _ _ e)

  pub drawn-accepted : (k b : ℕ) (m : List ℕ) → refusal op s k (length m) ≡ 0
      → drawn op s k b m ≡ visits (drawing_for op s) k (visited_by op s k b) m
  unfolding drawn
  drawn-accepted k b m e = rw (eq-eqb _ _ e)

  pub drawn-refused : (k b : ℕ) (m : List ℕ) → refusal op s k (length m) ≢ 0 → drawn op s k b m ≡ m
  unfolding drawn
  drawn-refused k b m e = rw (ne_eqb _ _ e)

  -- ---- the memory after a call over w words, and after a dry run, which leaves it
  pub left-refused : (dry : Bool) (k b w : ℕ) (m : List ℕ) → (dry ≡ false → w ≡ length m) → refusal op s k w ≢ 0
      → m ≡ cond dry m (drawn op s k b m)
  left-refused true k b w m l e = refl
  left-refused false k b w m l e = sym (drawn-refused k b m (rw (l refl) at e))

  pub left-accepted : (dry : Bool) (k b w : ℕ) (m : List ℕ) → (dry ≡ false → w ≡ length m) → refusal op s k w ≡ 0
      → cond dry m (visits (drawing_for op s) k (visited_by op s k b) m) ≡ cond dry m (drawn op s k b m)
  left-accepted true k b w m l e = refl
  left-accepted false k b w m l e = sym (drawn-accepted k b m (rw (l refl) at e))

  -- ---- the answer: 0 or 1 of a call that is not refused, else its refusal, 10 or more
  zero_one : (t : Bool) → cond t 0 1 ≤ 1
  zero_one true = omega arith
  zero_one false = omega arith

  answer-accepted : (k : ℕ) (v : Bool) (b w : ℕ) → refusal op s k w ≡ 0 → (outcome op s k v b w).answer ≤ 1
  unfolding outcome_at
  answer-accepted k v b w e = rw (outcome-accepted k v b w e) (zero_one (eqb (k + visited_by op s k b) (pixels (drawing_for op s))))

  answer-refused : (k : ℕ) (v : Bool) (b w : ℕ) → refusal op s k w ≢ 0 → (outcome op s k v b w).answer ≡ refusal op s k w
  answer-refused k v b w e = ap (λ (o : Outcome). o.answer) (outcome-refused k v b w e)

  pub refusal-of-large : (k : ℕ) (v : Bool) (b w : ℕ) → 1 < (outcome op s k v b w).answer → (outcome op s k v b w).answer ≡ refusal op s k w
  refusal-of-large k v b w h =
      by_cases (ℕ_discrete (refusal op s k w) 0)
      (λ e. absurd (omega (arith, answer-accepted k v b w e)))
      (λ e. answer-refused k v b w e)

  pub refusal-of-small : (k : ℕ) (v : Bool) (b w : ℕ) → (outcome op s k v b w).answer ≤ 1 → 0 ≡ refusal op s k w
  refusal-of-small k v b w h =
      by_cases (ℕ_discrete (refusal op s k w) 0)
      sym
      (λ e. absurd (omega (arith, answer-refused k v b w e, (refusal-number op s k w).least e)))

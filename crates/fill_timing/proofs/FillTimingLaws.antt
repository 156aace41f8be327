-- Which drawings have a time, and how great it can be. No contract cites this file. Assumes nothing.
use mathlib.Core.Path.{◌≡◌, refl, sym, ◌∙◌}
use mathlib.Core.Bool.{Bool, true, false, cond, ◌||◌, true≢false}
use mathlib.Core.Logic.{◌≢◌, by_cases}
use Prim.Native.Nat.{ℕ, ◌*◌, ◌^◌, ◌<◌, ◌≤◌}
use native.Mathlib.Decide.{ℕ_discrete}
use native.Mathlib.Nat.{mul-le-mul}
use native.Mathlib.Omega.{arith}
use borrow.Author.Tests.{eq-eqb, ne_eqb}
use lib.Dec.{eqb}
use Rattle.memory.proofs.Tests.{or-false-right}
use Rattle.pixel.proofs.SizeLaws.{size-le}
use Rattle.fill_tables.specs.declared.Time.{Time}
use Rattle.fill_tables.specs.Time.{time_of, most_states}
use Rattle.fill_tables.proofs.TimeLaws.{states-le}
use Rattle.settings.specs.declared.Settings.{Settings}
use Rattle.operation.specs.declared.Operation.{Operation}
use Rattle.operation.specs.Operation.{source_of, copies}
use Rattle.arrays.specs.Array.{clipped_array, drawing_of}
use Rattle.arrays.proofs.ArrayLaws.{cols-rows-le}
use Rattle.array_refusal.specs.Refusal.{refusal}
use Rattle.array_refusal.proofs.RefusalLaws.{passes}
use Rattle.drawing.specs.Draw.{outcome}
use Rattle.drawing.proofs.OutcomeLaws.{outcome-refused}
use Rattle.fill_timing.specs.FillTiming.{fill_of, no_time, fill_time}

module _ (op : Operation) (s : Settings) where
  or-true : (b : Bool) → (b || true) ≡ true
  or-true true = refl
  or-true false = refl

  -- no pixel is visited
  pub fill_time-none : fill_time op s 0 ≡ no_time
  unfolding fill_time
  fill_time-none = rw (or-true (copies (source_of op)))

  -- another drawing than FILL
  pub fill_time-copies : (visited : ℕ) → copies (source_of op) ≡ true → fill_time op s visited ≡ no_time
  unfolding fill_time
  fill_time-copies visited e = rw e

  -- a FILL that visits pixels
  pub fill_time-some : (visited : ℕ) → copies (source_of op) ≡ false → visited ≢ 0 → fill_time op s visited ≡ time_of (fill_of op s)
  unfolding fill_time
  fill_time-some visited e n = rw (e, ne_eqb _ _ n)

  -- a call that visits pixels is not refused
  accepted-of-visited : (k : ℕ) (v : Bool) (b words : ℕ) → (outcome op s k v b words).visited ≢ 0 → refusal op s k words ≡ 0
  accepted-of-visited k v b words n =
      by_cases (ℕ_discrete (refusal op s k words) 0) (λ e. e) (λ e. absurd (n (rw (outcome-refused op s k v b words e) refl)))

  filled-le : (k words : ℕ) → s.dydx < 2 ^ 32 → refusal op s k words ≡ 0 → (time_of (fill_of op s)).states ≤ most_states
  unfolding fill_of drawing_of
  filled-le k words h e =
      let size = size-le s.psize (passes op s k words e).size in
      let c = cols-rows-le op s in
      let cols : (clipped_array op s).cols ≤ 65535 = omega (arith, c.0) in
      let bits : (clipped_array op s).cols * s.psize ≤ 65535 * 16 = mul-le-mul cols size in
      states-le (fill_of op s) (omega (arith, bits)) (omega (arith, c.1))

  cond-le : (t : Bool) (a b : Time) (n : ℕ) → a.states ≤ n → (t ≡ false → b.states ≤ n) → (cond t a b).states ≤ n
  cond-le true a b n h k = h
  cond-le false a b n h k = k refl

  -- the states of a call, whole or not, refused or not
  pub fill_time-le : (k : ℕ) (v : Bool) (b words : ℕ) → s.dydx < 2 ^ 32
      → (fill_time op s (outcome op s k v b words).visited).states ≤ most_states
  unfolding fill_time
  fill_time-le k v b words h =
      let n = (outcome op s k v b words).visited in
      cond-le (copies (source_of op) || eqb n 0) no_time (time_of (fill_of op s)) most_states (omega arith)
      (λ e. filled-le k words h (accepted-of-visited k v b words (some n (or-false-right (copies (source_of op)) (eqb n 0) e))))
    where
      some : (n : ℕ) → eqb n 0 ≡ false → n ≢ 0
      some n e z = true≢false (sym (eq-eqb n 0 z) ∙ e)

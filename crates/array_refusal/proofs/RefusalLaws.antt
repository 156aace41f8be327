-- The refusals of a FILL or PIXBLT call: what one that is not refused has passed, and other places. No contract cites this file.
-- Assumes nothing.
use mathlib.Core.Path.{◌≡◌, sym}
use Prim.Native.Nat.{ℕ, ◌≤◌}
use borrow.Author.Tests.{ltb-false, le-ltb}
use Rattle.settings.specs.declared.Settings.{Settings}
use Rattle.refusal.specs.declared.Tests.{Tests}
use Rattle.refusal.proofs.RefusalLaws as table
use Rattle.plot.specs.Drawing.{pixels}
use Rattle.operation.specs.declared.Operation.{Operation}
use Rattle.arrays.specs.Array.{clipped_array, drawing_for}
use Rattle.array_refusal.specs.Refusal.{tests_of, refusal_of, refusal}

module _ (op : Operation) (s : Settings) where
  -- the tests of a call at place k over w words, and that it passes them
  abbrev pub tests_at : ℕ → ℕ → Tests
  tests_at k w = tests_of op s (clipped_array op s) (drawing_for op s) k w

  abbrev pub Passes : ℕ → ℕ → Type 0
  Passes k w = table.Passes w s (tests_at k w)

  pub passes : (k w : ℕ) → refusal op s k w ≡ 0 → Passes k w
  unfolding refusal refusal_of
  passes k w e = table.passes w s (tests_at k w) e

  pub refusal-number : (k w : ℕ) → table.Number (refusal op s k w)
  unfolding refusal refusal_of
  refusal-number k w = table.lowest-number w s (tests_at k w)

  pub place-le : (k w : ℕ) → refusal op s k w ≡ 0 → k ≤ pixels (drawing_for op s)
  place-le k w e = ltb-false (pixels (drawing_for op s)) k (passes k w e).place

  -- only 15 looks at the place
  pub refusal-moved : (k k' w : ℕ) → refusal op s k w ≡ 0 → k' ≤ pixels (drawing_for op s) → refusal op s k' w ≡ 0
  unfolding refusal refusal_of
  refusal-moved k k' w e h = rw (le-ltb (pixels (drawing_for op s)) k' h, sym (passes k w e).place) e

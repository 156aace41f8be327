-- V worked out again, and the new place of a call. No contract cites this file. Assumes nothing.
use mathlib.Core.Path.{◌≡◌, refl}
use mathlib.Core.Logic.{by_cases}
use mathlib.Core.Bool.{Bool, true, false, cond}
use Prim.Native.Nat.{ℕ, ◌+◌}
use native.Mathlib.Decide.{ℕ_discrete}
use native.Mathlib.Omega.{arith}
use Rattle.control.specs.Control.{windowing}
use Rattle.windows.specs.Window.{window_of, v_under}
use Rattle.windows.proofs.WindowLaws.{v_under-twice}
use Rattle.settings.specs.declared.Settings.{Settings}
use Rattle.operation.specs.declared.Operation.{Operation}
use Rattle.operation.specs.Operation.{to_xy}
use Rattle.arrays.specs.Array.{rectangle_of, v_after}
use Rattle.array_refusal.specs.Refusal.{refusal}
use Rattle.drawing.specs.Draw.{outcome_at, outcome}
use Rattle.drawing.proofs.OutcomeLaws.{outcome-accepted, outcome-refused}

-- ---- V is worked out anew, or stays
pub v_after-twice : (op : Operation) (s : Settings) (v : Bool) → v_after op s (v_after op s v) ≡ v_after op s v
unfolding v_after
v_after-twice op s v = go (to_xy op)
  where
    v·under : Bool → Bool
    v·under = v_under (windowing s.control) (rectangle_of s) (window_of s.wstart s.wend)

    go : (t : Bool) → cond t (v·under (cond t (v·under v) v)) (cond t (v·under v) v) ≡ cond t (v·under v) v
    go true = v_under-twice (windowing s.control) (rectangle_of s) (window_of s.wstart s.wend) v
    go false = refl

module _ (op : Operation) (s : Settings) where
  -- the new place is the old one plus the pixels visited
  pub new-place : (k : ℕ) (v : Bool) (b w : ℕ) → (outcome op s k v b w).place ≡ k + (outcome op s k v b w).visited
  unfolding outcome_at
  new-place k v b w =
      by_cases (ℕ_discrete (refusal op s k w) 0)
      (λ e. rw (outcome-accepted op s k v b w e) refl)
      (λ e. rw (outcome-refused op s k v b w e) (omega arith))

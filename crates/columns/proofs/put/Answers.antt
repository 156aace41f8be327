-- `columns::put` meets its contract: the line is made in an array of its greatest length, and put where it fits. Assumes nothing.
use mathlib.Core.Path.{◌≡◌}
use mathlib.Core.List.{List}
use Prim.Native.Nat.{ℕ, ◌≤◌}
use native.Mathlib.Omega.{arith}
use lib.ListN.{length, take, replicate}
use Rattle.listing.specs.Listing.{put}
use Rattle.listing.proofs.PlacedLaws.{first-bytes}
use Rattle.columns.specs.declared.Held.{Held}
use Rattle.columns.specs.Columns.{columns_line}
use Rattle.columns.specs.Held.{held_line}
use Rattle.columns.proofs.ColumnsLaws.{length-columns_line}
use Rattle.columns.proofs.put.Goals as goal

-- the text that is made
made : (point : ℕ) (vs : List ℕ) (cs : List Held) {r : ℕ} {o : List ℕ} → held_line cs ≡ columns_line point vs
    → r ≡ length (held_line cs) → o ≡ put 0 (held_line cs) (replicate 212 0)
    → (r ≤ length o) × (r ≡ length (take r o)) × (take r o ≡ columns_line point vs)
made point vs cs e n p =
    let k = rw e at n in first-bytes _ (replicate 212 0) (length-columns_line point vs) _ _ (omega (arith, k)) (rw e at p)

pub line-end-requires-clause-room : goal.line-end-requires-clause-room
line-end-requires-clause-room c =
    rw c.columns_of-columns.ensures (length-columns_line _ _)

pub slice_bounds-text-end : goal.slice_bounds-text-end
slice_bounds-text-end c =
    (made _ _ _ c.columns_of-columns.ensures c.line-end.ensures.value c.line-end.ensures.text_after).0

pub slice_bounds-bytes-end : goal.slice_bounds-bytes-end
slice_bounds-bytes-end c =
    (made _ _ _ c.columns_of-columns.ensures c.line-end.ensures.value c.line-end.ensures.text_after).1

pub returns : goal.returns
returns c =
    let e = (made _ _ _ c.columns_of-columns.ensures c.line-end.ensures.value c.line-end.ensures.text_after).2 in
    record { value = rw e at c.bytes.ensures.value; out_after = rw e at c.bytes.ensures.out_after }

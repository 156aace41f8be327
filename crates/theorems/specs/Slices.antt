-- Drawings in slices: one drawing, and several (demand 3; the longer statements are in
-- slices/specs/Demand3.antt). `outcome` is what `drawing::draw` hands back, and `drawn` the memory
-- that it leaves. The proofs are in proofs/Slices.antt. Assumes nothing.
use Rattle.std.specs.Prelude.{◌≡◌, Bool, List, ℕ, ◌+◌, length}
use Rattle.settings.specs.declared.Settings.{Settings}
use Rattle.operation.specs.declared.Operation.{Operation}
use Rattle.drawing.specs.Draw.{outcome, drawn}
use Rattle.slices.specs.Joined.{together, total, handed_by, left_by}
use Rattle.slices.specs.Demand3.{AnyDrawings, Demand3, StoppedAnywhere, OthersStay, DoneForGood}

-- ---- one drawing

-- The new place is the old one plus the pixels that this call visited, in a refused call too.
abbrev pub NewPlace : Type 0
NewPlace =
    (op : Operation) (s : Settings) (place : ℕ) (v : Bool) (budget words : ℕ)
    → (outcome op s place v budget words).place
    ≡ place + (outcome op s place v budget words).visited

-- Slices join: a call, and then one with the place and V that it handed back, over the memory that
-- it left, are one call with both budgets. The memory is the same, and so is all that is handed
-- back; the pixels visited by the one are those visited by the two. This holds at every place and
-- of all budgets, and of refused calls too.
abbrev pub SlicesJoin : Type 0
SlicesJoin =
    (op : Operation) (s : Settings) (place : ℕ) (v : Bool) (b c : ℕ) (m : List ℕ)
    → let first = outcome op s place v b (length m) in
    let left = drawn op s place b m in
    let second = outcome op s first.place first.v c (length left) in
    (drawn op s first.place c left ≡ drawn op s place (b + c) m)
    × (together first second ≡ outcome op s place v (b + c) (length m))

-- So however a drawing is cut, at any place: calls with any budgets, each going on where the one
-- before stopped, are one call with the sum of them.
abbrev pub AnySlices : Type 0
AnySlices =
    (op : Operation) (s : Settings) (place : ℕ) (v : Bool) (b : ℕ) (bs m : List ℕ)
    → (left_by op s place v b bs m ≡ drawn op s place (b + total bs) m)
    × (handed_by op s place v b bs m ≡ outcome op s place v (b + total bs) (length m))

-- ---- several drawings (demand 3)

-- Any number of drawings, the bits of no two accepted ones meeting, cut into slices with
-- any budgets in any alternation, with refused calls anywhere: a list that leaves every
-- accepted one done gives the memory of whole calls one after another, in every order, and
-- of each what its whole call hands back.
abbrev pub ManyDrawings : Type 0
ManyDrawings = AnyDrawings

-- Two accepted drawings whose bits do not meet, cut into slices with any budgets in any
-- alternation, with refused calls anywhere, give, once both are done, the memory, V, request and
-- registers of the first whole then the second, and of the second whole then the first.
abbrev pub TwoDrawings : Type 0
TwoDrawings = Demand3

-- A list of slices that stops anywhere has, in each drawing's writable bits, what that drawing
-- alone would have at its place.
abbrev pub Stopped : Type 0
Stopped = StoppedAnywhere

-- Bits that none of the drawings may write stay as they were, wherever a list stops.
abbrev pub Untouched : Type 0
Untouched = OthersStay

-- Once a call of its own has answered 0, a drawing stays done, whatever
-- slices and refused calls follow.
abbrev pub StaysDone : Type 0
StaysDone = DoneForGood

-- every statement of this file
pub record OfSlices : Type 0 where
  pub new-place : NewPlace
  pub slices-join : SlicesJoin
  pub any-slices : AnySlices
  pub many-drawings : ManyDrawings
  pub two-drawings : TwoDrawings
  pub stopped : Stopped
  pub untouched : Untouched
  pub stays-done : StaysDone

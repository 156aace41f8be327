-- Demand 3 (the scope, "Demand 3 is one claim about its list"), sentence by sentence, over lists of
-- the public calls (Calls.antt) and what these are defined by: the refusal, the drawing's walk, the
-- bits that its pixels write and read. Drawings are any of the eight. One claim is made, of any
-- number of drawings; the scope's two are an instance of it. The proofs are in
-- proofs/Interleaved.antt and Demand3.antt. Assumes nothing.
use Rattle.std.specs.Prelude.{◌≡◌, ◌≢◌, Bool, List, [], ◌∷◌, ℕ, zero, suc, ◌≤◌, ◌<◌, length}
use Rattle.memory.specs.Bits.{Memory, bit_at}
use Rattle.plot.specs.Drawing.{pixels}
use Rattle.engine.specs.Footprint.{PixelWrites, PixelReads}
use Rattle.plot.specs.declared.Drawing.{Drawing}
use Rattle.arrays.specs.Array.{drawing_for}
use Rattle.array_refusal.specs.Refusal.{refusal}
use Rattle.interleave.specs.Apart.{Apart}
use Rattle.interleave.specs.Order.{Order}
use Rattle.slices.specs.Calls.{Job, Call, slice, other, CallState}
use Rattle.slices.specs.Calls.{handed_back, memory_left, run, fresh, start}

-- ---- a drawing

-- what is drawn, and n, its pixels in all
abbrev pub walk_of : Job → Drawing
walk_of j = drawing_for j.operation j.settings

abbrev pub pixels_of : Job → ℕ
pixels_of j = pixels (walk_of j)

-- "Whole is one call at place 0 with the drawing's first V and a budget of at
-- least n": b is such a budget
abbrev pub Whole : Job → ℕ → Type 0
Whole j b = pixels_of j ≤ b

-- "A drawing is accepted if that call isn't refused": one at place 0, over a memory of w words
-- (V and budget refuse nothing)
abbrev pub Accepted : ℕ → Job → Type 0
Accepted w j = refusal j.operation j.settings 0 w ≡ 0

-- "all n pixels count for its bits": those that it may write, and those that it reads beside these
abbrev pub Writes : Job → ℕ → Type 0
Writes j a = (i : ℕ) × (i < pixels_of j) × PixelWrites (walk_of j) i a

abbrev pub Reads : Job → ℕ → Type 0
Reads j a = (i : ℕ) × (i < pixels_of j) × PixelReads (walk_of j) i a

-- the bits of two drawings do not meet: no bit that one of them may write is
-- written or read by the other
abbrev pub BitsApart : Job → Job → Type 0
BitsApart d e = Apart (Writes d) (Reads d) (Writes e) (Reads e)

-- several drawings over one memory of w words: how many, each one's first V, and the first memory.
-- The bits of no two accepted ones meet
pub record Setup (w : ℕ) : Type 0 where
  pub count : ℕ
  pub jobs : ℕ → Job
  pub first_v : ℕ → Bool
  pub memory : List ℕ
  pub good : Memory w memory
  pub apart : (i j : ℕ) → i < count → j < count → i ≢ j → Accepted w (jobs i) → Accepted w (jobs j)
      → BitsApart (jobs i) (jobs j)

-- ---- a list of their calls

-- slices of the drawings below count, with any budgets in any
-- alternation, and refused calls anywhere
abbrev pub Fine : ℕ → ℕ → List Call → Type 0
Fine w count [] = Unit
Fine w count (slice j b ∷ cs) = (j < count) × Fine w count cs
Fine w count (other d k b v ∷ cs) = (refusal d.operation d.settings k w ≢ 0) × Fine w count cs

-- what it leads to
abbrev pub reached : {w : ℕ} → Setup w → List Call → CallState
reached S cs = run S.jobs cs (start S.jobs S.first_v S.memory)

-- "It is done once a call of its own answers 0, and more may follow"
abbrev pub Done : CallState → ℕ → Type 0
Done s j = (s.held j).answer ≡ 0

-- ---- whole calls, one after another

-- the memory after one call each at place 0, in the order of a list, on the
-- memory that the one before left
unfoldable pub in_turn : (ℕ → Job) → (ℕ → ℕ) → List ℕ → List ℕ → List ℕ
in_turn jobs b [] m = m
in_turn jobs b (j ∷ os) m = in_turn jobs b os (memory_left (jobs j) 0 (b j) m)

-- a state is what whole calls with the budgets b give: the memory that they leave one after
-- another, in every order; of each accepted drawing all that its whole call hands back, its flags,
-- V and request, and all its registers, on any memory of w words; of a refused one, which has no
-- accepted call, what was given
pub record AsWhole {w : ℕ} (S : Setup w) (b : ℕ → ℕ) (s : CallState) : Type 0 where
  pub memory : (os : List ℕ) → Order S.count os → s.memory ≡ in_turn S.jobs b os S.memory
  pub held : (j : ℕ) → j < S.count → Accepted w (S.jobs j) → (m : List ℕ) → length m ≡ w
      → s.held j ≡ handed_back (S.jobs j) 0 (b j) (S.first_v j) m
  pub refused : (j : ℕ) → (Accepted w (S.jobs j) → ⊥) → s.held j ≡ fresh (S.jobs j) (S.first_v j)

-- ---- the claim: a list of calls that leaves every accepted drawing done
-- gives what whole calls give
abbrev pub AnyDrawings : Type 0
AnyDrawings =
    (w : ℕ) (S : Setup w) (cs : List Call) → Fine w S.count cs
    → ((j : ℕ) → j < S.count → Accepted w (S.jobs j) → Done (reached S cs) j)
    → (b : ℕ → ℕ) → ((j : ℕ) → j < S.count → Whole (S.jobs j) (b j)) → AsWhole S b (reached S cs)

-- ---- two drawings

-- the first is number 0, the second number 1
abbrev pub two : {A : Type 0} → A → A → ℕ → A
two d e zero = d
two d e (suc j) = e

-- what a list of calls of d (number 0, first V v) and e (number 1,
-- first V u) leads to, from memory m
abbrev pub after_calls : (d e : Job) (v u : Bool) → List ℕ → List Call → CallState
after_calls d e v u m cs = run (two d e) cs (start (two d e) (two v u) m)

-- a state is what d (number i) whole and then e (number j) whole give, with first V's v and u and
-- budgets b and c, from memory m
pub record OneThenOther (i j : ℕ) (d e : Job) (v u : Bool) (b c : ℕ) (m : List ℕ)
    (s : CallState) : Type 0 where
  pub memory : s.memory ≡ memory_left e 0 c (memory_left d 0 b m)
  pub first : s.held i ≡ handed_back d 0 b v m
  pub second : s.held j ≡ handed_back e 0 c u (memory_left d 0 b m)

-- the claim of two accepted drawings: once a call of each has answered 0 (after which it stays
-- done: DoneForGood), memory, flags and registers are those of d whole and then e whole, and those
-- of e whole and then d whole
abbrev pub Demand3 : Type 0
Demand3 =
    (w : ℕ) (m : List ℕ) → Memory w m
    → (d e : Job) → Accepted w d → Accepted w e → BitsApart d e
    → (v u : Bool) (cs : List Call) → Fine w 2 cs
    → Done (after_calls d e v u m cs) 0 → Done (after_calls d e v u m cs) 1
    → (b c : ℕ) → Whole d b → Whole e c
    → OneThenOther 0 1 d e v u b c m (after_calls d e v u m cs)
    × OneThenOther 1 0 e d u v c b m (after_calls d e v u m cs)

-- ---- a list that stops anywhere

-- in the bits that an accepted drawing may write, the memory is what that
-- drawing alone has at its place
abbrev pub StoppedAnywhere : Type 0
StoppedAnywhere =
    (w : ℕ) (S : Setup w) (cs : List Call) → Fine w S.count cs
    → (j : ℕ) → j < S.count → Accepted w (S.jobs j) → (a : ℕ) → Writes (S.jobs j) a
    → bit_at (reached S cs).memory a
    ≡ bit_at (memory_left (S.jobs j) 0 ((reached S cs).held j).place S.memory) a

-- bits that no accepted drawing may write stay
abbrev pub OthersStay : Type 0
OthersStay =
    (w : ℕ) (S : Setup w) (cs : List Call) → Fine w S.count cs
    → (a : ℕ) → ((j : ℕ) → j < S.count → Accepted w (S.jobs j) → Writes (S.jobs j) a → ⊥)
    → bit_at (reached S cs).memory a ≡ bit_at S.memory a

-- once a call of its own has answered 0, a drawing stays done whatever follows
abbrev pub DoneForGood : Type 0
DoneForGood =
    (w : ℕ) (S : Setup w) (cs ds : List Call) → Fine w S.count cs → Fine w S.count ds
    → (j : ℕ) → Done (reached S cs) j → Done (run S.jobs ds (reached S cs)) j

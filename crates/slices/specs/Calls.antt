-- Lists of FILL and PIXBLT calls over one memory: slices of several drawings in any
-- alternation, and other calls among them (the scope, "Demand 3 is one claim about its list").
-- A call is the public one: `outcome` is what `drawing::draw` hands back, and `drawn` the
-- memory that it leaves. Assumes nothing.
use Rattle.std.specs.Prelude.{Bool, false, cond, List, [], ◌∷◌, ℕ, eqb, ltb, length}
use Rattle.settings.specs.declared.Settings.{Settings}
use Rattle.operation.specs.declared.Operation.{Operation}
use Rattle.drawing.specs.declared.Outcome.{Outcome}
use Rattle.drawing.specs.Draw.{outcome, drawn}

-- a drawing: one of the eight operations, and its settings
pub record Job : Type 0 where
  pub operation : Operation
  pub settings : Settings

-- ---- one call

-- what is held of a drawing: all that a call hands back, but for the
-- pixels visited by that one call
pub record Held : Type 0 where
  pub answer : ℕ
  pub place : ℕ
  pub v : Bool
  pub request : Bool
  pub saddr : ℕ
  pub daddr : ℕ
  pub dydx : ℕ
  pub settings : Settings

abbrev pub held_of : Outcome → Held
held_of o =
    record {
      answer = o.answer;
      place = o.place;
      v = o.v;
      request = o.request;
      saddr = o.saddr;
      daddr = o.daddr;
      dydx = o.dydx;
      settings = o.settings;
    }

-- what a call hands back: drawing, place, budget, V, memory
abbrev pub handed_back : Job → ℕ → ℕ → Bool → List ℕ → Held
handed_back j place budget v m =
    held_of (outcome j.operation j.settings place v budget (length m))

-- the memory that it leaves: drawing, place, budget, memory
abbrev pub memory_left : Job → ℕ → ℕ → List ℕ → List ℕ
memory_left j place budget m = drawn j.operation j.settings place budget m

-- ---- a list of calls. The drawings are numbered from 0: jobs j is drawing j

-- a slice of a drawing, by its number, with a budget; or any other call: drawing, place, budget, V.
-- (Refused calls of other kinds, as PIXT or a field write, leave the memory by their own promises,
-- so they change nothing of a list that they stand in.)
pub data Call : Type 0 where
  slice : ℕ → ℕ → Call
  other : Job → ℕ → ℕ → Bool → Call

-- the one memory, and what is held of each drawing
pub record CallState : Type 0 where
  pub memory : List ℕ
  pub held : ℕ → Held

-- "Its flags, V and request, and all its registers are those of its last accepted call": one that
-- answers 10 or more is refused, and changes nothing of what is held
abbrev pub last_accepted : Held → Held → Held
last_accepted new old = cond (ltb new.answer 10) new old

-- one call. A slice goes on at the place and with the V that are held of its drawing; any other
-- call leaves all that is held
unfoldable pub next : (ℕ → Job) → Call → CallState → CallState
next jobs (slice j b) s =
    let old = s.held j in
    record {
      memory = memory_left (jobs j) old.place b s.memory;
      held =
          λ x.
          cond (eqb x j)
          (last_accepted (handed_back (jobs j) old.place b old.v s.memory) old)
          (s.held x);
    }
next jobs (other d k b v) s = record { memory = memory_left d k b s.memory; held = s.held }

-- a list of calls, the first one first
unfoldable pub run : (ℕ → Job) → List Call → CallState → CallState
run jobs [] s = s
run jobs (c ∷ cs) s = run jobs cs (next jobs c s)

-- before any call: place 0, the drawing's first V, no request, registers as given, not done
abbrev pub fresh : Job → Bool → Held
fresh j v =
    record {
      answer = 1;
      place = 0;
      v = v;
      request = false;
      saddr = j.settings.saddr;
      daddr = j.settings.daddr;
      dydx = j.settings.dydx;
      settings = j.settings;
    }

abbrev pub start : (ℕ → Job) → (ℕ → Bool) → List ℕ → CallState
start jobs v m = record { memory = m; held = λ j. fresh (jobs j) (v j) }

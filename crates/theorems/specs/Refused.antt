-- Demand 1 of the calls by name: a refused call returns its number and changes no word of memory,
-- no register and no setting. (Each promise settles this already; here it is said of the
-- definitions that the promises cite.) The proofs are in proofs/Refused.antt. Assumes nothing.
use Rattle.std.specs.Prelude.{◌≡◌, Bool, true, false, Ok, List, ℕ, ◌≤◌, length, Result, Err, IsErr}
use Rattle.answers.specs.declared.Refused as answers
use Rattle.answers.specs.Answer.{answer}
use Rattle.memory.specs.Bits.{no_memory}
use Rattle.field.specs.Field as field
use Rattle.image.specs.Image.{imaged}
use Rattle.cache.specs.Cache.{bad_state, fetched, cache_left}
use Rattle.cache.specs.declared.Cache.{Cache}
use Rattle.answers.specs.declared.Refused.TheVariants.{CacheState}
use Rattle.settings.specs.declared.Settings.{Settings}
use Rattle.lone.specs.declared.Lone.{Lone}
use Rattle.pixt.specs.declared.PixelResult.{PixelResult}
use Rattle.pixt.specs.Pixt.{pixel_left, lone_drawn, pixt_to, pixt_from}
use Rattle.drav.specs.Drav.{drav_of}
use Rattle.operation.specs.declared.Operation.{Operation}
use Rattle.array_refusal.specs.Refusal.{refusal}
use Rattle.drawing.specs.Draw.{outcome, drawn}
use Rattle.plan.specs.Table.{plan_of, table_after}

-- FILL and PIXBLT: place, V, registers and settings come back as given, nothing is visited, there
-- is no request, and memory stays.
abbrev pub DrawRefused : Type 0
DrawRefused =
    (op : Operation) (s : Settings) (place : ℕ) (v : Bool) (budget : ℕ) (m : List ℕ)
    → (refusal op s place (length m) ≡ 0 → ⊥)
    → (outcome op s place v budget (length m)
    ≡ record {
      answer = refusal op s place (length m);
      place = place;
      visited = 0;
      v = v;
      request = false;
      saddr = s.saddr;
      daddr = s.daddr;
      dydx = s.dydx;
      settings = s;
    })
    × (drawn op s place budget m ≡ m)

-- A drawing call that no refusal applies to answers 0 or 1.
abbrev pub DrawAccepted : Type 0
DrawAccepted =
    (op : Operation) (s : Settings) (place : ℕ) (v : Bool) (budget words : ℕ)
    → refusal op s place words ≡ 0
    → (outcome op s place v budget words).answer ≤ 1

-- One that a refusal applies to answers 10 to 17.
abbrev pub DrawNumbers : Type 0
DrawNumbers =
    (op : Operation) (s : Settings) (place : ℕ) (v : Bool) (budget words : ℕ)
    → (refusal op s place words ≡ 0 → ⊥)
    → (10 ≤ (outcome op s place v budget words).answer)
    × ((outcome op s place v budget words).answer ≤ 17)

-- PIXT, with the lone pixel's refusal: register to memory, and memory to register,
-- which never changes memory. The call answers the pixel's number, and leaves V and settings as
-- given, nothing visited, no request and zero for the register.
abbrev pub PixtRefused : Type 0
PixtRefused =
    (s : Settings) (v : Bool) (at : Result Lone answers.Refused) (source : ℕ) (m : List ℕ)
    → (answer at ≡ 0 → ⊥)
    → let left : PixelResult =
    record { visited = 0; v = v; request = false; register = 0; settings = s } in
    ((answer (pixt_to s at) ≡ answer at) × (pixel_left s v 0 (pixt_to s at) ≡ left))
    × ((answer (pixt_from s at m) ≡ answer at) × (pixel_left s v 0 (pixt_from s at m) ≡ left))
    × (lone_drawn s at source m ≡ m)

-- DRAV: the point comes back as given too.
abbrev pub DravRefused : Type 0
DravRefused =
    (s : Settings) (v : Bool) (point step : ℕ) (at : Result Lone answers.Refused)
    → (answer at ≡ 0 → ⊥)
    → (answer (drav_of s point step at) ≡ answer at)
    × (pixel_left s v point (drav_of s point step at)
    ≡ record {
      visited = 0;
      v = v;
      request = false;
      register = point;
      settings = s;
    })

-- A field write, an image and a fetch, after which the cache is in the state as given.
abbrev pub WriteRefused : Type 0
WriteRefused =
    (m : List ℕ) (a n x : ℕ) → (field.field_refusal (length m) a n ≡ Ok tt → ⊥)
    → field.field_written m a n x ≡ m

abbrev pub ImageRefused : Type 0
ImageRefused = (m : List ℕ) (seed : ℕ) → no_memory (length m) ≡ true → imaged m seed ≡ m

abbrev pub FetchRefused : Type 0
FetchRefused =
    (c : Cache) (address control : ℕ) → bad_state c ≡ true
    → (fetched c address control ≡ Err CacheState)
    × (cache_left c (fetched c address control) ≡ c)

-- Reading a plan: the lent table stays.
abbrev pub PlanRefused : Type 0
PlanRefused = (text t : List ℕ) → IsErr (plan_of text (length t)) → table_after text t ≡ t

-- every statement of this file
pub record OfRefusals : Type 0 where
  pub draw-refused : DrawRefused
  pub draw-accepted : DrawAccepted
  pub draw-numbers : DrawNumbers
  pub pixt-refused : PixtRefused
  pub drav-refused : DravRefused
  pub write-refused : WriteRefused
  pub image-refused : ImageRefused
  pub fetch-refused : FetchRefused
  pub plan-refused : PlanRefused

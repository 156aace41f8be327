-- The refusals: which numbers there are, and what a call that is not refused has passed. No contract cites this file. Assumes nothing.
use mathlib.Core.Path.{◌≡◌, refl}
use mathlib.Core.Logic.{◌≢◌}
use mathlib.Core.Bool.{Bool, true, false, cond}
use Rattle.std.specs.Prelude.{Result, Err, ⊤}
use Prim.Native.Nat.{ℕ, ◌≤◌}
use native.Mathlib.Omega.{arith}
use Rattle.memory.specs.Bits.{no_memory}
use Rattle.control.specs.Control.{bad_control}
use Rattle.pixel.specs.Pixel.{bad_pixel_size}
use Rattle.settings.specs.declared.Settings.{Settings}
use Rattle.refusal.specs.declared.Tests.{Tests}
use Rattle.answers.specs.declared.Refused.{Refused}
use Rattle.answers.specs.declared.Refused.TheVariants.{Arguments, Memory, PixelSize, Control, Pitch, Window, Place, Start, End, FieldSize, CacheState, Form, Name, Value, Count, Point}
use Rattle.answers.specs.Answer.{refusal_number, answer}
use Rattle.refusal.specs.Refusal.{lowest}

-- ---- one test, of a refusal numbered from 10 to 17, before the rest d of the table

-- a number of the table: 0, or from 10 to 17
pub record Number (r : ℕ) : Type 0 where
  pub least : r ≢ 0 → 10 ≤ r
  pub most : r ≤ 17

number : (t : Bool) (r : Refused) (d : Result ⊤ Refused) → 10 ≤ refusal_number r → refusal_number r ≤ 17 → Number (answer d)
    → Number (answer (cond t (Err r) d))
number true r d h k n = record { least = λ z. h; most = k }
number false r d h k n = n

-- no refusal has the number 0
pub numbered : (r : Refused) → refusal_number r ≢ 0
numbered Arguments z = omega arith
numbered Memory z = omega arith
numbered PixelSize z = omega arith
numbered Control z = omega arith
numbered Pitch z = omega arith
numbered Window z = omega arith
numbered Place z = omega arith
numbered Start z = omega arith
numbered End z = omega arith
numbered FieldSize z = omega arith
numbered CacheState z = omega arith
numbered Form z = omega arith
numbered Name z = omega arith
numbered Value z = omega arith
numbered Count z = omega arith
numbered Point z = omega arith

-- where nothing is refused the test is false, and the rest refuses nothing
pass : (t : Bool) (r : Refused) (d : Result ⊤ Refused) → 10 ≤ refusal_number r → answer (cond t (Err r) d) ≡ 0
    → (t ≡ false) × (answer d ≡ 0)
pass true r d h e = absurd (omega arith)
pass false r d h e = (refl, e)

-- ---- the table
module _ (words : ℕ) (s : Settings) (t : Tests) where
  pub lowest-number : Number (answer (lowest words s t))
  unfolding lowest
  lowest-number =
      number (no_memory words) Memory _ (omega arith) (omega arith)
      (number (bad_pixel_size s.psize) PixelSize _ (omega arith) (omega arith)
      (number (bad_control s.control) Control _ (omega arith) (omega arith)
      (number t.pitch Pitch _ (omega arith) (omega arith)
      (number t.window Window _ (omega arith) (omega arith)
      (number t.place Place _ (omega arith) (omega arith)
      (number t.start Start _ (omega arith) (omega arith)
      (number t.end End _ (omega arith) (omega arith) (record { least = λ z. absurd (z refl); most = omega arith }))))))))

  -- the call passes every test
  pub record Passes : Type 0 where
    pub memory : no_memory words ≡ false
    pub size : bad_pixel_size s.psize ≡ false
    pub control : bad_control s.control ≡ false
    pub pitch : t.pitch ≡ false
    pub window : t.window ≡ false
    pub place : t.place ≡ false
    pub start : t.start ≡ false
    pub end : t.end ≡ false

  pub passes : answer (lowest words s t) ≡ 0 → Passes
  unfolding lowest
  passes e =
      let p10 = pass (no_memory words) Memory _ (omega arith) e in
      let p11 = pass (bad_pixel_size s.psize) PixelSize _ (omega arith) p10.1 in
      let p12 = pass (bad_control s.control) Control _ (omega arith) p11.1 in
      let p13 = pass t.pitch Pitch _ (omega arith) p12.1 in
      let p14 = pass t.window Window _ (omega arith) p13.1 in
      let p15 = pass t.place Place _ (omega arith) p14.1 in
      let p16 = pass t.start Start _ (omega arith) p15.1 in
      let p17 = pass t.end End _ (omega arith) p16.1 in
      record {
        memory = p10.0;
        size = p11.0;
        control = p12.0;
        pitch = p13.0;
        window = p14.0;
        place = p15.0;
        start = p16.0;
        end = p17.0;
      }

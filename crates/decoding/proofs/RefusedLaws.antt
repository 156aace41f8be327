-- Whether a call is refused, seen by its answer. No contract cites this file. Assumes nothing.
use mathlib.Core.Path.{◌≡◌, refl}
use mathlib.Core.Bool.{true, false}
use mathlib.Core.Logic.{◌≢◌}
use native.Mathlib.Omega.{arith}
use Rattle.std.specs.Prelude.{Result, Ok, Err, is_err}
use Rattle.answers.specs.Answer.{answer, refusal_number}
use Rattle.answers.specs.declared.Refused.{Refused}
use Rattle.answers.specs.declared.Refused.TheVariants.{Arguments, Memory, PixelSize, Control, Pitch, Window, Place, Start, End}
use Rattle.answers.specs.declared.Refused.TheVariants.{FieldSize, CacheState, Form, Name, Value, Count, Point}

-- no refusal has the number 0
number-some : (r : Refused) → refusal_number r ≢ 0
number-some Arguments = λ e. omega arith
number-some Memory = λ e. omega arith
number-some PixelSize = λ e. omega arith
number-some Control = λ e. omega arith
number-some Pitch = λ e. omega arith
number-some Window = λ e. omega arith
number-some Place = λ e. omega arith
number-some Start = λ e. omega arith
number-some End = λ e. omega arith
number-some FieldSize = λ e. omega arith
number-some CacheState = λ e. omega arith
number-some Form = λ e. omega arith
number-some Name = λ e. omega arith
number-some Value = λ e. omega arith
number-some Count = λ e. omega arith
number-some Point = λ e. omega arith

pub answer-refused : {A : Type 0} (r : Result A Refused) → is_err r ≡ true → answer r ≢ 0
answer-refused (Ok x) e = cc
answer-refused (Err r) e = number-some r

pub answer-done : {A : Type 0} (r : Result A Refused) → is_err r ≡ false → answer r ≡ 0
answer-done (Ok x) e = refl
answer-done (Err r) e = cc

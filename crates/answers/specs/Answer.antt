-- What a call answers (the scope, "Refusal numbers"). Assumes nothing.
use Rattle.std.specs.Prelude.{ℕ, Result, Ok, Err}
use Rattle.answers.specs.declared.Refused.{Refused}
use Rattle.answers.specs.declared.Refused.TheVariants.{Arguments, Memory, PixelSize, Control, Pitch}
use Rattle.answers.specs.declared.Refused.TheVariants.{Window, Place, Start, End, FieldSize}
use Rattle.answers.specs.declared.Refused.TheVariants.{CacheState, Form, Name, Value, Count, Point}

-- the number of a refusal; 9 is no number of the scope's
abbrev pub refusal_number : Refused → ℕ
refusal_number Arguments = 9
refusal_number Memory = 10
refusal_number PixelSize = 11
refusal_number Control = 12
refusal_number Pitch = 13
refusal_number Window = 14
refusal_number Place = 15
refusal_number Start = 16
refusal_number End = 17
refusal_number FieldSize = 18
refusal_number CacheState = 19
refusal_number Form = 20
refusal_number Name = 21
refusal_number Value = 22
refusal_number Count = 23
refusal_number Point = 24

-- a refused call returns its number, and one that is not refused returns 0
abbrev pub answer : {A : Type 0} → Result A Refused → ℕ
answer (Ok x) = 0
answer (Err r) = refusal_number r

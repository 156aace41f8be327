-- `text::digits` meets its contract. The invariant: the digits left follow the value so far.
use Rattle.std.proofs.Common.{◌≡◌, ◌^◌, ◌<◌, drop}
use Rattle.text.specs.Number.{digits_of}
use Rattle.text.proofs.digits.Given as goal

abbrev pub invariant-loop-c : goal.invariant-loop-c
invariant-loop-c l =
    (l.v < 2 ^ 64) × (digits_of 0 l.field ≡ digits_of l.v (drop l.c-index l.field))

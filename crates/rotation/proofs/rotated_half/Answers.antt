-- `rotated_half` meets its contract: the library's rotation is that of the bits that come round.
use Rattle.std.proofs.Common.{◌≡◌, ◌+◌, ◌*◌, ◌%◌, ◌^◌, arith}
use Rattle.rotation.specs.Rotation.{log2}
use Rattle.rotation.proofs.RotationLaws.{rotate_left-rotated_left}
use Rattle.rotation.proofs.rotated_half.Goals as goal

pub returns : goal.returns
returns c =
    let x = c.args in
    let whole : x.half * 2 ^ 16 % 2 ^ 32 ≡ x.half * 2 ^ 16 = omega arith in
    rw (c.rotate_left.ensures, c.log2.ensures, c.from.ensures, whole)
    (rotate_left-rotated_left (16 + log2 x.pitch) (x.half * 2 ^ 16) (omega arith))

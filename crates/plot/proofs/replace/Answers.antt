-- `replace` meets its contract: nothing is lost by a shift.
use mathlib.Core.Path.{◌≡◌}
use Prim.Native.Nat.{ℕ, ◌+◌, ◌*◌, ◌%◌, ◌^◌, ◌≤◌, ◌<◌}
use native.Mathlib.Omega.{arith}
use lib.Pow.{shl_exact, shl_lt, pow_mono}
use Rattle.plot.specs.Word.{replaced}
use Rattle.plot.proofs.replace.Goals as goal

-- a number of 16 bits is shifted whole
whole : (x a : ℕ) → x < 2 ^ 16 → x * 2 ^ (a % 16) % 2 ^ 32 ≡ x * 2 ^ (a % 16)
whole x a h = shl_exact 16 (a % 16) 32 h (omega arith)

shifted-lt : (x a : ℕ) → x < 2 ^ 16 → x * 2 ^ (a % 16) < 2 ^ 31
shifted-lt x a h =
    let l : 16 + a % 16 ≤ 31 = omega arith in
    omega (arith, shl_lt {a = x} 16 (a % 16) h, pow_mono l)

pub returns : goal.returns
unfolding replaced
returns c =
    rw (whole c.args.planes c.args.address c.requires.0, whole c.args.res c.args.address c.requires.1)

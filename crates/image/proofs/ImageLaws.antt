-- Laws of `specs/Image.antt`. No contract cites this file. Assumes nothing.
use mathlib.Core.Path.{◌≡◌, refl}
use Prim.Native.Nat.{ℕ, zero, suc, ◌*◌}
use native.Mathlib.Omega.{arith}
use lib.ListN.{length, length-take}
use Rattle.generator.specs.Step.{stepped}
use Rattle.image.specs.Image.{draws, image}

length-draws : (k x : ℕ) → length (draws k x) ≡ 4 * k
length-draws zero x = refl
length-draws (suc k) x = omega (arith, length-draws k (stepped x))

-- n draws are enough for n words
pub length-image : (n seed : ℕ) → length (image n seed) ≡ n
length-image n seed = omega (arith, length-take n (draws n seed), length-draws n seed)

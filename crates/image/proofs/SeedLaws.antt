-- Equal images of four words or more have equal seeds: a step is injective, and four words tell a state. Assumes nothing.
use mathlib.Core.Path.{◌≡◌, sym, ap, ◌∙◌}
use Prim.Native.Nat.{ℕ, zero, suc, ◌*◌, ◌/◌, ◌%◌, ◌^◌, ◌<◌, ◌≤◌}
use native.Mathlib.Nat.{suc-mul}
use native.Mathlib.Omega.{arith}
use lib.Pow.{shr_lt}
use lib.ListN.{take}
use lib.Seq.{take-take}
use Rattle.generator.specs.Step.{stepped}
use Rattle.generator.proofs.StepLaws.{stepped-inj, stepped-lt}
use Rattle.image.specs.Image.{words, draws, image}

-- a number below 2 ^ (16 * k) is told by its k low words
words-inj : (k x y : ℕ) → x < 2 ^ (k * 16) → y < 2 ^ (k * 16) → words k x ≡ words k y → x ≡ y
words-inj zero x y hx hy e = omega arith
words-inj (suc k) x y hx hy e =
    let low : x % 2 ^ 16 ≡ y % 2 ^ 16 = cc in
    let high : x / 2 ^ 16 ≡ y / 2 ^ 16 =
    words-inj k _ _ (shr_lt (k * 16) 16 (rw suc-mul at hx)) (shr_lt (k * 16) 16 (rw suc-mul at hy)) (cc) in
    omega arith

-- an image of four or more words tells its seed
pub image_inj : (x y n : ℕ) → x < 2 ^ 64 → y < 2 ^ 64 → 4 ≤ n → image n x ≡ image n y → x ≡ y
image_inj x y zero hx hy l e = absurd (omega arith)
image_inj x y (suc n) hx hy l e =
    stepped-inj x y hx hy
    (words-inj 4 (stepped x) (stepped y) (stepped-lt x hx) (stepped-lt y hy)
    (sym (take-take 4 (suc n) (draws (suc n) x) l) ∙ ap (take 4) e ∙ take-take 4 (suc n) (draws (suc n) y) l))

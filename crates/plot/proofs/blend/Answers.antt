-- `blend` meets its contract: the enabled bits of the pixel by the operation, put back with or without T.
use mathlib.Core.Path.{◌≡◌, sym, ap, ap₂, ◌∙◌}
use mathlib.Core.Bool.{Bool, true, false, cond, ◌&&◌}
use Prim.Native.Nat.{ℕ, ◌^◌, ◌≤◌, ◌<◌, min}
use native.Mathlib.Omega.{arith}
use borrow.Author.Tests.{eq-eqb, ne_eqb}
use lib.Bits.{bit_and, and_le_r}
use lib.Dec.{eqb}
use Rattle.pixel.specs.Pixel.{word_after}
use Rattle.pixel.proofs.PixelLaws.{complement-pixel_of-le}
use Rattle.plot.specs.Word.{replaced}
use Rattle.plot.proofs.WordLaws.{top_of-le, word_after-replaced}
use Rattle.plot.proofs.blend.Goals as goal

-- no bit is enabled above the pixel, and a pixel has at most 16
planes-le-3 : (c : goal.After-shifted) → (c.planes_at-planes.result ≤ c.args.top) × (c.args.top ≤ 65535)
planes-le-3 c =
    (rw c.planes_at-planes.ensures (complement-pixel_of-le _ _ _), rw c.requires (top_of-le c.args.d.psize))

-- a number cut to the enabled bits, or to all of the pixel's
cut-le-3 : (c : goal.After-shifted) (x : ℕ)
    → (bit_and x c.planes_at-planes.result ≤ c.planes_at-planes.result) × (bit_and x c.args.top ≤ c.args.top)
cut-le-3 c x =
    (and_le_r x c.planes_at-planes.result, and_le_r x c.args.top)

-- the definition's word, by the result that the code has and by what its tests say
defined-3 : (c : goal.Then-result-eq0) (b : Bool)
    → (let a = c.args in
    let planes : ℕ = c.planes_at-planes.result in
    let r : ℕ = bit_and c.process.result planes in
    (a.d.t && eqb r 0) ≡ b
    → cond b a.word (replaced a.word a.address planes r)
    ≡ word_after a.d.pp a.d.t a.top a.d.pmask a.address (bit_and a.s a.top) a.word)
defined-3 c b e =
    let a = c.args in
    let h : a.word < 2 ^ 16 = omega arith in
    rw (sym e, c.process.ensures, c.shifted.ensures, c.wide.ensures, c.planes_at-planes.ensures, c.requires)
    (sym (word_after-replaced (min a.d.psize 16) a.d.pmask a.address a.word h a.d.pp a.d.t a.s))

-- no bit is enabled above the pixel, and a pixel has at most 16
planes-le-2 : (c : goal.Else-result-eq0) → (c.planes_at-planes.result ≤ c.args.top) × (c.args.top ≤ 65535)
planes-le-2 c =
    (rw c.planes_at-planes.ensures (complement-pixel_of-le _ _ _), rw c.requires (top_of-le c.args.d.psize))

-- a number cut to the enabled bits, or to all of the pixel's
cut-le-2 : (c : goal.Else-result-eq0) (x : ℕ)
    → (bit_and x c.planes_at-planes.result ≤ c.planes_at-planes.result) × (bit_and x c.args.top ≤ c.args.top)
cut-le-2 c x =
    (and_le_r x c.planes_at-planes.result, and_le_r x c.args.top)

-- the definition's word, by the result that the code has and by what its tests say
defined-2 : (c : goal.After-replace) (b : Bool)
    → (let a = c.args in
    let planes : ℕ = c.planes_at-planes.result in
    let r : ℕ = bit_and c.process.result planes in
    (a.d.t && eqb r 0) ≡ b
    → cond b a.word (replaced a.word a.address planes r)
    ≡ word_after a.d.pp a.d.t a.top a.d.pmask a.address (bit_and a.s a.top) a.word)
defined-2 c b e =
    let a = c.args in
    let h : a.word < 2 ^ 16 = omega arith in
    rw (sym e, c.process.ensures, c.shifted.ensures, c.wide.ensures, c.planes_at-planes.ensures, c.requires)
    (sym (word_after-replaced (min a.d.psize 16) a.d.pmask a.address a.word h a.d.pp a.d.t a.s))

-- no bit is enabled above the pixel, and a pixel has at most 16
planes-le : (c : goal.Else-d) → (c.planes_at-planes.result ≤ c.args.top) × (c.args.top ≤ 65535)
planes-le c =
    (rw c.planes_at-planes.ensures (complement-pixel_of-le _ _ _), rw c.requires (top_of-le c.args.d.psize))

-- a number cut to the enabled bits, or to all of the pixel's
cut-le : (c : goal.Else-d) (x : ℕ)
    → (bit_and x c.planes_at-planes.result ≤ c.planes_at-planes.result) × (bit_and x c.args.top ≤ c.args.top)
cut-le c x =
    (and_le_r x c.planes_at-planes.result, and_le_r x c.args.top)

-- the definition's word, by the result that the code has and by what its tests say
defined : (c : goal.After-replace-2) (b : Bool)
    → (let a = c.args in
    let planes : ℕ = c.planes_at-planes.result in
    let r : ℕ = bit_and c.process.result planes in
    (a.d.t && eqb r 0) ≡ b
    → cond b a.word (replaced a.word a.address planes r)
    ≡ word_after a.d.pp a.d.t a.top a.d.pmask a.address (bit_and a.s a.top) a.word)
defined c b e =
    let a = c.args in
    let h : a.word < 2 ^ 16 = omega arith in
    rw (sym e, c.process.ensures, c.shifted.ensures, c.wide.ensures, c.planes_at-planes.ensures, c.requires)
    (sym (word_after-replaced (min a.d.psize 16) a.d.pmask a.address a.word h a.d.pp a.d.t a.s))

pub process-requires : goal.process-requires
process-requires c =
    (c.requires, omega (arith, planes-le-3 c, cut-le-3 c c.args.s), omega (arith, planes-le-3 c, cut-le-3 c c.shifted.result))

-- with T, and the result 0
pub returns-then-result-eq0 : goal.returns-then-result-eq0
returns-then-result-eq0 c =
    defined-3 c true (ap₂ ◌&&◌ c.if-d.true (eq-eqb _ _ c.if-result-eq0.true))

pub replace-requires : goal.replace-requires
replace-requires c =
    (omega (arith, planes-le-2 c), omega (arith, planes-le-2 c, cut-le-2 c c.process.result))

-- with T, and another result
pub returns-then-d : goal.returns-then-d
returns-then-d c =
    c.replace.ensures ∙ defined-2 c false (ap₂ ◌&&◌ c.if-d.true (ne_eqb _ _ c.if-result-eq0.false))

pub replace-requires-2 : goal.replace-requires-2
replace-requires-2 c =
    (omega (arith, planes-le c), omega (arith, planes-le c, cut-le c c.process.result))

-- without T
pub returns : goal.returns
returns c =
    let r : ℕ = bit_and c.process.result c.planes_at-planes.result in
    c.replace-2.ensures ∙ defined c false (ap (λ (t : Bool). t && eqb r 0) c.if-d.false)

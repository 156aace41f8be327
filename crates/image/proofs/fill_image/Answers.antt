-- `image::fill_image` meets its contract. Assumes nothing.
use Rattle.std.proofs.Common.{◌≡◌, sym, ◌∙◌, true, false, length}
use Rattle.memory.specs.Bits.{no_memory}
use Rattle.image.specs.Image.{imaged}
use Rattle.image.proofs.fill_image.Goals as goal

pub returns-then-no_memory : goal.returns-then-no_memory
unfolding imaged
returns-then-no_memory c =
    let e : no_memory (length c.args.memory.now) ≡ true = sym c.no_memory.ensures ∙ c.if-no_memory.true in
    (rw e, rw e)

pub returns : goal.returns
unfolding imaged
returns c =
    let e : no_memory (length c.args.memory.now) ≡ false = sym c.no_memory.ensures ∙ c.if-no_memory.false in
    (rw e, c.fill.ensures ∙ rw e)

-- `text::part` meets its contract: what stands between the part's start and its end.
use mathlib.Core.Path.{refl, sym}
use native.Mathlib.Omega.{arith}
use borrow.Author.Tests.{lt-ltb, le-ltb}
use Rattle.text.proofs.TextLaws.{up_to-past, part-end-le, part-take}
use Rattle.text.proofs.part.Goals as goal

pub returns-then-text-from : goal.returns-then-text-from
returns-then-text-from c =
    let a = c.args in
    record {
      bytes = sym (up_to-past a.mark a.text.now a.from (omega arith));
      block = refl;
      starts = rw (lt-ltb _ _ c.if-text-from.true) (omega arith);
    }

pub slice_bounds-result-end-2 : goal.slice_bounds-result-end-2
slice_bounds-result-end-2 c =
    part-end-le _ _ _ _ c.part_end-end.ensures c.if-text-from.false

pub returns : goal.returns
returns c =
    record { bytes = part-take _ _ _ _ c.part_end-end.ensures; block = refl; starts = rw (le-ltb _ _ c.if-text-from.false) (omega arith) }

-- `put_lines::numbers` meets its contract: an empty line is one byte, and another one is put where it fits. Assumes nothing.
use mathlib.Core.Path.{◌≡◌, sym, ◌∙◌}
use mathlib.Core.Bool.{Bool, false}
use mathlib.Core.List.{List}
use Prim.Native.Nat.{ℕ, ◌+◌, ◌<◌}
use native.Mathlib.Omega.{arith}
use borrow.Author.Tests.{leb-true, eqb-true, eqb-false}
use lib.Dec.{eqb, leb}
use lib.ListN.{length}
use Rattle.listing.specs.Listing.{numbers_line, line_length}
use Rattle.listing.proofs.ListingLaws.{numbers_line-empty, length-numbers_line}
use Rattle.listing.proofs.PlacedLaws.{placed, not-placed}
use Rattle.put_lines.proofs.numbers.Goals as goal

-- past the first test there is a number or more, and the second one is whether the line fits
tested : (at size : ℕ) (ns : List ℕ) {e t : Bool} → e ≡ eqb (length ns) 0 → e ≡ false → t ≡ leb (at + line_length ns) size
    → (0 < length ns) × (t ≡ leb (at + length (numbers_line ns)) size)
tested at size ns is filled fits =
    let some : 0 < length ns = omega (arith, eqb-false (length ns) 0 (sym is ∙ filled)) in (some, rw (length-numbers_line ns some) fits)

pub returns-then-is_empty : goal.returns-then-is_empty
returns-then-is_empty c =
    let e = numbers_line-empty c.args.ns.now (eqb-true _ _ (sym c.is_empty.ensures ∙ c.if-is_empty.true)) in
    record { value = rw e c.bytes.ensures.value; out_after = rw e c.bytes.ensures.out_after }

pub line-requires : goal.line-requires
line-requires c =
    let t = tested _ _ _ c.is_empty.ensures c.if-is_empty.false c.line_fits.ensures in
    (t.0, leb-true _ _ (sym t.1 ∙ c.if-line_fits.true))

pub returns-then-line_fits : goal.returns-then-line_fits
returns-then-line_fits c =
    let t = tested _ _ _ c.is_empty.ensures c.if-is_empty.false c.line_fits.ensures in
    let d = placed _ _ _ (leb-true _ _ (sym t.1 ∙ c.if-line_fits.true)) in
    record { value = c.line.ensures.value ∙ d.0; out_after = c.line.ensures.out_after ∙ d.1 }

pub returns : goal.returns
returns c =
    let t = tested _ _ _ c.is_empty.ensures c.if-is_empty.false c.line_fits.ensures in
    let d = not-placed _ (numbers_line c.args.ns.now) _ (sym t.1 ∙ c.if-line_fits.false) in
    record { value = d.0; out_after = d.1 }

-- `put_lines::places` meets its contract: one more than the logarithm is the length of the decimal number. Assumes nothing.
use Rattle.listing.proofs.DigitsLaws.{length-of-log}
use Rattle.put_lines.proofs.places.Goals as goal

pub returns : goal.returns
returns c =
    let l = c.checked_ilog10.ensures in
    let e = length-of-log c.args.n c.checked_ilog10.result c.ranges.n.fits l.none l.power_le l.next_power_gt in
    rw c.unwrap_or.ensures e

-- `reaches_limit` meets its contract: a walk by its ends.
use mathlib.Core.Path.{sym}
use borrow.Author.Rules.{rules}
use Rattle.extent.proofs.ExtentLaws.{reaches-ends}
use Rattle.extent.proofs.reaches_limit.Goals as goal

pub returns : goal.returns
returns c =
    rw (c.downwards-2.ensures.0, c.downwards.ensures.0, c.upwards-2.ensures.0, c.upwards.ensures.0, c.from-start.ensures)
    (sym
    (reaches-ends c.args.limit c.args.w c.args.cols c.args.rows c.requires.0 c.requires.1 c.requires.2
    (search rules) (search rules) (search rules)))

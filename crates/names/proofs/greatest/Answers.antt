-- `names::greatest` meets its contract. Assumes nothing.
use Rattle.names.proofs.NamesLaws.{limit-wide, limit-narrow, limit-seed}
use Rattle.names.proofs.greatest.Goals as goal

pub returns-then-number : goal.returns-then-number
returns-then-number c =
    limit-wide c.args.number c.if-number.true

pub returns-then-number-2 : goal.returns-then-number-2
returns-then-number-2 c =
    limit-narrow c.args.number c.if-number.false c.if-number-2.true

pub returns : goal.returns
returns c =
    limit-seed c.args.number c.if-number-2.false

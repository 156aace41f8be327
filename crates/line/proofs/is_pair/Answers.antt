-- `line::is_pair` meets its contract.
use Rattle.tabs.proofs.FieldsLaws.{fields_from-zero, first_field}
use Rattle.line.proofs.is_pair.Goals as goal

pub returns : goal.returns
returns c =
    let line = c.args.line.now in
    rw (c.eq.ensures, c.part.ensures.bytes, c.count.ensures, fields_from-zero line, first_field line)

-- `text::digits` meets its contract: no digit that is refused, one more digit, and the last one.
use mathlib.Core.Path.{sym, ◌∙◌}
use Rattle.std.proofs.Common.{arith, get_or}
use Rattle.text.proofs.DigitLaws.{pushed-lt, digits_of-next, digits_of-stop, digits_of-end}
use Rattle.text.proofs.digits.Goals as goal

pub returns-in_err-v : goal.returns-in_err-v
returns-in_err-v c =
    let l = c.loop-c in
    let bad = sym c.push.ensures ∙ c.in_err-v.was in
    rw c.from_residual.ensures (sym (l.invariant.1 ∙ digits_of-stop c.args.field.now l.c-index l.v (omega arith) bad))

pub loop-c-preserved : goal.loop-c-preserved
loop-c-preserved c =
    let l = c.loop-c in
    let s = c.args.field.now in
    let e = sym c.push.ensures ∙ c.in_ok-v.was in
    (pushed-lt l.v (get_or s l.c-index 0) _ e, l.invariant.1 ∙ digits_of-next s l.c-index l.v _ (omega arith) e)

pub returns : goal.returns
returns c =
    let l = c.loop-c in
    sym (l.invariant.1 ∙ digits_of-end c.args.field.now l.c-index l.v (omega arith) l.invariant.0)

-- `read` meets its contract: a short table, a long text, a refused plan, or an accepted one. Assumes nothing.
use native.Mathlib.Omega.{arith}
use Rattle.std.proofs.lemmas.Result.{err_from_is_err_and}
use Rattle.plan.proofs.PlanLaws.{answered-short, answered-long, answered-bad, answered-good}
use Rattle.plan.proofs.read.Goals as goal

pub returns-then-table-lt-ROOM : goal.returns-then-table-lt-ROOM
returns-then-table-lt-ROOM c = answered-short _ _ (omega (arith, c.if-table-lt-ROOM.true))

pub returns-then-text-gt-TEXT : goal.returns-then-text-gt-TEXT
returns-then-text-gt-TEXT c =
    rw c.bad_form.ensures (answered-long _ _ (omega (arith, c.if-table-lt-ROOM.false)) (omega (arith, c.if-text-gt-TEXT.true)))

pub returns-in_err-s : goal.returns-in_err-s
returns-in_err-s c =
    let (bad, is, same) = err_from_is_err_and c.from_residual.result c.from_residual.ensures.1 in
    rw (is, same)
    (answered-bad _ _ (omega (arith, c.if-table-lt-ROOM.false)) (omega (arith, c.if-text-gt-TEXT.false)) c.in_err-s.ensures)

pub returns : goal.returns
returns c =
    let all = c.in_ok-s.ensures in
    answered-good _ _ (omega (arith, c.if-table-lt-ROOM.false)) (omega (arith, c.if-text-gt-TEXT.false)) all.plan-is c.store_axes.ensures

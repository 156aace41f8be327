-- `fetch` meets its contract. Assumes nothing.
use mathlib.Core.Path.{sym, ◌∙◌}
use Rattle.cache.proofs.CacheLaws.{fetched-refused, fetched-disabled, fetched-lookup, fetched-answer}
use Rattle.cache.proofs.Cache.fetch.Goals as goal

pub returns-then-bad : goal.returns-then-bad
returns-then-bad c =
    let bad = sym c.is_bad_state-bad.ensures ∙ c.if-bad.true in
    fetched-answer _ _ _ (sym (fetched-refused _ _ _ bad))

pub returns-then-disabled : goal.returns-then-disabled
returns-then-disabled c =
    let good = sym c.is_bad_state-bad.ensures ∙ c.if-bad.false in
    let off = sym c.disabled-disabled.ensures ∙ c.if-disabled.true in
    fetched-answer _ _ _ (sym (fetched-disabled _ _ _ good off))

pub returns : goal.returns
returns c =
    let good = sym c.is_bad_state-bad.ensures ∙ c.if-bad.false in
    let on = sym c.disabled-disabled.ensures ∙ c.if-disabled.false in
    fetched-answer _ _ _ (rw c.looked_up.ensures (sym (fetched-lookup _ _ _ good on)))

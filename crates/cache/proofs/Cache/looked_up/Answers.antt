-- `looked_up` meets its contract, by what the search found. Assumes nothing.
use Rattle.std.proofs.Common.{◌∙◌, rules}
use Rattle.cache.proofs.CacheLaws.{found-lt, lookup-matched, lookup-missed}
use Rattle.cache.proofs.Cache.looked_up.Goals as goal

pub matched-requires : goal.matched-requires
matched-requires c =
    (found-lt c.args.self c.args.start c.args.sub _ c.place.ensures _ c.in-Some.is (search rules), c.requires.0)

pub returns-in-Some : goal.returns-in-Some
returns-in-Some c =
    c.matched.ensures ∙ lookup-matched c.args.self c.args.start _ _ c.place.ensures _ c.in-Some.is

pub returns-in-None : goal.returns-in-None
returns-in-None c =
    c.segment_miss.ensures ∙ lookup-missed c.args.self c.args.start _ _ c.place.ensures c.in-None.is

-- The proofs of specs/Cache.antt. Assumes nothing.
use Rattle.theorems.proofs.FetchLaws as cache
use Rattle.theorems.specs.Cache.{FetchAccepted, RefusedExactly, OfCache}

pub fetch-accepted : FetchAccepted
fetch-accepted = (cache.fresh-accepted, cache.fetch-accepted)

pub refused-exactly : RefusedExactly
refused-exactly = cache.refused-exactly

pub of-cache : OfCache
of-cache =
    record {
      fetch-accepted = fetch-accepted;
      refused-exactly = refused-exactly;
    }

-- The instruction cache: what is proved of the definitions that the contract of `cache::fetch`
-- cites. The proofs are in proofs/Cache.antt. Assumes nothing.
use Rattle.std.specs.Prelude.{◌≡◌, true, false, ◌↔◌, ℕ, ◌^◌, ◌<◌, Ok, Err}
use Rattle.answers.specs.declared.Refused.TheVariants.{CacheState}
use Rattle.answers.specs.Answer.{answer}
use Rattle.cache.specs.Cache.{bad_state, fetch_refusal, fetched, fresh_cache}
use Rattle.cache.specs.declared.Cache.{Cache}
use Rattle.cache.specs.declared.Fetched.{Fetched}

-- A fresh cache is accepted, and a fetch at a 32-bit address, under any CONTROL, hands back an
-- accepted state if it was given one. So no fetch from a fresh cache is ever refused.
abbrev pub FetchAccepted : Type 0
FetchAccepted =
    (bad_state fresh_cache ≡ false)
    × ((c : Cache) (address control : ℕ) → address < 2 ^ 32 → bad_state c ≡ false
    → (f : Fetched) × (fetched c address control ≡ Ok f) × (bad_state f.cache ≡ false))

-- A fetch answers 19, as a refused one, exactly when the state that it was given is refused, also
-- with CD 1, and 0 otherwise.
abbrev pub RefusedExactly : Type 0
RefusedExactly =
    (c : Cache) (address control : ℕ)
    → (answer (fetched c address control) ≡ fetch_refusal c)
    × ((fetched c address control ≡ Err CacheState) ↔ (bad_state c ≡ true))

-- every statement of this file
pub record OfCache : Type 0 where
  pub fetch-accepted : FetchAccepted
  pub refused-exactly : RefusedExactly

-- An accepted state stays accepted, and a fetch answers 19 exactly for a refused one. No contract cites this file. Assumes nothing.
use mathlib.Core.Path.{◌≡◌, refl, sym, ap, ◌∙◌}
use mathlib.Core.Logic.{◌↔◌}
use mathlib.Core.Bool.{Bool, true, false, cond}
use Prim.Native.Nat.{ℕ, ◌^◌, ◌<◌}
use native.Mathlib.Omega.{arith}
use Rattle.std.specs.Prelude.{Result, Ok, Err}
use Rattle.answers.specs.declared.Refused.{Refused}
use Rattle.answers.specs.declared.Refused.TheVariants.{CacheState}
use Rattle.answers.specs.Answer.{answer}
use Rattle.lists.specs.Search.{any, any_pair}
use Rattle.control.specs.Control.{disabled}
use Rattle.cache.specs.declared.Cache.{Cache}
use Rattle.cache.specs.declared.Fetched.{Fetched}
use Rattle.cache.specs.declared.Kind.TheVariants.{Disabled}
use Rattle.cache.specs.Cache.{bad_state, fetch_refusal, start_address, subsegment_of, lookup, fetched, fresh_cache}
use Rattle.cache.proofs.CacheLaws.{accepted, not-refused, fetched-refused, fetched-disabled, fetched-lookup, lookup-accepted, answer-refusal}

pub fresh-accepted : bad_state fresh_cache ≡ false
unfolding any any_pair bad_state
fresh-accepted = refl

pub fetch-accepted : (c : Cache) (address control : ℕ) → address < 2 ^ 32 → bad_state c ≡ false
    → (f : Fetched) × (fetched c address control ≡ Ok f) × (bad_state f.cache ≡ false)
fetch-accepted c address control l ok = go (disabled control) refl
  where
    go : (b : Bool) → disabled control ≡ b → (f : Fetched) × (fetched c address control ≡ Ok f) × (bad_state f.cache ≡ false)
    go true d = (record { kind = Disabled; cache = c }, fetched-disabled c address control ok d, ok)
    go false d = (
      lookup c (start_address address) (subsegment_of address),
      fetched-lookup c address control ok d,
      not-refused (lookup-accepted c (accepted c ok) _ _ (omega arith)),
    )

-- 19 is the number of a refused state alone
of-refusal : (r : Bool) → ◌≡◌ {A = ℕ} (cond r 19 0) 19 → r ≡ true
of-refusal true e = refl
of-refusal false e = absurd (omega arith)

pub refused-exactly : (c : Cache) (address control : ℕ)
    → (answer (fetched c address control) ≡ fetch_refusal c)
    × ((fetched c address control ≡ Err CacheState) ↔ (bad_state c ≡ true))
refused-exactly c address control =
    let a = answer-refusal c address control in
    let number : Result Fetched Refused → ℕ = λ r. answer r in (
      a,
      (λ e. of-refusal (bad_state c) (sym a ∙ ap number e), fetched-refused c address control),
    )

-- A fetch on arrays: the number of its kind, the array of the state after it, and the promise of
-- the call. Assumes nothing.
use Rattle.std.specs.Prelude.{◌≡◌, Bool, true, false, cond, ◌||◌, List, [], ◌∷◌, ℕ, Result, Ok, Err}
use Rattle.std.proofs.lemmas.List.Edits.{sets}
use Rattle.answers.specs.declared.Refused.{Refused}
use Rattle.answers.specs.Answer.{refusal_number}
use Rattle.cache.specs.declared.Kind.{Kind}
use Rattle.cache.specs.declared.Kind.TheVariants.{Hit, SubsegmentMiss, SegmentMiss, Disabled}
use Rattle.cache.specs.declared.Fetched.{Fetched}
use Rattle.cache.specs.Cache.{fetch_refusal, fetched, kind_number}
use Rattle.c_arrays.specs.Out.{short, answered, stored_out}
use Rattle.c_state.specs.State.{state_numbers, cache_of, numbers_of}

-- the number of a fetch's kind, or of its refusal
abbrev pub fetch_number : Result Fetched Refused → ℕ
fetch_number (Ok f) = kind_number f.kind
fetch_number (Err r) = refusal_number r

-- there is no room for the kind, or there are fewer than twelve numbers
abbrev pub bad_fetch : List ℕ → List ℕ → Bool
bad_fetch s out = short 1 out || short state_numbers s

-- a fetch that leaves the state: with CD 1 it stays
abbrev pub stays : Kind → Bool
stays Hit = false
stays SubsegmentMiss = false
stays SegmentMiss = false
stays Disabled = true

-- the array after a fetch: the next state's numbers at its start; where it is refused, as given
abbrev pub state_after : List ℕ → Result Fetched Refused → List ℕ
state_after s (Ok f) = cond (stays f.kind) s (sets s 0 (numbers_of f.cache))
state_after s (Err r) = s

-- the promise of `fetch`: what it answers, and what it leaves in both arrays
pub record FetchCall (state : List ℕ) (address control : ℕ) (out : List ℕ)
    (answer : ℕ) (state' out' : List ℕ) : Type 0 where
  pub answers : answer ≡ answered (bad_fetch state out) (fetch_refusal (cache_of state))
  pub out-is :
      let call = fetched (cache_of state) address control in
      out' ≡ stored_out (bad_fetch state out) out (fetch_number call ∷ [])
  pub state-is :
      let call = fetched (cache_of state) address control in
      state' ≡ cond (bad_fetch state out) state (state_after state call)

-- Laws of `specs/Cache.antt`. No contract cites this file. Assumes nothing.
use mathlib.Core.Path.{◌≡◌, refl, sym, ap, ◌∙◌}
use mathlib.Core.Bool.{Bool, true, false, cond, ◌||◌, and_assoc, and-false, and-eq-true_iff}
use mathlib.Core.List.{List}
use Prim.Native.Nat.{ℕ, ◌^◌, ◌<◌}
use native.Mathlib.Omega.{arith}
use borrow.Author.Tests.{ltb-true, le-ltb, leb-false}
use lib.Dec.{eqb, leb}
use lib.ListN.{length, get_or}
use Rattle.std.specs.Prelude.{Option, Some, None, Result, Ok, Err}
use Rattle.answers.specs.declared.Refused.{Refused}
use Rattle.answers.specs.declared.Refused.TheVariants.{CacheState}
use Rattle.answers.specs.Answer.{answer}
use Rattle.lists.specs.Search.{any, first, any_pair}
use Rattle.lists.proofs.TestLaws.{or-eq-false}
use Rattle.lists.proofs.SearchLaws.{any-first, get_or-first, any-get_or, any_none, any-set, any-set-same, any_pair-set, any_pair-set-same}
use Rattle.segments.specs.declared.Segment.{Segment}
use Rattle.order.specs.Order.{bad_order, latest}
use Rattle.order.proofs.OrderLaws.{any-latest, any_pair-latest}
use Rattle.segments.specs.Segments.{segment_count, most_start, too_high, holds_some, clash, matches, no_segment}
use Rattle.segments.proofs.SegmentLaws.{clash-comm}
use Rattle.cache.specs.declared.Cache.{Cache}
use Rattle.cache.specs.declared.Fetched.{Fetched}
use Rattle.cache.specs.declared.Kind.TheVariants.{Disabled}
use Rattle.control.specs.Control.{disabled}
use Rattle.cache.specs.Cache.{bad_state, fetch_refusal, start_address, subsegment_of, with_segment, with_flag, segment_at, hit}
use Rattle.cache.specs.Cache.{subsegment_miss, segment_miss, matched, lookup, fetched}

-- what holds of a state that is not refused
pub record Accepted (c : Cache) : Type 0 where
  pub named : any (λ k. leb segment_count k) c.order ≡ false
  pub once : any_pair eqb c.order ≡ false
  pub low : any too_high c.segments ≡ false
  pub apart : any_pair clash c.segments ≡ false

pub accepted : (c : Cache) → bad_state c ≡ false → Accepted c
unfolding bad_state
accepted c e =
    let p = or-eq-false (bad_order c.order || any too_high c.segments) _ e in
    let q = or-eq-false (bad_order c.order) _ p.0 in
    let s = or-eq-false (any (λ k. leb segment_count k) c.order) _ q.0 in
    record { named = s.0; once = s.1; low = q.1; apart = p.1 }

pub not-refused : {c : Cache} → Accepted c → bad_state c ≡ false
unfolding bad_state
not-refused a = rw (a.named, a.once, a.low) a.apart

-- each place of its order names a segment
pub order_lt : (c : Cache) (i : ℕ) → bad_state c ≡ false → get_or c.order i 0 < segment_count
order_lt c i e = leb-false segment_count _ (any-get_or (λ k. leb segment_count k) 0 c.order i refl (accepted c e).named)

-- What a fetch hands back, by the tests of the state and of CD

module _ (c : Cache) (address control : ℕ) where
  pub fetched-refused : bad_state c ≡ true → fetched c address control ≡ Err CacheState
  unfolding fetched
  fetched-refused e = rw e

  pub fetched-disabled : bad_state c ≡ false → disabled control ≡ true
      → fetched c address control ≡ Ok (record { kind = Disabled; cache = c })
  unfolding fetched
  fetched-disabled e d = rw (e, d)

  pub fetched-lookup : bad_state c ≡ false → disabled control ≡ false
      → fetched c address control ≡ Ok (lookup c (start_address address) (subsegment_of address))
  unfolding fetched
  fetched-lookup e d = rw (e, d)

  -- The number that a fetch answers is that of its state, whatever it finds
  pub answer-refusal : answer (fetched c address control) ≡ fetch_refusal c
  unfolding fetched
  answer-refusal = go (bad_state c) (disabled control)
    where
      go : (r d : Bool) → answer (cond {A = Result Fetched Refused} r (Err CacheState)
          (cond d (Ok (record { kind = Disabled; cache = c }))
          (Ok (lookup c (start_address address) (subsegment_of address))))) ≡ cond r 19 0
      go true d = refl
      go false true = refl
      go false false = refl

  pub fetched-answer : {r : Result Fetched Refused} → r ≡ fetched c address control
      → (r ≡ fetched c address control) × (answer r ≡ fetch_refusal c)
  fetched-answer e = (e, ap (λ (f : Result Fetched Refused). answer f) e ∙ answer-refusal)

-- What a look-up hands back, by the place of the first match

module _ (c : Cache) (start sub : ℕ) (r : Option ℕ)
    (e : r ≡ cond (any (matches start) c.segments) (Some (first (matches start) c.segments)) None) where
  pub lookup-matched : (i : ℕ) → r ≡ Some i → matched c i sub ≡ lookup c start sub
  unfolding lookup
  lookup-matched i f = go (any (matches start) c.segments) (sym f ∙ e)
    where
      go : (b : Bool) → Some i ≡ cond b (Some (first (matches start) c.segments)) None
          → matched c i sub ≡ cond b (matched c (first (matches start) c.segments) sub) (segment_miss c start sub)
      go true g = let h : i ≡ first (matches start) c.segments = cc in rw h
      go false g = cc

  pub found-lt : (i : ℕ) → r ≡ Some i → length c.segments ≡ segment_count → i < segment_count
  found-lt i f h = go (any (matches start) c.segments) refl (sym f ∙ e)
    where
      go : (b : Bool) → any (matches start) c.segments ≡ b → Some i ≡ cond b (Some (first (matches start) c.segments)) None
          → i < segment_count
      go true t g =
          let k : i ≡ first (matches start) c.segments = cc in
          omega (arith, ltb-true _ _ (sym (any-first (matches start) c.segments) ∙ t))
      go false t g = cc

  pub lookup-missed : r ≡ None → segment_miss c start sub ≡ lookup c start sub
  unfolding lookup
  lookup-missed f = go (any (matches start) c.segments) (sym f ∙ e)
    where
      go : (b : Bool) → None ≡ cond b (Some (first (matches start) c.segments)) None
          → segment_miss c start sub ≡ cond b (matched c (first (matches start) c.segments) sub) (segment_miss c start sub)
      go true g = cc
      go false g = refl

-- A look-up keeps an accepted state accepted

module _ (c : Cache) (a : Accepted c) where
  latest-accepted : (i : ℕ) (l : List Segment) → any too_high l ≡ false → any_pair clash l ≡ false
      → Accepted (record { segments = l; order = latest i c.order })
  latest-accepted i l h e =
      record { named = any-latest _ i c.order ∙ a.named; once = any_pair-latest i c.order ∙ a.once; low = h; apart = e }

  with_flag-accepted : (i sub : ℕ) → holds_some (segment_at c i) ≡ true → Accepted (with_segment c i (with_flag sub (segment_at c i)))
  with_flag-accepted i sub h =
      let more : holds_some (with_flag sub (segment_at c i)) ≡ true = any-set (λ f. f) true (segment_at c i).present sub true refl h in
      latest-accepted i _ (any-set-same too_high _ no_segment c.segments i refl ∙ a.low)
      (any_pair-set-same clash clash-comm _ no_segment c.segments i (λ t. rw (more, h)) ∙ a.apart)

  matched-accepted : (i sub : ℕ) → holds_some (segment_at c i) ≡ true → Accepted (matched c i sub).cache
  matched-accepted i sub h = go (get_or (segment_at c i).present sub false)
    where
      go : (b : Bool) → Accepted (cond b (hit c i) (subsegment_miss c i sub)).cache
      go true = latest-accepted i c.segments a.low a.apart
      go false = with_flag-accepted i sub h

  new-accepted : (i : ℕ) (s : Segment) → s.start < 2 ^ 23 → any (matches s.start) c.segments ≡ false → Accepted (with_segment c i s)
  new-accepted i s l e =
      latest-accepted i _ (any-set too_high s c.segments i false (le-ltb most_start s.start (omega arith)) a.low)
      (any_pair-set clash clash-comm s c.segments i
      (any_none (matches s.start) (clash s) c.segments
      (λ t z. rw (and_assoc (holds_some s) (holds_some t), z) (and-false (holds_some s))) e)
      a.apart)

  pub lookup-accepted : (start sub : ℕ) → start < 2 ^ 23 → Accepted (lookup c start sub).cache
  unfolding lookup
  lookup-accepted start sub l = go (any (matches start) c.segments) refl
    where
      go : (b : Bool) → any (matches start) c.segments ≡ b
          → Accepted (cond b (matched c (first (matches start) c.segments) sub) (segment_miss c start sub)).cache
      go true e = matched-accepted _ sub ((and-eq-true_iff _ _).0 (get_or-first (matches start) no_segment c.segments e)).0
      go false e = new-accepted _ _ l e

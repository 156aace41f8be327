-- A list of calls keeps the invariant. No contract cites this file. Assumes nothing.
use mathlib.Core.Path.{◌≡◌, sym, ap, ap₂, ◌∙◌, subst}
use mathlib.Core.Logic.{⊎_elim, ◌≢◌, by_cases}
use mathlib.Core.Bool.{Bool, cond}
use mathlib.Core.List.{List, [], ◌∷◌}
use Prim.Native.Nat.{ℕ, ◌+◌, ◌-◌, ◌≤◌, ◌<◌, min}
use native.Mathlib.Decide.{ℕ_discrete}
use native.Mathlib.Omega.{arith}
use lib.Dec.{eqb}
use lib.ListN.{length}
use Rattle.array_refusal.proofs.RefusalLaws.{refusal-number, refusal-moved}
use Rattle.slices.specs.Calls.{Job, Held, Call, slice, other, CallState, handed_back, last_accepted, next, run, start}
use Rattle.slices.specs.Demand3.{pixels_of, Accepted, Setup, Fine, reached}
use Rattle.slices.proofs.OutcomeLaws.{v_after-twice}
use Rattle.slices.proofs.CallLaws.{cond-eq, cond-ne, number, flag, visited_of, held_at, held_at-flag, held_at-v, handed-accepted}
use Rattle.slices.proofs.CallLaws.{handed-refused, memory-accepted, memory-refused, after-accepted, after-refused}
use Rattle.slices.proofs.CountLaws.{cnt-live, cnt-none, step}
use Rattle.slices.proofs.Invariant.{Inv, places, moved, inv-start, inv-moved}

-- holding what is held already
same-held : (held : ℕ → Held) (j x : ℕ) → cond (eqb x j) (held j) (held x) ≡ held x
same-held held j x = by_cases (ℕ_discrete x j) (λ e. cond-eq x j (held j) (held x) e ∙ ap held (sym e)) (cond-ne x j (held j) (held x))

module _ {w : ℕ} (S : Setup w) where
  -- the V that is held leads where the first V does
  same_flag : (s : CallState) → Inv S s → (j : ℕ) → flag (S.jobs j) (s.held j).v ≡ flag (S.jobs j) (S.first_v j)
  same_flag s I j =
      ⊎_elim
      (λ e. ap (λ (h : Held). flag (S.jobs j) h.v) e)
      (λ p. ap (λ (h : Held). flag (S.jobs j) h.v) p.holds
      ∙ ap (flag (S.jobs j)) (held_at-v (S.jobs j) (places s j) (S.first_v j))
      ∙ v_after-twice (S.jobs j).operation (S.jobs j).settings (S.first_v j))
      (I.job j)

  -- a slice of an accepted drawing
  next-live : (s : CallState) → Inv S s → (j b : ℕ) → j < S.count → Accepted w (S.jobs j)
      → next S.jobs (slice j b) s ≡ moved S s j (visited_of (S.jobs j) (places s j) b)
  unfolding next moved step
  next-live s I j b hj hr =
      let d : Job = S.jobs j in
      let k : ℕ = places s j in
      let v : Bool = (s.held j).v in
      let e : number d k (length s.memory) ≡ 0 =
      ap (number d k) I.good.size
      ∙ refusal-moved d.operation d.settings 0 k w hr (omega (arith, I.fits j, cnt-live S j hj hr)) in
      let h : last_accepted (handed_back d k b v s.memory) (s.held j) ≡ held_at d (k + visited_of d k b) (S.first_v j) =
      ap (λ (r : Held). last_accepted r (s.held j)) (handed-accepted d k b v s.memory e)
      ∙ after-accepted d (k + visited_of d k b) v (s.held j)
      ∙ held_at-flag d (k + visited_of d k b) v (S.first_v j) (same_flag s I j) in
      λ i. record { memory = memory-accepted d k b s.memory e i; held = λ x. cond (eqb x j) (h i) (s.held x) }

  -- a slice of a refused one
  next-idle : (s : CallState) → Inv S s → (j b : ℕ) → number (S.jobs j) 0 w ≢ 0 → next S.jobs (slice j b) s ≡ s
  unfolding next
  next-idle s I j b hr =
      let d : Job = S.jobs j in
      let k : ℕ = places s j in
      let v : Bool = (s.held j).v in
      let z : k ≡ 0 = omega (arith, I.fits j, cnt-none S j hr) in
      let q : number d k (length s.memory) ≡ number d 0 w = ap₂ (number d) z I.good.size in
      let e : number d k (length s.memory) ≢ 0 = λ y. hr (sym q ∙ y) in
      let h : last_accepted (handed_back d k b v s.memory) (s.held j) ≡ s.held j =
      ap (λ (r : Held). last_accepted r (s.held j)) (handed-refused d k b v s.memory e)
      ∙ after-refused d k v (number d k (length s.memory)) (s.held j)
      (omega (arith, q, (refusal-number d.operation d.settings 0 w).least hr)) in
      let hs : (x : ℕ) → cond (eqb x j) (last_accepted (handed_back d k b v s.memory) (s.held j)) (s.held x) ≡ s.held x =
      λ x. ap (λ (g : Held). cond (eqb x j) g (s.held x)) h ∙ same-held s.held j x in
      λ i. record { memory = memory-refused d k b s.memory e i; held = λ x. hs x i }

  -- another call, refused
  pub next-other : (s : CallState) → Inv S s → (d : Job) (k b : ℕ) (v : Bool) → number d k w ≢ 0 → next S.jobs (other d k b v) s ≡ s
  unfolding next
  next-other s I d k b v hr =
      let e : number d k (length s.memory) ≢ 0 = λ z. hr (ap (number d k) (sym I.good.size) ∙ z) in
      λ i. record { memory = memory-refused d k b s.memory e i; held = s.held }

  -- what a slice comes to: nothing, or more pixels of its drawing
  pub data Came (s : CallState) (j : ℕ) (t : CallState) : Type 0 where
    idle : number (S.jobs j) 0 w ≢ 0 → t ≡ s → Came s j t
    drew : (c : ℕ) → Accepted w (S.jobs j) → places s j + c ≤ pixels_of (S.jobs j) → t ≡ moved S s j c → Came s j t

  pub came : (s : CallState) → Inv S s → (j b : ℕ) → j < S.count → Came s j (next S.jobs (slice j b) s)
  came s I j b hj =
      by_cases (ℕ_discrete (number (S.jobs j) 0 w) 0)
      (λ hr. drew (min b (pixels_of (S.jobs j) - places s j)) hr (omega (arith, I.fits j, cnt-live S j hj hr)) (next-live s I j b hj hr))
      (λ hr. idle hr (next-idle s I j b hr))

  pub inv-came : (s : CallState) → Inv S s → (j : ℕ) → j < S.count → (t : CallState) → Came s j t → Inv S t
  inv-came s I j hj t (idle hr e) = subst (Inv S) (sym e) I
  inv-came s I j hj t (drew c hr hc e) = subst (Inv S) (sym e) (inv-moved S s j c I hj hr hc)

  pub inv-run : (cs : List Call) → Fine w S.count cs → (s : CallState) → Inv S s → Inv S (run S.jobs cs s)
  unfolding run
  inv-run [] f s I = I
  inv-run (slice j b ∷ cs) f s I = inv-run cs f.1 (next S.jobs (slice j b) s) (inv-came s I j f.0 _ (came s I j b f.0))
  inv-run (other d k b v ∷ cs) f s I =
      inv-run cs f.1 (next S.jobs (other d k b v) s) (subst (Inv S) (sym (next-other s I d k b v f.0)) I)

  pub inv-ran : (cs : List Call) → Fine w S.count cs → Inv S (reached S cs)
  inv-ran cs f = inv-run cs f (start S.jobs S.first_v S.memory) (inv-start S)

-- Demand 3 of any number of drawings, and lists that stop anywhere: proofs of specs/Demand3.antt. Assumes nothing.
use mathlib.Core.Path.{◌≡◌, refl, sym, ap, ◌∙◌, subst}
use mathlib.Core.Logic.{inl, inr, ⊎_elim, by_cases}
use mathlib.Core.List.{List, [], ◌∷◌}
use Prim.Native.Nat.{ℕ, ◌+◌, ◌≤◌, ◌<◌, min}
use native.Mathlib.Decide.{ℕ_discrete}
use native.Mathlib.Omega.{arith}
use Rattle.memory.specs.Bits.{Memory, bit_at}
use Rattle.engine.specs.Engine.{visit}
use Rattle.interleave.specs.Order.{In}
use Rattle.interleave.proofs.VisitLaws.{upto}
use Rattle.interleave.proofs.OrderLaws.{some_order}
use Rattle.interleave.proofs.JobLaws.{ordered, upto-good, obs-ordered, alone}
use Rattle.slices.specs.Calls.{Held, Call, slice, other, CallState, memory_left, next, run}
use Rattle.slices.specs.Demand3.{walk_of, pixels_of, Accepted, Setup, Fine, reached, Done, in_turn, AnyDrawings, StoppedAnywhere}
use Rattle.slices.specs.Demand3.{OthersStay, DoneForGood}
use Rattle.slices.proofs.CallLaws.{number, held_at, memory-zero, memory-refused, handed-whole, answer-place, place-answer}
use Rattle.slices.proofs.CountLaws.{cnt, step, cnt-live, cnt-none, commuting, step_keeps, step-keeps-all}
use Rattle.slices.proofs.Invariant.{Inv, Drew, places, moved, moved_here, moved-there}
use Rattle.slices.proofs.RunLaws.{Came, idle, drew, came, next-other, inv-came, inv-ran}

module _ {w : ℕ} (S : Setup w) where
  -- the first k pixels of drawing j by one call; a refused one has none
  part-memory : (j k b : ℕ) → k ≤ cnt S j → (Accepted w (S.jobs j) → min b (pixels_of (S.jobs j)) ≡ k) → (m : List ℕ) → Memory w m
      → upto (step S j) k m ≡ memory_left (S.jobs j) 0 b m
  unfolding step upto
  part-memory j k b hk hb m g =
      by_cases (ℕ_discrete (number (S.jobs j) 0 w) 0)
      (λ hr. sym (memory-zero (S.jobs j) b k m (ap (number (S.jobs j) 0) g.size ∙ hr) (hb hr)))
      (λ hr.
      let e : k ≡ 0 = omega (arith, cnt-none S j hr) in
      ap (λ (c : ℕ). upto (visit (walk_of (S.jobs j))) c m) e
      ∙ sym (memory-refused (S.jobs j) 0 b m (λ z. hr (ap (number (S.jobs j) 0) (sym g.size) ∙ z))))

  -- drawings up to their places, one after another, by one call each
  in-turn : (p b : ℕ → ℕ) → ((j : ℕ) → p j ≤ cnt S j)
      → ((j : ℕ) → j < S.count → Accepted w (S.jobs j) → min (b j) (pixels_of (S.jobs j)) ≡ p j)
      → (os : List ℕ) → ((j : ℕ) → In j os → j < S.count) → (m : List ℕ) → Memory w m
      → ordered (step S) p os m ≡ in_turn S.jobs b os m
  unfolding ordered in_turn
  in-turn p b hp hb [] h m g = refl
  in-turn p b hp hb (j ∷ os) h m g =
      in-turn p b hp hb os (λ x i. h x (inr i)) (upto (step S j) (p j) m) (upto-good (commuting S) j (p j) (hp j) m g)
      ∙ ap (in_turn S.jobs b os) (part-memory j (p j) (b j) (hp j) (hb j (h j (inl refl))) m g)

  -- an accepted drawing is at most at its end, and where its last answer is 0, there
  place-le : (s : CallState) → Inv S s → (j : ℕ) → j < S.count → Accepted w (S.jobs j) → places s j ≤ pixels_of (S.jobs j)
  place-le s I j hj hr = omega (arith, I.fits j, cnt-live S j hj hr)

  done-drew : (s : CallState) → Inv S s → (j : ℕ) → Done s j → Drew S s j
  done-drew s I j a =
      ⊎_elim
      (λ e. absurd (let z : ◌≡◌ {A = ℕ} 1 0 = sym (ap (λ (h : Held). h.answer) e) ∙ a in omega arith))
      (λ p. p)
      (I.job j)

  done-place : (s : CallState) → Inv S s → (j : ℕ) → Done s j → places s j ≡ pixels_of (S.jobs j)
  done-place s I j a =
      answer-place (S.jobs j) (places s j) (S.first_v j) (sym (ap (λ (h : Held). h.answer) (done-drew s I j a).holds) ∙ a)

  -- ---- done stays done

  stays-came : (s : CallState) → Inv S s → (x : ℕ) (t : CallState) → Came S s x t → (j : ℕ) → Done s j → Done t j
  stays-came s I x t (idle hr e) j a = ap (λ (y : CallState). (y.held j).answer) e ∙ a
  stays-came s I x t (drew c hr hc e) j a =
      ap (λ (y : CallState). (y.held j).answer) e
      ∙ by_cases (ℕ_discrete j x)
      (λ q. subst (λ (y : ℕ). ((moved S s x c).held y).answer ≡ 0) (sym q)
      (ap (λ (h : Held). h.answer) (moved_here S s x c)
      ∙ place-answer (S.jobs x) (places s x + c) (S.first_v x)
      (let p : places s x ≡ pixels_of (S.jobs x) = subst (λ (y : ℕ). places s y ≡ pixels_of (S.jobs y)) q (done-place s I j a) in
      omega arith)))
      (λ ne. ap (λ (h : Held). h.answer) (moved-there S s x c j ne) ∙ a)

  stays-run : (ds : List Call) → Fine w S.count ds → (s : CallState) → Inv S s → (j : ℕ) → Done s j → Done (run S.jobs ds s) j
  unfolding run
  stays-run [] f s I j a = a
  stays-run (slice x b ∷ ds) f s I j a =
      let t = came S s I x b f.0 in
      stays-run ds f.1 (next S.jobs (slice x b) s) (inv-came S s I x f.0 _ t) j (stays-came s I x _ t j a)
  stays-run (other d k b v ∷ ds) f s I j a =
      let e = sym (next-other S s I d k b v f.0) in
      stays-run ds f.1 (next S.jobs (other d k b v) s) (subst (Inv S) e I) j (subst (λ (t : CallState). Done t j) e a)

pub any-drawings : AnyDrawings
any-drawings w S cs f d b hb =
    let s : CallState = reached S cs in
    let I : Inv S s = inv-ran S cs f in
    let e : (j : ℕ) → j < S.count → Accepted w (S.jobs j) → places s j ≡ pixels_of (S.jobs j) =
    λ j hj hr. done-place S s I j (d j hj hr) in
    record {
      memory =
          λ os o. I.mem os o
          ∙ in-turn S (places s) b I.fits (λ j hj hr. omega (arith, e j hj hr, hb j hj)) os o.only S.memory S.good;
      held = λ j hj hr m g.
          (done-drew S s I j (d j hj hr)).holds ∙ ap (λ (k : ℕ). held_at (S.jobs j) k (S.first_v j)) (e j hj hr)
          ∙ sym (handed-whole (S.jobs j) (b j) (S.first_v j) m (ap (number (S.jobs j) 0) g ∙ hr) (hb j hj));
      refused = λ j hr. ⊎_elim (λ p. p) (λ p. absurd (hr p.taken)) (I.job j);
    }

pub stopped-anywhere : StoppedAnywhere
unfolding step
stopped-anywhere w S cs f j hj hr a y =
    let s : CallState = reached S cs in
    let I : Inv S s = inv-ran S cs f in
    let o = some_order S.count in
    ap (λ (m : List ℕ). bit_at m a) (I.mem o.0 o.1)
    ∙ alone (commuting S) (places s) I.fits (λ m. bit_at m a) j (step_keeps S j hj hr a y) o.0 o.1.once
    (o.1.all j hj) S.memory S.good
    ∙ ap (λ (m : List ℕ). bit_at m a)
    (sym (memory-zero (S.jobs j) (places s j) (places s j) S.memory (ap (number (S.jobs j) 0) S.good.size ∙ hr)
    (omega (arith, place-le S s I j hj hr))))

-- no drawing has the number S .count, so all that stand in an order are others
pub others-stay : OthersStay
others-stay w S cs f a none =
    let s : CallState = reached S cs in
    let I : Inv S s = inv-ran S cs f in
    let o = some_order S.count in
    ap (λ (m : List ℕ). bit_at m a) (I.mem o.0 o.1)
    ∙ obs-ordered (commuting S) (places s) I.fits (λ m. bit_at m a) S.count (λ x i ne. step-keeps-all S a none x i) o.0
    (λ i. let h : S.count < S.count = o.1.only S.count i in omega arith)
    S.memory S.good

pub done-for-good : DoneForGood
done-for-good w S cs ds f f' j = stays-run S ds f' (reached S cs) (inv-ran S cs f) j

-- Laws of `specs/Beginning.antt`: the dry run, the length of its line, and one law for each way out. No contract cites this file.
-- Assumes nothing.
use mathlib.Core.Path.{◌≡◌, refl, sym, ap, ◌∙◌}
use mathlib.Core.Bool.{Bool, true, false, ◌||◌}
use mathlib.Core.Logic.{◌≢◌, by_cases}
use mathlib.Core.List.{List, [], ◌∷◌}
use Prim.Native.Nat.{ℕ, ◌^◌, ◌≤◌, ◌<◌}
use native.Mathlib.Decide.{ℕ_discrete}
use native.Mathlib.Omega.{arith}
use borrow.Author.Tests.{le-leb, lt-leb, leb-true, leb-false}
use lib.Dec.{leb}
use lib.ListN.{length}
use Rattle.memory.specs.Bits.{no_memory}
use Rattle.image.proofs.ImageLaws.{length-image}
use Rattle.names.specs.Drawings.{drawing_count}
use Rattle.settings.specs.declared.Settings.{Settings}
use Rattle.settings.specs.Settings.{settings_of}
use Rattle.operation.specs.declared.Operation.{Operation}
use Rattle.operation.specs.Operation.{operation_of}
use Rattle.array_refusal.specs.Refusal.{refusal}
use Rattle.array_refusal.proofs.RefusalLaws.{refusal-number}
use Rattle.drawing.specs.declared.Outcome.{Outcome}
use Rattle.drawing.specs.Draw.{unlimited, outcome}
use Rattle.fill_tables.specs.declared.Time.{Time}
use Rattle.fill_timing.specs.FillTiming.{fill_time}
use Rattle.fill_timing.proofs.FillTimingLaws.{fill_time-le}
use Rattle.text.specs.Text.{same}
use Rattle.points.specs.Table.{axes_in, points_in, answer_for, out_after}
use Rattle.points.proofs.AnswerLaws.{answer-done, answer-refused}
use Rattle.listing.proofs.ListingLaws.{length-six}
use Rattle.run.specs.declared.Ran.{Ran}
use Rattle.run.specs.Run.{seed_of, bit, ran_over, ran_for, line_of}
use Rattle.run.specs.Lines.{longest}
use Rattle.run.proofs.RunLaws.{ran_over-refused, ran_over-done, out_after-fourteen}
use Rattle.run.proofs.LinesLaws.{dydx-lt}
use Rattle.beginning.specs.Beginning.{with_changed, line_with, changed_in, ended, could_be}

-- the numbers of a point's line
abbrev pub numbers_of : ℕ → Ran → List ℕ
numbers_of point r = point ∷ r.answer ∷ r.visited ∷ bit r.v ∷ r.changed ∷ r.states ∷ []

-- A dry run gives all but `changed`, as the image has the memory's length

pub ran_dry : (words draw changed : ℕ) (vs : List ℕ) {s : Settings} {op : Operation} {o : Outcome} {time : Time} → s ≡ settings_of vs
    → op ≡ operation_of draw → o ≡ outcome op s 0 false unlimited words → time ≡ fill_time op s o.visited
    → record { answer = o.answer; visited = o.visited; v = o.v; changed = changed; states = time.states }
    ≡ with_changed changed (ran_for words draw vs)
unfolding ran_over
ran_dry words draw changed vs es eo er et = rw (et, er, eo, es, length-image words (seed_of vs))

-- No line is longer than the longest, whatever the number in the place of `changed`

module _ (op : Operation) (s : Settings) (m : List ℕ) (h : s.dydx < 2 ^ 32) where
  answer_lt : (ran_over op s m).answer < 100
  answer_lt =
      by_cases (ℕ_discrete (refusal op s 0 (length m)) 0)
      (λ e. omega (arith, (ran_over-done op s m h e).0))
      (λ n. omega (arith, ap (λ (r : Ran). r.answer) (ran_over-refused op s m n), (refusal-number op s 0 (length m)).most))

  states-lt : (ran_over op s m).states < 10 ^ 11
  unfolding ran_over
  states-lt = omega (arith, fill_time-le op s 0 false unlimited (length m) h)

bit-lt : (b : Bool) → bit b < 10
bit-lt true = omega arith
bit-lt false = omega arith

pub length-with : (n words draw point : ℕ) (vs : List ℕ) → length (line_of point (with_changed n (ran_for words draw vs))) ≤ longest
length-with n words draw point vs =
    let r = ran_for words draw vs in
    length-six point r.answer r.visited (bit r.v) n r.states (answer_lt _ _ _ (dydx-lt vs)) (bit-lt r.v)
    (states-lt (operation_of draw) (settings_of vs) _ (dydx-lt vs))

-- The ways out

module _ (words draw axes point : ℕ) (t line : List ℕ) where
  -- there is no memory, or no such drawing
  pub could-unasked : (no_memory words || leb drawing_count draw) ≡ true → false ≡ could_be words draw axes t point line
  unfolding could_be
  could-unasked e = rw e

  -- the table has no such point
  could-past : (no_memory words || leb drawing_count draw) ≡ false → points_in axes t ≤ point
      → false ≡ could_be words draw axes t point line
  unfolding could_be
  could-past e h = rw (e, le-leb (points_in axes t) point h)

  -- it has
  could-below : (no_memory words || leb drawing_count draw) ≡ false → point < points_in axes t
      → same (ended line) (line_with (changed_in line) words draw (axes_in axes t) point) ≡ could_be words draw axes t point line
  unfolding could_be
  could-below e h = rw (e, lt-leb (points_in axes t) point h)

  -- as decoding finds it, into a list of fourteen
  module _ (out : List ℕ) (size : length out ≡ 14) (shape : (no_memory words || leb drawing_count draw) ≡ false) where
    pub could-refused : answer_for axes t point out ≢ 0 → false ≡ could_be words draw axes t point line
    could-refused n = go (leb (points_in axes t) point) refl
      where
        go : (b : Bool) → leb (points_in axes t) point ≡ b → false ≡ could_be words draw axes t point line
        go true e = could-past shape (leb-true _ _ e)
        go false e = absurd (n (sym (answer-done axes point t out (omega arith) (leb-false _ _ e)).0))

    pub could-done : answer_for axes t point out ≡ 0 → {vs : List ℕ} {r : Bool} → vs ≡ out_after axes t point out
        → r ≡ same (ended line) (line_of point (with_changed (changed_in line) (ran_for words draw vs)))
        → r ≡ could_be words draw axes t point line
    unfolding line_with
    could-done a {vs} ev er = er ∙ go (leb (points_in axes t) point) refl
      where
        go : (b : Bool) → leb (points_in axes t) point ≡ b
            → same (ended line) (line_of point (with_changed (changed_in line) (ran_for words draw vs)))
            ≡ could_be words draw axes t point line
        go true e = absurd (omega (arith, a, (answer-refused axes point t out (omega arith) (leb-true _ _ e)).0))
        go false e =
            let h = leb-false _ _ e in
            rw (ev, out_after-fourteen axes point t out size h) (could-below shape h)

-- A call, then one with the new place, is one call with both budgets; and so are any number of them. No contract cites
-- this file. Assumes nothing.
use mathlib.Core.Path.{◌≡◌, sym, ap, ap₂, ◌∙◌}
use mathlib.Core.Logic.{◌≢◌, by_cases}
use mathlib.Core.Bool.{Bool}
use mathlib.Core.List.{List, [], ◌∷◌}
use Prim.Native.Nat.{ℕ, ◌+◌}
use native.Mathlib.Nat.{add-zero}
use native.Mathlib.Decide.{ℕ_discrete}
use native.Mathlib.Omega.{arith}
use lib.ListN.{length}
use Rattle.settings.specs.declared.Settings.{Settings}
use Rattle.engine.specs.Engine.{visits}
use Rattle.engine.proofs.VisitsLaws.{length-visits, visits-add}
use Rattle.operation.specs.declared.Operation.{Operation}
use Rattle.drawing.specs.declared.Outcome.{Outcome}
use Rattle.arrays.specs.Array.{v_after, drawing_for}
use Rattle.array_refusal.specs.Refusal.{refusal}
use Rattle.drawing.specs.Draw.{refused_call, outcome_at, visited_by, outcome, drawn}
use Rattle.array_refusal.proofs.RefusalLaws.{place-le, refusal-moved}
use Rattle.slices.specs.Joined.{together, total, handed_by, left_by}
use Rattle.drawing.proofs.OutcomeLaws.{at, outcome-accepted, outcome-refused, drawn-accepted, drawn-refused}
use Rattle.slices.proofs.OutcomeLaws.{v_after-twice}

module _ (op : Operation) (s : Settings) where
  module _ (k : ℕ) (v : Bool) (b c : ℕ) (m : List ℕ) where
    abbrev first : Outcome
    first = outcome op s k v b (length m)

    abbrev left : List ℕ
    left = drawn op s k b m

    abbrev second : Outcome
    second = outcome op s first.place first.v c (length left)

    module _ (e : refusal op s k (length m) ≡ 0) where
      abbrev k' : ℕ
      k' = k + visited_by op s k b

      same_length : length left ≡ length m
      same_length = ap length (drawn-accepted op s k b m e) ∙ length-visits (drawing_for op s) k (visited_by op s k b) m

      -- the counts add up
      counts : visited_by op s k b + visited_by op s k' c ≡ visited_by op s k (b + c)
      counts = omega (arith, place-le op s k (length m) e)

      -- the second one is not refused either
      goes_on : refusal op s k' (length m) ≡ 0
      goes_on = refusal-moved op s k k' (length m) e (omega (arith, place-le op s k (length m) e))

      first-is : first ≡ at op s (v_after op s v) k' (visited_by op s k b)
      first-is = outcome-accepted op s k v b (length m) e

      place_is : first.place ≡ k'
      unfolding outcome_at
      place_is = ap (λ (o : Outcome). o.place) first-is

      v-is : first.v ≡ v_after op s v
      unfolding outcome_at
      v-is = ap (λ (o : Outcome). o.v) first-is

      second_is : second ≡ at op s (v_after op s v) (k' + visited_by op s k' c) (visited_by op s k' c)
      second_is =
          (λ i. outcome op s (place_is i) (v-is i) c (same_length i))
          ∙ outcome-accepted op s k' (v_after op s v) c (length m) goes_on
          ∙ ap (λ (u : Bool). at op s u (k' + visited_by op s k' c) (visited_by op s k' c)) (v_after-twice op s v)

      both_is : outcome op s k v (b + c) (length m)
          ≡ at op s (v_after op s v) (k' + visited_by op s k' c) (visited_by op s k b + visited_by op s k' c)
      both_is =
          let moved : k + visited_by op s k (b + c) ≡ k' + visited_by op s k' c = omega (arith, counts) in
          outcome-accepted op s k v (b + c) (length m) e
          ∙ ap₂ (λ (place visited : ℕ). at op s (v_after op s v) place visited) moved (sym counts)

      accepted-together : outcome op s k v (b + c) (length m) ≡ together first second
      unfolding outcome_at
      accepted-together = both_is ∙ sym (ap₂ together first-is second_is)

      accepted-join : drawn op s first.place c left ≡ drawn op s k (b + c) m
      accepted-join =
          (λ i. drawn op s (place_is i) c (drawn-accepted op s k b m e i))
          ∙ drawn-accepted op s k' c _ (ap (refusal op s k') (length-visits (drawing_for op s) k (visited_by op s k b) m) ∙ goes_on)
          ∙ sym (visits-add (drawing_for op s) k (visited_by op s k b) (visited_by op s k' c) m)
          ∙ ap (λ (n : ℕ). visits (drawing_for op s) k n m) counts
          ∙ sym (drawn-accepted op s k (b + c) m e)

    module _ (e : refusal op s k (length m) ≢ 0) where
      abbrev back : Outcome
      back = refused_call s k v (refusal op s k (length m))

      back_is : first ≡ back
      back_is = outcome-refused op s k v b (length m) e

      second_back : second ≡ back
      second_back =
          (λ i. outcome op s (back_is i).place (back_is i).v c (length (drawn-refused op s k b m e i)))
          ∙ outcome-refused op s k v c (length m) e

      refused-together : outcome op s k v (b + c) (length m) ≡ together first second
      refused-together = outcome-refused op s k v (b + c) (length m) e ∙ sym (ap₂ together back_is second_back)

      refused-join : drawn op s first.place c left ≡ drawn op s k (b + c) m
      refused-join =
          (λ i. drawn op s (back_is i).place c (drawn-refused op s k b m e i))
          ∙ drawn-refused op s k c m e
          ∙ sym (drawn-refused op s k (b + c) m e)

    pub outcomes-join : outcome op s k v (b + c) (length m) ≡ together first second
    outcomes-join = by_cases (ℕ_discrete (refusal op s k (length m)) 0) accepted-together refused-together

    pub memory-joins : drawn op s first.place c left ≡ drawn op s k (b + c) m
    memory-joins = by_cases (ℕ_discrete (refusal op s k (length m)) 0) accepted-join refused-join

-- ---- any number of slices
module _ (op : Operation) (s : Settings) where
  pub all_join : (k : ℕ) (v : Bool) (b : ℕ) (bs m : List ℕ) → left_by op s k v b bs m ≡ drawn op s k (b + total bs) m
  unfolding left_by
  all_join k v b [] m = ap (λ (n : ℕ). drawn op s k n m) (sym (add-zero b))
  all_join k v b (c ∷ cs) m =
      let first = outcome op s k v b (length m) in
      all_join first.place first.v c cs (drawn op s k b m)
      ∙ memory-joins op s k v b (c + total cs) m

  pub all-together : (k : ℕ) (v : Bool) (b : ℕ) (bs m : List ℕ) → handed_by op s k v b bs m ≡ outcome op s k v (b + total bs) (length m)
  unfolding handed_by
  all-together k v b [] m = ap (λ (n : ℕ). outcome op s k v n (length m)) (sym (add-zero b))
  all-together k v b (c ∷ cs) m =
      let first = outcome op s k v b (length m) in
      ap (together first) (all-together first.place first.v c cs (drawn op s k b m))
      ∙ sym (outcomes-join op s k v b (c + total cs) m)

-- Calls of one drawing, one after the other, each with the place and V that the one before handed
-- back, over the memory that it left (the scope, "Arrays, windows and slices"). Assumes nothing.
use Rattle.std.specs.Prelude.{Bool, List, [], ◌∷◌, ℕ, ◌+◌, length}
use Rattle.settings.specs.declared.Settings.{Settings}
use Rattle.operation.specs.declared.Operation.{Operation}
use Rattle.drawing.specs.declared.Outcome.{Outcome}
use Rattle.drawing.specs.Draw.{outcome, drawn}

-- what two calls hand back together: that of the second, and the pixels visited by both
abbrev pub together : Outcome → Outcome → Outcome
together first second =
    record {
      answer = second.answer;
      place = second.place;
      visited = first.visited + second.visited;
      v = second.v;
      request = second.request;
      saddr = second.saddr;
      daddr = second.daddr;
      dydx = second.dydx;
      settings = second.settings;
    }

-- the sum of some budgets
abbrev pub total : List ℕ → ℕ
total [] = 0
total (b ∷ bs) = b + total bs

-- a call with the budget b and then one with each budget of bs: what they hand back together,
-- and the memory that they leave
unfoldable pub handed_by : Operation → Settings → ℕ → Bool → ℕ → List ℕ → List ℕ → Outcome
handed_by op s place v b [] m = outcome op s place v b (length m)
handed_by op s place v b (c ∷ cs) m =
    let first = outcome op s place v b (length m) in
    together first (handed_by op s first.place first.v c cs (drawn op s place b m))

unfoldable pub left_by : Operation → Settings → ℕ → Bool → ℕ → List ℕ → List ℕ → List ℕ
left_by op s place v b [] m = drawn op s place b m
left_by op s place v b (c ∷ cs) m =
    let first = outcome op s place v b (length m) in
    left_by op s first.place first.v c cs (drawn op s place b m)

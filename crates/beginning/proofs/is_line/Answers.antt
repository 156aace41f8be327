-- `beginning::is_line` meets its contract: the line is made in an array of the greatest length, and compared without its end.
-- Assumes nothing.
use mathlib.Core.Path.{◌≡◌, sym, ap, ◌∙◌}
use mathlib.Core.List.{List}
use Prim.Native.Nat.{ℕ, ◌-◌, ◌≤◌}
use lib.ListN.{length, take, replicate}
use Rattle.text.specs.Text.{same}
use Rattle.listing.specs.Listing.{numbers_line}
use Rattle.listing.proofs.PlacedLaws.{Placed}
use Rattle.run.specs.declared.Ran.{Ran}
use Rattle.run.specs.Run.{line_of}
use Rattle.run.specs.Lines.{longest}
use Rattle.beginning.specs.Beginning.{ended}
use Rattle.beginning.proofs.LineLaws.{same_ended, unended, numbers_line-ended, line_read}
use Rattle.beginning.proofs.BeginningLaws.{numbers_of}
use Rattle.beginning.proofs.is_line.Goals as goal

-- what is put, of a line that fits
made : (point : ℕ) (ran : Ran) (ns : List ℕ) → length (line_of point ran) ≤ longest → numbers_line ns ≡ line_of point ran
    → {r : ℕ} {o : List ℕ} → Placed 0 (numbers_line ns) (replicate 80 0) r o
    → (1 ≤ r) × ((r - 1 ≤ length o) × (take (r - 1) o ≡ unended (numbers_of point ran)))
made point ran ns h e p =
    let n = numbers_line-ended (numbers_of point ran) in
    line_read (unended (numbers_of point ran)) (replicate 80 0) (rw (← n) h) (rw (← n, ← e) p)

pub overflow_sub-end : goal.overflow_sub-end
overflow_sub-end c =
    let p = c.numbers-end.ensures in (made c.args.point c.args.ran _ c.requires c.numbers.ensures (p.value, p.out_after)).0

pub returns : goal.returns
returns c =
    let x = c.args in
    let l = x.line.now in
    let p = c.numbers-end.ensures in
    let t = made x.point x.ran _ c.requires c.numbers.ensures (p.value, p.out_after) in
    c.eq.ensures ∙ ap (same l) t.1.1 ∙ same_ended l (unended (numbers_of x.point x.ran))
    ∙ ap (same (ended l)) (sym (numbers_line-ended (numbers_of x.point x.ran)))

-- `values::any_twice` meets its contract. The invariant: the search among all the values comes out as that among the values left.
use mathlib.Core.Path.{◌≡◌, sym, ◌∙◌}
use mathlib.Core.Bool.{false}
use native.Mathlib.Omega.{arith}
use lib.Dec.{eqb}
use Rattle.lists.specs.Search.{any_pair}
use Rattle.tabs.proofs.FieldsLaws.{fields_from-past}
use Rattle.values.proofs.BlockLaws.{held_in, held_of, block_same, block-among, block-next}
use Rattle.values.proofs.any_twice.Goals as goal

-- no value stands twice in the block
once-2 : (c : goal.Then-any_among) → any_pair eqb (held_in c.block_at-b.result) ≡ false
once-2 c =
    sym c.any_same.ensures ∙ c.if-any_same.false

-- no value stands twice in the block
once : (c : goal.Else-any_among) → any_pair eqb (held_in c.block_at-b.result) ≡ false
once c =
    sym c.any_same.ensures ∙ c.if-any_same.false

pub returns-then-any_same : goal.returns-then-any_same
returns-then-any_same c =
    let twice = sym c.any_same.ensures ∙ c.if-any_same.true in
    sym (c.loop-p.invariant ∙ block_same (held_of c.block_at-b.ensures) twice)

pub returns-then-any_among : goal.returns-then-any_among
returns-then-any_among c =
    let behind = sym c.any_among.ensures ∙ c.if-any_among.true in
    sym (c.loop-p.invariant ∙ block-among (held_of c.block_at-b.ensures) (once-2 c) behind)

pub loop-p-smaller : goal.loop-p-smaller
loop-p-smaller c =
    let inside = c.loop-p-test.true in
    omega (arith, (held_of c.block_at-b.ensures).onwards inside, inside)

pub loop-p-preserved : goal.loop-p-preserved
loop-p-preserved c =
    let nowhere = sym c.any_among.ensures ∙ c.if-any_among.false in
    c.loop-p.invariant ∙ block-next (held_of c.block_at-b.ensures) (once c) nowhere

pub returns : goal.returns
unfolding any_pair
returns c =
    sym (c.loop-p.invariant ∙ rw (fields_from-past _ _ c.loop-p-test.false))

-- `columns::line` meets its contract: each turn puts one column, and the last one ends the line. Assumes nothing.
use mathlib.Core.List.{map}
use Rattle.columns.specs.Held.{held_text}
use Rattle.columns.proofs.TextLaws.{Texted}
use Rattle.columns.proofs.line.Given as goal

abbrev pub invariant-loop-c : goal.invariant-loop-c
invariant-loop-c l =
    Texted (map held_text l.columns) l.initial.text l.c-index l.to l.text

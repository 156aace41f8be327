-- `draw_at` meets its contract: its source drawn at its address; past the end nothing is.
use Rattle.std.proofs.Common.{◌/◌, sym, arith}
use lib.Seq.{set_out}
use Rattle.pixel.specs.Pixel.{plotted}
use Rattle.row.specs.Row.{drawn_at}
use Rattle.row.proofs.draw_at.Goals as goal

pub returns-then-at-memory : goal.returns-then-at-memory
unfolding drawn_at plotted
returns-then-at-memory c =
    rw (c.word_after.ensures, c.source_at-s.ensures)

pub returns-else-at-memory : goal.returns-else-at-memory
unfolding drawn_at plotted
returns-else-at-memory c =
    let a = c.args in
    sym (set_out a.memory.now (a.to / 16) _ (omega arith))

-- `fill_tables::transfer_time` meets its contract. Assumes nothing.
use mathlib.Core.Path.{sym, subst}
use Prim.Native.Nat.{ℕ, ◌^◌, ◌<◌}
use native.Mathlib.Nat.{lt_trans}
use native.Mathlib.Omega.{arith}
use Rattle.fill_tables.specs.declared.Entry.{Entry}
use Rattle.fill_tables.specs.Time.{length_of, processing_column}
use Rattle.fill_tables.proofs.TimeLaws.{Room, room, Within, entry-within, word_states-le}
use Rattle.fill_tables.proofs.transfer_time.Goals as goal

abbrev entry_of-2 : (c : goal.After-struct_known-2-1) → Entry
entry_of-2 c =
    c.transfer_entry-e.result

fits-2 : (c : goal.After-struct_known-2-1) (l : ℕ) → l < 2 ^ 16
    → Room (entry_of-2 c).row c.words_of-n.result c.word_states-g.result l (entry_of-2 c).end
fits-2 c l h =
    let f = c.args.f in
    let k = c.alignment_of.result in
    let b = subst (Within k) (sym c.transfer_entry-e.ensures) (entry-within (length_of c.words_of-n.result) k) in
    let g = word_states-le f.masked (processing_column f.pp) in
    room _ _ _ l _ b.row-le c.words_of-n.ensures.1 (omega (arith, c.word_states-g.ensures, g)) h b.end-le

abbrev rows_of-2 : (c : goal.After-struct_known-2-1) → ℕ
rows_of-2 c =
    c.args.f.rows

rows-lt-2 : (c : goal.After-struct_known-2-1) → rows_of-2 c < 2 ^ 16
rows-lt-2 c =
    omega (arith, c.struct_known-2-1.given)

abbrev entry_of : (c : goal.After-struct_known-3-1) → Entry
entry_of c =
    c.transfer_entry-e.result

fits : (c : goal.After-struct_known-3-1) (l : ℕ) → l < 2 ^ 16
    → Room (entry_of c).row c.words_of-n.result c.word_states-g.result l (entry_of c).end
fits c l h =
    let f = c.args.f in
    let k = c.alignment_of.result in
    let b = subst (Within k) (sym c.transfer_entry-e.ensures) (entry-within (length_of c.words_of-n.result) k) in
    let g = word_states-le f.masked (processing_column f.pp) in
    room _ _ _ l _ b.row-le c.words_of-n.ensures.1 (omega (arith, c.word_states-g.ensures, g)) h b.end-le

abbrev rows_of : (c : goal.After-struct_known-3-1) → ℕ
rows_of c =
    c.args.f.rows

rows-lt : (c : goal.After-struct_known-3-1) → rows_of c < 2 ^ 16
rows-lt c =
    omega (arith, c.struct_known-2-1.given)

pub overflow_mul-result-2 : goal.overflow_mul-result-2
overflow_mul-result-2 c =
    record { fits = (fits-2 c _ (rows-lt-2 c)).rows }

pub overflow_add-result-2 : goal.overflow_add-result-2
overflow_add-result-2 c =
    record { fits = lt_trans (fits c _ (rows-lt c)).all (omega arith) }

pub returns : goal.returns
returns c = (
  rw (c.word_states-g.ensures, c.transfer_entry-e.ensures, c.alignment_of.ensures, c.words_of-n.ensures.0),
  (fits c _ (rows-lt c)).all,
)

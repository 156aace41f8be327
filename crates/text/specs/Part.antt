-- A part that is handed back of a lent text: its bytes, and where in the caller's text they stand
-- (the scope, "Plans and images"). Assumes nothing.
use Rattle.std.specs.Prelude.{◌≡◌, cond, List, ℕ, ◌+◌, ltb, length, drop}
use Rattle.std.specs.Borrow.{Bor}
use Rattle.text.specs.Text.{up_to}

-- where a part starts: past the text's end it is an empty one at the text's start
abbrev pub start_of : List ℕ → ℕ → ℕ
start_of text from = cond (ltb (length text) from) 0 from

-- the part from a place up to a mark: the same block of memory as the text, so far behind the
-- text's own start
pub record PartOf (text part : Bor (List ℕ)) (from mark : ℕ) : Type 0 where
  pub bytes : part.now ≡ up_to mark (drop from text.now)
  pub block : part.ref_ptr.0 ≡ text.ref_ptr.0
  pub starts : part.ref_ptr.1 ≡ text.ref_ptr.1 + start_of text.now from

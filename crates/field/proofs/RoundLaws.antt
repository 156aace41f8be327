-- Reads after writes, and writes after reads. No contract cites this file. Assumes nothing.
use mathlib.Core.Path.{◌≡◌, refl, ap, ◌∙◌}
use mathlib.Core.Bool.{Bool, true, false, cond}
use mathlib.Core.List.{List}
use mathlib.Core.Logic.{◌⊎◌, ⊎_elim}
use Prim.Native.Nat.{ℕ, ◌+◌, ◌-◌, ◌*◌, ◌%◌, ◌^◌, ◌<◌, ◌≤◌}
use native.Mathlib.Nat.{zero-add}
use native.Mathlib.Omega.{arith}
use borrow.Author.Tests.{ne_eqb, lt-ltb, le-leb, le-ltb}
use lib.Dec.{ltb}
use lib.ListN.{length}
use Rattle.std.specs.Prelude.{Result, Ok, Err, is_ok, IsOkAnd}
use Rattle.answers.specs.declared.Refused.{Refused}
use Rattle.answers.specs.declared.Refused.TheVariants.{End}
use Rattle.memory.specs.Bits.{Memory, bit_of, bit_at, with_field}
use Rattle.memory.proofs.NumberLaws.{bit-number}
use Rattle.memory.proofs.MemoryLaws.{bit_at_lt}
use Rattle.memory.proofs.FieldLaws.{length-with_field, bit_at-with_field, read-with_field, with_field-same, written_bit-below, written_bit-above}
use Rattle.field_refusal.specs.Size.{bad_size, meant}
use Rattle.field.specs.Field.{field_refusal, register_bit, register, field_read, field_written}
use Rattle.field_refusal.proofs.RefusalLaws.{accepted}
use Rattle.field.proofs.RegisterLaws.{register-zero}

-- a call that is refused changes nothing, and one that is not writes the field
pub written-refused : (m : List ℕ) (a n x : ℕ) → (field_refusal (length m) a n ≡ Ok tt → ⊥) → field_written m a n x ≡ m
unfolding field_written
written-refused m a n x h = go (field_refusal (length m) a n) refl
  where
    go : (r : Result Unit Refused) → field_refusal (length m) a n ≡ r → cond (is_ok r) (with_field m a (meant n) x) m ≡ m
    go (Ok t) e = absurd (h e)
    go (Err r) e = refl

field_read-accepted : (m : List ℕ) (a n : ℕ) → field_refusal (length m) a n ≡ Ok tt → (signed : Bool)
    → field_read m a n signed ≡ Ok (register m a (meant n) signed)
unfolding field_read
field_read-accepted m a n e signed = rw e

module _ (m : List ℕ) (a n x : ℕ) (e : field_refusal (length m) a n ≡ Ok tt) where
  written-field : field_written m a n x ≡ with_field m a (meant n) x
  unfolding field_written
  written-field = rw e

  pub read_back : field_read (field_written m a n x) a n false ≡ Ok (x % 2 ^ meant n)
  read_back =
      let w : List ℕ = with_field m a (meant n) x in
      let h = accepted (length m) a n e in
      let e' : field_refusal (length w) a n ≡ Ok tt =
      ap (λ (k : ℕ). field_refusal k a n) (length-with_field m a (meant n) x) ∙ e in
      rw (written-field, field_read-accepted w a n e' false)
      (ap Ok (register-zero w a (meant n) h.bits.some h.bits.most false refl ∙ read-with_field m a (meant n) x h.inside))

pub write-frame : (m : List ℕ) (a n x b : ℕ) → (b < a) ⊎ (a + meant n ≤ b) → bit_at (field_written m a n x) b ≡ bit_at m b
unfolding field_written
write-frame m a n x b h = go (field_refusal (length m) a n) refl
  where
    go : (r : Result Unit Refused) → field_refusal (length m) a n ≡ r
        → bit_at (cond (is_ok r) (with_field m a (meant n) x) m) b ≡ bit_at m b
    go (Ok t) e =
        bit_at-with_field m a (meant n) x (accepted (length m) a n e).inside b
        ∙ ⊎_elim (λ l. written_bit-below m a (meant n) x b l) (λ l. written_bit-above m a (meant n) x b l) h
    go (Err r) e = refl

-- the register's low n bits are the field's
register-bit : (m : List ℕ) (a n : ℕ) (signed : Bool) → n ≤ 32 → (j : ℕ) → j < n → bit_of (register m a n signed) j ≡ bit_at m (a + j)
unfolding register
register-bit m a n signed h j hj = bit-number (register_bit m a n signed) bits 0 32 j (omega arith) ∙ rw (zero-add j, lt-ltb j n hj)
  where
    pick : (s t : Bool) (k : ℕ) → cond s (bit_at m (a + k)) (cond t (bit_at m (a + n - 1)) 0) < 2
    pick true t k = bit_at_lt m (a + k)
    pick false true k = bit_at_lt m (a + n - 1)
    pick false false k = omega arith

    bits : (k : ℕ) → register_bit m a n signed k < 2
    bits k = pick (ltb k n) signed k

pub write-back : (m : List ℕ) (a n : ℕ) (signed : Bool) → Memory (length m) m → field_refusal (length m) a n ≡ Ok tt
    → IsOkAnd (field_read m a n signed) (λ v. field_written m a n v ≡ m)
write-back m a n signed g e =
    let h = accepted (length m) a n e in
    let r = register m a (meant n) signed in
    rw (field_read-accepted m a n e signed)
    (written-field m a n r e ∙ with_field-same a (meant n) r g (register-bit m a (meant n) signed h.bits.most) h.inside)

pub past_end : (words a n : ℕ) → 0 < words → words ≤ 1048576 → bad_size n ≡ false → 16 * words < a + meant n
    → field_refusal words a n ≡ Err End
unfolding field_refusal
past_end words a n p q e h =
    rw (ne_eqb words 0 (omega arith), le-ltb 1048576 words q, e, le-leb (16 * words) (a + meant n - 1) (omega arith))

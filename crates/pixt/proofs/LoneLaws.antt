-- A lone pixel drawn from a register: where the call is not refused the pixel lies in one word, so that the register's bits, shifted to
-- the pixel's place, are found there again. No contract cites this file. Assumes nothing.
use mathlib.Core.Path.{◌≡◌, refl, sym, ap, subst, ◌∙◌}
use mathlib.Core.Bool.{Bool, true, false, ◌&&◌}
use Prim.Native.Nat.{ℕ, ◌+◌, ◌-◌, ◌*◌, ◌/◌, ◌%◌, ◌^◌, ◌≤◌}
use native.Mathlib.Omega.{arith}
use borrow.Author.Tests.{eqb-true, not-false}
use lib.Bits.{bit_and, and_mask}
use lib.Pow.{field, shl-shr, mod-mod-pow}
use Rattle.memory.proofs.Tests.{or-false-right}
use Rattle.pixel.specs.Pixel.{bad_pixel_size, top_of, pixel_of}
use Rattle.pixel.proofs.SizeLaws.{size-le, aligned-fits, top_of-ones}
use Rattle.pixel.proofs.PixelLaws.{pixel_of-mod}
use Rattle.address.specs.Coordinate.{x_of, y_of, outside_xy}
use Rattle.address.specs.Address.{misaligned}
use Rattle.settings.specs.declared.Settings.{Settings}
use Rattle.address.specs.Address.{bad_xy_pitch}
use Rattle.refusal.specs.Refusal.{bad_window_of}
use Rattle.std.specs.Prelude.{Option, Some, Result, Ok, Err, IfSome, ⊤}
use Rattle.std.specs.Option.{unwrap_or}
use Rattle.std.specs.Bool.{then_some}
use Rattle.std.specs.Result.{result_and, result_unwrap_or}
use Rattle.answers.specs.declared.Refused.{Refused}
use Rattle.answers.specs.Answer.{answer}
use Rattle.refusal.proofs.RefusalLaws as table
use Rattle.lone.specs.declared.Lone.{Lone}
use Rattle.lone.specs.Lone.{lone_tests, lone_refusal, linear_pixel, pixel_address, bad_lone_start, lone_clip, shown, xy_destination}
use Rattle.pixt.specs.Pixt.{low_bits}

-- ---- a register's bits at a place in a word
shifted_back : (i p k value : ℕ) → value * 2 ^ k % 2 ^ (i + p + k) / 2 ^ k % 2 ^ p ≡ value % 2 ^ p
shifted_back i p k value =
    ap (λ (x : ℕ). x % 2 ^ p) (field (value * 2 ^ k) (i + p) k ∙ ap (λ (x : ℕ). x % 2 ^ (i + p)) (shl-shr value k)) ∙ mod-mod-pow value i p

pixel_of-shifted : (p a value : ℕ) → a % 16 + p ≤ 16
    → pixel_of (2 ^ p - 1) (value * 2 ^ (a % 16) % 2 ^ 16) a ≡ bit_and (value % 2 ^ 16) (2 ^ p - 1)
pixel_of-shifted p a value h =
    let e : 16 - (a % 16 + p) + p + a % 16 ≡ 16 = omega arith in
    let f : 16 - p + p ≡ 16 = omega arith in
    pixel_of-mod p _ a
    ∙ subst (λ (n : ℕ). value * 2 ^ (a % 16) % 2 ^ n / 2 ^ (a % 16) % 2 ^ p ≡ value % 2 ^ p) e
    (shifted_back (16 - (a % 16 + p)) p (a % 16) value)
    ∙ sym (and_mask (value % 2 ^ 16) p ∙ subst (λ (n : ℕ). value % 2 ^ n % 2 ^ p ≡ value % 2 ^ p) f (mod-mod-pow value (16 - p) p))

-- ---- a pixel that is drawn has a size, and is aligned
abbrev pub Aligned : Settings → ℕ → Type 0
Aligned s a = (bad_pixel_size s.psize ≡ false) × (misaligned s.psize a ≡ false)

-- what is drawn from the shifted bits is what is drawn from the register
pub shifted-low_bits : (s : Settings) (value a : ℕ) → Aligned s a
    → pixel_of (top_of s.psize) (value * 2 ^ (a % 16) % 2 ^ 16) a ≡ low_bits s value
shifted-low_bits s value a (size, even) =
    let fit = aligned-fits s.psize size a (eqb-true _ 0 (not-false _ even)) in
    rw (top_of-ones s.psize (size-le s.psize size)) (pixel_of-shifted s.psize a value fit)

-- a pixel whose call is not refused
accepted : (r : Result ⊤ Refused) (l l' : Lone) → result_and r (Ok l) ≡ Ok l' → (answer r ≡ 0) × (l ≡ l')
accepted (Ok u) l l' e = (refl, ap (λ (r : Result Lone Refused). result_unwrap_or r l) e)
accepted (Err r) l l' e = absurd cc

module _ (words : ℕ) (s : Settings) where
  passes : (pitch window some start : Bool) (a : ℕ) → answer (lone_refusal words s pitch window some start a) ≡ 0 → some ≡ true
      → (bad_pixel_size s.psize ≡ false) × (start ≡ false)
  passes pitch window some start a e h =
      let p = table.passes words s (lone_tests words pitch window some start a) e in
      (p.size, sym (ap (λ (b : Bool). b && start) h) ∙ p.start)

  pub linear_pixel-aligned : (a : ℕ) (v : Bool) (l : Lone) → linear_pixel words s a v ≡ Ok l → IfSome l.pixel (Aligned s)
  unfolding linear_pixel
  linear_pixel-aligned a v l e =
      let p = accepted (lone_refusal words s false false true (misaligned s.psize a) a) _ l e in
      subst (λ (l : Lone). IfSome l.pixel (Aligned s)) p.1 (passes _ _ true _ a p.0 refl)

  pub xy_destination-aligned : (xy : ℕ) (v : Bool) (l : Lone) → xy_destination words s xy v ≡ Ok l → IfSome l.pixel (Aligned s)
  unfolding xy_destination
  xy_destination-aligned xy v l e =
      let p = accepted (lone_refusal words s (bad_xy_pitch s.dptch) (bad_window_of true s) seen (bad_lone_start s xy) at) _ l e in
      subst (λ (l : Lone). IfSome l.pixel (Aligned s)) p.1 (go seen p.0)
    where
      seen : Bool
      seen = shown (lone_clip s xy)

      at : ℕ
      at = pixel_address s xy

      go : (b : Bool) → answer (lone_refusal words s (bad_xy_pitch s.dptch) (bad_window_of true s) b (bad_lone_start s xy) at) ≡ 0
          → IfSome (then_some b at) (Aligned s)
      go false h = tt
      go true h =
          let q = passes _ _ true (bad_lone_start s xy) at h refl in
          (q.0, or-false-right (outside_xy (x_of xy) (y_of xy)) _ q.1)

  -- the pixel that an XY destination has lies at its address
  pub xy_destination-at : (xy : ℕ) (v : Bool) (l : Lone) (a : ℕ) → xy_destination words s xy v ≡ Ok l → l.pixel ≡ Some a
      → a ≡ pixel_address s xy
  unfolding xy_destination
  xy_destination-at xy v l a e h =
      let p = accepted (lone_refusal words s (bad_xy_pitch s.dptch) (bad_window_of true s) _ (bad_lone_start s xy) _) _ l e in
      go (shown (lone_clip s xy)) (ap (λ (l : Lone). l.pixel) p.1 ∙ h)
    where
      go : (b : Bool) → then_some b (pixel_address s xy) ≡ Some a → a ≡ pixel_address s xy
      go true k = sym (ap (λ (o : Option ℕ). unwrap_or o a) k)
      go false k = absurd cc

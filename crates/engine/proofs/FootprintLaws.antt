-- The footprint of a drawing's pixel: which bits of the memory its visit changes, and on which bits the change depends.
-- No contract cites this file. Assumes nothing.
use Rattle.std.proofs.Common.{◌≡◌, ℕ, ◌+◌, ◌-◌, ◌*◌, ◌/◌, ◌%◌, ◌^◌, ◌<◌, ◌≤◌, cond, eqb, ◌⊎◌, List, get_or, sym, refl, ap, ◌∙◌, subst, inl, inr, arith}
use Rattle.memory.specs.Bits.{Memory, bit_of, bit_at}
use Rattle.pixel.specs.Pixel.{top_of, pixel_of, plotted}
use Rattle.pixel.proofs.SizeLaws.{top_of-ones}
use Rattle.pixel.proofs.PixelLaws.{bit-pixel_of-bit_at}
use Rattle.pixel.proofs.Footprint.{plotted-frame, plotted-depend}
use Rattle.plot.specs.declared.Source.{Source}
use Rattle.plot.specs.declared.Source.TheVariants.{Color, Pixels, Bits}
use Rattle.plot.specs.declared.Drawing.{Drawing}
use Rattle.engine.specs.Engine.{dest_of, src_of, visit}
use Rattle.row.specs.Row.{color_at, source_at, drawn_at}
use Rattle.engine.specs.Footprint.{PixelWrites, PixelReads, pixel-bit, source-bit}
use Rattle.row.proofs.SourceLaws.{source-color, source-pixels, source-bits}
use Rattle.row.proofs.DrawnLaws.{memory-drawn_at}

module _ (n : ℕ) (d : Drawing) (i : ℕ) where
  pub memory-visit : {m : List ℕ} → Memory n m → Memory n (visit d i m)
  memory-visit g = memory-drawn_at d (src_of d i) (dest_of d i) g

  -- pixel i lies in the memory and within one word
  module _ (inside : dest_of d i < 16 * n) (fit : dest_of d i % 16 + d.psize ≤ 16) where
    ones : top_of d.psize ≡ 2 ^ d.psize - 1
    ones = top_of-ones d.psize (omega arith)

    S : List ℕ → ℕ
    S m = source_at d (src_of d i) (dest_of d i) m

    visit-plotted : (m : List ℕ) → visit d i m ≡ plotted d.pp d.t (2 ^ d.psize - 1) d.pmask (dest_of d i) (S m) m
    unfolding drawn_at S
    visit-plotted m = ap (λ (top : ℕ). plotted d.pp d.t top d.pmask (dest_of d i) (source_at d (src_of d i) (dest_of d i) m) m) ones

    -- every bit but those that it may write stays
    pub visit-frame : {m : List ℕ} → Memory n m → (b : ℕ) → (bit_at (visit d i m) b ≡ bit_at m b) ⊎ PixelWrites d i b
    visit-frame {m} g b =
        subst (λ (x : List ℕ). (bit_at x b ≡ bit_at m b) ⊎ PixelWrites d i b) (sym (visit-plotted m))
        (plotted-frame d.pp d.t d.psize d.pmask (dest_of d i) fit g inside (S m) b)

    -- so does its source pixel lie within one word
    module _ (whole : d.source ≡ Pixels → src_of d i % 16 + d.psize ≤ 16) where
      -- a bit of the source pixel
      bit-source : d.source ≡ Pixels → (m : List ℕ) (j : ℕ) → j < d.psize → bit_of (S m) j ≡ bit_at m (src_of d i + j)
      unfolding S
      bit-source e m j hj =
          ap (λ (v : ℕ). bit_of v j)
          (source-pixels d (src_of d i) (dest_of d i) m e ∙ ap (λ (top : ℕ). pixel_of top (get_or m (src_of d i / 16) 0) (src_of d i)) ones)
          ∙ bit-pixel_of-bit_at d.psize (src_of d i) (whole e) j hj m

      module _ (m m' : List ℕ) (agree : (b : ℕ) → PixelReads d i b ⊎ PixelWrites d i b → bit_at m b ≡ bit_at m' b) where
        -- memories that agree on what is read have sources that agree where the destination's mask lets them through
        sources : (k : Source) → d.source ≡ k → (j : ℕ) → j < d.psize → bit_of d.pmask ((dest_of d i + j) % 16) ≡ 0
            → bit_of (S m) j ≡ bit_of (S m') j
        unfolding S
        sources Color e j hj z =
            ap (λ (v : ℕ). bit_of v j)
            (source-color d (src_of d i) (dest_of d i) m e ∙ sym (source-color d (src_of d i) (dest_of d i) m' e))
        sources Pixels e j hj z =
            let o : j ≡ (src_of d i + j) - src_of d i = omega arith in
            bit-source e m j hj
            ∙ agree (src_of d i + j)
            (inl (pixel-bit (record {
              pixel = e;
              from = omega arith;
              to = omega arith;
              unmasked = subst (λ (x : ℕ). bit_of d.pmask ((dest_of d i + x) % 16) ≡ 0) o z;
            })))
            ∙ sym (bit-source e m' j hj)
        sources Bits e j hj z =
            ap (λ (v : ℕ). bit_of v j)
            (source-bits d (src_of d i) (dest_of d i) m e
            ∙ ap (λ (v : ℕ). cond (eqb v 1) (color_at d d.color1 (dest_of d i)) (color_at d d.color0 (dest_of d i)))
            (agree (src_of d i) (inl (source-bit (record { bits = e; is = refl }))))
            ∙ sym (source-bits d (src_of d i) (dest_of d i) m' e))

      -- what the bits that it may write become depends on them and on what it reads, and on nothing else
      pub visit-depend : {m m' : List ℕ} → Memory n m → Memory n m'
          → ((b : ℕ) → PixelReads d i b ⊎ PixelWrites d i b → bit_at m b ≡ bit_at m' b)
          → (b : ℕ) → PixelWrites d i b → bit_at (visit d i m) b ≡ bit_at (visit d i m') b
      visit-depend {m} {m'} g g' agree b w =
          ap (λ (x : List ℕ). bit_at x b) (visit-plotted m)
          ∙ plotted-depend d.pp d.t d.psize d.pmask (dest_of d i) fit g g' inside (S m) (S m')
          (sources m m' agree d.source refl) (λ b' u. agree b' (inr u)) b w
          ∙ sym (ap (λ (x : List ℕ). bit_at x b) (visit-plotted m'))

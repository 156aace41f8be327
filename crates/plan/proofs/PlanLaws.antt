-- What `read` hands back: a refused plan, or an accepted one with its table. No contract cites this file. Assumes nothing.
use mathlib.Core.Path.{◌≡◌, refl, sym, ap, ◌∙◌}
use mathlib.Core.Bool.{true≢false, cond}
use mathlib.Core.List.{List}
use Prim.Native.Nat.{ℕ, ◌<◌, ◌≤◌}
use borrow.Author.Tests.{lt-ltb, le-ltb}
use lib.ListN.{length}
use Rattle.std.specs.Prelude.{Result, Ok, Err, is_ok, IsOk, IsErr}
use Rattle.answers.specs.declared.Refused.TheVariants.{Arguments, Form}
use Rattle.plan.specs.declared.Plan.{Plan}
use Rattle.plan.specs.declared.BadPlan.{BadPlan}
use Rattle.plan.specs.Reading.{Reading, refused_at, or_nothing, text_limit, reading, plan_in}
use Rattle.plan.specs.Table.{room, summary, plan_of, stored_axes, table_after}
use Rattle.plan.specs.Cursor.{reading_of, axes_read}

-- the table, which a refused call leaves as it was

stays : (p : Result Plan BadPlan) (stored t : List ℕ) → IsErr p → cond (is_ok p) stored t ≡ t
stays (Ok p) stored t e = absurd (true≢false (sym e))
stays (Err bad) stored t e = refl

summary-ok : (r : Result Reading BadPlan) → IsOk r → IsOk (summary r)
summary-ok (Ok r) e = refl
summary-ok (Err bad) e = e

module _ (text t : List ℕ) where
  pub table_after-accepted : IsOk (plan_of text (length t)) → table_after text t ≡ stored_axes (plan_in text).axes t
  unfolding table_after
  table_after-accepted e = rw e

  pub table_after-refused : IsErr (plan_of text (length t)) → table_after text t ≡ t
  unfolding table_after
  table_after-refused e = stays (plan_of text (length t)) _ t e

  -- the plan, where the table has room
  plan_of-room : room ≤ length t → plan_of text (length t) ≡ summary (reading text)
  unfolding plan_of
  plan_of-room h = rw (le-ltb _ _ h)

  -- and is accepted where its text is
  pub plan_of-accepted : room ≤ length t → IsOk (reading text) → IsOk (plan_of text (length t))
  plan_of-accepted h e = ap is_ok (plan_of-room h) ∙ summary-ok (reading text) e

-- what `read` hands back

abbrev pub Answered : List ℕ → List ℕ → Result Plan BadPlan → List ℕ → Type 0
Answered text t plan table = (plan ≡ plan_of text (length t)) × (table ≡ table_after text t)

module _ (text t : List ℕ) where
  answered-refused : {bad : BadPlan} → Err bad ≡ plan_of text (length t) → Answered text t (Err bad) t
  answered-refused p = (p, sym (table_after-refused text t (rw (← p) refl)))

  pub answered-short : length t < room → Answered text t (refused_at Arguments 0) t
  unfolding plan_of
  answered-short h = answered-refused (rw (lt-ltb _ _ h))

  module _ (h : room ≤ length t) where
    pub answered-long : text_limit < length text → Answered text t (refused_at Form 1) t
    unfolding reading
    answered-long l = answered-refused (sym (plan_of-room text t h ∙ rw (lt-ltb _ _ l)))

    module _ (l : length text ≤ text_limit) where
      reading-is : reading text ≡ reading_of text
      unfolding reading
      reading-is = rw (le-ltb _ _ l)

      is : plan_of text (length t) ≡ summary (reading_of text)
      is = plan_of-room text t h ∙ ap summary reading-is

      pub answered-bad : {bad : BadPlan} → reading_of text ≡ Err bad → Answered text t (Err bad) t
      answered-bad e = answered-refused (sym (is ∙ ap summary e))

      pub answered-good : {plan : Plan} {table : List ℕ} → Ok plan ≡ summary (reading_of text) → table ≡ stored_axes (axes_read text) t
          → Answered text t (Ok plan) table
      answered-good p s =
          let whole = p ∙ sym is in (
            whole,
            s ∙ ap (λ (r : Result Reading BadPlan). stored_axes (or_nothing r).axes t) (sym reading-is)
                ∙ sym (table_after-accepted text t (rw (← whole) refl)),
          )

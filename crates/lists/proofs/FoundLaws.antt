-- What `any` and `position` of an iterator answer, in the words of `specs/Search.antt`. No contract cites this file. Assumes nothing.
use mathlib.Core.Path.{◌≡◌, refl, sym, ap, ◌∙◌}
use mathlib.Core.Bool.{Bool, true, false, cond, ◌||◌}
use mathlib.Core.List.{List, [], ◌∷◌}
use denote.Param.Members.{Mut}
use denote.Ref.{Bor}
use lib.ListN.{length}
use Prim.Native.Nat.{ℕ, suc, ◌+◌}
use native.Mathlib.Omega.{arith}
use Rattle.std.specs.Prelude.{Option, Some, None}
use Rattle.std.specs.List.{list_any, position_or_len}
use Rattle.std.specs.Fn.{Called}
use Rattle.std.specs.Iterator.{ChecksAny, FindsPosition}
use Rattle.std.specs.Slice.Iter.{iter_rest}
use Rattle.std.specs.declared.slice.Iter.{Iter}
use Rattle.std.proofs.iter.Yields.{fronts}
use Rattle.std.proofs.lemmas.Iterator.{YieldsList-from_slice}
use Rattle.std.proofs.lemmas.Iterator.Search.{any_from_yields_List, position_from_yields_List}
use Rattle.std.proofs.lemmas.List.Recursion.{is_position_or_len}
use Rattle.lists.specs.Search.{any, first, any_pair}
use Rattle.lists.proofs.SearchLaws.{any-first}

any-list_any : {A : Type 0} (p : A → Bool) (l : List A) → list_any p l ≡ any p l
unfolding any
any-list_any p [] = refl
any-list_any p (x ∷ l) = ap (λ (b : Bool). p x || b) (any-list_any p l)

-- where each call of the closure gives the test of its item
pub is_any : {A F : Type 0} (p : A → Bool) (l : List A) {g : Mut F (Bor A × Unit {0}) Bool} (s u : Iter A) (f : F) (b : Bool)
    → ChecksAny fronts g s f b u → iter_rest s ≡ l
    → ((x : Bor A) (t : Bool) (f' : F) → Called g f (x, tt) t f' → (f' ≡ f) × (t ≡ p x.now)) → b ≡ any p l
is_any p l s u f b ran e h = any_from_yields_List p u f b ran (YieldsList-from_slice l e) h ∙ any-list_any p l

first-position : {A : Type 0} (p : A → Bool) (l : List A) → first p l ≡ position_or_len p l
unfolding first
first-position p l =
    is_position_or_len (first p) p refl
    (λ x xs. let e : suc (first p xs) ≡ 1 + first p xs = omega arith in ap (λ (n : ℕ). cond (p x) 0 n) e) l

pub is_first : {A F : Type 0} (p : A → Bool) (l : List A) {g : Mut F (Bor A × Unit {0}) Bool} (s u : Iter A) (f : F) (b : Option ℕ)
    → FindsPosition fronts g s f b u → iter_rest s ≡ l
    → ((x : Bor A) (t : Bool) (f' : F) → Called g f (x, tt) t f' → (f' ≡ f) × (t ≡ p x.now))
    → b ≡ cond (any p l) (Some (first p l)) None
is_first p l s u f b ran e h =
    position_from_yields_List p u f b ran (YieldsList-from_slice l e) h ∙ rw (any-first p l, first-position p l)

-- The pairs of a list, by its first element

any_pair-none : {A : Type 0} (r : A → A → Bool) (l : List A) → length l ≡ 0 → any_pair r l ≡ false
unfolding any_pair
any_pair-none r [] e = refl
any_pair-none r (x ∷ l) e = absurd (omega arith)

any_pair-cons : {A : Type 0} (r : A → A → Bool) (l : List A) (x : A) (m : List A) → l ≡ x ∷ m → (b : Bool) → b ≡ any (r x) m
    → any_pair r l ≡ (b || any_pair r m)
unfolding any_pair
any_pair-cons r l x m e b f = rw (e, f)

pub no_pair : {A : Type 0} (r : A → A → Bool) (all l : List A) → any_pair r all ≡ any_pair r l → length l ≡ 0 → false ≡ any_pair r all
no_pair r all l e h = sym (e ∙ any_pair-none r l h)

pub pair_found : {A : Type 0} (r : A → A → Bool) (all l : List A) → any_pair r all ≡ any_pair r l
    → (x : A) (m : List A) → l ≡ x ∷ m → (b : Bool) → b ≡ any (r x) m → b ≡ true → true ≡ any_pair r all
pair_found r all l e x m f b g t = sym (e ∙ any_pair-cons r l x m f b g ∙ ap (λ (v : Bool). v || any_pair r m) t)

pub pair_later : {A : Type 0} (r : A → A → Bool) (all l : List A) → any_pair r all ≡ any_pair r l
    → (x : A) (m : List A) → l ≡ x ∷ m → (b : Bool) → b ≡ any (r x) m → b ≡ false → any_pair r all ≡ any_pair r m
pair_later r all l e x m f b g t = e ∙ any_pair-cons r l x m f b g ∙ ap (λ (v : Bool). v || any_pair r m) t

-- The names of settings and of drawings (demand 2), against the words of the scope. The proofs are
-- in proofs/Names.antt. Assumes nothing.
use Rattle.std.specs.Prelude.{◌≡◌, List, [], map, ℕ, ◌<◌, get_or}
use Rattle.ascii.specs.Ascii.{ascii}
use Rattle.names.specs.Names.{names, name_count, setting_count, seed_at}
use Rattle.names.specs.Drawings.{drawing_names}
use Rattle.settings.specs.Settings.{in_order}
use Rattle.operation.specs.declared.Operation.{Operation}
use Rattle.operation.specs.declared.Operation.TheVariants.{FillL, FillXY, PixbltLL, PixbltLXY}
use Rattle.operation.specs.declared.Operation.TheVariants.{PixbltXYL, PixbltXYXY}
use Rattle.operation.specs.declared.Operation.TheVariants.{PixbltBL, PixbltBXY}
use Rattle.operation.specs.Operation.{operations}
use Rattle.line.specs.Line.{name_number}

-- A plan's name is read as its number in the table: no name stands there twice.
abbrev pub NamesNumbered : Type 0
NamesNumbered = (i : ℕ) → i < name_count → name_number (get_or names i []) ≡ i

-- The settings are the first thirteen names, each under its own; SEED is the last one.
pub record SettingsNamed : Type 0 where
  pub saddr : (f : ℕ → ℕ) → (in_order f).saddr ≡ f (name_number (ascii "SADDR"))
  pub sptch : (f : ℕ → ℕ) → (in_order f).sptch ≡ f (name_number (ascii "SPTCH"))
  pub daddr : (f : ℕ → ℕ) → (in_order f).daddr ≡ f (name_number (ascii "DADDR"))
  pub dptch : (f : ℕ → ℕ) → (in_order f).dptch ≡ f (name_number (ascii "DPTCH"))
  pub offset : (f : ℕ → ℕ) → (in_order f).offset ≡ f (name_number (ascii "OFFSET"))
  pub wstart : (f : ℕ → ℕ) → (in_order f).wstart ≡ f (name_number (ascii "WSTART"))
  pub wend : (f : ℕ → ℕ) → (in_order f).wend ≡ f (name_number (ascii "WEND"))
  pub dydx : (f : ℕ → ℕ) → (in_order f).dydx ≡ f (name_number (ascii "DYDX"))
  pub color0 : (f : ℕ → ℕ) → (in_order f).color0 ≡ f (name_number (ascii "COLOR0"))
  pub color1 : (f : ℕ → ℕ) → (in_order f).color1 ≡ f (name_number (ascii "COLOR1"))
  pub control : (f : ℕ → ℕ) → (in_order f).control ≡ f (name_number (ascii "CONTROL"))
  pub psize : (f : ℕ → ℕ) → (in_order f).psize ≡ f (name_number (ascii "PSIZE"))
  pub pmask : (f : ℕ → ℕ) → (in_order f).pmask ≡ f (name_number (ascii "PMASK"))
  pub seed : seed_at ≡ name_number (ascii "SEED")
  pub last : seed_at ≡ setting_count

-- A plan's drawing is the operation of that name.
abbrev pub word_of : Operation → List ℕ
word_of FillL = ascii "FILL L"
word_of FillXY = ascii "FILL XY"
word_of PixbltLL = ascii "PIXBLT L,L"
word_of PixbltLXY = ascii "PIXBLT L,XY"
word_of PixbltXYL = ascii "PIXBLT XY,L"
word_of PixbltXYXY = ascii "PIXBLT XY,XY"
word_of PixbltBL = ascii "PIXBLT B,L"
word_of PixbltBXY = ascii "PIXBLT B,XY"

abbrev pub DrawingsNamed : Type 0
DrawingsNamed = map word_of operations ≡ drawing_names

-- every statement of this file
pub record OfNames : Type 0 where
  pub names-numbered : NamesNumbered
  pub settings-named : SettingsNamed
  pub drawings-named : DrawingsNamed

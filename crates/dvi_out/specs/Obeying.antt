-- What the symbolic commands of a page do to a device that reads a DVI file: the same as the commands of the file, with
-- each movement told by its own width.
-- From: tex.web, sections 583 to 591.
use Rattle.std.specs.Prelude.{◌≡◌, ℕ, ◌-◌, ◌<◌, ◌≤◌, ◌^◌, ℤ, List, [], ◌∷◌, ◌++◌, length, Option, Some, option_and_then, All, ⊤}
use Rattle.std.specs.Int.{w32}
use Rattle.std.specs.Int.RustNames.{FitsSigned}
use Rattle.dvi_out.specs.declared.command.Command.{Command}
use Rattle.dvi_out.specs.declared.command.Command.TheVariants.{Push, Pop, Right, Down, Character, SetRule, PutRule, Special}
use Rattle.dvi_out.specs.declared.font.FontDef.{FontDef}
use Rattle.dvi_out.specs.Places.{Text}
use Rattle.dvi_out.specs.DviReading.{Reader, ReadPage, read_from, push, pop_to, go_right, go_down, choose, set_char, put_rule, with_item}
use Rattle.dvi_out.specs.SpellingPage.{spell_all}

-- what a command does, where the widths of characters are given; nothing where a pop has no push
abbrev pub obeyed : (ℕ → ℕ → ℤ) → Command → Reader → Option Reader
obeyed widths Push r = Some (push r)
obeyed widths Pop r = pop_to r.stack r
obeyed widths (Right width) r = Some (go_right width r)
obeyed widths (Down height) r = Some (go_down height r)
obeyed widths (Character font byte) r = Some (set_char widths byte (choose (font - 1) r))
obeyed widths (SetRule height width) r = Some (go_right width (put_rule height width r))
obeyed widths (PutRule height width) r = Some (put_rule height width r)
obeyed widths (Special bytes) r = Some (with_item (Text r.now.h r.now.v bytes) r)

-- commands, one after the other
unfoldable pub all_obeyed : (ℕ → ℕ → ℤ) → List Command → Reader → Option Reader
all_obeyed widths [] r = Some r
all_obeyed widths (command ∷ commands) r =
    option_and_then (λ next. all_obeyed widths commands next) (obeyed widths command r)

-- A command that can be told in bytes: movements and sizes are within four bytes with a sign, and the length of a special
-- is within four bytes.
abbrev pub CanBeSpelled : Command → Type 0
CanBeSpelled Push = ⊤
CanBeSpelled Pop = ⊤
CanBeSpelled (Right width) = FitsSigned w32 width
CanBeSpelled (Down height) = FitsSigned w32 height
CanBeSpelled (Character font byte) = ⊤
CanBeSpelled (SetRule height width) = FitsSigned w32 height × FitsSigned w32 width
CanBeSpelled (PutRule height width) = FitsSigned w32 height × FitsSigned w32 width
CanBeSpelled (Special bytes) = length bytes < 2 ^ 32

-- a font whose name has a length of one byte
abbrev pub HasShortName : FontDef → Type 0
HasShortName font = length font.name < 256

-- Some bytes take a device from one state to another: it reads them, and then whatever stands behind them as it reads
-- that from the other state.
abbrev pub Leads : (ℕ → ℕ → ℤ) → Reader → List ℕ → Reader → Type 0
Leads widths before bytes after =
    (rest : List ℕ) (pages : List ReadPage)
    → ((n : ℕ) → length rest ≤ n → read_from n widths after rest ≡ Some pages)
    → (n : ℕ) → length (bytes ++ rest) ≤ n → read_from n widths before (bytes ++ rest) ≡ Some pages

-- two devices that have set the same things, and stand at the same place
pub record SetTheSame (r s : Reader) : Type 0 where
  pub h : r.now.h ≡ s.now.h
  pub v : r.now.v ≡ s.now.v
  pub counts : r.counts ≡ s.counts
  pub items : r.items ≡ s.items
  pub pages : r.pages ≡ s.pages

-- A device that reads the bytes of a page's commands sets what the commands say, where they say it.
abbrev pub CommandsAreReadBack : Type 0
CommandsAreReadBack =
    (widths : ℕ → ℕ → ℤ) (commands : List Command) (defined fonts : List FontDef) (r s : Reader)
    → All CanBeSpelled commands → All HasShortName fonts
    → r.stack ≡ []
    → all_obeyed widths commands r ≡ Some s
    → (t : Reader) × Leads widths r (spell_all commands defined fonts).bytes t × SetTheSame t s

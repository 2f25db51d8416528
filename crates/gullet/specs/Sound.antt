-- The condition of each call that works on expansion's state, which expansion keeps: each name, primitive and font that
-- stands there is a known one, each character has a category that a token can have, each number has a negative, and
-- arguments stand in the texts of macros alone (The TeXbook, chapters 7, 20 and 24).
use Rattle.std.specs.Prelude.{◌≡◌, ℕ, ℤ, pos, negsuc, ◌<◌, ◌≤◌, ◌||◌, Bool, true, List, length, Option, Some, None}
use Rattle.std.specs.List.{AllByRecursion}
use Rattle.std.proofs.Common.{zero, suc}
use Rattle.tokens.specs.Primitives.{all_count}
use Rattle.tokens.specs.declared.token.NameId.{NameId}
use Rattle.tokens.specs.declared.token.Token.{Token}
use Rattle.tokens.specs.declared.token.Token.TheVariants as token
use Rattle.tokens.specs.declared.meaning.Macro.{Macro}
use Rattle.tokens.specs.declared.meaning.Meaning.{Meaning}
use Rattle.tokens.specs.declared.meaning.Meaning.TheVariants as meaning
use Rattle.scan_nums.specs.Number.{IsAboveLowest, IsNegatableGlue}
use Rattle.scan_nums.specs.Starts.{is_from_to}
use Rattle.macro_args.specs.ParameterText.{parts_of}
use Rattle.pending.specs.Pending.{Item, Ready, From}
use Rattle.pending.specs.declared.pending.Event.{Event}
use Rattle.pending.specs.declared.pending.Event.TheVariants as event
use Rattle.save_groups.specs.declared.key.Key.{Key}
use Rattle.save_groups.specs.declared.key.Key.TheVariants as key
use Rattle.save_groups.specs.declared.value.Value.{Value}
use Rattle.save_groups.specs.declared.value.Value.TheVariants as value
use Rattle.save_groups.specs.declared.entry.Entry.{Entry}
use Rattle.save_groups.specs.declared.save.Save.{Save}
use Rattle.save_groups.specs.Environments.{Environment, OpenGroup, Copies}
use Rattle.save_groups.specs.Values.{is_category}
use Rattle.gullet.specs.declared.facts.Facts.{Facts}
use Rattle.gullet.specs.declared.facts.FontFacts.{FontFacts}
use Rattle.gullet.specs.Parameters.{number_of}
use Rattle.gullet.specs.State.{State}

-- ---- tokens

-- how many names and fonts are known
pub record Known : Type 0 where
  pub names : ℕ
  pub fonts : ℕ

-- the categories that the character of a token can have: 1 to 4, 6 to 8 and 10 to 12
abbrev pub is_character_category : ℕ → Bool
is_character_category cat = is_from_to 1 4 cat || (is_from_to 6 8 cat || is_from_to 10 12 cat)

-- a token where arguments may stand that have some numbers
abbrev pub IsSoundBeside : (ℕ → Type 0) → Known → Token → Type 0
IsSoundBeside arguments k (token.Char cat byte) = is_character_category cat ≡ true
IsSoundBeside arguments k (token.Active byte) = Unit {0}
IsSoundBeside arguments k (token.Name id) = id.0 < k.names
IsSoundBeside arguments k (token.Arg number) = arguments number
IsSoundBeside arguments k (token.Frozen number) = Unit {0}

-- a token anywhere but in a macro's texts: there is no argument
abbrev pub IsSoundToken : Known → Token → Type 0
IsSoundToken k t = IsSoundBeside (λ number. ⊥) k t

abbrev pub AreSoundTokens : Known → List Token → Type 0
AreSoundTokens k tokens = AllByRecursion (IsSoundToken k) tokens

-- no token, or a sound one
abbrev pub IsSoundSome : Known → Option Token → Type 0
IsSoundSome k None = Unit {0}
IsSoundSome k (Some t) = IsSoundToken k t

-- ---- meanings

-- a number of one of a macro's parameters
abbrev pub IsParameter : Macro → ℕ → Type 0
IsParameter m number = (1 ≤ number) × (number ≤ length (parts_of m.params).delimiters)

-- a macro: in its parameter text each argument stands for a parameter, and in its body are arguments of these alone
pub record IsSoundMacro (k : Known) (m : Macro) : Type 0 where
  pub params : AllByRecursion (IsSoundBeside (λ number. Unit {0}) k) m.params
  pub body : AllByRecursion (IsSoundBeside (IsParameter m) k) m.body

abbrev pub IsSoundMeaning : Known → Meaning → Type 0
IsSoundMeaning k meaning.Undefined = Unit {0}
IsSoundMeaning k (meaning.Primitive code) = code < all_count
IsSoundMeaning k (meaning.Macro m) = IsSoundMacro k m
IsSoundMeaning k (meaning.Char cat byte) = is_character_category cat ≡ true
IsSoundMeaning k (meaning.CharDef byte) = Unit {0}
IsSoundMeaning k (meaning.MathCharDef number) = Unit {0}
IsSoundMeaning k (meaning.Register kind number) = Unit {0}
IsSoundMeaning k (meaning.Font font) = font < k.fonts

-- ---- environments

-- a value in any entry
abbrev pub IsSoundValue : Known → Value → Type 0
IsSoundValue k (value.Number n) = IsAboveLowest n
IsSoundValue k (value.Glue g) = IsNegatableGlue g
IsSoundValue k (value.Tokens list) = AreSoundTokens k list
IsSoundValue k (value.Meaning m) = IsSoundMeaning k m
IsSoundValue k (value.Boxed b) = Unit {0}
IsSoundValue k (value.Table ns) = Unit {0}

-- the number of a font that is there
abbrev pub IsFont : Known → ℤ → Type 0
IsFont k (pos n) = n < k.fonts
IsFont k (negsuc n) = ⊥

-- the font in use and those of families are there, and the categories of bytes are 0 to 15
abbrev pub IsInRange : Known → Key → Value → Type 0
IsInRange k (key.Register kind number) v = Unit {0}
IsInRange k (key.Parameter place) v = Unit {0}
IsInRange k (key.Code zero byte) v = is_category (number_of v) ≡ true
IsInRange k (key.Code (suc table) byte) v = Unit {0}
IsInRange k (key.Name id) v = Unit {0}
IsInRange k (key.Active byte) v = Unit {0}
IsInRange k key.CurrentFont v = IsFont k (number_of v)
IsInRange k (key.Family size number) v = IsFont k (number_of v)
IsInRange k key.Shape v = Unit {0}
IsInRange k (key.Penalties array) v = Unit {0}

-- a value in its entry
pub record IsSoundAt (k : Known) (e : Key) (v : Value) : Type 0 where
  pub held : IsSoundValue k v
  pub in_range : IsInRange k e v

-- the entry of a name that is known
abbrev pub IsKnownKey : Known → Key → Type 0
IsKnownKey k (key.Register kind number) = Unit {0}
IsKnownKey k (key.Parameter place) = Unit {0}
IsKnownKey k (key.Code table byte) = Unit {0}
IsKnownKey k (key.Name id) = id.0 < k.names
IsKnownKey k (key.Active byte) = Unit {0}
IsKnownKey k key.CurrentFont = Unit {0}
IsKnownKey k (key.Family size number) = Unit {0}
IsKnownKey k key.Shape = Unit {0}
IsKnownKey k (key.Penalties array) = Unit {0}

-- nothing was ever assigned
abbrev pub untouched : Entry Value
untouched = record { value = value.Meaning meaning.Undefined; level = 1 }

-- each entry is sound, and nothing was assigned to a name that isn't known
pub record IsSoundEnvironment (k : Known) (env : Environment) : Type 0 where
  pub entries : (e : Key) → IsSoundAt k e (env e).value
  pub others : (id : NameId) → k.names ≤ id.0 → env (key.Name id) ≡ untouched

-- a group that is open: the environment outside it, and the tokens that wait for its end
pub record IsSoundGroup (k : Known) (group : OpenGroup) : Type 0 where
  pub outside : IsSoundEnvironment k group.outside
  pub after : AreSoundTokens k group.after

pub record IsSoundSave (k : Known) (save : Save) : Type 0 where
  pub known : IsKnownKey k save.key
  pub saved : IsSoundAt k save.key save.value

pub record AreSoundCopies (k : Known) (c : Copies) : Type 0 where
  pub last : IsSoundEnvironment k c.last
  pub groups : AllByRecursion (IsSoundGroup k) c.groups
  pub saves : AllByRecursion (IsSoundSave k) c.saves

-- ---- what is still to be read

-- a source holds bytes alone
abbrev pub IsSoundItem : Known → Item → Type 0
IsSoundItem k (Ready waiting) = IsSoundToken k waiting.token
IsSoundItem k (From source) = Unit {0}

abbrev pub IsSoundEvent : Known → Event → Type 0
IsSoundEvent k (event.Token t noexpand) = IsSoundToken k t
IsSoundEvent k event.Eof = Unit {0}
IsSoundEvent k (event.SourceEnd printed) = Unit {0}
IsSoundEvent k event.Empty = Unit {0}

-- ---- the rest of the run

pub record IsSoundFont (font : FontFacts) : Type 0 where
  pub dimens : AllByRecursion IsAboveLowest font.dimens
  pub hyphen : IsAboveLowest font.hyphen
  pub skew : IsAboveLowest font.skew

-- each number that is told of the run has a negative, and the token of \afterassignment is sound
pub record AreSoundFacts (k : Known) (f : Facts) : Type 0 where
  pub last_type : IsAboveLowest f.last_type
  pub last_glue : IsNegatableGlue f.last_glue
  pub last_number : IsAboveLowest f.last_number
  pub page : AllByRecursion IsAboveLowest f.page
  pub dead_cycles : IsAboveLowest f.dead_cycles
  pub prev_depth : IsAboveLowest f.prev_depth
  pub space_factor : IsAboveLowest f.space_factor
  pub prev_graf : IsAboveLowest f.prev_graf
  pub badness : IsAboveLowest f.badness
  pub interaction : IsAboveLowest f.interaction
  pub used_mag : IsAboveLowest f.used_mag
  pub after : IsSoundSome k f.after
  pub fonts : AllByRecursion IsSoundFont f.fonts

-- ---- all of it

abbrev pub known_of : State → Known
known_of s = record { names = length s.names; fonts = length s.facts.fonts }

pub record IsSound (s : State) : Type 0 where
  pub pending : AllByRecursion (IsSoundItem (known_of s)) s.pending
  pub copies : AreSoundCopies (known_of s) s.copies
  pub facts : AreSoundFacts (known_of s) s.facts

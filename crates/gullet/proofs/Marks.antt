-- A token that isn't to be expanded leads to no phrase, and is no outer macro.
use Rattle.std.specs.Prelude.{ℕ, ◌≡◌, refl, Bool, true, false, is_some, if◌then◌else◌, Option, Some, None}
use Rattle.tokens.specs.Codes.{relax_code}
use Rattle.tokens.specs.declared.token.Token.{Token}
use Rattle.tokens.specs.declared.token.Token.TheVariants as token
use Rattle.tokens.specs.declared.meaning.Meaning.{Meaning}
use Rattle.tokens.specs.declared.meaning.Meaning.TheVariants as meaning
use Rattle.gullet.specs.declared.task.Task.{Task}
use Rattle.gullet.specs.Meanings.{expansion, marked, taken_as, is_outer}

is_none : (inner : Option Task) → is_some inner ≡ false → inner ≡ None
is_none None h = refl
is_none (Some inner) h = cc

pub marked_expansion : (t : Token) (m : Meaning) → expansion t (marked t m) ≡ None
marked_expansion t m = at (is_some (expansion t m)) refl
  where
    at : (b : Bool) → is_some (expansion t m) ≡ b → expansion t (if b then meaning.Primitive relax_code else m) ≡ None
    at true e = refl
    at false e = is_none (expansion t m) e

pub marked_some : (t : Token) (m : Meaning) → is_some (expansion t (marked t m)) ≡ false
marked_some t m = let none : expansion t (marked t m) ≡ None = marked_expansion t m in cc

unless_outer : (m : Meaning) (b : Bool) → is_outer m ≡ false → is_outer (if b then meaning.Primitive relax_code else m) ≡ false
unless_outer m true h = refl
unless_outer m false h = h

pub marked_outer : (t : Token) (m : Meaning) → is_outer (marked t m) ≡ false
marked_outer t meaning.Undefined = refl
marked_outer t (meaning.Primitive code) = unless_outer (meaning.Primitive code) (is_some (expansion t (meaning.Primitive code))) refl
marked_outer t (meaning.Macro m) = refl
marked_outer t (meaning.Char cat byte) = refl
marked_outer t (meaning.CharDef byte) = refl
marked_outer t (meaning.MathCharDef number) = refl
marked_outer t (meaning.Register kind number) = refl
marked_outer t (meaning.Font font) = refl

-- a character is never expanded, and neither is an inserted \relax
pub taken_character : (noexpand : Bool) (cat byte : ℕ) → taken_as noexpand (token.Char cat byte) (meaning.Char cat byte) ≡ meaning.Char cat byte
taken_character true cat byte = refl
taken_character false cat byte = refl

pub taken_frozen : (noexpand : Bool) (number : ℕ) → taken_as noexpand (token.Frozen number) (meaning.Primitive relax_code) ≡ meaning.Primitive relax_code
taken_frozen true number = refl
taken_frozen false number = refl

pub ruleset marks = (marked_expansion, marked_some, marked_outer, taken_character, taken_frozen)

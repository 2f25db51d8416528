-- The byte that a token names behind a grave accent (The TeXbook, page 44; tex.web 442).
use Rattle.std.specs.Prelude.{ℕ, Option, None, Some, List, [], ◌∷◌, Ok}
use Rattle.tokens.specs.declared.token.Token.{Token}
use Rattle.tokens.specs.declared.token.Token.TheVariants.{Char, Active, Name, Arg, Frozen}
use Rattle.tokens.specs.Names.{name_at}
use Rattle.asking.specs.Did.{Did, ◌>>=◌}
use Rattle.stomach.specs.declared.state.State.{State}
use Rattle.stomach.specs.Operand.{next_token, wrong_operand}

-- a name that is one byte long stands for it
abbrev pub only_byte : List ℕ → Option ℕ
only_byte [] = None
only_byte (byte ∷ []) = Some byte
only_byte (byte ∷ next ∷ rest) = None

-- any character, or a name of one byte
abbrev pub named_byte : List (List ℕ) → Token → Option ℕ
named_byte names (Char cat byte) = Some byte
named_byte names (Active byte) = Some byte
named_byte names (Name id) = only_byte (name_at names id.0)
named_byte names (Arg number) = None
named_byte names (Frozen number) = None

abbrev pub or_wrong : State → Option ℕ → Did State ℕ
or_wrong s None = wrong_operand s
or_wrong s (Some n) = Ok (n, s)

abbrev pub byte_of : Token × State → Did State ℕ
byte_of t = or_wrong t.1 (named_byte t.1.names t.0)

-- the next token is taken as it is, so that \input opens no file here
unfoldable pub named_character : State → Did State ℕ
named_character s = next_token s >>= byte_of

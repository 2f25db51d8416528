-- What a token is where a number may begin (The TeXbook, chapter 24: number, unsigned number, internal
-- quantities; tex.web 413 and 440 to 444). Characters with a part in a number count by the token itself, all
-- else by its meaning.
use Rattle.std.specs.Prelude.{◌≡◌, ℕ, ◌-◌, Bool, false, ◌==◌, ◌&&◌, ◌||◌, nat_le, Option, Some, None, [], ◌∷◌, map, codes, if◌then◌else◌}
use Rattle.tokens.specs.Names.{name_at}
use Rattle.tokens.specs.Codes.{pretolerance_code, thickmuskip_code, count_code, dimen_code, skip_code, muskip_code, wd_code, skewchar_code, parshape_code, badness_code, gluestretch_code, savinghyphcodes_code, numexpr_code, muexpr_code}
use Rattle.tokens.specs.Primitives.{primitive_names}
use Rattle.tokens.specs.declared.token.Token.{Token}
use Rattle.tokens.specs.declared.token.Token.TheVariants as token
use Rattle.tokens.specs.declared.meaning.Meaning.{Meaning}
use Rattle.tokens.specs.declared.meaning.Meaning.TheVariants as meaning
use Rattle.tokens.specs.declared.meaning.RegKind.{RegKind}
use Rattle.tokens.specs.declared.meaning.RegKind.TheVariants as kind
use Rattle.scan_nums.specs.declared.number.Quantity.{Quantity}
use Rattle.scan_nums.specs.declared.start.Start.{Start}
use Rattle.scan_nums.specs.declared.start.Start.TheVariants.{Space, Plus, Minus, Accent, Octal, Hexadecimal, Given, Wanted, Expression, Other}

-- the byte of a character of category 12
abbrev pub other_byte : Token → Option ℕ
other_byte (token.Char cat byte) = if cat == 12 then Some byte else None
other_byte (token.Active byte) = None
other_byte (token.Name id) = None
other_byte (token.Arg number) = None
other_byte (token.Frozen number) = None

-- the byte that a character constant gives: that of a character or of an active character
unfoldable pub byte_of : Token → Option ℕ
byte_of (token.Char cat byte) = Some byte
byte_of (token.Active byte) = Some byte
byte_of (token.Name id) = None
byte_of (token.Arg number) = None
byte_of (token.Frozen number) = None

-- whether it is a space, also one that a name stands for
unfoldable pub is_space : Meaning → Bool
is_space meaning.Undefined = false
is_space (meaning.Primitive code) = false
is_space (meaning.Macro m) = false
is_space (meaning.Char cat byte) = cat == 10
is_space (meaning.CharDef byte) = false
is_space (meaning.MathCharDef number) = false
is_space (meaning.Register k number) = false
is_space (meaning.Font font) = false

-- ---- quantities

abbrev pub quantity : ℕ → Option ℕ → Quantity
quantity code index = record { code = code; index = index }

-- whether a code is one of those from the first to the last
abbrev pub is_from_to : ℕ → ℕ → ℕ → Bool
is_from_to first last code = nat_le first code && nat_le code last

-- whether a primitive has a number, a dimension or a glue as its value. By their places in the tables of
-- names: the parameters \pretolerance to \thickmuskip; \count to \muskip; \wd to \skewchar; \parshape to
-- \badness; \gluestretch to \savinghyphcodes. Token lists and fonts aren't among them
abbrev pub is_asked : ℕ → Bool
is_asked code =
    is_from_to pretolerance_code thickmuskip_code code || (is_from_to count_code muskip_code code
    || (is_from_to wd_code skewchar_code code || (is_from_to parshape_code badness_code code
    || is_from_to gluestretch_code savinghyphcodes_code code)))

-- \numexpr to \muexpr
abbrev pub is_expression : ℕ → Bool
is_expression code = is_from_to numexpr_code muexpr_code code

-- the names at the ends of these ranges
abbrev pub AskedByName : Type 0
AskedByName =
    map (name_at primitive_names)
    (pretolerance_code ∷ thickmuskip_code ∷ count_code ∷ muskip_code ∷ wd_code ∷ skewchar_code ∷ parshape_code
    ∷ badness_code ∷ gluestretch_code ∷ savinghyphcodes_code ∷ numexpr_code ∷ muexpr_code ∷ [])
    ≡ codes "pretolerance" ∷ codes "thickmuskip" ∷ codes "count" ∷ codes "muskip" ∷ codes "wd" ∷ codes "skewchar"
    ∷ codes "parshape" ∷ codes "badness" ∷ codes "gluestretch" ∷ codes "savinghyphcodes" ∷ codes "numexpr"
    ∷ codes "muexpr" ∷ []

abbrev pub start_of_primitive : ℕ → Start
start_of_primitive code =
    if is_expression code then Expression (code - numexpr_code)
    else if is_asked code then Wanted (quantity code None)
    else Other

-- a register that has a name of its own: it is asked for as \count, \dimen, \skip or \muskip of its number
abbrev pub start_of_register : RegKind → ℕ → Start
start_of_register kind.Count number = Wanted (quantity count_code (Some number))
start_of_register kind.Dimen number = Wanted (quantity dimen_code (Some number))
start_of_register kind.Skip number = Wanted (quantity skip_code (Some number))
start_of_register kind.Muskip number = Wanted (quantity muskip_code (Some number))
start_of_register kind.Box number = Other
start_of_register kind.Toks number = Other

-- ---- the start of a number

abbrev pub start_of_meaning : Meaning → Start
start_of_meaning meaning.Undefined = Other
start_of_meaning (meaning.Primitive code) = start_of_primitive code
start_of_meaning (meaning.Macro m) = Other
start_of_meaning (meaning.Char cat byte) = if cat == 10 then Space else Other
start_of_meaning (meaning.CharDef byte) = Given byte
start_of_meaning (meaning.MathCharDef number) = Given number
start_of_meaning (meaning.Register k number) = start_of_register k number
start_of_meaning (meaning.Font font) = Other

-- the signs + and -, and the marks ` and ' and " of a character constant, an octal and a hexadecimal one
abbrev pub start_at : Option ℕ → Meaning → Start
start_at None m = start_of_meaning m
start_at (Some byte) m =
    if byte == 43 then Plus
    else if byte == 45 then Minus
    else if byte == 96 then Accent
    else if byte == 39 then Octal
    else if byte == 34 then Hexadecimal
    else start_of_meaning m

unfoldable pub start_of : Token → Meaning → Start
start_of t m = start_at (other_byte t) m

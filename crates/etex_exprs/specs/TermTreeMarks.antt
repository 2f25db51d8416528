-- What the tokens of an expression are to it.
-- From: the e-TeX manual, section 3.5 (expressions); etex.ch, "Scan the next operator" and "Scan a factor":
-- spaces are passed, an operator or a parenthesis is that character of category 12 and nothing that was
-- made equal to it, and `\relax` goes by the meaning.
use Rattle.std.specs.Prelude.{◌≡◌, ℕ, Bool, true, false, ◌==◌, ◌&&◌, if◌then◌else◌}
use Rattle.tokens.specs.declared.token.Token.{Token}
use Rattle.tokens.specs.declared.token.Token.TheVariants as token
use Rattle.tokens.specs.declared.meaning.Meaning.{Meaning}
use Rattle.tokens.specs.declared.meaning.Meaning.TheVariants as meaning
use Rattle.tokens.specs.Codes.{relax_code}
use Rattle.etex_exprs.specs.declared.mark.Operator.TheVariants.{Plus, Minus, Times, Over}
use Rattle.etex_exprs.specs.declared.mark.Mark.{Mark}
use Rattle.etex_exprs.specs.declared.mark.Mark.TheVariants.{Blank, Open, Close, Operator, Relax, Other}

-- a character of category 10
abbrev pub is_blank : Meaning → Bool
is_blank (meaning.Char cat byte) = cat == 10
is_blank meaning.Undefined = false
is_blank (meaning.Primitive code) = false
is_blank (meaning.Macro m) = false
is_blank (meaning.CharDef byte) = false
is_blank (meaning.MathCharDef code) = false
is_blank (meaning.Register kind number) = false
is_blank (meaning.Font font) = false

-- `\relax`
abbrev pub is_relax : Meaning → Bool
is_relax (meaning.Primitive code) = code == relax_code
is_relax meaning.Undefined = false
is_relax (meaning.Macro m) = false
is_relax (meaning.Char cat byte) = false
is_relax (meaning.CharDef byte) = false
is_relax (meaning.MathCharDef code) = false
is_relax (meaning.Register kind number) = false
is_relax (meaning.Font font) = false

-- a character of category 12: `(` is 40, `)` 41, `*` 42, `+` 43, `-` 45, `/` 47
abbrev pub character_mark : ℕ → Mark
character_mark byte =
    if byte == 40 then Open
    else (if byte == 41 then Close
    else (if byte == 42 then Operator Times
    else (if byte == 43 then Operator Plus
    else (if byte == 45 then Operator Minus
    else (if byte == 47 then Operator Over else Other)))))

-- another token
abbrev pub command_mark : Meaning → Mark
command_mark m = if is_relax m then Relax else Other

abbrev pub token_mark : Token → Meaning → Mark
token_mark (token.Char cat byte) m = if cat == 12 then character_mark byte else command_mark m
token_mark (token.Active byte) m = command_mark m
token_mark (token.Name id) m = command_mark m
token_mark (token.Arg number) m = command_mark m
token_mark (token.Frozen number) m = command_mark m

-- what a token is, with the meaning that it has now
abbrev pub mark_of : Token → Meaning → Mark
mark_of t m = if is_blank m then Blank else token_mark t m

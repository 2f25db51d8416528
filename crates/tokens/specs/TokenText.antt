-- How tokens, lists and meanings are shown (tex.web part 18 on printing names, section 262 and after,
-- part 20 on showing token lists, section 289 and after, and section 298 on command codes; The TeXbook,
-- chapter 20, on `\string` and `\meaning`). An escape character is shown where it lies in 0 to 255.
use Rattle.std.specs.Prelude.{ℕ, ℤ, pos, negsuc, Bool, true, false, List, [], ◌∷◌, ◌++◌, ◌==◌, ◌||◌, nat_lt, codes, decimal, if◌then◌else◌}
use Rattle.std.specs.List.{flat_map}
use Rattle.std.specs.Fmt.{digits}
use Rattle.tokens.specs.declared.token.Token.{Token}
use Rattle.tokens.specs.declared.token.Token.TheVariants.{Char, Active, Name, Arg, Frozen}
use Rattle.tokens.specs.declared.meaning.RegKind.{RegKind}
use Rattle.tokens.specs.declared.meaning.RegKind.TheVariants.{Count, Dimen, Skip, Muskip, Box, Toks}
use Rattle.tokens.specs.declared.meaning.Macro.{Macro}
use Rattle.tokens.specs.declared.meaning.Meaning.{Meaning}
use Rattle.tokens.specs.declared.meaning.Meaning.TheVariants as variants
use Rattle.tokens.specs.Categories.{category}
use Rattle.tokens.specs.Codes.{topmark_code, firstmark_code, botmark_code, splitfirstmark_code, splitbotmark_code}
use Rattle.tokens.specs.Names.{name_at}
use Rattle.tokens.specs.Primitives.{primitive_names}

-- the escape character
abbrev pub escape_text : ℤ → List ℕ
escape_text (pos escape) = if nat_lt escape 256 then escape ∷ [] else []
escape_text (negsuc _) = []

-- a word behind the escape character
abbrev pub escaped : ℤ → List ℕ → List ℕ
escaped escape word = escape_text escape ++ word

-- a name; the empty name is shown as the words that make it
abbrev pub control_text : ℤ → List ℕ → List ℕ
control_text escape [] = escaped escape (codes "csname") ++ escaped escape (codes "endcsname")
control_text escape (byte ∷ bytes) = escaped escape (byte ∷ bytes)

-- the space behind a name in a list: none behind one byte that isn't a letter now
abbrev pub space_behind : List ℕ → List ℕ → List ℕ
space_behind cats (byte ∷ []) = if category cats byte == 11 then 32 ∷ [] else []
space_behind cats _ = 32 ∷ []

-- a name in a list
abbrev pub name_text : List ℕ → ℤ → List ℕ → List ℕ
name_text cats escape name = control_text escape name ++ space_behind cats name

-- an argument
abbrev pub argument_text : ℕ → List ℕ
argument_text number = codes "#" ++ decimal number

-- a token in a list; a character of category 6 is doubled
abbrev pub token_text : List (List ℕ) → List ℕ → ℤ → Token → List ℕ
token_text names cats escape (Char cat byte) = if cat == 6 then byte ∷ byte ∷ [] else byte ∷ []
token_text names cats escape (Active byte) = byte ∷ []
token_text names cats escape (Name id) = name_text cats escape (name_at names id.0)
token_text names cats escape (Arg number) = argument_text number
token_text names cats escape (Frozen _) = name_text cats escape (codes "relax")

-- the text of a list
abbrev pub tokens_text : List (List ℕ) → List ℕ → ℤ → List Token → List ℕ
tokens_text names cats escape tokens = flat_map (token_text names cats escape) tokens

-- the words for a category of characters
abbrev pub category_words : ℕ → List ℕ
category_words cat =
    if cat == 1 then codes "begin-group character "
    else if cat == 2 then codes "end-group character "
    else if cat == 3 then codes "math shift character "
    else if cat == 4 then codes "alignment tab character "
    else if cat == 6 then codes "macro parameter character "
    else if cat == 7 then codes "superscript character "
    else if cat == 8 then codes "subscript character "
    else if cat == 10 then codes "blank space "
    else if cat == 11 then codes "the letter "
    else codes "the character "

-- the meaning of a character
abbrev pub character_meaning : ℕ → ℕ → List ℕ
character_meaning cat byte = category_words cat ++ byte ∷ []

-- a token as a trouble names it
abbrev pub token_shown : List (List ℕ) → ℤ → Token → List ℕ
token_shown names escape (Char cat byte) = character_meaning cat byte
token_shown names escape (Active byte) = byte ∷ []
token_shown names escape (Name id) = control_text escape (name_at names id.0)
token_shown names escape (Arg number) = argument_text number
token_shown names escape (Frozen _) = escaped escape (codes "relax")

-- the name of the command for a kind of registers
abbrev pub register_name : RegKind → List ℕ
register_name Count = codes "count"
register_name Dimen = codes "dimen"
register_name Skip = codes "skip"
register_name Muskip = codes "muskip"
register_name Box = codes "box"
register_name Toks = codes "toks"

-- whether a primitive shows a mark
abbrev pub is_mark_code : ℕ → Bool
is_mark_code code =
    (code == topmark_code) || ((code == firstmark_code) || ((code == botmark_code)
    || ((code == splitfirstmark_code) || (code == splitbotmark_code))))

-- a flag's command, where the flag is set
abbrev pub flag_text : ℤ → Bool → List ℕ → List ℕ
flag_text escape flag word = if flag then escaped escape word else []

-- a space where one of the flags is set
abbrev pub flag_space : Bool → List ℕ
flag_space some = if some then 32 ∷ [] else []

-- the flags of a macro
abbrev pub flags_text : ℤ → Macro → List ℕ
flags_text escape m =
    flag_text escape m.guarded (codes "protected") ++ flag_text escape m.long (codes "long")
    ++ flag_text escape m.outer (codes "outer") ++ flag_space (m.guarded || (m.long || m.outer))

-- a number in hexadecimal digits behind a word, as `\chardef` and `\mathchardef` show it
abbrev pub hex_text : ℤ → List ℕ → ℕ → List ℕ
hex_text escape word number = escaped escape word ++ codes "\"" ++ digits 16 true number

-- a meaning up to its colon, if it has one. A font's name with its size is `above`
abbrev pub meaning_head : ℤ → List ℕ → Meaning → List ℕ
meaning_head escape above variants.Undefined = codes "undefined"
meaning_head escape above (variants.Primitive code) =
    escaped escape (name_at primitive_names code) ++ (if is_mark_code code then codes ":" else [])
meaning_head escape above (variants.Macro m) = flags_text escape m ++ codes "macro:"
meaning_head escape above (variants.Char cat byte) = character_meaning cat byte
meaning_head escape above (variants.CharDef byte) = hex_text escape (codes "char") byte
meaning_head escape above (variants.MathCharDef number) = hex_text escape (codes "mathchar") number
meaning_head escape above (variants.Register kind number) = escaped escape (register_name kind) ++ decimal number
meaning_head escape above (variants.Font _) = codes "select font " ++ above

-- whether a meaning has a colon with something behind it
abbrev pub has_tail : Meaning → Bool
has_tail variants.Undefined = false
has_tail (variants.Primitive code) = is_mark_code code
has_tail (variants.Macro _) = true
has_tail (variants.Char cat byte) = false
has_tail (variants.CharDef byte) = false
has_tail (variants.MathCharDef number) = false
has_tail (variants.Register kind number) = false
has_tail (variants.Font font) = false

-- the two texts of a macro
abbrev pub macro_text : List (List ℕ) → List ℕ → ℤ → Macro → List ℕ
macro_text names cats escape m =
    tokens_text names cats escape m.params ++ codes "->" ++ tokens_text names cats escape m.body

-- what stands behind the colon: the texts of a macro, or the text of a mark, which is `above`
abbrev pub meaning_tail : List (List ℕ) → List ℕ → ℤ → List ℕ → Meaning → List ℕ
meaning_tail names cats escape above variants.Undefined = []
meaning_tail names cats escape above (variants.Primitive code) = if is_mark_code code then above else []
meaning_tail names cats escape above (variants.Macro m) = macro_text names cats escape m
meaning_tail names cats escape above (variants.Char cat byte) = []
meaning_tail names cats escape above (variants.CharDef byte) = []
meaning_tail names cats escape above (variants.MathCharDef number) = []
meaning_tail names cats escape above (variants.Register kind number) = []
meaning_tail names cats escape above (variants.Font font) = []

-- the whole meaning
abbrev pub meaning_text : List (List ℕ) → List ℕ → ℤ → List ℕ → Meaning → List ℕ
meaning_text names cats escape above meaning =
    meaning_head escape above meaning ++ meaning_tail names cats escape above meaning

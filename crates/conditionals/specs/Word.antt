-- What a token is to a text that is passed over, by its meaning (The TeXbook, chapter 20; tex.web 487 to 489;
-- the e-TeX manual, section 3.2).
use Rattle.std.specs.Prelude.{◌≡◌, ℕ, Bool, ◌==◌, ◌&&◌, ◌||◌, nat_le, List, [], ◌∷◌, map, codes, if◌then◌else◌}
use Rattle.tokens.specs.declared.meaning.Meaning.{Meaning}
use Rattle.tokens.specs.declared.meaning.Meaning.TheVariants as meanings
use Rattle.tokens.specs.Codes.{if_code, ifcat_code, ifnum_code, ifdim_code, ifodd_code, ifvmode_code, ifhmode_code, ifmmode_code, ifinner_code, ifvoid_code, ifhbox_code, ifvbox_code, ifx_code, ifeof_code, iftrue_code, iffalse_code, ifcase_code, else_code, or_code, fi_code, ifdefined_code, ifcsname_code, iffontchar_code}
use Rattle.tokens.specs.Names.{name_at}
use Rattle.tokens.specs.Primitives.{primitive_names}
use Rattle.conditionals.specs.declared.word.Word.{Word}
use Rattle.conditionals.specs.declared.word.Word.TheVariants.{Opener, Or, Else, Fi, Other}

-- the codes that begin a condition: \if to \ifcase, and \ifdefined, \ifcsname and \iffontchar
abbrev pub is_opener : ℕ → Bool
is_opener code =
    (nat_le if_code code && nat_le code ifcase_code) || (nat_le ifdefined_code code && nat_le code iffontchar_code)

abbrev pub word_of_code : ℕ → Word
word_of_code code =
    if code == or_code then Or
    else if code == else_code then Else
    else if code == fi_code then Fi
    else if is_opener code then Opener
    else Other

-- a primitive is what its code says, and every other meaning is of no account
abbrev pub word_of : Meaning → Word
word_of meanings.Undefined = Other
word_of (meanings.Primitive code) = word_of_code code
word_of (meanings.Macro text) = Other
word_of (meanings.Char cat byte) = Other
word_of (meanings.CharDef byte) = Other
word_of (meanings.MathCharDef code) = Other
word_of (meanings.Register kind number) = Other
word_of (meanings.Font font) = Other

-- the codes of conditions in their order, as `\currentiftype` counts them from 1
abbrev pub opener_codes : List ℕ
opener_codes =
    if_code ∷ ifcat_code ∷ ifnum_code ∷ ifdim_code ∷ ifodd_code ∷ ifvmode_code ∷ ifhmode_code ∷ ifmmode_code ∷
    ifinner_code ∷ ifvoid_code ∷ ifhbox_code ∷ ifvbox_code ∷ ifx_code ∷ ifeof_code ∷ iftrue_code ∷ iffalse_code ∷
    ifcase_code ∷ ifdefined_code ∷ ifcsname_code ∷ iffontchar_code ∷ []

-- their names
abbrev pub opener_names : List (List ℕ)
opener_names =
    codes "if" ∷ codes "ifcat" ∷ codes "ifnum" ∷ codes "ifdim" ∷ codes "ifodd" ∷ codes "ifvmode" ∷
    codes "ifhmode" ∷ codes "ifmmode" ∷ codes "ifinner" ∷ codes "ifvoid" ∷ codes "ifhbox" ∷
    codes "ifvbox" ∷ codes "ifx" ∷ codes "ifeof" ∷ codes "iftrue" ∷ codes "iffalse" ∷ codes "ifcase" ∷
    codes "ifdefined" ∷ codes "ifcsname" ∷ codes "iffontchar" ∷ []

-- the codes are the places of these names in the tables
pub record WordsLaw : Type 0 where
  pub openers_named : map (name_at primitive_names) opener_codes ≡ opener_names
  pub or_named : name_at primitive_names or_code ≡ codes "or"
  pub else_named : name_at primitive_names else_code ≡ codes "else"
  pub fi_named : name_at primitive_names fi_code ≡ codes "fi"
  pub openers_open : map (λ code. word_of_code code) opener_codes ≡ map (λ code. Opener) opener_codes

-- The rule, computed on texts. The characters have the categories of plain TeX.
use Rattle.std.proofs.Common.{◌≡◌, ℕ, true, false, List, [], ◌∷◌, ◌++◌, refl}
use Rattle.std.specs.Prelude.{codes, map, Bool, ◌==◌, ◌&&◌, ◌||◌, nat_le, if◌then◌else◌}
use Rattle.tokens.specs.declared.token.Token.{Token}
use Rattle.tokens.specs.declared.token.Token.TheVariants.{Char, Name, Arg}
use Rattle.macro_args.specs.declared.rules.Rules.{Rules}
use Rattle.macro_args.specs.declared.verdict.Refusal.TheVariants.{NoMatch, ExtraBrace, ParagraphEnded}
use Rattle.macro_args.specs.Arguments.{Open, Complete, Unfit, use_of}

abbrev is_letter : ℕ → Bool
is_letter byte = (nat_le 65 byte && nat_le byte 90) || (nat_le 97 byte && nat_le byte 122)

abbrev category_of : ℕ → ℕ
category_of byte =
    if byte == 123 then 1 else if byte == 125 then 2 else if byte == 36 then 3 else if byte == 32 then 10
    else if is_letter byte then 11 else 12

abbrev character : ℕ → Token
character byte = Char (category_of byte) byte

abbrev text : List ℕ → List Token
text bytes = map character bytes

abbrev name : ℕ → Token
name id = Name (record { 0 = id })

abbrev par : Token
par = name 7

abbrev short : Rules
short = record { long = false; par = record { 0 = 7 } }

abbrev long : Rules
long = record { long = true; par = record { 0 = 7 } }

-- #1.
abbrev up_to_a_point : List Token
up_to_a_point = Arg 1 ∷ text (codes ".")

delimited : use_of short up_to_a_point (text (codes "xy.z")) ≡ Complete (text (codes "xy") ∷ []) (text (codes "z"))
delimited = refl

not_yet : use_of short up_to_a_point (text (codes "xy")) ≡ Open
not_yet = refl

empty : use_of short up_to_a_point (text (codes ".")) ≡ Complete ([] ∷ []) []
empty = refl

-- AB#1#2C$#3\$ and a space
abbrev of_the_book : List Token
of_the_book = text (codes "AB") ++ Arg 1 ∷ Arg 2 ∷ text (codes "C$") ++ Arg 3 ∷ name 1 ∷ text (codes " ")

-- AB {\Look}C${And\$ }{look}\$ 5
the_book : use_of short of_the_book
    (text (codes "AB {") ++ name 2 ∷ text (codes "}C${And") ++ name 1 ∷ text (codes " }{look}") ++ name 1 ∷ text (codes " 5"))
    ≡ Complete ((name 2 ∷ []) ∷ [] ∷ (text (codes "{And") ++ name 1 ∷ text (codes " }{look}")) ∷ []) (text (codes "5"))
the_book = refl

-- delimiters that begin more than once
begun_again : use_of short (Arg 1 ∷ text (codes "aab")) (text (codes "aaab")) ≡ Complete (text (codes "a") ∷ []) []
begun_again = refl

begun_in_a_group : use_of short (Arg 1 ∷ text (codes "ab")) (text (codes "{ab}aab")) ≡ Complete (text (codes "{ab}a") ∷ []) []
begun_in_a_group = refl

-- #1#{
up_to_a_brace : use_of short (Arg 1 ∷ text (codes "{")) (text (codes "xy{z")) ≡ Complete (text (codes "xy") ∷ []) (text (codes "z"))
up_to_a_brace = refl

at_once_a_brace : use_of short (Arg 1 ∷ text (codes "{")) (text (codes "{z")) ≡ Complete ([] ∷ []) (text (codes "z"))
at_once_a_brace = refl

text_and_a_brace : use_of short (Arg 1 ∷ text (codes "x{")) (text (codes "{x{}}yx{")) ≡ Complete (text (codes "{x{}}y") ∷ []) []
text_and_a_brace = refl

-- groups that lose their braces, and groups that don't
one_group : use_of short up_to_a_point (text (codes "{a.b}.")) ≡ Complete (text (codes "a.b") ∷ []) []
one_group = refl

two_groups : use_of short up_to_a_point (text (codes "{a}{b}.")) ≡ Complete (text (codes "{a}{b}") ∷ []) []
two_groups = refl

group_in_a_group : use_of short (Arg 1 ∷ []) (text (codes "{{a}}")) ≡ Complete (text (codes "{a}") ∷ []) []
group_in_a_group = refl

group_behind_a_token : use_of short up_to_a_point (text (codes " {a}.")) ≡ Complete (text (codes " {a}") ∷ []) []
group_behind_a_token = refl

empty_group : use_of short (Arg 1 ∷ []) (text (codes "{}")) ≡ Complete ([] ∷ []) []
empty_group = refl

-- spaces in front of undelimited arguments alone
spaces : use_of short (Arg 1 ∷ Arg 2 ∷ []) (text (codes "  a b")) ≡ Complete (text (codes "a") ∷ text (codes "b") ∷ []) []
spaces = refl

other_spaces : use_of short (Arg 1 ∷ []) (Char 10 9 ∷ []) ≡ Complete ((Char 10 9 ∷ []) ∷ []) []
other_spaces = refl

-- no parameters
nothing_wanted : use_of short [] (text (codes "a")) ≡ Complete [] (text (codes "a"))
nothing_wanted = refl

-- tokens that don't match
no_match : use_of short of_the_book (text (codes "AC")) ≡ Unfit NoMatch []
no_match = refl

another_category : use_of short (Char 12 65 ∷ Arg 1 ∷ []) (text (codes "Ab")) ≡ Unfit NoMatch (text (codes "b"))
another_category = refl

-- braces without a partner
extra_brace : use_of short up_to_a_point (text (codes "a}.")) ≡ Unfit ExtraBrace (text (codes "."))
extra_brace = refl

extra_brace_for_a_token : use_of short (Arg 1 ∷ []) (text (codes " }")) ≡ Unfit ExtraBrace []
extra_brace_for_a_token = refl

-- ends of paragraphs
paragraph : use_of short up_to_a_point (text (codes "a") ++ par ∷ text (codes ".")) ≡ Unfit ParagraphEnded (text (codes "."))
paragraph = refl

paragraph_for_a_token : use_of short (Arg 1 ∷ []) (par ∷ []) ≡ Unfit ParagraphEnded []
paragraph_for_a_token = refl

paragraph_in_a_group : use_of short (Arg 1 ∷ []) (text (codes "{a") ++ par ∷ []) ≡ Unfit ParagraphEnded []
paragraph_in_a_group = refl

paragraph_of_a_long_macro : use_of long (Arg 1 ∷ []) (text (codes "{a") ++ par ∷ text (codes "}"))
    ≡ Complete ((text (codes "a") ++ par ∷ []) ∷ []) []
paragraph_of_a_long_macro = refl

-- a \par as the delimiter, and one that may have become part of it
up_to_a_paragraph : use_of short (Arg 1 ∷ par ∷ []) (text (codes "a") ++ par ∷ []) ≡ Complete (text (codes "a") ∷ []) []
up_to_a_paragraph = refl

half_a_delimiter : use_of short (Arg 1 ∷ par ∷ text (codes "!")) (par ∷ text (codes "a") ++ par ∷ text (codes "!"))
    ≡ Complete ((par ∷ text (codes "a")) ∷ []) []
half_a_delimiter = refl

half_a_delimiter_twice : use_of short (Arg 1 ∷ par ∷ text (codes "!")) (par ∷ par ∷ text (codes "!")) ≡ Complete ((par ∷ []) ∷ []) []
half_a_delimiter_twice = refl

no_delimiter_in_a_group : use_of short (Arg 1 ∷ par ∷ text (codes "!")) (text (codes "{") ++ par ∷ text (codes "!"))
    ≡ Unfit ParagraphEnded (text (codes "!"))
no_delimiter_in_a_group = refl

paragraph_in_front : use_of short (text (codes "a") ++ Arg 1 ∷ []) (par ∷ []) ≡ Unfit NoMatch []
paragraph_in_front = refl

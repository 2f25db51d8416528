-- Braces of a list of tokens: characters of the categories 1 and 2 (The TeXbook, chapters 7 and 20). They are matched
-- like parentheses. Names and active characters that mean a brace are none.
use Rattle.std.specs.Prelude.{◌+◌, ◌-◌, ◌==◌, Bool, false, ◌&&◌, nat_le, List, [], ◌∷◌, length, take, drop, Option, Some, None, slice_get, if◌then◌else◌}
use Rattle.tokens.specs.declared.token.Token.{Token}
use Rattle.tokens.specs.declared.token.Token.TheVariants.{Char, Active, Name, Arg, Frozen}
use Rattle.macro_args.specs.declared.braces.Braces.{Braces}

abbrev pub is_left : Token → Bool
is_left (Char cat byte) = cat == 1
is_left (Active byte) = false
is_left (Name id) = false
is_left (Arg number) = false
is_left (Frozen number) = false

abbrev pub is_right : Token → Bool
is_right (Char cat byte) = cat == 2
is_right (Active byte) = false
is_right (Name id) = false
is_right (Arg number) = false
is_right (Frozen number) = false

-- one more left brace, and one more right brace, which closes the last group that is open, or has no partner
abbrev pub with_left : Braces → Braces
with_left braces = record { lone = braces.lone; unclosed = braces.unclosed + 1 }

abbrev pub with_right : Braces → Braces
with_right braces =
    if braces.unclosed == 0 then record { lone = braces.lone + 1; unclosed = 0 }
    else record { lone = braces.lone; unclosed = braces.unclosed - 1 }

abbrev pub with_brace : Braces → Token → Braces
with_brace braces token =
    if is_left token then with_left braces else if is_right token then with_right braces else braces

-- the braces without a partner, behind a list in front of which these stood
abbrev pub braces_behind : Braces → List Token → Braces
braces_behind braces [] = braces
braces_behind braces (token ∷ tokens) = braces_behind (with_brace braces token) tokens

abbrev pub no_braces : Braces
no_braces = record { lone = 0; unclosed = 0 }

abbrev pub braces_of : List Token → Braces
braces_of tokens = braces_behind no_braces tokens

abbrev pub are_none : Braces → Bool
are_none braces = (braces.lone == 0) && (braces.unclosed == 0)

-- each brace of the list has its partner there
abbrev pub is_balanced : List Token → Bool
is_balanced tokens = are_none (braces_of tokens)

-- a right brace that no left brace of the list stands before
abbrev pub has_lone_right : List Token → Bool
has_lone_right tokens = nat_le 1 (braces_of tokens).lone

-- ---- groups

abbrev pub is_left_there : Option Token → Bool
is_left_there None = false
is_left_there (Some token) = is_left token

abbrev pub is_right_there : Option Token → Bool
is_right_there None = false
is_right_there (Some token) = is_right token

-- all but the first and the last
abbrev pub inside : List Token → List Token
inside tokens = take (length tokens - 2) (drop 1 tokens)

-- whether the list is one group: a left brace, a balanced list, and a right brace
abbrev pub is_group : List Token → Bool
is_group tokens =
    nat_le 2 (length tokens) && is_left_there (slice_get tokens 0)
    && is_right_there (slice_get tokens (length tokens - 1)) && is_balanced (inside tokens)

-- a list that is one group loses its braces
abbrev pub without_braces : List Token → List Token
without_braces tokens = if is_group tokens then inside tokens else tokens

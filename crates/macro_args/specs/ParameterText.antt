-- The parameter text of a macro, p0 #1 p1 #2 p2 and so on (The TeXbook, chapter 20, pages 203 and 204; tex.web 389
-- and 473 to 476). The tokens p0 stand in front of the first parameter, and those behind a parameter delimit its
-- argument. Where none stand there, the parameter is undelimited. A parameter text that ended with #{ has the brace
-- as its last token.
use Rattle.std.specs.Prelude.{List, [], ◌∷◌}
use Rattle.tokens.specs.declared.token.Token.{Token}
use Rattle.tokens.specs.declared.token.Token.TheVariants.{Char, Active, Name, Arg, Frozen}

-- the tokens in front of the first parameter, and those behind each
pub record Parts : Type 0 where
  pub front : List Token
  pub delimiters : List (List Token)

-- one more token in front
abbrev pub in_front : Token → Parts → Parts
in_front token parts = record { front = token ∷ parts.front; delimiters = parts.delimiters }

-- a parameter in front: what stood in front is its delimiter
abbrev pub with_parameter : Parts → Parts
with_parameter parts = record { front = []; delimiters = parts.front ∷ parts.delimiters }

abbrev pub with_token : Token → Parts → Parts
with_token (Char cat byte) parts = in_front (Char cat byte) parts
with_token (Active byte) parts = in_front (Active byte) parts
with_token (Name id) parts = in_front (Name id) parts
with_token (Arg number) parts = with_parameter parts
with_token (Frozen number) parts = in_front (Frozen number) parts

abbrev pub parts_of : List Token → Parts
parts_of [] = record { front = []; delimiters = [] }
parts_of (token ∷ text) = with_token token (parts_of text)

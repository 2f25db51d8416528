-- The use of a macro with the parameter text p0 #1 p1 #2 p2 .. (The TeXbook, chapter 20, pages 203 and 204; tex.web 389
-- to 401): the tokens that are taken are p0 a1 p1 a2 p2 and so on. A delimited argument is the shortest balanced list
-- before its delimiter. An undelimited one is the shortest balanced list that isn't empty, spaces before it passed:
-- the next token, or the next group. An argument that is one group loses its braces. Tokens are compared as tokens,
-- whatever they mean.
use Rattle.std.specs.Prelude.{ℕ, ◌-◌, ◌==◌, Bool, false, ◌&&◌, ◌||◌, not, nat_lt, List, [], ◌∷◌, ◌++◌, length, take, drop, Option, Some, None, if◌then◌else◌}
use Rattle.std.proofs.Common.{zero, suc}
use Rattle.tokens.specs.declared.token.Token.{Token}
use Rattle.tokens.specs.declared.token.Token.TheVariants.{Char, Active, Name, Arg, Frozen}
use Rattle.tokens.specs.Token.{same_token}
use Rattle.tokens.specs.TokenList.{same_tokens}
use Rattle.macro_args.specs.declared.rules.Rules.{Rules}
use Rattle.macro_args.specs.declared.verdict.Refusal.{Refusal}
use Rattle.macro_args.specs.declared.verdict.Refusal.TheVariants.{NoMatch, ExtraBrace, ParagraphEnded, TooLong}
use Rattle.macro_args.specs.declared.judge.Judgement.{Judgement}
use Rattle.macro_args.specs.declared.judge.Judgement.TheVariants.{Passed, Going, Found, Refused}
use Rattle.macro_args.specs.ParameterText.{parts_of}
use Rattle.macro_args.specs.BraceCount.{is_balanced, has_lone_right, without_braces}

-- ---- one place of an argument

-- the list ends with this text, and what stands before that is balanced
abbrev pub ends_with : List Token → List Token → Bool
ends_with tokens text = same_tokens (drop (length tokens - length text) tokens) text

abbrev pub before : List Token → List Token → List Token
before tokens text = take (length tokens - length text) tokens

abbrev pub stands_at_end : List Token → List Token → Bool
stands_at_end text tokens = ends_with tokens text && is_balanced (before tokens text)

-- the list ends with one of the beginnings of a delimiter that have 1 to so many tokens, and what stands before
-- that is balanced
abbrev pub is_begun_by : ℕ → List Token → List Token → Bool
is_begun_by zero delimiter tokens = false
is_begun_by (suc count) delimiter tokens =
    stands_at_end (take (suc count) delimiter) tokens || is_begun_by count delimiter tokens

-- the last token is part of the delimiter, whether that is whole or may still become so
abbrev pub is_part : List Token → List Token → Bool
is_part delimiter tokens = is_begun_by (length delimiter) delimiter tokens

abbrev pub is_space : Token → Bool
is_space (Char cat byte) = (cat == 10) && (byte == 32)
is_space (Active byte) = false
is_space (Name id) = false
is_space (Arg number) = false
is_space (Frozen number) = false

-- a space in front of an undelimited argument
abbrev pub is_passed : List Token → List Token → Token → Bool
is_passed delimiter tokens token = (length delimiter == 0) && (length tokens == 1) && is_space token

-- the end of a paragraph, where the macro isn't long
abbrev pub is_barred : Rules → Token → Bool
is_barred rules token = not rules.long && same_token token (Name rules.par)

-- the argument is sure to have more tokens than a list may have: 16,777,215, and the tokens that may still turn out
-- to be of its delimiter
abbrev pub is_too_long : List Token → List Token → Bool
is_too_long delimiter tokens = nat_lt 16777215 (length tokens - (length delimiter - 1))

-- what is to be said of the tokens of an argument so far, of which this is the last: it can't go on with this one; or
-- they are all of the argument with its delimiter. A token that is part of the delimiter, or may be, is allowed, also
-- where it turns out later to be one of the argument's.
abbrev pub judged : Rules → List Token → List Token → Token → Judgement
judged rules delimiter tokens token =
    if is_passed delimiter tokens token then Passed
    else if is_barred rules token && not (is_part delimiter tokens) then Refused ParagraphEnded
    else if has_lone_right tokens && not (is_part delimiter tokens) then Refused ExtraBrace
    else if stands_at_end delimiter tokens then Found
    else if is_too_long delimiter tokens then Refused TooLong
    else Going

-- ---- one argument

-- where an argument ends: the argument, and what stands behind its delimiter; or that it ends nowhere in the list, or
-- can't end, with what stands behind the token at which that is seen
pub data Outcome : Type 0 where
  Unended : Outcome
  Ended : List Token → List Token → Outcome
  Refuses : Refusal → List Token → Outcome

-- an argument with its delimiter, without that and its braces
abbrev pub argument_of : List Token → List Token → List Token
argument_of delimiter tokens = without_braces (before tokens delimiter)

-- the list of an argument, if a list may have as many tokens
abbrev pub argument_list : List Token → Option (List Token)
argument_list tokens = if nat_lt 16777215 (length tokens) then None else Some tokens

-- an argument that ends
abbrev pub ended : Option (List Token) → List Token → Outcome
ended None rest = Refuses TooLong rest
ended (Some argument) rest = Ended argument rest

-- the first place at which what stands before is balanced and the delimiter follows, or at which the argument can't go
-- on. The first list has the tokens in front of the place, the second those behind it.
abbrev pub argument_from : Rules → List Token → List Token → List Token → Outcome
argument_from rules delimiter tokens [] = Unended
argument_from rules delimiter tokens (token ∷ more) =
    elim (judged rules delimiter (tokens ++ token ∷ []) token) [
      | Passed ↦ argument_from rules delimiter [] more
      | Going ↦ argument_from rules delimiter (tokens ++ token ∷ []) more
      | Found ↦ ended (argument_list (argument_of delimiter (tokens ++ token ∷ []))) more
      | Refused refusal ↦ Refuses refusal more
    ]

-- ---- the whole use

-- what a list of tokens is to the macro: a use that isn't whole yet; a whole one, with its arguments and what stands
-- behind it; or none, with what stands behind the token at which that is seen
pub data Use : Type 0 where
  Open : Use
  Complete : List (List Token) → List Token → Use
  Unfit : Refusal → List Token → Use

-- what follows an argument
abbrev pub after_argument : (List Token → List Token → Use) → Outcome → Use
after_argument further Unended = Open
after_argument further (Ended argument rest) = further argument rest
after_argument further (Refuses refusal rest) = Unfit refusal rest

-- the arguments before these delimiters, behind those that were found
abbrev pub arguments_in : Rules → List (List Token) → List (List Token) → List Token → Use
arguments_in rules [] found tokens = Complete found tokens
arguments_in rules (delimiter ∷ delimiters) found tokens =
    after_argument (λ argument rest. arguments_in rules delimiters (found ++ argument ∷ []) rest)
    (argument_from rules delimiter [] tokens)

-- the tokens in front of the first parameter, and the arguments behind them
abbrev pub behind_front : Rules → List Token → List (List Token) → List (List Token) → List Token → Use
behind_front rules [] delimiters found tokens = arguments_in rules delimiters found tokens
behind_front rules (wanted ∷ front) delimiters found [] = Open
behind_front rules (wanted ∷ front) delimiters found (token ∷ more) =
    if same_token wanted token then behind_front rules front delimiters found more else Unfit NoMatch more

abbrev pub use_from : Rules → List (List Token) → List Token → List Token → Use
use_from rules found parameters tokens =
    behind_front rules (parts_of parameters).front (parts_of parameters).delimiters found tokens

-- what the tokens behind a macro's name are to its parameter text
abbrev pub use_of : Rules → List Token → List Token → Use
use_of rules parameters tokens = use_from rules [] parameters tokens

-- A delimited argument as The TeXbook says it (chapter 20, page 203): of all balanced lists before their delimiter it is
-- the shortest.
use Rattle.std.specs.Prelude.{◌≡◌, ◌<◌, ◌≤◌, true, List, [], ◌++◌, length}
use Rattle.tokens.specs.declared.token.Token.{Token}
use Rattle.macro_args.specs.declared.rules.Rules.{Rules}
use Rattle.macro_args.specs.BraceCount.{is_balanced, without_braces}
use Rattle.macro_args.specs.Arguments.{Ended, argument_from}

-- the tokens are this text with the delimiter and the rest behind it, the text is balanced, and no shorter balanced list
-- has the delimiter behind it
pub record IsShortest (delimiter tokens text rest : List Token) : Type 0 where
  pub parted : tokens ≡ text ++ delimiter ++ rest
  pub balanced : is_balanced text ≡ true
  pub shortest : (other more : List Token) → tokens ≡ other ++ delimiter ++ more → is_balanced other ≡ true
      → length text ≤ length other

-- an argument that ends is that text, without its braces where it is one group
pub record IsArgument (delimiter tokens argument rest : List Token) : Type 0 where
  pub text : List Token
  pub is_shortest : IsShortest delimiter tokens text rest
  pub stripped : argument ≡ without_braces text

abbrev pub DelimitedLaw : Type 0
DelimitedLaw =
    (rules : Rules) (delimiter tokens argument rest : List Token) → 0 < length delimiter
    → argument_from rules delimiter [] tokens ≡ Ended argument rest → IsArgument delimiter tokens argument rest

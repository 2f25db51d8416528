-- A reader of a macro's arguments: what it keeps, and the lists of tokens for which it stands.
use Rattle.std.specs.Prelude.{◌≡◌, ℕ, ◌+◌, ◌<◌, List, [], ◌∷◌, ◌++◌, length, take, drop, ◌-◌, Option, Some, None, if◌then◌else◌}
use Rattle.tokens.specs.declared.token.Token.{Token}
use Rattle.tokens.specs.Token.{same_token}
use Rattle.macro_args.specs.declared.braces.Braces.{Braces}
use Rattle.macro_args.specs.declared.place.Place.{Place}
use Rattle.macro_args.specs.declared.place.Place.TheVariants.{Front, Argument, End}
use Rattle.macro_args.specs.declared.rules.Rules.{Rules}
use Rattle.macro_args.specs.declared.verdict.Refusal.TheVariants.{NoMatch, TooLong}
use Rattle.macro_args.specs.declared.verdict.Verdict.{Verdict}
use Rattle.macro_args.specs.declared.verdict.Verdict.TheVariants.{Need, Done, Refused}
use Rattle.macro_args.specs.ParameterText.{Parts, parts_of}
use Rattle.macro_args.specs.BraceCount.{braces_of, without_braces}
use Rattle.macro_args.specs.Arguments.{Use, Open, Complete, Unfit, argument_from, after_argument, argument_list, arguments_in, use_from, use_of}

-- the arguments that were found, the tokens of the one that is being read, and their braces
pub record Scanning : Type 0 where
  pub rules : Rules
  pub parameters : List Token
  pub place : Place
  pub found : List (List Token)
  pub tokens : List Token
  pub braces : Braces

-- what the tokens to come are to what is left of the parameter text, in front of the first parameter
abbrev pub front_rest : Rules → List (List Token) → List Token → List Token → Use
front_rest rules found [] more = Complete found more
front_rest rules found (wanted ∷ parameters) [] = Open
front_rest rules found (wanted ∷ parameters) (token ∷ more) =
    if same_token wanted token then use_from rules found parameters more else Unfit NoMatch more

-- and behind the sign of a parameter, where these tokens of its argument were read
abbrev pub argument_rest : Rules → List (List Token) → Parts → List Token → List Token → Use
argument_rest rules found parts tokens more =
    after_argument (λ argument rest. arguments_in rules parts.delimiters (found ++ argument ∷ []) rest)
    (argument_from rules parts.front tokens more)

abbrev pub place_rest : Rules → List Token → List (List Token) → List Token → Place → List Token → Use
place_rest rules parameters found tokens (Front next) more = front_rest rules found (drop next parameters) more
place_rest rules parameters found tokens (Argument begin end) more =
    argument_rest rules found (parts_of (drop begin parameters)) tokens more
place_rest rules parameters found tokens End more = Complete found more

abbrev pub scan_rest : Scanning → List Token → Use
scan_rest scan more = place_rest scan.rules scan.parameters scan.found scan.tokens scan.place more

-- the place is one of the parameter text
abbrev pub IsPlaceOf : List Token → Place → Type 0
IsPlaceOf parameters (Front next) = next < length parameters
IsPlaceOf parameters (Argument begin end) = end ≡ begin + length (parts_of (drop begin parameters)).front
IsPlaceOf parameters End = Unit {0}

-- no token of an argument was read in front of the first parameter
abbrev pub IsUnread : Place → List Token → Type 0
IsUnread (Front next) tokens = tokens ≡ []
IsUnread (Argument begin end) tokens = Unit {0}
IsUnread End tokens = Unit {0}

pub record IsSound (scan : Scanning) : Type 0 where
  pub placed : IsPlaceOf scan.parameters scan.place
  pub unread : IsUnread scan.place scan.tokens
  pub counted : scan.braces ≡ braces_of scan.tokens

-- the reader stands for the tokens that were taken: they are no whole use yet, and whatever follows them, the whole
-- list is to the macro what the rest is to the reader
pub record StandsFor (rules : Rules) (parameters taken : List Token) (scan : Scanning) : Type 0 where
  pub goes_on : use_of rules parameters taken ≡ Open
  pub follows : (more : List Token) → use_of rules parameters (taken ++ more) ≡ scan_rest scan more
  pub sound : IsSound scan

-- what an answer says of the tokens that were taken, the last one included: they are no whole use yet; or they are a
-- whole one with these arguments, or none, whatever follows
abbrev pub Tells : Rules → List Token → List Token → Verdict → Scanning → Type 0
Tells rules parameters taken Need scan = StandsFor rules parameters taken scan
Tells rules parameters taken Done scan =
    (more : List Token) → use_of rules parameters (taken ++ more) ≡ Complete scan.found more
Tells rules parameters taken (Refused refusal) scan =
    (more : List Token) → use_of rules parameters (taken ++ more) ≡ Unfit refusal more

-- ---- one token

-- the answer at a place at which nothing was read yet
abbrev pub verdict_at : Place → Verdict
verdict_at (Front next) = Need
verdict_at (Argument begin end) = Need
verdict_at End = Done

-- what an answer says of one token, whatever comes behind it
pub record StepsOn (before : Scanning) (token : Token) (after : Scanning) : Type 0 where
  pub rest : (more : List Token) → scan_rest before (token ∷ more) ≡ scan_rest after more
  pub goes_on : scan_rest after [] ≡ Open
  pub sound : IsSound after

abbrev pub Steps : Scanning → Token → Verdict → Scanning → Type 0
Steps before token Need after = StepsOn before token after
Steps before token Done after = (more : List Token) → scan_rest before (token ∷ more) ≡ Complete after.found more
Steps before token (Refused refusal) after = (more : List Token) → scan_rest before (token ∷ more) ≡ Unfit refusal more

-- ---- the end of an argument

pub record ArgumentEnds (end : ℕ) (argument : List Token) (before : Scanning) (verdict : Verdict) (after : Scanning) : Type 0 where
  pub found : after.found ≡ before.found ++ argument ∷ []
  pub rest : (more : List Token) → scan_rest after more ≡ use_from before.rules after.found (drop end before.parameters) more
  pub answer : verdict ≡ verdict_at after.place
  pub sound : IsSound after

abbrev pub EndsBy : Option (List Token) → ℕ → Scanning → Verdict → Scanning → Type 0
EndsBy None end before verdict after = verdict ≡ Refused TooLong
EndsBy (Some argument) end before verdict after = ArgumentEnds end argument before verdict after

-- the argument ends with so many tokens of its delimiter, which ends there
abbrev pub EndsArgument : ℕ → ℕ → Scanning → Verdict → Scanning → Type 0
EndsArgument own end before verdict after =
    EndsBy (argument_list (without_braces (take (length before.tokens - own) before.tokens))) end before verdict after

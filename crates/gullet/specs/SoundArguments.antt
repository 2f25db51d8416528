-- The arguments of a macro are tokens of those that were taken.
use Rattle.std.specs.Prelude.{ℕ, ◌-◌, nat_lt, Bool, true, false, List, [], ◌∷◌, ◌++◌, length, take, drop, Some, None, if◌then◌else◌}
use Rattle.std.specs.List.{AllByRecursion}
use Rattle.std.proofs.Common.{zero, suc}
use Rattle.tokens.specs.declared.token.Token.{Token}
use Rattle.tokens.specs.Token.{same_token}
use Rattle.macro_args.specs.declared.rules.Rules.{Rules}
use Rattle.macro_args.specs.declared.verdict.Refusal.TheVariants.{NoMatch}
use Rattle.macro_args.specs.declared.judge.Judgement.{Judgement}
use Rattle.macro_args.specs.declared.judge.Judgement.TheVariants.{Passed, Going, Found, Refused}
use Rattle.macro_args.specs.ParameterText.{parts_of}
use Rattle.macro_args.specs.BraceCount.{is_group, inside, without_braces}
use Rattle.macro_args.specs.Arguments.{Outcome, Unended, Ended, Refuses, before, judged, ended, argument_of, argument_list, argument_from, Use, Open, Complete, Unfit, after_argument, arguments_in, behind_front, use_of}
use Rattle.gullet.specs.SoundKept.{each_two, either}

each_take : {A : Type 0} (P : A → Type 0) (n : ℕ) (xs : List A) → AllByRecursion P xs → AllByRecursion P (take n xs)
each_take P zero xs h = tt
each_take P (suc n) [] h = tt
each_take P (suc n) (x ∷ xs) h = (h.0, each_take P n xs h.1)

each_drop : {A : Type 0} (P : A → Type 0) (n : ℕ) (xs : List A) → AllByRecursion P xs → AllByRecursion P (drop n xs)
each_drop P zero xs h = h
each_drop P (suc n) [] h = tt
each_drop P (suc n) (x ∷ xs) h = each_drop P n xs h.1

-- P holds of the tokens of an argument that ends, and of those behind it
abbrev OutcomeHolds : (Token → Type 0) → Outcome → Type 0
OutcomeHolds P Unended = Unit {0}
OutcomeHolds P (Ended argument rest) = AllByRecursion P argument × AllByRecursion P rest
OutcomeHolds P (Refuses refusal rest) = Unit {0}

-- P holds of the tokens of all arguments
abbrev pub UseHolds : (Token → Type 0) → Use → Type 0
UseHolds P Open = Unit {0}
UseHolds P (Complete arguments behind) = AllByRecursion (λ argument. AllByRecursion P argument) arguments
UseHolds P (Unfit refusal behind) = Unit {0}

module _ (P : Token → Type 0) (rules : Rules) where
  stripped_holds : (tokens : List Token) → AllByRecursion P tokens → AllByRecursion P (without_braces tokens)
  stripped_holds tokens h =
      either (λ (list : List Token). AllByRecursion P list) (is_group tokens) (inside tokens) tokens
      (each_take P (length tokens - 2) (drop 1 tokens) (each_drop P 1 tokens h)) h

  ended_holds : (tokens rest : List Token) → AllByRecursion P tokens → AllByRecursion P rest → OutcomeHolds P (ended (argument_list tokens) rest)
  ended_holds tokens rest h g = by_length (nat_lt 16777215 (length tokens))
    where
      by_length : (b : Bool) → OutcomeHolds P (ended (if b then None else Some tokens) rest)
      by_length true = tt
      by_length false = (h, g)

  argument_holds : (delimiter tokens : List Token) → AllByRecursion P tokens → AllByRecursion P (argument_of delimiter tokens)
  argument_holds delimiter tokens h = stripped_holds (before tokens delimiter) (each_take P (length tokens - length delimiter) tokens h)

  from_holds : (delimiter tokens list : List Token) → AllByRecursion P tokens → AllByRecursion P list → OutcomeHolds P (argument_from rules delimiter tokens list)
  from_holds delimiter tokens [] h g = tt
  from_holds delimiter tokens (token ∷ more) h g =
      let longer : AllByRecursion P (tokens ++ token ∷ []) = each_two P tokens (token ∷ []) h (g.0, tt) in
      at (judged rules delimiter (tokens ++ token ∷ []) token) (from_holds delimiter [] more tt g.1) (from_holds delimiter (tokens ++ token ∷ []) more longer g.1)
      (ended_holds (argument_of delimiter (tokens ++ token ∷ [])) more (argument_holds delimiter (tokens ++ token ∷ []) longer) g.1)
    where
      at : (j : Judgement) → OutcomeHolds P (argument_from rules delimiter [] more) → OutcomeHolds P (argument_from rules delimiter (tokens ++ token ∷ []) more)
          → OutcomeHolds P (ended (argument_list (argument_of delimiter (tokens ++ token ∷ []))) more)
          → OutcomeHolds P (elim j [
            | Passed ↦ argument_from rules delimiter [] more
            | Going ↦ argument_from rules delimiter (tokens ++ token ∷ []) more
            | Found ↦ ended (argument_list (argument_of delimiter (tokens ++ token ∷ []))) more
            | Refused refusal ↦ Refuses refusal more
          ])
      at Passed a b c = a
      at Going a b c = b
      at Found a b c = c
      at (Refused refusal) a b c = tt

  after_holds : (further : List Token → List Token → Use) (o : Outcome) → OutcomeHolds P o
      → ((argument rest : List Token) → AllByRecursion P argument → AllByRecursion P rest → UseHolds P (further argument rest)) → UseHolds P (after_argument further o)
  after_holds further Unended h g = tt
  after_holds further (Ended argument rest) h g = g argument rest h.0 h.1
  after_holds further (Refuses refusal rest) h g = tt

  in_holds : (delimiters found : List (List Token)) (tokens : List Token) → AllByRecursion (λ argument. AllByRecursion P argument) found → AllByRecursion P tokens
      → UseHolds P (arguments_in rules delimiters found tokens)
  in_holds [] found tokens h g = h
  in_holds (delimiter ∷ delimiters) found tokens h g =
      after_holds (λ argument rest. arguments_in rules delimiters (found ++ argument ∷ []) rest) (argument_from rules delimiter [] tokens)
      (from_holds delimiter [] tokens tt g)
      (λ argument rest a b. in_holds delimiters (found ++ argument ∷ []) rest (each_two (λ argument. AllByRecursion P argument) found (argument ∷ []) h (a, tt)) b)

  front_holds : (front : List Token) (delimiters found : List (List Token)) (tokens : List Token) → AllByRecursion (λ argument. AllByRecursion P argument) found → AllByRecursion P tokens
      → UseHolds P (behind_front rules front delimiters found tokens)
  front_holds [] delimiters found tokens h g = in_holds delimiters found tokens h g
  front_holds (wanted ∷ front) delimiters found [] h g = tt
  front_holds (wanted ∷ front) delimiters found (token ∷ more) h g =
      either (UseHolds P) (same_token wanted token) (behind_front rules front delimiters found more) (Unfit NoMatch more)
      (front_holds front delimiters found more h g.1) tt

  pub use_holds : (parameters tokens : List Token) → AllByRecursion P tokens → UseHolds P (use_of rules parameters tokens)
  use_holds parameters tokens h = front_holds (parts_of parameters).front (parts_of parameters).delimiters [] tokens tt h

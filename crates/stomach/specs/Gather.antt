-- A text as far as it is read: tokens with braces that balance (The TeXbook, page 275; tex.web 403 and 473 to 477).
use Rattle.std.specs.Prelude.{ℕ, ◌+◌, ◌-◌, Bool, true, false, ◌==◌, nat_lt, if◌then◌else◌, List, ◌∷◌, [], ◌++◌, length, Ok, Err}
use Rattle.tokens.specs.declared.cap.Cap.TheVariants.{Items}
use Rattle.tokens.specs.declared.stop.Stop.TheVariants.{Capacity}
use Rattle.tokens.specs.declared.token.Token.{Token}
use Rattle.tokens.specs.declared.token.Token.TheVariants.{Char, Active, Name, Arg, Frozen}
use Rattle.tokens.specs.Cap.{cap_limit}
use Rattle.asking.specs.Did.{Did}
use Rattle.stomach.specs.declared.state.State.{State}
use Rattle.stomach.specs.Command.{is_undefined}
use Rattle.stomach.specs.Operand.{undefined}

-- a text as far as it is read: its tokens, and how many of its braces are open
pub record Gathered : Type 0 where
  pub text : List Token
  pub open_braces : ℕ

abbrev pub gathered : List Token → ℕ → Gathered
gathered text braces = record { text = text; open_braces = braces }

-- one more token, where a list has room for it
abbrev pub gather : Token → ℕ → Gathered → State → Did State (Bool × Gathered)
gather token braces g s =
    (if nat_lt (length g.text) (cap_limit Items) then Ok ((true, gathered (g.text ++ token ∷ []) braces), s) else Err (Capacity Items, s))

-- a character: braces are counted, and the right brace without a partner ends the text
abbrev pub gather_character : ℕ → ℕ → Gathered → State → Did State (Bool × Gathered)
gather_character cat byte g s =
    if cat == 1 then gather (Char cat byte) (g.open_braces + 1) g s
    else if cat == 2 then (if g.open_braces == 0 then Ok ((false, g), s) else gather (Char cat byte) (g.open_braces - 1) g s)
    else gather (Char cat byte) g.open_braces g s

abbrev pub gather_token : Gathered → Token × State → Did State (Bool × Gathered)
gather_token g (Char cat byte, s) = gather_character cat byte g s
gather_token g (Active byte, s) = undefined (Active byte) s
gather_token g (Name id, s) = if is_undefined id.0 then undefined (Name id) s else gather (Name id) g.open_braces g s
gather_token g (Arg number, s) = gather (Arg number) g.open_braces g s
gather_token g (Frozen number, s) = gather (Frozen number) g.open_braces g s

-- What \the would put in front, as a list: \showthe tells it so (The TeXbook, pages 214 to 216 and 279; tex.web 413 to 419, 465
-- to 467 and 1297).
use Rattle.std.specs.Prelude.{◌≡◌, ℕ, pos, Bool, List, ◌==◌, if◌then◌else◌, Some, None, map, Result, Ok, Err}
use Rattle.tokens.specs.Codes.{count_code, dimen_code, skip_code, muskip_code, toks_code}
use Rattle.tokens.specs.declared.stop.Stop.{Stop}
use Rattle.tokens.specs.declared.stop.Stop.TheVariants.{OutOfMemory}
use Rattle.tokens.specs.declared.token.Token.{Token}
use Rattle.tokens.specs.declared.meaning.Meaning.{Meaning}
use Rattle.tokens.specs.declared.meaning.Meaning.TheVariants as meaning
use Rattle.tokens.specs.declared.meaning.RegKind.{RegKind}
use Rattle.tokens.specs.declared.meaning.RegKind.TheVariants.{Count, Dimen, Skip, Muskip, Box, Toks}
use Rattle.scan_nums.specs.Number.{first_number}
use Rattle.scan_nums.specs.declared.number.Number.{Number}
use Rattle.scan_nums.specs.declared.number.Number.TheVariants as number
use Rattle.asking.specs.Did.{Did}
use Rattle.asking.specs.Did as did
use Rattle.asking.specs.Meaning.{Meant, still, ◌>>=◌}
use Rattle.asking.specs.Seen.{Outside}
use Rattle.gullet.specs.declared.task.Act.TheVariants as act
use Rattle.gullet.specs.declared.task.Numerals.TheVariants.{Decimal}
use Rattle.gullet.specs.declared.task.Task.TheVariants as task
use Rattle.gullet.specs.declared.task.Told.{Told}
use Rattle.gullet.specs.declared.task.Want.{Want}
use Rattle.gullet.specs.declared.task.Want.TheVariants.{Act}
use Rattle.gullet.specs.declared.values.Shown.{Shown}
use Rattle.gullet.specs.declared.values.Shown.TheVariants as shown
use Rattle.gullet.specs.Acts.{other, digits, tell_register, tell_parameter, cant_use}
use Rattle.gullet.specs.Expansion.{outcome, outermost}
use Rattle.gullet.specs.Meanings.{taken_meaning, is_looked_at}
use Rattle.gullet.specs.State.{State}
use Rattle.gullet.specs.Unexpandable.{one_unexpandable}
use Rattle.gullet.specs.Wants.{Taken, number_told, tokens_told, quantity, is_token_parameter_code, only, shown_want, toks_want, register_list_want, parameter_list_want, the_value}

-- a name of the tables
abbrev pub shown_code : ℕ → Shown
shown_code code =
    if is_looked_at code then shown.Quantity (quantity code None)
    else if code == toks_code then shown.NumberedList
    else if is_token_parameter_code code then shown.Parameter code
    else shown.Nothing

-- a name that \countdef or one of its mates gave a register
abbrev pub shown_register : RegKind → ℕ → Shown
shown_register Count place = shown.Quantity (quantity count_code (Some place))
shown_register Dimen place = shown.Quantity (quantity dimen_code (Some place))
shown_register Skip place = shown.Quantity (quantity skip_code (Some place))
shown_register Muskip place = shown.Quantity (quantity muskip_code (Some place))
shown_register Box place = shown.Nothing
shown_register Toks place = shown.List place

-- what is shown of a token, by what it means
abbrev pub shown_of : Meaning → Shown
shown_of meaning.Undefined = shown.Nothing
shown_of (meaning.Primitive code) = shown_code code
shown_of (meaning.Macro m) = shown.Nothing
shown_of (meaning.Char cat byte) = shown.Nothing
shown_of (meaning.CharDef byte) = shown.Given (pos byte)
shown_of (meaning.MathCharDef n) = shown.Given (pos n)
shown_of (meaning.Register kind place) = shown_register kind place
shown_of (meaning.Font font) = shown.Nothing

-- the digits of a number, as tokens (tex.web 464)
abbrev pub digit_tokens : Number → List Token
digit_tokens n = map other (digits Decimal n)

abbrev pub list_told : Told × State → Did State (List Token)
list_told (tells, s) = Ok (tokens_told tells, s)

abbrev pub numbered_list : Number → State → Did State (List Token)
numbered_list n s = did.◌>>=◌ (tell_register (first_number n) s) list_told

abbrev pub value_by : Outside → Token → Shown → State → Meant State (List Token)
value_by o t (shown.Quantity q) s = outcome o outermost (task.QuantityValue q) s >>= (λ r. still (Ok (digit_tokens (number_told r.0), r.1)))
value_by o t (shown.Given n) s = still (Ok (digit_tokens (number.Int n), s))
value_by o t shown.NumberedList s = outcome o outermost task.WholeNumber s >>= (λ r. still (numbered_list (number_told r.0) r.1))
value_by o t (shown.List place) s = still (numbered_list (number.Int (pos place)) s)
value_by o t (shown.Parameter code) s = still (did.◌>>=◌ (tell_parameter code s) list_told)
value_by o t shown.Nothing s = still (did.◌>>=◌ (cant_use t s) list_told)

abbrev pub value_at : Outside → (Token × Bool) × State → Meant State (List Token)
value_at o (found, s) = value_by o found.0 (shown_of (taken_meaning s.copies found.0 found.1)) s

-- the next token that isn't expanded says what is shown
unfoldable pub value_text : Outside → State → Meant State (List Token)
value_text o s = one_unexpandable o s >>= value_at o

-- a call that answers the list that another one told
abbrev pub IsListed : Result Told Stop → Result (List Token) Stop → Type 0
IsListed (Ok tells) result = result ≡ Ok (tokens_told tells)
IsListed (Err stop) result = result ≡ Err stop

-- a call that answers a list, if there was memory for it
abbrev pub IsInMemory : {E : Type 0} → Result (List Token) E → Result (List Token) Stop → Type 0
IsInMemory (Ok list) result = result ≡ Ok list
IsInMemory (Err e) result = result ≡ Err OutOfMemory

-- ---- that it is what \the shows

-- what \the wants that stands in front of such a token
abbrev pub wanted : Bool → Token → Shown → List Taken → Want
wanted straight t (shown.Quantity q) taken = shown_want q taken
wanted straight t (shown.Given n) taken = only (Act (act.Digits Decimal (number.Int n))) taken
wanted straight t shown.NumberedList taken = toks_want straight taken
wanted straight t (shown.List place) taken = register_list_want straight (number.Int (pos place)) taken
wanted straight t (shown.Parameter code) taken = parameter_list_want straight code taken
wanted straight t shown.Nothing taken = only (Act (act.CantUse t)) taken

-- both go by the same table
pub record ValueLaw : Type 0 where
  pub same : (straight : Bool) (t : Token) (m : Meaning) (taken : List Taken) → the_value straight t m taken ≡ wanted straight t (shown_of m) taken

-- What expansion is asked for from outside besides the next token as it stands: the next one that isn't expanded, and a
-- number (The TeXbook, chapters 20 and 24; tex.web 380 and 440). Behind the end of a file it goes on, and at the end of all
-- that is to be read there is none.
use Rattle.std.specs.Prelude.{Bool, true, false, is_some, if◌then◌else◌, Option, Some, None, Ok}
use Rattle.tokens.specs.declared.token.Token.{Token}
use Rattle.tokens.specs.declared.token.Token.TheVariants.{Frozen}
use Rattle.scan_nums.specs.declared.number.Number.{Number}
use Rattle.asking.specs.Meaning.{Meant, still, ◌>>=◌}
use Rattle.asking.specs.Seen.{Outside}
use Rattle.gullet.specs.declared.task.Task.TheVariants as task
use Rattle.gullet.specs.Expansion.{outcome, outermost}
use Rattle.gullet.specs.Meanings.{meaning_of, expansion}
use Rattle.gullet.specs.State.{State}
use Rattle.gullet.specs.Unexpandable.{next_unexpandable}
use Rattle.save_groups.specs.Environments.{Copies}
use Rattle.gullet.specs.Wants.{number_told}

-- ---- with expansion

-- a token that isn't to be expanded is \relax to whoever takes it, where it would be expanded
abbrev pub as_taken : Copies → Token → Bool → Token
as_taken c t true = if is_some (expansion t (meaning_of c t)) then Frozen 0 else t
as_taken c t false = t

abbrev pub token_taken : Copies → Option (Token × Bool) → Option Token
token_taken c None = None
token_taken c (Some found) = Some (as_taken c found.0 found.1)

unfoldable pub next_expanded : Outside → State → Meant State (Option Token)
next_expanded o s = next_unexpandable o s >>= (λ r. still (Ok (token_taken r.1.copies r.0, r.1)))

-- ---- numbers

unfoldable pub take_number : Outside → State → Meant State Number
take_number o s = outcome o outermost task.WholeNumber s >>= (λ r. still (Ok (number_told r.0, r.1)))

-- \ignorespaces (The TeXbook, page 279; tex.web 406 and 1045): spaces are passed, with expansion, up to another token. That is
-- the next to be carried out, as it was taken: it stands in front again with its step paid, and where it isn't to be expanded it
-- still isn't.
use Rattle.std.specs.Prelude.{ℕ, Bool, true, false, ◌==◌, if◌then◌else◌, Some, None, Ok, Err}
use Rattle.std.proofs.Common.{zero, suc}
use Rattle.tokens.specs.declared.meaning.Meaning.{Meaning}
use Rattle.tokens.specs.declared.meaning.Meaning.TheVariants as meaning
use Rattle.tokens.specs.declared.stop.Stop.TheVariants.{OutOfMemory}
use Rattle.tokens.specs.declared.token.Token.{Token}
use Rattle.asking.specs.Did.{Did}
use Rattle.asking.specs.Meaning.{Meant, still, ◌>>=◌}
use Rattle.asking.specs.Seen.{Outside}
use Rattle.gullet.specs.Expansion.{most_turns}
use Rattle.gullet.specs.Meanings.{taken_meaning}
use Rattle.gullet.specs.State.{State}
use Rattle.gullet.specs.Unexpandable.{Flagged, next_unexpandable}
use Rattle.pending.specs.Pending.{with_back}

abbrev pub is_space : Meaning → Bool
is_space meaning.Undefined = false
is_space (meaning.Primitive code) = false
is_space (meaning.Macro m) = false
is_space (meaning.Char cat byte) = cat == 10
is_space (meaning.CharDef byte) = false
is_space (meaning.MathCharDef number) = false
is_space (meaning.Register kind number) = false
is_space (meaning.Font font) = false

-- a token stands in front again as it was taken
abbrev pub returned : Token × Bool → State → State
returned found s = record s { pending = with_back found.0 found.1 true s.pending }

-- whether it goes on
abbrev pub space_by : Flagged × State → Did State Bool
space_by (None, s) = Ok (false, s)
space_by (Some found, s) = if is_space (taken_meaning s.copies found.0 found.1) then Ok (true, s) else Ok (false, returned found s)

unfoldable pub pass_space : Outside → State → Meant State Bool
pass_space o s = next_unexpandable o s >>= (λ r. still (space_by r))

abbrev pub behind_space : (State → Meant State (Unit {0})) → Bool × State → Meant State (Unit {0})
behind_space further (true, s) = further s
behind_space further (false, s) = still (Ok (tt, s))

-- so many tokens are looked at
unfoldable pub pass_spaces : Outside → ℕ → State → Meant State (Unit {0})
pass_spaces o zero s = still (Err (OutOfMemory, s))
pass_spaces o (suc looks) s = pass_space o s >>= behind_space (pass_spaces o looks)

-- looks are counted as turns are
unfoldable pub ignore_spaces : Outside → State → Meant State (Unit {0})
ignore_spaces o s = pass_spaces o most_turns s

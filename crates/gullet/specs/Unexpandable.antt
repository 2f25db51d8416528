-- The next token that isn't expanded, with its flag: whether it isn't to be expanded, where it would be (The TeXbook, page
-- 214; tex.web 358 and 380). Whoever puts it back needs the token itself. Behind the end of a file it goes on, and at the end
-- of all that is to be read there is none.
use Rattle.std.specs.Prelude.{ℕ, Bool, Option, Some, None, Ok, Err}
use Rattle.std.proofs.Common.{zero, suc}
use Rattle.tokens.specs.declared.kind.Kind.TheVariants.{NoEnd}
use Rattle.tokens.specs.declared.stop.Stop.TheVariants.{Trouble, OutOfMemory}
use Rattle.tokens.specs.declared.token.Token.{Token}
use Rattle.pending.specs.declared.pending.Event.{Event}
use Rattle.pending.specs.declared.pending.Event.TheVariants as event
use Rattle.asking.specs.Meaning.{Meant, still, ◌>>=◌}
use Rattle.asking.specs.Seen.{Outside}
use Rattle.gullet.specs.declared.task.Task.{Task}
use Rattle.gullet.specs.declared.unexpandable.Sought.{Sought}
use Rattle.gullet.specs.declared.unexpandable.Sought.TheVariants as sought
use Rattle.gullet.specs.Events.{take_event}
use Rattle.gullet.specs.Expansion.{outcome, outermost, most_turns}
use Rattle.gullet.specs.Meanings.{taken_meaning, expansion}
use Rattle.gullet.specs.RawToken.{some_token}
use Rattle.gullet.specs.State.{State}

-- a token with its flag, if one came
abbrev pub Flagged : Type 0
Flagged = Option (Token × Bool)

-- an expansion is read, and what it puts in front is looked at
abbrev pub expanded : Outside → Task → State → Meant State Sought
expanded o inner s = outcome o outermost inner s >>= (λ r. still (Ok (sought.Again, r.1)))

abbrev pub by_expansion : Outside → Token × Bool → Option Task → State → Meant State Sought
by_expansion o seen None s = still (Ok (sought.Token seen.0 seen.1, s))
by_expansion o seen (Some inner) s = expanded o inner s

-- by what comes next
abbrev pub by_sight : Outside → Event × State → Meant State Sought
by_sight o (event.Token t noexpand, s) = by_expansion o (t, noexpand) (expansion t (taken_meaning s.copies t noexpand)) s
by_sight o (event.Eof, s) = still (Ok (sought.Again, s))
by_sight o (event.SourceEnd printed, s) = still (Ok (sought.Again, s))
by_sight o (event.Empty, s) = still (Ok (sought.Nothing, s))

-- one look at what comes next
unfoldable pub seek_once : Outside → State → Meant State Sought
seek_once o s = still (take_event s) >>= by_sight o

abbrev pub behind_look : (State → Meant State Flagged) → Sought × State → Meant State Flagged
behind_look further (sought.Again, s) = further s
behind_look further (sought.Token t noexpand, s) = still (Ok (Some (t, noexpand), s))
behind_look further (sought.Nothing, s) = still (Ok (None, s))

-- the next token that isn't expanded, in so many looks
unfoldable pub seek : Outside → ℕ → State → Meant State Flagged
seek o zero s = still (Err (OutOfMemory, s))
seek o (suc looks) s = seek_once o s >>= behind_look (seek o looks)

-- looks are counted as turns are
unfoldable pub next_unexpandable : Outside → State → Meant State Flagged
next_unexpandable o s = seek o most_turns s

-- where nothing is left, the run ends without \end
unfoldable pub one_unexpandable : Outside → State → Meant State (Token × Bool)
one_unexpandable o s = next_unexpandable o s >>= (λ r. still (some_token r))

-- Expansion, by recursion over phrases (The TeXbook, chapters 20 and 24). A phrase takes what it wants: the next token as
-- it stands; or the next one that isn't expanded, in front of which each expandable token is replaced by its expansion,
-- which is a phrase of its own; or something that is done; or an inner phrase, which is read first. In the end it tells a
-- value. How many phrases are unfinished is counted, and the 10,001st ends the run.
use Rattle.std.specs.Prelude.{ℕ, ◌+◌, ◌-◌, ◌^◌, ◌&&◌, nat_le, Bool, true, false, if◌then◌else◌, List, [], ◌∷◌, Option, Some, None, Ok, Err}
use Rattle.tokens.specs.declared.cap.Cap.TheVariants.{Frames}
use Rattle.tokens.specs.declared.kind.Kind.TheVariants.{FileEnded, ForbiddenOuter, NoEnd}
use Rattle.tokens.specs.declared.stop.Stop.TheVariants.{Trouble, Capacity}
use Rattle.tokens.specs.declared.token.Token.{Token}
use Rattle.tokens.specs.declared.token.Token.TheVariants as token
use Rattle.tokens.specs.declared.meaning.Meaning.{Meaning}
use Rattle.tokens.specs.Names.{name_at}
use Rattle.tokens.specs.TokenText.{token_shown}
use Rattle.pending.specs.declared.pending.Event.{Event}
use Rattle.pending.specs.declared.pending.Event.TheVariants as event
use Rattle.asking.specs.Did.{Did}
use Rattle.asking.specs.Did as did
use Rattle.asking.specs.Meaning.{Meant, still, ◌>>=◌}
use Rattle.asking.specs.Seen.{Outside}
use Rattle.phrases.specs.Phrases.{Found, More, Again, Inner, Aside, Ends, Rules, gives, begun}
use Rattle.gullet.specs.declared.context.Context.{Context}
use Rattle.gullet.specs.declared.task.Task.{Task}
use Rattle.gullet.specs.declared.task.Task.TheVariants as task
use Rattle.gullet.specs.declared.task.Told.{Told}
use Rattle.gullet.specs.declared.task.Want.{Want}
use Rattle.gullet.specs.declared.task.Want.TheVariants as want
use Rattle.gullet.specs.Acts.{perform, with_some}
use Rattle.gullet.specs.Events.{take_event}
use Rattle.gullet.specs.Meanings.{taken_meaning, expansion, is_outer}
use Rattle.gullet.specs.Parameters.{escape}
use Rattle.gullet.specs.State.{State}
use Rattle.gullet.specs.Wants.{Taken, Tok, Got, Was, wants}

-- ---- what stands around a phrase

-- the phrases of which 10,000 may be unfinished: numbers, texts, names that are built, and conditions that are decided
abbrev pub is_counted : Task → Bool
is_counted task.WholeNumber = true
is_counted (task.QuantityValue q) = false
is_counted (task.Undefined t) = false
is_counted (task.Call name called) = false
is_counted task.ExpandAfter = false
is_counted (task.The straight) = false
is_counted (task.NumberText numerals) = false
is_counted (task.If asks) = true
is_counted (task.PassOver sought) = false
is_counted (task.BranchEnd t word) = false
is_counted task.NameText = true
is_counted (task.Input t) = false
is_counted task.FileName = false
is_counted (task.Text expanded) = true
is_counted (task.Definition expanded) = true
is_counted (task.Simple thing) = false

abbrev pub is_file_name : Task → Bool
is_file_name task.WholeNumber = false
is_file_name (task.QuantityValue q) = false
is_file_name (task.Undefined t) = false
is_file_name (task.Call name called) = false
is_file_name task.ExpandAfter = false
is_file_name (task.The straight) = false
is_file_name (task.NumberText numerals) = false
is_file_name (task.If asks) = false
is_file_name (task.PassOver sought) = false
is_file_name (task.BranchEnd t word) = false
is_file_name task.NameText = false
is_file_name (task.Input t) = false
is_file_name task.FileName = true
is_file_name (task.Text expanded) = false
is_file_name (task.Definition expanded) = false
is_file_name (task.Simple thing) = false

-- in the arguments of a macro, in a definition, in a text and in one that is passed over no file may end, and no outer macro may stand (The
-- TeXbook, page 206; tex.web 336)
abbrev pub is_closed : Task → Bool
is_closed task.WholeNumber = false
is_closed (task.QuantityValue q) = false
is_closed (task.Undefined t) = false
is_closed (task.Call name called) = true
is_closed task.ExpandAfter = false
is_closed (task.The straight) = false
is_closed (task.NumberText numerals) = false
is_closed (task.If asks) = false
is_closed (task.PassOver sought) = true
is_closed (task.BranchEnd t word) = false
is_closed task.NameText = false
is_closed (task.Input t) = false
is_closed task.FileName = false
is_closed (task.Text expanded) = true
is_closed (task.Definition expanded) = true
is_closed (task.Simple thing) = false

-- nothing stands around
abbrev pub outermost : Context
outermost = record { depth = 0; naming = false; closed = false }

abbrev pub or_flag : Bool → Bool → Bool
or_flag true b = true
or_flag false b = b

abbrev pub inside : Context → Task → Context
inside c kind = record {
  depth = if is_counted kind then c.depth + 1 else c.depth;
  naming = or_flag (is_file_name kind) c.naming;
  closed = or_flag (is_closed kind) c.closed;
}

-- whether one phrase more would be too many
abbrev pub is_full : Context → Task → Bool
is_full c kind = is_counted kind && nat_le 10000 c.depth

-- ---- one turn

abbrev pub Turned : Type 0
Turned = Found Task Taken Told

-- an outer macro that may not stand here
abbrev pub is_forbidden : Context → Meaning → Bool
is_forbidden c m = c.closed && is_outer m

abbrev pub forbidden : {A : Type 0} → Token → State → Did State A
forbidden t s = Err (Trouble (ForbiddenOuter (token_shown s.names (escape s.copies) t)), s)

-- a token as it stands
unfoldable pub raw_found : Context → Token → Meaning → State → Did State Turned
raw_found c t m s = if is_forbidden c m then forbidden t s else Ok (More (Tok t m), s)

-- a token that may be expanded: its expansion is read first, and the phrase goes on with what stands there then
abbrev pub aside_by : Context → Token → Meaning → State → Option Task → Did State Turned
aside_by c t m s None = Ok (More (Tok t m), s)
aside_by c t m s (Some inner) = Ok (Aside inner, s)

unfoldable pub expanded_found : Context → Token → Meaning → State → Did State Turned
expanded_found c t m s = if is_forbidden c m then forbidden t s else aside_by c t m s (expansion t m)

-- a name of one byte stands for its character (tex.web 442)
abbrev pub character_by : Token → List ℕ → Token
character_by t [] = t
character_by t (byte ∷ []) = token.Char 12 byte
character_by t (byte ∷ next ∷ rest) = t

abbrev pub character_of : List (List ℕ) → Token → Token
character_of names (token.Char cat byte) = token.Char cat byte
character_of names (token.Active byte) = token.Active byte
character_of names (token.Name id) = character_by (token.Name id) (name_at names id.0)
character_of names (token.Arg n) = token.Arg n
character_of names (token.Frozen n) = token.Frozen n

unfoldable pub character_found : Context → Token → Meaning → State → Did State Turned
character_found c t m s = raw_found c (character_of s.names t) m s

-- at the end of a file the phrase goes on behind it, where one may end there
abbrev pub behind_source : Context → Bool → State → Did State Turned
behind_source c true s = if c.closed then Err (Trouble FileEnded, s) else Ok (Again, s)
behind_source c false s = Ok (Again, s)

-- by what comes next. Where nothing is left in a phrase, the run ends without \end
abbrev pub by_event : Context → (Token → Meaning → State → Did State Turned) → Event × State → Did State Turned
by_event c finding (event.Token t noexpand, s) = finding t (taken_meaning s.copies t noexpand) s
by_event c finding (event.Eof, s) = Ok (Again, s)
by_event c finding (event.SourceEnd printed, s) = behind_source c printed s
by_event c finding (event.Empty, s) = Err (Trouble NoEnd, s)

unfoldable pub next_found : Context → (Token → Meaning → State → Did State Turned) → State → Did State Turned
next_found c finding s = did.◌>>=◌ (take_event s) (by_event c finding)

-- what was done tells something
abbrev pub got : Told × State → Meant State Turned
got r = still (Ok (More (Was r.0), r.1))

-- by what the phrase wants
unfoldable pub by_want : Outside → Context → State → Want → Meant State Turned
by_want o c s want.Raw = still (next_found c (raw_found c) s)
by_want o c s want.Expanded = still (next_found c (expanded_found c) s)
by_want o c s want.Character = still (next_found c (character_found c) s)
by_want o c s (want.Act act) = perform o act s >>= got
by_want o c s (want.Inner inner) = still (Ok (Inner inner, s))
by_want o c s (want.Gives told back) = still (Ok (Ends told, with_some back s))
by_want o c s (want.Wrong kind) = still (Err (Trouble kind, s))

-- ---- the recursion

abbrev pub begin : Context → Task → State → Did State Context
begin c kind s = if is_full c kind then Err (Capacity Frames, s) else Ok (inside c kind, s)

-- a turn of a phrase takes what it wants; an inner phrase begins where it isn't one too many
abbrev pub rules : Outside → Rules State Context Task Taken Told
rules o = record {
  turn = λ c kind taken s. by_want o c s (wants c kind taken);
  inside = begin;
  got = Got;
}

-- so many turns are counted as a number of 64 bits counts
unfoldable pub most_turns : ℕ
most_turns = 2 ^ 64 - 1

-- what a phrase comes to that begins here
unfoldable pub outcome : Outside → Context → Task → State → Meant State Told
outcome o c kind s = begun (rules o) (gives (rules o) most_turns) c kind s

-- One turn of a run: the next token is taken, and what it does is done (The TeXbook, chapter 24;
-- tex.web 1030 and 1045). A turn tells whether the run goes on.
use Rattle.std.specs.Prelude.{Bool, true, false, if◌then◌else◌, Ok, codes}
use Rattle.tokens.specs.declared.token.Token.{Token}
use Rattle.asking.specs.Meaning.{Meant, still, ◌>>=◌}
use Rattle.asking.specs.Seen.{Outside}
use Rattle.stomach.specs.declared.command.Command.{Command}
use Rattle.stomach.specs.declared.command.Command.TheVariants.{Space, Relax, Par, End, Catcode, Message, Input, Undefined, Character}
use Rattle.stomach.specs.declared.pending.Event.{Event}
use Rattle.stomach.specs.declared.pending.Event.TheVariants.{Token as TokenEvent, FileEnd}
use Rattle.stomach.specs.declared.state.State.{State}
use Rattle.stomach.specs.Catcode.{catcode}
use Rattle.stomach.specs.Command.{command_of}
use Rattle.stomach.specs.Input.{input, first_input}
use Rattle.stomach.specs.Message.{message}
use Rattle.stomach.specs.Operand.{take, file_passed, undefined, left_out}

-- the run goes on
abbrev pub goes_on : (Unit {0}) × State → Meant State Bool
goes_on d = still (Ok (true, d.1))

-- a command, by what its token does
abbrev pub executed : Outside → Token → State → Command → Meant State Bool
executed o token s Space = still (Ok (true, s))
executed o token s Relax = still (Ok (true, s))
executed o token s Par = still (Ok (true, s))
executed o token s End = still (Ok (false, s))
executed o token s Catcode = catcode o s >>= goes_on
executed o token s Message = message o s >>= goes_on
executed o token s Input = input o s >>= goes_on
executed o token s Undefined = still (undefined token s)
executed o token s Character = still (left_out (codes "character") s)

abbrev pub by_event : Outside → Event × State → Meant State Bool
by_event o (TokenEvent token, s) = executed o token s (command_of token)
by_event o (FileEnd, s) = still (Ok (true, file_passed s))

-- a turn that takes what comes next
unfoldable pub plain_turn : Outside → State → Meant State Bool
plain_turn o s = still (take s) >>= by_event o

-- a turn: at first the file is opened that the first line names
unfoldable pub turn : Outside → State → Meant State Bool
turn o s = (if s.names_file then first_input o s >>= goes_on else plain_turn o s)

-- All that is still to be read, as one list, and what comes next of it (The TeXbook, chapter 20; tex.web,
-- part 22). There is no stack of lists: what is put in front stands in front.
use Rattle.std.specs.Prelude.{ℕ, ℤ, ◌+◌, ◌*◌, Bool, true, false, if◌then◌else◌, List, [], ◌∷◌, Option, Some, None, Ok, Err, count_by}
use Rattle.tokens.specs.Budget.{Allowance, is_spent, after_step}
use Rattle.tokens.specs.declared.kind.Kind.TheVariants.{NoEnd}
use Rattle.tokens.specs.declared.stop.Stop.TheVariants.{Trouble, Spent}
use Rattle.tokens.specs.declared.token.Token.{Token}
use Rattle.asking.specs.Did.{Did}
use Rattle.stomach.specs.declared.pending.Event.{Event}
use Rattle.stomach.specs.declared.pending.Event.TheVariants.{Token as TokenEvent, FileEnd}
use Rattle.stomach.specs.declared.pending.Item.{Item}
use Rattle.stomach.specs.declared.pending.Item.TheVariants.{Back, Inserted, From}
use Rattle.world.specs.Output.{Output}
use Rattle.stomach.specs.Report.{shown}
use Rattle.stomach.specs.Take.{Looking, token_from, line_behind_word}

-- what taking looks at and changes
pub record Reading : Type 0 where
  pub pending : List Item
  pub names : List (List ℕ)
  pub budget : Allowance

-- the lines of a source are used up. The first line's end ends the run: no `\end` was found
abbrev pub source_over : Bool → Reading → Did Reading Event
source_over true r = Ok (FileEnd, r)
source_over false r = Err (Trouble NoEnd, r)

abbrev pub by_token : Bool → List Item → Did Looking (Option Token) → Did Reading Event
by_token is_file rest (Ok (Some token, r)) =
    Ok (TokenEvent token, record { pending = From (record { eye = r.eye; is_file = is_file }) ∷ rest; names = r.names; budget = r.budget })
by_token is_file rest (Ok (None, r)) =
    source_over is_file (record { pending = rest; names = r.names; budget = r.budget })
by_token is_file rest (Err (stop, r)) =
    Err (stop, record { pending = From (record { eye = r.eye; is_file = is_file }) ∷ rest; names = r.names; budget = r.budget })

-- a token that was put back is paid for; one that was inserted takes a step
abbrev pub event_of : List ℕ → ℤ → List Item → Reading → Did Reading Event
event_of cats endline [] r = Err (Trouble NoEnd, r)
event_of cats endline (Back token ∷ rest) r = Ok (TokenEvent token, record r { pending = rest })
event_of cats endline (Inserted token ∷ rest) r =
    (if is_spent r.budget then Err (Spent, r) else Ok (TokenEvent token, record r { pending = rest; budget = after_step r.budget }))
event_of cats endline (From source ∷ rest) r =
    by_token source.is_file rest (token_from cats endline (record { eye = source.eye; names = r.names; budget = r.budget }))

-- what comes next of all that is still to be read: a token, or the end of a file
abbrev pub next_event : List ℕ → ℤ → Reading → Did Reading Event
next_event cats endline r = event_of cats endline r.pending r

-- the source stays where it is
abbrev pub with_source : Bool → List Item → Did Looking (Unit {0}) → Did Reading (Unit {0})
with_source is_file rest (Ok (none, r)) =
    Ok (tt, record { pending = From (record { eye = r.eye; is_file = is_file }) ∷ rest; names = r.names; budget = r.budget })
with_source is_file rest (Err (stop, r)) =
    Err (stop, record { pending = From (record { eye = r.eye; is_file = is_file }) ∷ rest; names = r.names; budget = r.budget })

abbrev pub begun_by : ℤ → List Item → Reading → Did Reading (Unit {0})
begun_by endline [] r = Ok (tt, r)
begun_by endline (Back token ∷ rest) r = Ok (tt, r)
begun_by endline (Inserted token ∷ rest) r = Ok (tt, r)
begun_by endline (From source ∷ rest) r =
    with_source source.is_file rest (line_behind_word endline (record { eye = source.eye; names = r.names; budget = r.budget }))

-- the next line of the innermost source is taken, as if a word stood in front of it
abbrev pub begun_behind_word : ℤ → Reading → Did Reading (Unit {0})
begun_behind_word endline r = begun_by endline r.pending r

abbrev pub reading : List Item → List (List ℕ) → Allowance → Reading
reading pending names budget = record { pending = pending; names = names; budget = budget }

-- whether lines of an opened file are still to be read
abbrev pub is_open_file : Item → Bool
is_open_file (Back token) = false
is_open_file (Inserted token) = false
is_open_file (From source) = source.is_file

-- how many files are open
abbrev pub open_files : List Item → ℕ
open_files pending = count_by is_open_file pending

-- how much of what is pending can be taken without a step. A token that was put back counts three, so that it is
-- worth more than a source's end, and one less directly behind an inserted one, so that less is left where a token
-- is put back behind an inserted one
abbrev pub work_behind : Bool → List Item → ℕ
work_behind inserted [] = 0
work_behind inserted (Back token ∷ rest) = (if inserted then 2 else 3) + work_behind false rest
work_behind inserted (Inserted token ∷ rest) = work_behind true rest
work_behind inserted (From source ∷ rest) = 1 + work_behind false rest

abbrev pub pending_work : List Item → ℕ
pending_work pending = work_behind false pending

-- how much can still be taken
abbrev pub reading_work : Reading → ℕ
reading_work r = 4 * r.budget.left + pending_work r.pending

-- how much less can be taken behind what was taken, at least
abbrev pub worth : Event → ℕ
worth (TokenEvent token) = 3
worth FileEnd = 1

-- at \end each file that is still open is closed
abbrev pub closed : Bool → Output → Output
closed true o = shown (32 ∷ 41 ∷ []) o
closed false o = o

abbrev pub files_closed : List Item → Output → Output
files_closed [] o = o
files_closed (Back token ∷ rest) o = files_closed rest o
files_closed (Inserted token ∷ rest) o = files_closed rest o
files_closed (From source ∷ rest) o = files_closed rest (closed source.is_file o)

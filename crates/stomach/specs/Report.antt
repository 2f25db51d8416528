-- What is printed of a run besides its messages: files that are opened and closed, and its ending
-- (tex.web 537, 1280, 1333 to 1335).
use Rattle.std.specs.Prelude.{ℕ, ◌+◌, ◌||◌, not, ◌==◌, nat_lt, if◌then◌else◌, List, [], ◌∷◌, length, codes}
use Rattle.world.specs.declared.target.Target.TheVariants.{Both}
use Rattle.world.specs.Output.{Output, after_print, after_end_line, after_fresh_line}
use Rattle.stomach.specs.StartValues.{new_line_character}

-- bytes on terminal and log
abbrev pub shown : List ℕ → Output → Output
shown bytes o = after_print Both bytes new_line_character o

-- room for a text of some bytes: where it would pass column 77 of the terminal the line is ended; else a
-- space stands in front of it, unless terminal and log are at the beginning of a line
abbrev pub with_gap : ℕ → Output → Output
with_gap size o =
    if nat_lt 77 (o.terminal + size) then after_end_line Both o
    else if not (o.terminal == 0) || not (o.log == 0) then shown (32 ∷ []) o
    else o

-- a text with room in front of it
abbrev pub spaced : List ℕ → Output → Output
spaced text o = shown text (with_gap (length text) o)

-- a file is opened
abbrev pub file_begun : List ℕ → Output → Output
file_begun name o = shown (40 ∷ name) (with_gap (length name) o)

-- a file's lines are used up
abbrev pub file_over : Output → Output
file_over o = shown (41 ∷ []) o

-- a run is ended early, for a reason that is told
abbrev pub told_why : List ℕ → Output → Output
told_why reason o = shown (codes ".") (shown reason (shown (codes "! ") (after_fresh_line Both o)))

unfoldable pub no_pages : List ℕ
no_pages = codes "No pages of output."

-- the last line of a run without pages
abbrev pub without_pages : Output → Output
without_pages o = after_end_line Both (shown no_pages (after_fresh_line Both o))

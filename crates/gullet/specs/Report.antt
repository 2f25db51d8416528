-- What expansion prints: files that are opened and closed, and troubles that are passed over (tex.web 73, 362 and 537).
use Rattle.std.specs.Prelude.{ℕ, ℤ, ◌+◌, ◌||◌, not, ◌==◌, nat_lt, if◌then◌else◌, List, [], ◌∷◌, length, codes}
use Rattle.world.specs.declared.target.Target.TheVariants.{Both}
use Rattle.world.specs.Output.{Output, after_print, after_end_line, after_fresh_line}

-- bytes on terminal and log, by `\newlinechar`
abbrev pub shown : List ℕ → ℤ → Output → Output
shown bytes newline o = after_print Both bytes newline o

-- room for a text of some bytes: where it would pass column 77 of the terminal the line is ended; else a
-- space stands in front of it, unless terminal and log are at the beginning of a line
abbrev pub with_gap : ℕ → ℤ → Output → Output
with_gap size newline o =
    if nat_lt 77 (o.terminal + size) then after_end_line Both o
    else if not (o.terminal == 0) || not (o.log == 0) then shown (32 ∷ []) newline o
    else o

-- a file is opened
unfoldable pub file_begun : List ℕ → ℤ → Output → Output
file_begun name newline o = shown name newline (shown (40 ∷ []) newline (with_gap (length name) newline o))

-- a file's lines are used up
unfoldable pub file_over : ℤ → Output → Output
file_over newline o = shown (41 ∷ []) newline o

-- a trouble is passed over: its text stands on a line of its own
unfoldable pub trouble_told : List ℕ → ℤ → Output → Output
trouble_told text newline o =
    after_end_line Both (shown (codes ".") newline (shown text newline (shown (codes "! ") newline (after_fresh_line Both o))))

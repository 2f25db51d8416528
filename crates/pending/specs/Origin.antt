-- Where sources come from, and the numbers of their lines.
use Rattle.std.specs.Prelude.{ℕ, ◌+◌, Bool, true, false, List, [], ◌∷◌, min}
use Rattle.std.proofs.Common.{suc}
use Rattle.catcode_eye.specs.Outlook.{Outlook}
use Rattle.pending.specs.declared.source.Origin.{Origin}
use Rattle.pending.specs.declared.source.Origin.TheVariants.{FirstLine, File, Pseudo}
use Rattle.pending.specs.declared.source.Source.{Source}

-- whether a source counts as an open input, and as an open file
abbrev pub is_input : Origin → Bool
is_input FirstLine = false
is_input File = true
is_input Pseudo = true

abbrev pub is_file : Origin → Bool
is_file FirstLine = false
is_file File = true
is_file Pseudo = false

-- the number of one line more, up to the last number of 32 bits
abbrev pub next_number : ℕ → ℕ
next_number line = min (line + 1) 4294967295

-- a source whose next line is taken: what the eye has then before it
abbrev pub with_line_taken : Outlook → Source → Source
with_line_taken eye source =
    record { eye = eye; origin = source.origin; line = next_number source.line; is_ending = source.is_ending }

-- the number of the line that is read: 0 on the first line of a run
abbrev pub shown_line : Origin → ℕ → ℕ
shown_line FirstLine line = 0
shown_line File line = line
shown_line Pseudo line = line

abbrev pub counted : Bool → ℕ → ℕ
counted true n = suc n
counted false n = n

-- how many of some sources come from such an origin
abbrev pub count_from : (Origin → Bool) → List Source → ℕ
count_from is_counted [] = 0
count_from is_counted (source ∷ sources) = counted (is_counted source.origin) (count_from is_counted sources)

-- What an eye has before it, and what its calls do to that (The TeXbook, chapter 8; tex.web, part 24).
use Rattle.std.specs.Prelude.{ℕ, ℤ, Bool, true, false, nat_lt, List, [], ◌∷◌, length, Result, Ok, Err}
use Rattle.tokens.specs.declared.cap.Cap.TheVariants.{Line}
use Rattle.tokens.specs.declared.stop.Stop.{Stop}
use Rattle.tokens.specs.declared.stop.Stop.TheVariants.{Capacity}
use Rattle.catcode_eye.specs.declared.seen.Seen.{Seen}
use Rattle.catcode_eye.specs.declared.seen.State.{State}
use Rattle.catcode_eye.specs.declared.seen.State.TheVariants.{NewLine, SkipBlanks}
use Rattle.catcode_eye.specs.Lines.{taken}
use Rattle.catcode_eye.specs.Seen.{Sight, sight, shows_nothing}

-- the lines that were not taken yet, the rest of the line that was taken last, and the state
pub record Outlook : Type 0 where
  pub unread : List (List ℕ)
  pub rest : List ℕ
  pub state : State

-- before the first line is taken
abbrev pub before_lines : List (List ℕ) → Outlook
before_lines lines = record { unread = lines; rest = []; state = NewLine }

-- whether a line is left
abbrev pub has_line : List (List ℕ) → Bool
has_line [] = false
has_line (line ∷ lines) = true

-- with a line taken: what was left of the line before is dropped, and the state is that of a new line
abbrev pub with_line : ℤ → List ℕ → List (List ℕ) → Bool → Result (Bool × Outlook) Stop
with_line endline line lines true = Err (Capacity Line)
with_line endline line lines false =
    Ok (true, record { unread = lines; rest = taken endline line; state = NewLine })

abbrev pub next_line_of : ℤ → Outlook → List (List ℕ) → Result (Bool × Outlook) Stop
next_line_of endline eye [] = Ok (false, eye)
next_line_of endline eye (line ∷ lines) = with_line endline line lines (nat_lt 65535 (length line))

-- the next line, taken while `\endlinechar` is `endline`: whether there was one, and what the eye has then
-- before it. A line of more than 65535 bytes is too long.
abbrev pub next_line : ℤ → Outlook → Result (Bool × Outlook) Stop
next_line endline eye = next_line_of endline eye eye.unread

abbrev pub with_sight : Outlook → Result Sight Stop → Result (Seen × Outlook) Stop
with_sight eye (Ok sight) = Ok (sight.seen, record { unread = eye.unread; rest = sight.rest; state = sight.state })
with_sight eye (Err stop) = Err stop

-- the next thing that is seen, and what the eye has then before it
abbrev pub next_seen : List ℕ → Outlook → Result (Seen × Outlook) Stop
next_seen cats eye = with_sight eye (sight cats eye.state eye.rest)

-- whether nothing is left to be seen in the line
abbrev pub is_line_finished : List ℕ → Outlook → Bool
is_line_finished cats eye = shows_nothing (sight cats eye.state eye.rest)

-- with the rest of the line dropped
abbrev pub without_rest : Outlook → Outlook
without_rest eye = record { unread = eye.unread; rest = []; state = eye.state }

-- as behind a word, where blanks are skipped
abbrev pub behind_word : Outlook → Outlook
behind_word eye = record { unread = eye.unread; rest = eye.rest; state = SkipBlanks }

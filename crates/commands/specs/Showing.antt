-- \show and \showthe (The TeXbook, page 279; tex.web 1293, 1294 and 1297).
use Rattle.std.specs.Prelude.{ℕ, ℤ, Bool, true, false, List, ◌++◌, codes, if◌then◌else◌, Ok}
use Rattle.tokens.specs.declared.meaning.Meaning.{Meaning}
use Rattle.tokens.specs.declared.token.Token.{Token}
use Rattle.tokens.specs.TokenText.{meaning_head, meaning_tail, has_tail}
use Rattle.asking.specs.Did.{Did, ◌>>=◌}
use Rattle.asking.specs.Meaning.{Meant, still}
use Rattle.asking.specs.Meaning as meant
use Rattle.asking.specs.Seen.{Outside}
use Rattle.world.specs.declared.target.Target.TheVariants.{Both}
use Rattle.world.specs.Output.{Output, after_end_line, after_fresh_line}
use Rattle.gullet.specs.Acts.{string_text}
use Rattle.gullet.specs.FontText.{font_shown}
use Rattle.gullet.specs.Meanings.{taken_meaning}
use Rattle.gullet.specs.Parameters.{new_line, escape, categories}
use Rattle.gullet.specs.RawToken.{one_token}
use Rattle.gullet.specs.Report.{shown}
use Rattle.gullet.specs.State.{State}
use Rattle.gullet.specs.ValueText.{value_text}
use Rattle.commands.specs.Messages.{text_of}

-- the token, an equals sign, and its meaning up to its colon, if that has one
abbrev pub line_of : State → Token → Meaning → List ℕ
line_of s t m =
    codes "> " ++ string_text s.names (escape s.copies) t ++ codes "=" ++ meaning_head (escape s.copies) (font_shown m s.facts) m

-- what stands behind the colon begins a line
abbrev pub tail_of : State → Meaning → List ℕ
tail_of s m = meaning_tail s.names (categories s.copies) (escape s.copies) (font_shown m s.facts) m

abbrev pub with_tail : Bool → List ℕ → ℤ → Output → Output
with_tail true text newline o = shown text newline (after_end_line Both o)
with_tail false text newline o = o

-- a meaning is told on lines of its own
abbrev pub meaning_told : List ℕ → Bool → List ℕ → ℤ → Output → Output
meaning_told line has tail newline o =
    after_end_line Both (shown (codes ".") newline (with_tail has tail newline (shown line newline (after_fresh_line Both o))))

abbrev pub show_by : Token → Meaning → State → State
show_by t m s = record s { out = meaning_told (line_of s t m) (has_tail m) (tail_of s m) (new_line s.copies) s.out }

abbrev pub show_raw : (Token × Bool) × State → Did State (Unit {0})
show_raw (raw, s) = Ok (tt, show_by raw.0 (taken_meaning s.copies raw.0 raw.1) s)

unfoldable pub show : State → Did State (Unit {0})
show s = one_token s >>= show_raw

-- ---- \showthe

-- a text is told on a line of its own
abbrev pub text_told : List ℕ → ℤ → Output → Output
text_told text newline o =
    after_end_line Both (shown (codes ".") newline (shown text newline (shown (codes "> ") newline (after_fresh_line Both o))))

-- what \the would put in front, as the text of a list
abbrev pub list_told : List Token × State → Did State (Unit {0})
list_told (list, s) = Ok (tt, record s { out = text_told (text_of list s) (new_line s.copies) s.out })

unfoldable pub show_the : Outside → State → Meant State (Unit {0})
show_the o s = meant.◌>>=◌ (value_text o s) (λ r. still (list_told r))

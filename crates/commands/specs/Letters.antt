-- \uppercase and \lowercase (The TeXbook, page 41; tex.web 1285 to 1289).
use Rattle.std.specs.Prelude.{ℕ, ℤ, pos, negsuc, Bool, ◌==◌, nat_le, if◌then◌else◌, List, map, Ok}
use Rattle.tokens.specs.declared.token.Token.{Token}
use Rattle.tokens.specs.declared.token.Token.TheVariants as token
use Rattle.asking.specs.Did.{Did}
use Rattle.asking.specs.Meaning.{Meant, still, ◌>>=◌}
use Rattle.asking.specs.Seen.{Outside}
use Rattle.pending.specs.Pending.{with_list}
use Rattle.save_groups.specs.declared.key.Key.TheVariants as key
use Rattle.save_groups.specs.Environments.{Copies}
use Rattle.gullet.specs.Parameters.{number_at}
use Rattle.gullet.specs.State.{State}
use Rattle.gullet.specs.Texts.{take_general_text}
use Rattle.commands.specs.declared.letters.LetterCase.{LetterCase}
use Rattle.commands.specs.declared.letters.LetterCase.TheVariants as case

-- the table of codes, as the environments number them
abbrev pub table_of : LetterCase → ℕ
table_of case.Lower = 1
table_of case.Upper = 2

-- the byte that a code gives for a byte: 0 leaves it
abbrev pub byte_by : ℤ → ℕ → ℕ
byte_by (pos code) byte = if code == 0 then byte else if nat_le code 255 then code else byte
byte_by (negsuc n) byte = byte

abbrev pub changed_byte : Copies → LetterCase → ℕ → ℕ
changed_byte c case byte = byte_by (number_at c (key.Code (table_of case) byte)) byte

-- characters change their byte and keep their category; names stay
abbrev pub changed : Copies → LetterCase → Token → Token
changed c case (token.Char cat byte) = token.Char cat (changed_byte c case byte)
changed c case (token.Active byte) = token.Active (changed_byte c case byte)
changed c case (token.Name id) = token.Name id
changed c case (token.Arg number) = token.Arg number
changed c case (token.Frozen number) = token.Frozen number

-- the text stands in front, as new tokens
abbrev pub with_changed : LetterCase → List Token × State → Did State (Unit {0})
with_changed case (text, s) = Ok (tt, record s { pending = with_list (map (changed s.copies case) text) s.pending })

unfoldable pub change_case : Outside → LetterCase → State → Meant State (Unit {0})
change_case o case s = take_general_text o s >>= (λ r. still (with_changed case r))

-- What printed bytes look like on the terminal and in the log, as a strip: the bytes that appear
-- there, and the column after them (tex.web 48, 54 to 60).
use Rattle.std.specs.Prelude.{◌≡◌, ℕ, ℤ, pos, negsuc, ◌+◌, ◌/◌, ◌%◌, Bool, false, nat_lt, nat_le, not, ◌&&◌, ◌==◌, if◌then◌else◌, List, [], ◌∷◌, ◌++◌, refl}
use Rattle.std.proofs.Common.{ap, sym, ◌∙◌, append_assoc}

pub record Strip : Type 0 where
  pub bytes : List ℕ
  pub column : ℕ

-- the last column of a line: after the byte that stands there, the 79th, the line ends
abbrev pub last_column : ℕ
last_column = 78

-- a line feed
abbrev pub line_feed : ℕ
line_feed = 10

-- no bytes
abbrev pub nothing_printed : ℕ → Strip
nothing_printed column = record { bytes = []; column = column }

-- the end of a line, whatever the column
abbrev pub line_ended : ℕ → Strip
line_ended column = record { bytes = line_feed ∷ []; column = 0 }

-- one byte as it is, and the end of the line where it was the 79th
abbrev pub byte_put : ℕ → ℕ → Strip
byte_put byte column =
    (if nat_lt column last_column
    then record { bytes = byte ∷ []; column = column + 1 }
    else record { bytes = byte ∷ line_feed ∷ []; column = 0 })

-- a strip, and what is printed behind it
abbrev pub followed : Strip → (ℕ → Strip) → Strip
followed s next = record { bytes = s.bytes ++ (next s.column).bytes; column = (next s.column).column }

-- bytes as they are
abbrev pub bytes_put : List ℕ → ℕ → Strip
bytes_put [] column = nothing_printed column
bytes_put (byte ∷ rest) column = followed (byte_put byte column) (bytes_put rest)

-- a digit of a number in base 16, in lower case
abbrev pub hex_digit : ℕ → ℕ
hex_digit n = (if nat_lt n 10 then 48 + n else 87 + n)

-- a byte as it is shown: printable ASCII as itself, 0 to 31 and 127 as ^^@ to ^^_ and ^^?, 128 to 255
-- as ^^80 to ^^ff
abbrev pub visible : ℕ → List ℕ
visible byte =
    (if nat_lt byte 32 then 94 ∷ 94 ∷ (byte + 64) ∷ []
    else (if nat_lt byte 127 then byte ∷ []
    else (if nat_lt byte 128 then 94 ∷ 94 ∷ 63 ∷ []
    else 94 ∷ 94 ∷ hex_digit (byte / 16) ∷ hex_digit (byte % 16) ∷ [])))

-- whether a byte is \newlinechar, which may be any number; only 0 to 255 is ever a byte
abbrev pub is_newline : ℤ → ℕ → Bool
is_newline (pos n) byte = n == byte
is_newline (negsuc n) byte = false

-- a byte that is shown as it is, and doesn't end the line
abbrev pub is_plain : ℤ → ℕ → Bool
is_plain newline byte = nat_le 32 byte && nat_le byte 126 && not (is_newline newline byte)

-- one byte that is printed: it ends the line, or is shown. The bytes of its form aren't compared
-- with \newlinechar again
abbrev pub byte_printed : ℤ → ℕ → ℕ → Strip
byte_printed newline byte column = (if is_newline newline byte then line_ended column else bytes_put (visible byte) column)

-- bytes that are printed from a column on
abbrev pub printed : ℤ → List ℕ → ℕ → Strip
printed newline [] column = nothing_printed column
printed newline (byte ∷ rest) column = followed (byte_printed newline byte column) (printed newline rest)

-- ---- laws

pub same_strip : (s t : Strip) → s.bytes ≡ t.bytes → s.column ≡ t.column → s ≡ t
same_strip s t b c = λ i. record { bytes = b i; column = c i }

-- nothing in front changes nothing
pub followed-nothing : (column : ℕ) (next : ℕ → Strip) → followed (nothing_printed column) next ≡ next column
followed-nothing column next = refl

-- strips may be put together in any order
pub followed_assoc : (s : Strip) (f g : ℕ → Strip) → followed (followed s f) g ≡ followed s (λ c. followed (f c) g)
followed_assoc s f g = same_strip _ _ (append_assoc s.bytes (f s.column).bytes (g (f s.column).column).bytes) refl

-- bytes printed in two portions look as if printed at once
pub printed-append : (newline : ℤ) (xs ys : List ℕ) (column : ℕ) → printed newline (xs ++ ys) column ≡ followed (printed newline xs column) (printed newline ys)
printed-append newline [] ys column = refl
printed-append newline (x ∷ xs) ys column =
    let rest = printed-append newline xs ys (byte_printed newline x column).column in
    ap (λ (t : Strip). followed (byte_printed newline x column) (λ _. t)) rest
    ∙ sym (followed_assoc (byte_printed newline x column) (printed newline xs) (printed newline ys))

-- The parts of phrases that stretch over several tokens: signs and constants (The TeXbook, chapter 24: optional
-- signs, integer constant, octal and hexadecimal constant, character token; tex.web 441 to 446).
--
-- Each function says what is to be done where just this list was taken. A part hands what it found, with the
-- list behind it, to the function that says so for what follows.
use Rattle.std.specs.Prelude.{ℕ, ◌+◌, ◌-◌, ◌*◌, Bool, true, false, ◌==◌, ◌&&◌, ◌||◌, not, nat_le, nat_lt, min, ℤ, pos, neg_ℤ, Option, Some, None, is_some, List, [], ◌∷◌, if◌then◌else◌}
use Rattle.std.specs.Option.{unwrap_or}
use Rattle.tokens.specs.declared.token.Token.{Token}
use Rattle.tokens.specs.declared.token.Token.TheVariants as token
use Rattle.tokens.specs.declared.kind.Kind.TheVariants.{MissingNumber, NumberTooBig}
use Rattle.scan_nums.specs.declared.number.Number.{Number}
use Rattle.scan_nums.specs.declared.verdict.Verdict.{Verdict}
use Rattle.scan_nums.specs.declared.verdict.Verdict.TheVariants.{Need, Done, DoneBefore, Pass}
use Rattle.scan_nums.specs.declared.constant.Radix.{Radix}
use Rattle.scan_nums.specs.declared.constant.Radix.TheVariants.{Base8, Base10, Base16}
use Rattle.scan_nums.specs.declared.start.Start.{Start}
use Rattle.scan_nums.specs.declared.start.Start.TheVariants.{Space, Plus, Minus, Accent, Octal, Hexadecimal, Given, Wanted, Expression, Other}
use Rattle.scan_nums.specs.Taken.{Taken, Seen, Told, Resumed}
use Rattle.scan_nums.specs.Starts.{start_of, is_space, byte_of}

-- ---- stretches

-- the longest stretch at the front whose elements all pass, and what is behind it
abbrev pub stretch : (Taken → Bool) → List Taken → List Taken
stretch p [] = []
stretch p (x ∷ xs) = if p x then x ∷ stretch p xs else []

abbrev pub behind : (Taken → Bool) → List Taken → List Taken
behind p [] = []
behind p (x ∷ xs) = if p x then behind p xs else x ∷ xs

-- ---- spaces and signs

abbrev pub taken_space : Taken → Bool
taken_space (Seen t m) = is_space m
taken_space (Told n) = false
taken_space Resumed = false

abbrev pub starts_number : Start → Bool
starts_number Space = false
starts_number Plus = false
starts_number Minus = false
starts_number Accent = true
starts_number Octal = true
starts_number Hexadecimal = true
starts_number (Given n) = true
starts_number (Wanted q) = true
starts_number (Expression k) = true
starts_number Other = true

-- a space or a sign
abbrev pub is_leading : Taken → Bool
is_leading (Seen t m) = not (starts_number (start_of t m))
is_leading (Told n) = false
is_leading Resumed = false

-- a minus sign changes the sign, all else leaves it
abbrev pub sign_changed : Start → Bool → Bool
sign_changed Space negative = negative
sign_changed Plus negative = negative
sign_changed Minus negative = not negative
sign_changed Accent negative = negative
sign_changed Octal negative = negative
sign_changed Hexadecimal negative = negative
sign_changed (Given n) negative = negative
sign_changed (Wanted q) negative = negative
sign_changed (Expression k) negative = negative
sign_changed Other negative = negative

abbrev pub sign_behind : Bool → Taken → Bool
sign_behind negative (Seen t m) = sign_changed (start_of t m) negative
sign_behind negative (Told n) = negative
sign_behind negative Resumed = negative

-- whether a number is negative behind these signs and spaces
abbrev pub is_negative : Bool → List Taken → Bool
is_negative negative [] = negative
is_negative negative (x ∷ xs) = is_negative (sign_behind negative x) xs

abbrev pub signed : Bool → ℕ → ℤ
signed negative n = if negative then neg_ℤ (pos n) else pos n

-- ---- digits

abbrev pub base : Radix → ℕ
base Base8 = 8
base Base10 = 10
base Base16 = 16

-- the greatest digit that is written as a figure
abbrev pub last_figure : Radix → ℕ
last_figure Base8 = 7
last_figure Base10 = 9
last_figure Base16 = 9

abbrev pub has_letters : Radix → Bool
has_letters Base8 = false
has_letters Base10 = false
has_letters Base16 = true

-- the digit that a character is: a figure of category 12, or, to the base 16, a capital letter A to F of
-- category 11 or 12
abbrev pub digit_of_character : Radix → ℕ → ℕ → Option ℕ
digit_of_character radix cat byte =
    if (cat == 12) && (nat_le 48 byte && nat_le byte (48 + last_figure radix)) then Some (byte - 48)
    else if has_letters radix && (((cat == 11) || (cat == 12)) && (nat_le 65 byte && nat_le byte 70)) then Some (byte - 55)
    else None

unfoldable pub digit_of : Radix → Token → Option ℕ
digit_of radix (token.Char cat byte) = digit_of_character radix cat byte
digit_of radix (token.Active byte) = None
digit_of radix (token.Name id) = None
digit_of radix (token.Arg number) = None
digit_of radix (token.Frozen number) = None

-- a digit, or the word to go on behind a constant's trouble
abbrev pub is_digit : Radix → Taken → Bool
is_digit radix (Seen t m) = is_some (digit_of radix t)
is_digit radix (Told n) = false
is_digit radix Resumed = true

-- a number with one more digit behind it
abbrev pub with_digit : Radix → ℕ → Taken → ℕ
with_digit radix n (Seen t m) = n * base radix + unwrap_or (digit_of radix t) 0
with_digit radix n (Told _) = n
with_digit radix n Resumed = n

-- the number that digits stand for, behind those of n
abbrev pub number_behind : Radix → ℕ → List Taken → ℕ
number_behind radix n [] = n
number_behind radix n (x ∷ xs) = number_behind radix (with_digit radix n x) xs

-- ---- bounds

-- a number is at most 2147483647
abbrev pub is_too_big : ℕ → Bool
is_too_big n = nat_lt 2147483647 n

abbrev pub capped : ℕ → ℕ
capped n = min n 2147483647

abbrev pub without_last : List Taken → List Taken
without_last [] = []
without_last (x ∷ []) = []
without_last (x ∷ y ∷ ys) = x ∷ without_last (y ∷ ys)

-- whether digits pass the bound with the last of them
abbrev pub passes_bound : Radix → ℕ → List Taken → Bool
passes_bound radix n digits =
    is_too_big (number_behind radix n digits) && not (is_too_big (number_behind radix n (without_last digits)))

-- ---- constants

-- no number stands there: the token is read again, and what follows gets no number
abbrev pub missing : (Option ℕ → List Taken → Verdict) → List Taken → Verdict
missing next [] = Pass MissingNumber 1
missing next (x ∷ rest) = next None rest

-- what is left of a constant, by its stretch of digits and what is behind it, where digits for n stand in
-- front of it, or none. The digit with which it passes the bound brings the trouble; its further digits
-- bring none
abbrev pub constant_of : Radix → Bool → ℕ → (Option ℕ → List Taken → Verdict) → List Taken → List Taken → Verdict
constant_of radix any n next [] [] = Need
constant_of radix true n next [] (x ∷ rest) = next (Some (capped n)) (x ∷ rest)
constant_of radix false n next [] (x ∷ rest) = missing next rest
constant_of radix any n next (d ∷ ds) [] = if passes_bound radix n (d ∷ ds) then Pass NumberTooBig 0 else Need
constant_of radix any n next (d ∷ ds) (x ∷ rest) = next (Some (capped (number_behind radix n (d ∷ ds)))) (x ∷ rest)

abbrev pub rest_of_constant : Radix → Bool → ℕ → (Option ℕ → List Taken → Verdict) → List Taken → Verdict
rest_of_constant radix any n next list =
    constant_of radix any n next (stretch (is_digit radix) list) (behind (is_digit radix) list)

-- a constant without its mark
abbrev pub constant : Radix → (Option ℕ → List Taken → Verdict) → List Taken → Verdict
constant radix next list = rest_of_constant radix false 0 next list

-- a character constant behind its mark: the number of the character, or nothing where none stands there
abbrev pub character_at : Option ℕ → (Option ℕ → List Taken → Verdict) → List Taken → Verdict
character_at None next rest = missing next rest
character_at (Some byte) next rest = next (Some byte) rest

abbrev pub taken_byte : Taken → Option ℕ
taken_byte (Seen t m) = byte_of t
taken_byte (Told n) = None
taken_byte Resumed = None

abbrev pub character : (Option ℕ → List Taken → Verdict) → List Taken → Verdict
character next [] = Need
character next (x ∷ rest) = character_at (taken_byte x) next rest

-- ---- ends

-- one space may stand at the end; any other token isn't part of the phrase
abbrev pub optional_space : Number → List Taken → Verdict
optional_space number [] = Need
optional_space number (x ∷ rest) = if taken_space x then Done number else DoneBefore number 1

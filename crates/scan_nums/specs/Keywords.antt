-- Keywords (The TeXbook, chapter 24; tex.web 407): their letters may be small or capital and of any category, but
-- not active characters or names. Spaces in front of a keyword are passed by whoever looks for one.
use Rattle.std.specs.Prelude.{ℕ, ◌+◌, Bool, ◌==◌, ◌&&◌, nat_le, Option, Some, None, List, [], ◌∷◌, if◌then◌else◌}
use Rattle.tokens.specs.declared.token.Token.{Token}
use Rattle.tokens.specs.declared.token.Token.TheVariants as token
use Rattle.scan_nums.specs.declared.verdict.Verdict.{Verdict}
use Rattle.scan_nums.specs.declared.verdict.Verdict.TheVariants.{Need}
use Rattle.scan_nums.specs.Taken.{Taken, Seen, Told, Resumed}

-- ---- letters

-- the small letter of a capital one; all else is itself
abbrev pub small_letter : ℕ → ℕ
small_letter byte = if nat_le 65 byte && nat_le byte 90 then byte + 32 else byte

-- what a token is in a keyword, where it is a character
unfoldable pub letter_of : Token → Option ℕ
letter_of (token.Char cat byte) = Some (small_letter byte)
letter_of (token.Active byte) = None
letter_of (token.Name id) = None
letter_of (token.Arg number) = None
letter_of (token.Frozen number) = None

abbrev pub taken_letter : Taken → Option ℕ
taken_letter (Seen t m) = letter_of t
taken_letter (Told n) = None
taken_letter Resumed = None

-- ---- words

-- what may follow of some keywords: nothing, the end of one, or a letter with what may follow it, beside others.
-- No keyword begins another
pub data Words (A : Type 0) : Type 0 where
  NoWord : Words A
  Whole : A → Words A
  Letter : ℕ → Words A → Words A → Words A

-- one keyword, with what it means
abbrev pub alone : {A : Type 0} → List ℕ → A → Words A
alone [] what = Whole what
alone (l ∷ ls) what = Letter l (alone ls what) NoWord

-- one keyword more
abbrev pub with_word : {A : Type 0} → List ℕ → A → Words A → Words A
with_word word what NoWord = alone word what
with_word word what (Whole other) = Whole other
with_word [] what (Letter c below others) = Letter c below others
with_word (l ∷ ls) what (Letter c below others) =
    if l == c then Letter c (with_word ls what below) others else Letter c below (with_word (l ∷ ls) what others)

abbrev pub with_words : {A : Type 0} → Words A → List (List ℕ × A) → Words A
with_words words [] = words
with_words words ((word, what) ∷ rest) = with_words (with_word word what words) rest

-- the keywords of a table
abbrev pub words_of : {A : Type 0} → List (List ℕ × A) → Words A
words_of table = with_words NoWord table

-- what may follow behind a letter
abbrev pub at_letter : {A : Type 0} → ℕ → Words A → Words A
at_letter l NoWord = NoWord
at_letter l (Whole what) = NoWord
at_letter l (Letter c below others) = if l == c then below else at_letter l others

abbrev pub behind_letter : {A : Type 0} → Option ℕ → Words A → Words A
behind_letter None words = NoWord
behind_letter (Some l) words = at_letter l words

-- ---- a keyword in front of a list

-- by what may follow: no keyword goes on so, one is whole, or one goes on
abbrev pub after_letter : {A : Type 0} → Words A → Verdict → (A → Verdict) → Verdict → Verdict
after_letter NoWord broken whole longer = broken
after_letter (Whole what) broken whole longer = whole what
after_letter (Letter c below others) broken whole longer = longer

-- the keyword that stands in front, of which some letters were read before: what goes on behind it. Where none
-- stands there, that is known at the first token with which no keyword goes on; that token and the letters
-- before it are read again, and their number is told
abbrev pub keyword : {A : Type 0} → Words A → ℕ → (A → List Taken → Verdict) → (ℕ → List Taken → Verdict) → List Taken → Verdict
keyword words read found none [] = Need
keyword words read found none (x ∷ rest) =
    after_letter (behind_letter (taken_letter x) words) (none (read + 1) rest) (λ what. found what rest)
    (keyword (behind_letter (taken_letter x) words) (read + 1) found none rest)

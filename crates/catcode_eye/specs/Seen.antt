-- What the eye sees next of a line, by the state that it is in, and what it leaves of the line
-- (The TeXbook, chapter 8; tex.web 343 to 356).
use Rattle.std.specs.Prelude.{◌≡◌, ℕ, ◌==◌, Bool, true, false, if◌then◌else◌, List, [], ◌∷◌, length, Result, Ok, Err, refl}
use Rattle.std.proofs.Common.{◌≤◌, arith, ap, ◌∙◌}
use Rattle.std.proofs.lemmas.Bool.{false≢true}
use Rattle.tokens.specs.Categories.{category}
use Rattle.tokens.specs.declared.kind.Kind.TheVariants.{InvalidChar}
use Rattle.tokens.specs.declared.stop.Stop.{Stop}
use Rattle.tokens.specs.declared.stop.Stop.TheVariants.{Trouble}
use Rattle.catcode_eye.specs.declared.role.Role.{Role}
use Rattle.catcode_eye.specs.declared.role.Role.TheVariants.{Escape, EndOfLine, Ignored, Space, Active as ActiveRole, Comment, Invalid, Plain}
use Rattle.catcode_eye.specs.declared.seen.Seen.{Seen}
use Rattle.catcode_eye.specs.declared.seen.Seen.TheVariants.{Char, Active, Word, Par, LineEnd}
use Rattle.catcode_eye.specs.declared.seen.State.{State}
use Rattle.catcode_eye.specs.declared.seen.State.TheVariants.{NewLine, MidLine, SkipBlanks}
use Rattle.catcode_eye.specs.Shorter.{on_shorter, on_shorter-step, IsShortening}
use Rattle.catcode_eye.specs.Superscripts.{reduced, length-reduced, reduced-none}
use Rattle.catcode_eye.specs.Role.{role_of, is_passed}

-- one thing that is seen, the rest of the line behind it, and the state that the eye is then in
pub record Sight : Type 0 where
  pub seen : Seen
  pub rest : List ℕ
  pub state : State

-- some letters, and the rest of the line behind them
pub record Letters : Type 0 where
  pub bytes : List ℕ
  pub rest : List ℕ

-- whether a byte is a letter
abbrev pub is_letter : List ℕ → ℕ → Bool
is_letter cats byte = category cats byte == 11

-- one more letter in front
abbrev pub with_letter : ℕ → Letters → Letters
with_letter byte letters = record { bytes = byte ∷ letters.bytes; rest = letters.rest }

abbrev pub letters_if : (List ℕ → Letters) → ℕ → List ℕ → Bool → Letters
letters_if further byte tail true = with_letter byte (further tail)
letters_if further byte tail false = record { bytes = []; rest = byte ∷ tail }

-- by the head of the line
abbrev pub letters_at : List ℕ → (List ℕ → Letters) → List ℕ → Letters
letters_at cats further [] = record { bytes = []; rest = [] }
letters_at cats further (byte ∷ tail) = letters_if further byte tail (is_letter cats byte)

abbrev pub letters_step : List ℕ → (List ℕ → Letters) → List ℕ → Letters
letters_step cats further rest = letters_at cats further (reduced cats rest)

-- the longest row of heads that are letters, and what is left of the line: there the doubled superscripts
-- in front are replaced, since they had to be looked through
unfoldable pub letters : List ℕ → List ℕ → Letters
letters cats = on_shorter (letters_step cats) (record { bytes = []; rest = [] })

-- a name of letters, behind which blanks are skipped
abbrev pub lettered : ℕ → Letters → Sight
lettered byte letters = record { seen = Word (byte ∷ letters.bytes); rest = letters.rest; state = SkipBlanks }

-- the state behind a name of one byte that is no letter: blanks are skipped behind a blank
abbrev pub state_behind : ℕ → State
state_behind cat = if cat == 10 then SkipBlanks else MidLine

abbrev pub named_by : List ℕ → ℕ → List ℕ → Bool → Sight
named_by cats byte tail true = lettered byte (letters cats tail)
named_by cats byte tail false =
    record { seen = Word (byte ∷ []); rest = tail; state = state_behind (category cats byte) }

-- the name behind an escape character, by the head of the line there: the longest row of letters, or else
-- the one head, or the empty name at the line's end
abbrev pub named : List ℕ → List ℕ → Sight
named cats [] = record { seen = Word []; rest = []; state = MidLine }
named cats (byte ∷ tail) = named_by cats byte tail (is_letter cats byte)

-- the character space
abbrev pub space : Seen
space = Char 10 32

-- where a byte ends the line, the rest is dropped: it gives `\par` on an empty line, a space in the middle
-- of a line, and nothing where blanks are skipped
abbrev pub line_ended : State → Sight
line_ended NewLine = record { seen = Par; rest = []; state = NewLine }
line_ended MidLine = record { seen = space; rest = []; state = MidLine }
line_ended SkipBlanks = record { seen = LineEnd; rest = []; state = SkipBlanks }

-- a blank gives a space in the middle of a line, and else nothing: the eye goes on
abbrev pub spaced : (List ℕ → Result Sight Stop) → List ℕ → State → Result Sight Stop
spaced further tail NewLine = further tail
spaced further tail MidLine = Ok (record { seen = space; rest = tail; state = SkipBlanks })
spaced further tail SkipBlanks = further tail

-- by the role of the head `byte`, behind which `tail` stands; `further` goes on with the line in the same
-- state
abbrev pub sight_of : List ℕ → State → (List ℕ → Result Sight Stop) → ℕ → List ℕ → Role → Result Sight Stop
sight_of cats state further byte tail Escape = Ok (named cats (reduced cats tail))
sight_of cats state further byte tail EndOfLine = Ok (line_ended state)
sight_of cats state further byte tail Ignored = further tail
sight_of cats state further byte tail Space = spaced further tail state
sight_of cats state further byte tail ActiveRole = Ok (record { seen = Active byte; rest = tail; state = MidLine })
sight_of cats state further byte tail Comment = Ok (record { seen = LineEnd; rest = []; state = state })
sight_of cats state further byte tail Invalid = Err (Trouble InvalidChar)
sight_of cats state further byte tail Plain =
    Ok (record { seen = Char (category cats byte) byte; rest = tail; state = MidLine })

-- by the head of the line
abbrev pub sight_at : List ℕ → State → (List ℕ → Result Sight Stop) → List ℕ → Result Sight Stop
sight_at cats state further [] = Ok (record { seen = LineEnd; rest = []; state = state })
sight_at cats state further (byte ∷ tail) = sight_of cats state further byte tail (role_of (category cats byte))

abbrev pub sight_step : List ℕ → State → (List ℕ → Result Sight Stop) → List ℕ → Result Sight Stop
sight_step cats state further rest = sight_at cats state further (reduced cats rest)

-- what is seen next of the rest of a line, or the trouble that ends the run. Its law is `sight-step`.
unfoldable pub sight : List ℕ → State → List ℕ → Result Sight Stop
sight cats state =
    on_shorter (sight_step cats state) (Ok (record { seen = LineEnd; rest = []; state = state }))

-- whether nothing is left to be seen
abbrev pub is_line_end : Seen → Bool
is_line_end LineEnd = true
is_line_end (Char cat byte) = false
is_line_end (Active byte) = false
is_line_end (Word name) = false
is_line_end Par = false

abbrev pub shows_nothing : Result Sight Stop → Bool
shows_nothing (Ok sight) = is_line_end sight.seen
shows_nothing (Err stop) = false

letters_step-shortening : (cats : List ℕ) → IsShortening (letters_step cats)
letters_step-shortening cats f g rest same = at_head (reduced cats rest) (length-reduced cats rest)
  where
    if_letter : (byte : ℕ) (tail : List ℕ) → f tail ≡ g tail → (b : Bool) → letters_if f byte tail b ≡ letters_if g byte tail b
    if_letter byte tail e true = ap (with_letter byte) e
    if_letter byte tail e false = refl

    at_head : (heads : List ℕ) → length heads ≤ length rest → letters_at cats f heads ≡ letters_at cats g heads
    at_head [] h = refl
    at_head (byte ∷ tail) h = if_letter byte tail (same tail (omega arith)) (is_letter cats byte)

-- the law of letters
pub letters-step : (cats rest : List ℕ) → letters cats rest ≡ letters_at cats (letters cats) (reduced cats rest)
unfolding letters
letters-step cats rest = on_shorter-step (letters_step cats) (record { bytes = []; rest = [] }) (letters_step-shortening cats) rest

sight_step-shortening : (cats : List ℕ) (state : State) → IsShortening (sight_step cats state)
sight_step-shortening cats state f g rest same = at_head (reduced cats rest) (length-reduced cats rest)
  where
    in_state : (tail : List ℕ) → f tail ≡ g tail → (s : State) → spaced f tail s ≡ spaced g tail s
    in_state tail e NewLine = e
    in_state tail e MidLine = refl
    in_state tail e SkipBlanks = e

    in_role : (byte : ℕ) (tail : List ℕ) → f tail ≡ g tail → (role : Role)
        → sight_of cats state f byte tail role ≡ sight_of cats state g byte tail role
    in_role byte tail e Escape = refl
    in_role byte tail e EndOfLine = refl
    in_role byte tail e Ignored = e
    in_role byte tail e Space = in_state tail e state
    in_role byte tail e ActiveRole = refl
    in_role byte tail e Comment = refl
    in_role byte tail e Invalid = refl
    in_role byte tail e Plain = refl

    at_head : (heads : List ℕ) → length heads ≤ length rest → sight_at cats state f heads ≡ sight_at cats state g heads
    at_head [] h = refl
    at_head (byte ∷ tail) h = in_role byte tail (same tail (omega arith)) (role_of (category cats byte))

-- the law of sights
pub sight-step : (cats : List ℕ) (state : State) (rest : List ℕ)
    → sight cats state rest ≡ sight_at cats state (sight cats state) (reduced cats rest)
unfolding sight
sight-step cats state rest =
    on_shorter-step (sight_step cats state) (Ok (record { seen = LineEnd; rest = []; state = state })) (sight_step-shortening cats state) rest

-- no letters stand at a line's end
pub letters-none : (cats : List ℕ) → letters cats [] ≡ record { bytes = []; rest = [] }
letters-none cats = letters-step cats [] ∙ ap (letters_at cats (letters cats)) (reduced-none cats [] refl)

-- a head that is a letter begins them
pub letters-more : (cats rest : List ℕ) (byte : ℕ) (tail : List ℕ) → reduced cats rest ≡ byte ∷ tail → is_letter cats byte ≡ true
    → letters cats rest ≡ with_letter byte (letters cats tail)
letters-more cats rest byte tail head letter =
    letters-step cats rest ∙ ap (letters_at cats (letters cats)) head ∙ ap (letters_if (letters cats) byte tail) letter

-- any other head ends them
pub letters-last : (cats rest : List ℕ) (byte : ℕ) (tail : List ℕ) → reduced cats rest ≡ byte ∷ tail → is_letter cats byte ≡ false
    → letters cats rest ≡ record { bytes = []; rest = byte ∷ tail }
letters-last cats rest byte tail head other =
    letters-step cats rest ∙ ap (letters_at cats (letters cats)) head ∙ ap (letters_if (letters cats) byte tail) other

-- nothing is seen at a line's end
pub sight-none : (cats : List ℕ) (state : State) → sight cats state [] ≡ Ok (record { seen = LineEnd; rest = []; state = state })
sight-none cats state = sight-step cats state [] ∙ ap (sight_at cats state (sight cats state)) (reduced-none cats [] refl)

-- what is seen goes by the role of the head
pub sight-head : (cats : List ℕ) (state : State) (rest : List ℕ) (byte : ℕ) (tail : List ℕ) → reduced cats rest ≡ byte ∷ tail
    → sight cats state rest ≡ sight_of cats state (sight cats state) byte tail (role_of (category cats byte))
sight-head cats state rest byte tail head =
    sight-step cats state rest ∙ ap (sight_at cats state (sight cats state)) head

passed-on : (cats : List ℕ) (state : State) (further : List ℕ → Result Sight Stop) (byte : ℕ) (tail : List ℕ) (role : Role)
    → is_passed role state ≡ true → sight_of cats state further byte tail role ≡ further tail
passed-on cats state further byte tail Escape h = absurd (false≢true h)
passed-on cats state further byte tail EndOfLine h = absurd (false≢true h)
passed-on cats state further byte tail Ignored h = refl
passed-on cats NewLine further byte tail Space h = refl
passed-on cats MidLine further byte tail Space h = absurd (false≢true h)
passed-on cats SkipBlanks further byte tail Space h = refl
passed-on cats state further byte tail ActiveRole h = absurd (false≢true h)
passed-on cats state further byte tail Comment h = absurd (false≢true h)
passed-on cats state further byte tail Invalid h = absurd (false≢true h)
passed-on cats state further byte tail Plain h = absurd (false≢true h)

-- a head that is passed gives nothing: what is seen stands behind it
pub sight-passed : (cats : List ℕ) (state : State) (rest : List ℕ) (byte : ℕ) (tail : List ℕ) → reduced cats rest ≡ byte ∷ tail
    → is_passed (role_of (category cats byte)) state ≡ true
    → sight cats state rest ≡ sight cats state tail
sight-passed cats state rest byte tail head passed =
    sight-head cats state rest byte tail head ∙ passed-on cats state (sight cats state) byte tail _ passed

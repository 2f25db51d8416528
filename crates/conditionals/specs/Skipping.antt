-- A scan of a text that is passed over: what it has to keep of the tokens that it took.
use Rattle.std.specs.Prelude.{◌≡◌, ℕ, ◌≤◌, List, ◌++◌, length, map, Option, Some, None}
use Rattle.tokens.specs.declared.meaning.Meaning.{Meaning}
use Rattle.conditionals.specs.declared.skip.Skip.{Skip}
use Rattle.conditionals.specs.declared.skip.Skip.TheVariants.{Go, Stopped}
use Rattle.conditionals.specs.declared.word.Word.{Word}
use Rattle.conditionals.specs.Word.{word_of}
use Rattle.conditionals.specs.Branches.{Stopping, texts, with_word, behind, stop_among, stop_of}

-- how many inner conditions are open, and which \or of those to come is the sought one, or 0
pub record Skipping : Type 0 where
  pub inner : ℕ
  pub sought : ℕ

-- whether and where what is still to come ends the text
abbrev pub stop_from : Skipping → List Meaning → Option Stopping
stop_from scan more = stop_among scan.inner scan.sought (texts (map word_of more))

-- the scan stands for the tokens that were taken: they don't end the text, and whatever follows them, the
-- whole list ends it where the scan finds the end in what follows
pub record StandsFor (sought : ℕ) (taken : List Meaning) (scan : Skipping) : Type 0 where
  pub goes_on : stop_of sought taken ≡ None
  pub follows : (more : List Meaning) → stop_of sought (taken ++ more) ≡ behind (length taken) (stop_from scan more)
  pub within : scan.inner ≤ length taken

-- what an answer says of the tokens that were taken, the last one included: they don't end the text; or
-- the last of them ends it with this word, whatever follows
abbrev pub Tells : ℕ → List Meaning → Skip → Skipping → Type 0
Tells sought taken Go scan = StandsFor sought taken scan
Tells sought taken (Stopped word) scan =
    (more : List Meaning) → stop_of sought (taken ++ more) ≡ Some (record { taken = length taken; word = word })

-- ---- one token

-- whether and where a word with what is to come behind it ends the text
abbrev pub stop_at : Skipping → Word → List Meaning → Option Stopping
stop_at scan word more = stop_among scan.inner scan.sought (with_word word (texts (map word_of more)))

-- what an answer says of the word that was taken, whatever comes behind it: the text ends where the scan finds
-- its end behind the word, or it ends with the word itself
unfoldable pub TellsWord : Word → Skipping → Skip → Skipping → Type 0
TellsWord word before Go after = (more : List Meaning) → stop_at before word more ≡ behind 1 (stop_from after more)
TellsWord word before (Stopped number) after =
    (more : List Meaning) → stop_at before word more ≡ Some (record { taken = 1; word = number })

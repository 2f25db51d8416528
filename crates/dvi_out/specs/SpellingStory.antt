-- The bytes of a file against all its pages: what a value of this crate stands for.
-- From: tex.web, sections 583 to 595.
use Rattle.std.specs.Prelude.{◌≡◌, ℕ, ℤ, List, [], ◌∷◌, ◌++◌}
use Rattle.std.specs.List.{fold}
use Rattle.dvi_out.specs.SpellingFile.{DviFile, ShippedPage, no_file, begun, with_page, finished, dvi_file}

-- Spell: the file of some pages, with no byte of it taken
abbrev pub file_of : ℤ → List ℕ → List ShippedPage → DviFile
file_of mag comment pages = fold with_page (begun mag comment no_file) pages

-- the bytes of a file of some pages, without the postamble
abbrev pub bytes_of_pages : ℤ → List ℕ → List ShippedPage → List ℕ
bytes_of_pages mag comment pages = (file_of mag comment pages).waiting

-- the bytes of the whole file of some pages
abbrev pub bytes_of_file : ℤ → List ℕ → List ShippedPage → List ℕ
bytes_of_file mag comment pages = (finished (file_of mag comment pages)).waiting

-- a file of which these first bytes were taken
abbrev pub with_taken : List ℕ → DviFile → DviFile
with_taken gone file =
    dvi_file file.mag file.length (gone ++ file.waiting) file.last file.fonts file.tallest file.widest file.deepest
    file.pages

-- the bytes that were taken and those that wait are those of the file of these pages
pub record StandsFor (mag : ℤ) (comment : List ℕ) (pages : List ShippedPage) (gone : List ℕ) (file : DviFile) : Type 0 where
  pub whole : with_taken gone file ≡ file_of mag comment pages

-- and with the postamble
pub record IsWhole (mag : ℤ) (comment : List ℕ) (pages : List ShippedPage) (gone : List ℕ) (file : DviFile) : Type 0 where
  pub whole : with_taken gone file ≡ finished (file_of mag comment pages)

-- whatever pages there were, and whatever was taken, this page is added
abbrev pub KeepsStory : ShippedPage → DviFile → DviFile → Type 0
KeepsStory page before after =
    (mag : ℤ) (comment : List ℕ) (pages : List ShippedPage) (gone : List ℕ)
    → StandsFor mag comment pages gone before → StandsFor mag comment (pages ++ page ∷ []) gone after

-- the postamble is added
abbrev pub EndsStory : DviFile → DviFile → Type 0
EndsStory before after =
    (mag : ℤ) (comment : List ℕ) (pages : List ShippedPage) (gone : List ℕ)
    → StandsFor mag comment pages gone before → IsWhole mag comment pages gone after

-- bytes are taken
abbrev pub TakesFromStory : List ℕ → DviFile → DviFile → Type 0
TakesFromStory bytes before after =
    (mag : ℤ) (comment : List ℕ) (pages : List ShippedPage) (gone : List ℕ)
    → (StandsFor mag comment pages gone before → StandsFor mag comment pages (gone ++ bytes) after)
    × (IsWhole mag comment pages gone before → IsWhole mag comment pages (gone ++ bytes) after)

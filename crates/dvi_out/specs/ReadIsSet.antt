-- What is read is what was set: the pages that a device finds in a file are those that were shipped.
-- From: tex.web, sections 583 to 595 and 638 to 642.
use Rattle.std.specs.Prelude.{◌≡◌, ℕ, ◌≤◌, ℤ, List, [], ◌∷◌, map, length, Some, Ok, All, ⊤}
use Rattle.std.specs.Int.{w32}
use Rattle.std.specs.Int.RustNames.{FitsSigned}
use Rattle.dvi_out.specs.Places.{places}
use Rattle.dvi_out.specs.DviReading.{ReadPage, read}
use Rattle.dvi_out.specs.Obeying.{HasShortName}
use Rattle.dvi_out.specs.SpellingFile.{DviFile, ShippedPage, no_file, begun, with_page, page_answer}
use Rattle.dvi_out.specs.SpellingStory.{bytes_of_file}
use Rattle.dvi_out.specs.WalksSet.{PageCanBeTold}

-- a page with ten counts that are within four bytes with a sign, fonts whose names are short, and nodes that can be told
pub record CanBeReadBack (widths : ℕ → ℕ → ℤ) (page : ShippedPage) : Type 0 where
  pub told : PageCanBeTold widths page
  pub ten : length page.counts ≡ 10
  pub counts : All (FitsSigned w32) page.counts
  pub names : All HasShortName page.fonts

-- all pages are taken, one after the other
abbrev pub AreTaken : DviFile → List ShippedPage → Type 0
AreTaken file [] = ⊤
AreTaken file (page ∷ pages) = (page_answer file page ≡ Ok (with_page file page)) × AreTaken (with_page file page) pages

-- what a device is to find of a page: its counts, and what stands in its box, with the offset
abbrev pub as_read : ShippedPage → ReadPage
as_read page =
    record { counts = page.counts; items = places page.shipped page.offset_h page.offset_v }

-- For each magnification, each comment of at most 255 bytes and each list of pages that are taken, a device that reads
-- the file of the pages finds, page by page, the counts and the places of what stands in its box.
abbrev pub WhatIsReadIsWhatWasSet : Type 0
WhatIsReadIsWhatWasSet =
    (widths : ℕ → ℕ → ℤ) (mag : ℤ) (comment : List ℕ) (pages : List ShippedPage)
    → length comment ≤ 255 → All (CanBeReadBack widths) pages → AreTaken (begun mag comment no_file) pages
    → read (bytes_of_file mag comment pages) widths ≡ Some (map as_read pages)

-- The page that a value of `Page` holds.
use Rattle.std.specs.Prelude.{◌≡◌, ℕ, ◌+◌, max, ◌++◌, length, Some}
use Rattle.dvi_out.specs.declared.pages.Page.{Page}
use Rattle.dvi_out.specs.SpellingFile.{DviFile, dvi_file, ShippedPage, page_bytes, page_spelled, page_walk}

-- it is the page of a file
pub record MakesPage (file : DviFile) (page : ShippedPage) (made : Page) : Type 0 where
  pub bytes : made.bytes.items ≡ page_bytes file page (page_walk page)
  pub fresh : made.fresh.items ≡ (page_spelled file page (page_walk page)).fresh
  pub deepest : made.deepest ≡ (page_walk page).deepest

-- it is added to a file, and reaches so far down and to the right
abbrev pub with_made : DviFile → Page → ℕ → ℕ → DviFile
with_made file made reaches_down reaches_right =
    dvi_file file.mag (file.length + length made.bytes.items) (file.waiting ++ made.bytes.items) (Some file.length)
    (file.fonts ++ made.fresh.items) (max file.tallest reaches_down) (max file.widest reaches_right)
    (max file.deepest made.deepest) (file.pages + 1)

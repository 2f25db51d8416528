-- The file that a value of `Pages` holds.
use Rattle.std.specs.Prelude.{ℕ, ℤ, List, Option, refl}
use Rattle.std.specs.Coded.{Coded, code_by, coded×, coded_ℕ, coded_ℤ, coded_list, coded_option}
use Rattle.dvi_out.specs.declared.font.FontDef.{FontDef}
use Rattle.dvi_out.specs.contracts.font.FontDef as font
use Rattle.dvi_out.specs.declared.pages.Pages.{Pages}
use Rattle.dvi_out.specs.SpellingFile.{DviFile, dvi_file}

abbrev pub file_in : Pages → DviFile
file_in pages =
    dvi_file pages.mag pages.length pages.waiting.items pages.last pages.fonts.items pages.tallest pages.widest
    pages.deepest pages.pages

-- a file is stored as the tuple of its fields
abbrev pub file_code : Coded DviFile
file_code =
    code_by (ℤ × (ℕ × (List ℕ × (Option ℕ × (List FontDef × (ℕ × (ℕ × (ℕ × ℕ))))))))
    (coded× coded_ℤ (coded× coded_ℕ (coded× (coded_list coded_ℕ) (coded× (coded_option coded_ℕ)
    (coded× (coded_list font.the_row.coded) (coded× coded_ℕ (coded× coded_ℕ (coded× coded_ℕ coded_ℕ))))))))
    (λ f. (f.mag, (f.length, (f.waiting, (f.last, (f.fonts, (f.tallest, (f.widest, (f.deepest, f.pages)))))))))
    (λ p. dvi_file p.0 p.1.0 p.1.1.0 p.1.1.1.0 p.1.1.1.1.0 p.1.1.1.1.1.0 p.1.1.1.1.1.1.0 p.1.1.1.1.1.1.1.0 p.1.1.1.1.1.1.1.1)
    (λ _. refl)

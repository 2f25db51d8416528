-- What the values hold with which a page is spelled.
use Rattle.std.specs.Prelude.{[]}
use Rattle.dvi_out.specs.declared.codes.Codes.{Codes}
use Rattle.dvi_out.specs.declared.speller.Speller.{Speller}
use Rattle.dvi_out.specs.declared.speller.Sources.{Sources}
use Rattle.dvi_out.specs.SpellingPage.{Opcodes, Spelled, Given, spelled}

abbrev pub codes_of : Codes → Opcodes
codes_of codes = record { plain = codes.plain; first = codes.first; second = codes.second }

-- a speller knows of no movements
abbrev pub spelled_of : Speller → Spelled
spelled_of speller = spelled speller.bytes.items speller.font speller.fresh.items 0 0

abbrev pub given_of : Sources → Given
given_of sources =
    record { rights = []; downs = []; defined = sources.defined.now; fonts = sources.fonts.now }

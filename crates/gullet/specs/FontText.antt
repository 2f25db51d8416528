-- How a font is shown: its name, and its size where that isn't the design size (The TeXbook, page 213; tex.web 234 and 1261).
use Rattle.std.specs.Prelude.{ℕ, if◌then◌else◌, List, [], ◌++◌, Option, Some, None, slice_get, codes}
use Rattle.std.specs.Ordering.{int_eq}
use Rattle.scaled.specs.ArithmeticDecimals.{points_text}
use Rattle.tfm.specs.FontMetrics.{FontMetrics}
use Rattle.tokens.specs.declared.meaning.Meaning.{Meaning}
use Rattle.tokens.specs.declared.meaning.Meaning.TheVariants as meaning
use Rattle.gullet.specs.declared.facts.Facts.{Facts}
use Rattle.gullet.specs.declared.facts.FontFacts.{FontFacts}

abbrev pub at_size : Option FontMetrics → List ℕ
at_size None = []
at_size (Some m) = if int_eq m.size m.design then [] else codes " at " ++ points_text m.size ++ codes "pt"

abbrev pub font_text : Option FontFacts → List ℕ
font_text None = []
font_text (Some font) = font.name ++ at_size font.metrics

-- the font that a meaning is; of any other meaning nothing is shown
abbrev pub font_shown : Meaning → Facts → List ℕ
font_shown meaning.Undefined f = []
font_shown (meaning.Primitive code) f = []
font_shown (meaning.Macro m) f = []
font_shown (meaning.Char cat byte) f = []
font_shown (meaning.CharDef byte) f = []
font_shown (meaning.MathCharDef number) f = []
font_shown (meaning.Register kind number) f = []
font_shown (meaning.Font font) f = font_text (slice_get f.fonts font)

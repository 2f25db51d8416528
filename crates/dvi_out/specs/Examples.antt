-- Pages and files worked out by the definitions.
-- From: tex.web, sections 583 to 642; the bytes are those that TeX writes.
use Rattle.std.specs.Prelude.{◌≡◌, ℕ, Bool, true, false, ℤ, pos, List, [], ◌∷◌, Some, None, codes, replicate, if◌then◌else◌, ◌==◌}
use Rattle.scaled.specs.declared.spacing.Order.TheVariants.{Normal}
use Rattle.scaled.specs.declared.spacing.Glue.{Glue}
use Rattle.nodes.specs.declared.node.Node.{Node}
use Rattle.nodes.specs.declared.node.Node.TheVariants.{Char, Boxed, Rule, Skip, Kern, Whatsit}
use Rattle.nodes.specs.declared.node.KernKind.TheVariants.{Explicit}
use Rattle.nodes.specs.declared.boxes.BoxNode.{BoxNode}
use Rattle.nodes.specs.declared.boxes.GlueSet.{GlueSet}
use Rattle.nodes.specs.declared.whatsit.Whatsit.TheVariants.{Special}
use Rattle.dvi_out.specs.declared.font.FontDef.{FontDef}
use Rattle.dvi_out.specs.Places.{Placed, Glyph, Bar, Text, places}
use Rattle.dvi_out.specs.DviReading.{read}
use Rattle.dvi_out.specs.SpellingFile.{page_of}
use Rattle.dvi_out.specs.SpellingStory.{bytes_of_file}

-- ---- boxes

-- in the font 1, A is 5pt wide and B 10pt, and both are 7.5pt high
abbrev pub char_a : Node
char_a = Char 1 65 (pos 327680) (pos 491520) (pos 0) (pos 0)

abbrev pub char_b : Node
char_b = Char 1 66 (pos 655360) (pos 491520) (pos 0) (pos 0)

abbrev pub unset : GlueSet
unset = record { sign = pos 0; order = Normal; excess = pos 0; total = pos 0 }

abbrev pub box : Bool → ℤ → ℤ → List Node → GlueSet → BoxNode (List Node)
box vertical width height list set =
    record {
      vertical = vertical;
      width = width;
      height = height;
      depth = pos 0;
      shift = pos 0;
      list = list;
      set = set;
      nesting = 1;
      count = 0;
    }

abbrev pub font : FontDef
font =
    record { number = 1; checksum = 16909060; size = pos 655360; design = pos 655360; name = codes "tf10" }

abbrev pub ship : BoxNode (List Node) → List ℕ
ship b =
    bytes_of_file (pos 1000) (codes " TeX output 1776.07.04:1200")
    (page_of b (replicate 10 (pos 0)) (pos 0) (pos 0) (font ∷ []) ∷ [])

-- \vbox{\hbox{AB}\hrule height1pt}
abbrev pub words_and_rule : BoxNode (List Node)
words_and_rule =
    box true (pos 983040) (pos 557056)
    (Boxed (box false (pos 983040) (pos 491520) (char_a ∷ char_b ∷ []) unset)
    ∷ Rule None (Some (pos 65536)) (Some (pos 0)) ∷ []) unset

abbrev pub point : Node
point = Kern (pos 65536) Explicit

-- \hbox{A\kern1pt A\kern1pt A}
abbrev pub equal_kerns : BoxNode (List Node)
equal_kerns =
    box false (pos 1114112) (pos 491520) (char_a ∷ point ∷ char_a ∷ point ∷ char_a ∷ []) unset

-- glue that stretches by 1sp
abbrev pub one_glue : Glue
one_glue = record { width = pos 0; stretch = pos 1; stretch_order = Normal; shrink = pos 0; shrink_order = Normal }

abbrev pub one_more : Node
one_more = Skip (record { glue = one_glue; name = 0; leaders = None })

abbrev pub here : Node
here = Whatsit (Special [])

-- three of them in an \hbox to2sp, with a special behind each
abbrev pub three_glues : BoxNode (List Node)
three_glues =
    box false (pos 2) (pos 0) (one_more ∷ here ∷ one_more ∷ here ∷ one_more ∷ here ∷ [])
    (record { sign = pos 1; order = Normal; excess = pos 2; total = pos 3 })

-- the widths of A and B
abbrev pub widths : ℕ → ℕ → ℤ
widths number byte = if byte == 65 then pos 327680 else pos 655360

-- the page that a reader finds in the file of a box
abbrev pub is_read : BoxNode (List Node) → Type 0
is_read b = read (ship b) widths ≡ Some (record { counts = replicate 10 (pos 0); items = places b (pos 0) (pos 0) } ∷ [])

-- where the letters and the rule of the first box stand
abbrev pub words_places : List Placed
words_places =
    Glyph (pos 0) (pos 491520) 0 65 ∷ Glyph (pos 327680) (pos 491520) 0 66
    ∷ Bar (pos 0) (pos 557056) (pos 65536) (pos 983040) ∷ []

-- the file of the first box
abbrev pub words_bytes : List ℕ
words_bytes =
    247 ∷ 2 ∷ 1 ∷ 131 ∷ 146 ∷ 192 ∷ 28 ∷ 59 ∷ 0 ∷ 0 ∷ 0 ∷ 0 ∷ 3 ∷ 232 ∷ 27 ∷ 32 ∷ 84 ∷ 101 ∷ 88 ∷ 32 ∷ 111 ∷ 117 ∷
    116 ∷ 112 ∷ 117 ∷ 116 ∷ 32 ∷ 49 ∷ 55 ∷ 55 ∷ 54 ∷ 46 ∷ 48 ∷ 55 ∷ 46 ∷ 48 ∷ 52 ∷ 58 ∷ 49 ∷ 50 ∷ 48 ∷ 48 ∷ 139 ∷
    0 ∷ 0 ∷ 0 ∷ 0 ∷ 0 ∷ 0 ∷ 0 ∷ 0 ∷ 0 ∷ 0 ∷ 0 ∷ 0 ∷ 0 ∷ 0 ∷ 0 ∷ 0 ∷ 0 ∷ 0 ∷ 0 ∷ 0 ∷ 0 ∷ 0 ∷ 0 ∷ 0 ∷ 0 ∷ 0 ∷ 0 ∷ 0 ∷
    0 ∷ 0 ∷ 0 ∷ 0 ∷ 0 ∷ 0 ∷ 0 ∷ 0 ∷ 0 ∷ 0 ∷ 0 ∷ 0 ∷ 255 ∷ 255 ∷ 255 ∷ 255 ∷ 159 ∷ 7 ∷ 128 ∷ 0 ∷ 141 ∷ 243 ∷ 0 ∷ 1 ∷
    2 ∷ 3 ∷ 4 ∷ 0 ∷ 10 ∷ 0 ∷ 0 ∷ 0 ∷ 10 ∷ 0 ∷ 0 ∷ 0 ∷ 4 ∷ 116 ∷ 102 ∷ 49 ∷ 48 ∷ 171 ∷ 65 ∷ 66 ∷ 142 ∷ 159 ∷ 1 ∷ 0 ∷
    0 ∷ 137 ∷ 0 ∷ 1 ∷ 0 ∷ 0 ∷ 0 ∷ 15 ∷ 0 ∷ 0 ∷ 140 ∷ 248 ∷ 0 ∷ 0 ∷ 0 ∷ 42 ∷ 1 ∷ 131 ∷ 146 ∷ 192 ∷ 28 ∷ 59 ∷ 0 ∷ 0 ∷
    0 ∷ 0 ∷ 3 ∷ 232 ∷ 0 ∷ 8 ∷ 128 ∷ 0 ∷ 0 ∷ 15 ∷ 0 ∷ 0 ∷ 0 ∷ 1 ∷ 0 ∷ 1 ∷ 243 ∷ 0 ∷ 1 ∷ 2 ∷ 3 ∷ 4 ∷ 0 ∷ 10 ∷ 0 ∷ 0 ∷
    0 ∷ 10 ∷ 0 ∷ 0 ∷ 0 ∷ 4 ∷ 116 ∷ 102 ∷ 49 ∷ 48 ∷ 249 ∷ 0 ∷ 0 ∷ 0 ∷ 130 ∷ 2 ∷ 223 ∷ 223 ∷ 223 ∷ 223 ∷ 223 ∷ 223 ∷
    223 ∷ []

-- the file of the second box, in which the second kern repeats the first
abbrev pub kerns_bytes : List ℕ
kerns_bytes =
    247 ∷ 2 ∷ 1 ∷ 131 ∷ 146 ∷ 192 ∷ 28 ∷ 59 ∷ 0 ∷ 0 ∷ 0 ∷ 0 ∷ 3 ∷ 232 ∷ 27 ∷ 32 ∷ 84 ∷ 101 ∷ 88 ∷ 32 ∷ 111 ∷ 117 ∷
    116 ∷ 112 ∷ 117 ∷ 116 ∷ 32 ∷ 49 ∷ 55 ∷ 55 ∷ 54 ∷ 46 ∷ 48 ∷ 55 ∷ 46 ∷ 48 ∷ 52 ∷ 58 ∷ 49 ∷ 50 ∷ 48 ∷ 48 ∷ 139 ∷
    0 ∷ 0 ∷ 0 ∷ 0 ∷ 0 ∷ 0 ∷ 0 ∷ 0 ∷ 0 ∷ 0 ∷ 0 ∷ 0 ∷ 0 ∷ 0 ∷ 0 ∷ 0 ∷ 0 ∷ 0 ∷ 0 ∷ 0 ∷ 0 ∷ 0 ∷ 0 ∷ 0 ∷ 0 ∷ 0 ∷ 0 ∷ 0 ∷
    0 ∷ 0 ∷ 0 ∷ 0 ∷ 0 ∷ 0 ∷ 0 ∷ 0 ∷ 0 ∷ 0 ∷ 0 ∷ 0 ∷ 255 ∷ 255 ∷ 255 ∷ 255 ∷ 159 ∷ 7 ∷ 128 ∷ 0 ∷ 243 ∷ 0 ∷ 1 ∷ 2 ∷
    3 ∷ 4 ∷ 0 ∷ 10 ∷ 0 ∷ 0 ∷ 0 ∷ 10 ∷ 0 ∷ 0 ∷ 0 ∷ 4 ∷ 116 ∷ 102 ∷ 49 ∷ 48 ∷ 171 ∷ 65 ∷ 150 ∷ 1 ∷ 0 ∷ 0 ∷ 65 ∷ 147 ∷
    65 ∷ 140 ∷ 248 ∷ 0 ∷ 0 ∷ 0 ∷ 42 ∷ 1 ∷ 131 ∷ 146 ∷ 192 ∷ 28 ∷ 59 ∷ 0 ∷ 0 ∷ 0 ∷ 0 ∷ 3 ∷ 232 ∷ 0 ∷ 7 ∷ 128 ∷ 0 ∷
    0 ∷ 17 ∷ 0 ∷ 0 ∷ 0 ∷ 0 ∷ 0 ∷ 1 ∷ 243 ∷ 0 ∷ 1 ∷ 2 ∷ 3 ∷ 4 ∷ 0 ∷ 10 ∷ 0 ∷ 0 ∷ 0 ∷ 10 ∷ 0 ∷ 0 ∷ 0 ∷ 4 ∷ 116 ∷
    102 ∷ 49 ∷ 48 ∷ 249 ∷ 0 ∷ 0 ∷ 0 ∷ 121 ∷ 2 ∷ 223 ∷ 223 ∷ 223 ∷ 223 ∷ []

pub record WorkedFiles : Type 0 where
  -- the whole file
  pub words_and_rule_shipped : ship words_and_rule ≡ words_bytes
  pub equal_kerns_shipped : ship equal_kerns ≡ kerns_bytes
  -- where the three glues lead
  pub three_glues_placed : places three_glues (pos 0) (pos 0)
      ≡ Text (pos 1) (pos 0) [] ∷ Text (pos 1) (pos 0) [] ∷ Text (pos 2) (pos 0) [] ∷ []
  -- where the words and the rule stand
  pub words_and_rule_placed : places words_and_rule (pos 0) (pos 0) ≡ words_places
  -- a reader of the file finds them there
  pub words_and_rule_read : is_read words_and_rule

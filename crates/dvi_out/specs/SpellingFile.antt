-- The bytes of a DVI file: the preamble, its pages, and the postamble.
-- From: tex.web, sections 583 to 595, 602, 617 and 638 to 642; the limits on pages and their bytes are rules of this
-- program.
use Rattle.std.specs.Prelude.{ℕ, zero, suc, ◌+◌, ◌-◌, ◌%◌, max, Bool, ◌||◌, ℤ, pos, negsuc, ◌+ℤ◌, int_lt, List, [], ◌∷◌, ◌++◌, length, Option, Some, None, Result, Ok, Err, nat_lt, nat_le, if◌then◌else◌}
use Rattle.std.specs.List.{flat_map, find}
use Rattle.byteorder.specs.Endian.{big_bytes}
use Rattle.tokens.specs.declared.stop.Stop.{Stop}
use Rattle.tokens.specs.declared.stop.Stop.TheVariants.{Trouble, Capacity}
use Rattle.tokens.specs.declared.kind.Kind.TheVariants.{HugePage}
use Rattle.tokens.specs.declared.cap.Cap.TheVariants.{Pages, PageBytes}
use Rattle.nodes.specs.declared.node.Node.{Node}
use Rattle.nodes.specs.declared.boxes.BoxNode.{BoxNode}
use Rattle.nodes.specs.Inside.{box_map}
use Rattle.dvi_out.specs.declared.font.FontDef.{FontDef}
use Rattle.dvi_out.specs.SpellingWalk.{Walk, walk, plus, list_printed, printed_node}
use Rattle.dvi_out.specs.SpellingPage.{Spelled, one, four, signed_four, definition, is_font, spell_all}

-- a page that is shipped: its box, \count0 to \count9, \hoffset and \voffset, and the fonts that it may use
pub record ShippedPage : Type 0 where
  pub shipped : BoxNode (List Node)
  pub counts : List ℤ
  pub offset_h : ℤ
  pub offset_v : ℤ
  pub fonts : List FontDef

abbrev pub page_of : BoxNode (List Node) → List ℤ → ℤ → ℤ → List FontDef → ShippedPage
page_of shipped counts offset_h offset_v fonts =
    record { shipped = shipped; counts = counts; offset_h = offset_h; offset_v = offset_v; fonts = fonts }

-- A file: the magnification, how long it is, the bytes that weren't taken yet, the place of the last page, the fonts that
-- were defined, the greatest height plus depth and the greatest width of a page, the most pushes in one another, and the
-- number of pages.
pub record DviFile : Type 0 where
  pub mag : ℤ
  pub length : ℕ
  pub waiting : List ℕ
  pub last : Option ℕ
  pub fonts : List FontDef
  pub tallest : ℕ
  pub widest : ℕ
  pub deepest : ℕ
  pub pages : ℕ

abbrev pub dvi_file : ℤ → ℕ → List ℕ → Option ℕ → List FontDef → ℕ → ℕ → ℕ → ℕ → DviFile
dvi_file mag length waiting last fonts tallest widest deepest pages =
    record {
      mag = mag;
      length = length;
      waiting = waiting;
      last = last;
      fonts = fonts;
      tallest = tallest;
      widest = widest;
      deepest = deepest;
      pages = pages;
    }

abbrev pub no_file : DviFile
no_file = dvi_file (pos 0) 0 [] None [] 0 0 0 0

-- bytes are added at the end
abbrev pub with_more : List ℕ → DviFile → DviFile
with_more bytes file =
    dvi_file file.mag (file.length + length bytes) (file.waiting ++ bytes) file.last file.fonts file.tallest file.widest
    file.deepest file.pages

-- the bytes that wait are taken
abbrev pub taken : DviFile → DviFile
taken file =
    dvi_file file.mag file.length [] file.last file.fonts file.tallest file.widest file.deepest file.pages

-- ---- the beginning

-- the unit of the file is 25400000 / 473628672 times 10^-7 m, which is 1sp
abbrev pub unit : List ℕ
unit = four 25400000 ++ four 473628672

unfoldable pub preamble : ℤ → List ℕ → List ℕ
preamble mag comment = 247 ∷ 2 ∷ unit ++ signed_four mag ++ one (length comment) ++ comment

abbrev pub with_mag : ℤ → DviFile → DviFile
with_mag mag file =
    dvi_file mag file.length file.waiting file.last file.fonts file.tallest file.widest file.deepest file.pages

unfoldable pub begun : ℤ → List ℕ → DviFile → DviFile
begun mag comment file = with_more (preamble mag comment) (with_mag mag file)

-- ---- pages

-- the walk through the box of a page
unfoldable pub page_walk : ShippedPage → Walk
page_walk page =
    list_printed (box_map printed_node page.shipped)
    (walk page.offset_h (plus page.shipped.height page.offset_v) (pos 0) (pos 0) (pos 0) (pos 0) 0 0 [])

-- its commands, spelled
unfoldable pub page_spelled : DviFile → ShippedPage → Walk → Spelled
page_spelled file page walked = spell_all walked.commands file.fonts page.fonts

-- the place of a page, or -1
abbrev pub pointer : Option ℕ → List ℕ
pointer None = 255 ∷ 255 ∷ 255 ∷ 255 ∷ []
pointer (Some place) = four place

-- a page, from its bop to its eop
unfoldable pub page_bytes : DviFile → ShippedPage → Walk → List ℕ
page_bytes file page walked =
    139 ∷ flat_map signed_four page.counts ++ pointer file.last ++ (page_spelled file page walked).bytes ++ 140 ∷ []

-- a size that is below 0 counts as 0
abbrev pub at_least_zero : ℤ → ℕ
at_least_zero (pos n) = n
at_least_zero (negsuc n) = 0

-- how far down and to the right a page reaches
abbrev pub reach_down : {A : Type 0} → BoxNode A → ℤ → ℤ
reach_down b offset_v = b.height +ℤ b.depth +ℤ offset_v

abbrev pub reach_right : {A : Type 0} → BoxNode A → ℤ → ℤ
reach_right b offset_h = b.width +ℤ offset_h

unfoldable pub with_walk : DviFile → ShippedPage → Walk → DviFile
with_walk file page walked =
    dvi_file file.mag (file.length + length (page_bytes file page walked)) (file.waiting ++ page_bytes file page walked)
    (Some file.length) (file.fonts ++ (page_spelled file page walked).fresh)
    (max file.tallest (at_least_zero (reach_down page.shipped page.offset_v)))
    (max file.widest (at_least_zero (reach_right page.shipped page.offset_h))) (max file.deepest walked.deepest)
    (file.pages + 1)

-- a page is added
abbrev pub with_page : DviFile → ShippedPage → DviFile
with_page file page = with_walk file page (page_walk page)

-- a page is too large: its height, its depth, both with the offset, or its width with the offset pass 2^30-1
abbrev pub is_too_large : ℤ → Bool
is_too_large size = int_lt (pos 1073741823) size

unfoldable pub is_huge : {A : Type 0} → BoxNode A → ℤ → ℤ → Bool
is_huge b offset_h offset_v =
    is_too_large b.height || is_too_large b.depth || is_too_large (reach_down b offset_v)
    || is_too_large (reach_right b offset_h)

-- what is looked at before a page is made, where so many were shipped
abbrev pub check_answer : {A : Type 0} → ℕ → BoxNode A → ℤ → ℤ → Result (Unit {0}) Stop
check_answer pages b offset_h offset_v =
    if is_huge b offset_h offset_v then Err (Trouble HugePage)
    else (if nat_le 65535 pages then Err (Capacity Pages) else Ok tt)

abbrev pub if_short : ℕ → DviFile → Result DviFile Stop
if_short size file = if nat_lt 16777215 size then Err (Capacity PageBytes) else Ok file

abbrev pub after_check : Result (Unit {0}) Stop → Result DviFile Stop → Result DviFile Stop
after_check (Ok done) further = further
after_check (Err stop) further = Err stop

-- a page is shipped
abbrev pub page_answer : DviFile → ShippedPage → Result DviFile Stop
page_answer file page =
    after_check (check_answer file.pages page.shipped page.offset_h page.offset_v)
    (if_short (length (page_bytes file page (page_walk page))) (with_page file page))

-- ---- the end

abbrev pub definition_if : Option FontDef → List ℕ
definition_if None = []
definition_if (Some font) = definition font

-- the definitions of the fonts with numbers below a number, the highest first
unfoldable pub definitions_below : ℕ → List FontDef → List ℕ
definitions_below zero fonts = []
definitions_below (suc n) fonts = definition_if (find (is_font n) fonts) ++ definitions_below n fonts

-- a number in two bytes, modulo 65536
abbrev pub two : ℕ → List ℕ
two n = big_bytes 2 n

-- post, with the definitions of all fonts that were used
unfoldable pub post : DviFile → List ℕ
post file =
    248 ∷ pointer file.last ++ unit ++ signed_four file.mag ++ four file.tallest ++ four file.widest ++ two file.deepest
    ++ two file.pages ++ definitions_below 256 file.fonts

-- so many bytes 223
abbrev pub filling : ℕ → List ℕ
filling zero = []
filling (suc n) = 223 ∷ filling n

-- post_post with the place of post, in a file that is so long without its last bytes 223: four to seven of them make the
-- length a multiple of four
abbrev pub post_post : ℕ → ℕ → List ℕ
post_post place long = 249 ∷ four place ++ 2 ∷ filling (4 + (4 - long % 4) % 4)

unfoldable pub postamble : DviFile → List ℕ
postamble file = post file ++ post_post file.length (file.length + (length (post file) + 6))

unfoldable pub finished : DviFile → DviFile
finished file = with_more (postamble file) file

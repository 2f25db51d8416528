-- What the walk through a page sets, against where its things stand.
-- From: tex.web, sections 616 to 640.
use Rattle.std.specs.Prelude.{◌≡◌, ℕ, ◌-◌, ℤ, Option, Some, None, All, ⊤}
use Rattle.std.specs.Int.{w32}
use Rattle.std.specs.Int.RustNames.{FitsSigned}
use Rattle.nodes.specs.declared.node.Node.{Node}
use Rattle.nodes.specs.declared.node.Node.TheOpen.{Node-F}
use Rattle.nodes.specs.declared.node.Node.TheFolds.{every-Node}
use Rattle.dvi_out.specs.declared.command.Command.{Command}
use Rattle.dvi_out.specs.declared.command.Command.TheVariants.{Push, Pop, Right, Down, Character, SetRule, PutRule, Special}
use Rattle.dvi_out.specs.Places.{places}
use Rattle.dvi_out.specs.DviReading.{Reader, begin_page}
use Rattle.dvi_out.specs.SpellingFile.{ShippedPage, page_walk}
use Rattle.dvi_out.specs.Obeying.{all_obeyed}

-- a dimension that is there is within four bytes with a sign
abbrev pub FitsIfThere : Option ℤ → Type 0
FitsIfThere None = ⊤
FitsIfThere (Some size) = FitsSigned w32 size

-- the movements and the sizes in a command are within four bytes with a sign
abbrev pub SizesFit : Command → Type 0
SizesFit Push = ⊤
SizesFit Pop = ⊤
SizesFit (Right width) = FitsSigned w32 width
SizesFit (Down height) = FitsSigned w32 height
SizesFit (Character font byte) = ⊤
SizesFit (SetRule height width) = FitsSigned w32 height × FitsSigned w32 width
SizesFit (PutRule height width) = FitsSigned w32 height × FitsSigned w32 width
SizesFit (Special bytes) = ⊤

-- A node that can be told to a device for which the widths of characters are given, by the number of their font in the
-- file: its character has this width, and the width of a box or a rule is within four bytes with a sign.
abbrev pub CanBeTold : (ℕ → ℕ → ℤ) → Node-F Node → Type 0
CanBeTold widths (Node-F.Char font byte width height depth italic) = widths (font - 1) byte ≡ width
CanBeTold widths (Node-F.Lig lig) = widths (lig.font - 1) lig.byte ≡ lig.width
CanBeTold widths (Node-F.Boxed b) = FitsSigned w32 b.width
CanBeTold widths (Node-F.Rule width height depth) = FitsIfThere width
CanBeTold widths (Node-F.Skip skip) = ⊤
CanBeTold widths (Node-F.Kern width how) = ⊤
CanBeTold widths (Node-F.Penalty penalty) = ⊤
CanBeTold widths (Node-F.Disc disc) = ⊤
CanBeTold widths (Node-F.Mark mark) = ⊤
CanBeTold widths (Node-F.Insert insert) = ⊤
CanBeTold widths (Node-F.Adjust list) = ⊤
CanBeTold widths (Node-F.Whatsit whatsit) = ⊤

-- a page, with all nodes in it; its width and its offset to the right are such numbers too
pub record PageCanBeTold (widths : ℕ → ℕ → ℤ) (page : ShippedPage) : Type 0 where
  pub nodes : All (every-Node (CanBeTold widths)) page.shipped.list
  pub width : FitsSigned w32 page.shipped.width
  pub offset : FitsSigned w32 page.offset_h

-- the commands of the walk through a page set what stands in its box, where it stands
pub record WalkSetsPlaces (widths : ℕ → ℕ → ℤ) (page : ShippedPage) (start : Reader) : Type 0 where
  pub after : Reader
  pub is : all_obeyed widths (page_walk page).commands (begin_page page.counts start) ≡ Some after
  pub can : All SizesFit (page_walk page).commands
  pub items : after.items ≡ places page.shipped page.offset_h page.offset_v
  pub counts : after.counts ≡ page.counts
  pub pages : after.pages ≡ start.pages

abbrev pub WalksSetPlaces : Type 0
WalksSetPlaces =
    (widths : ℕ → ℕ → ℤ) (page : ShippedPage) (start : Reader) → PageCanBeTold widths page → WalkSetsPlaces widths page start

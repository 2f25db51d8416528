-- Where the characters, rules and specials of a box stand. A box stands at its left edge and its baseline, and each thing
-- in its list where the sums over what is in front of it lead. Positions grow to the right and down.
-- From: The TeXbook, chapters 12 and 21; tex.web, sections 625 to 628 and 634 to 637 (the roundings, and leaders).
use Rattle.std.specs.Prelude.{ℕ, zero, suc, ◌+◌, ◌-◌, ◌*◌, ◌/◌, ◌%◌, Bool, true, false, ◌&&◌, ℤ, pos, negsuc, neg_ℤ, ◌+ℤ◌, ◌-ℤ◌, ◌*ℤ◌, unsigned_abs, int_le, List, [], ◌∷◌, ◌++◌, Option, Some, None, unwrap_or, if◌then◌else◌}
use Rattle.std.specs.Int.{w32, int_wrap, is_positive, is_negative}
use Rattle.std.specs.Ordering.{int_eq}
use Rattle.scaled.specs.declared.spacing.Glue.{Glue}
use Rattle.scaled.specs.ArithmeticQuotients.{nearest_quotient}
use Rattle.scaled.specs.Glue.{same_order}
use Rattle.nodes.specs.declared.node.Node.{Node}
use Rattle.nodes.specs.declared.node.Node.TheOpen.{Node-F}
use Rattle.nodes.specs.declared.node.Node.TheFolds.{fold-Node}
use Rattle.nodes.specs.declared.boxes.BoxNode.{BoxNode}
use Rattle.nodes.specs.declared.boxes.GlueSet.{GlueSet}
use Rattle.nodes.specs.declared.spacing.Leaders.{Leaders}
use Rattle.nodes.specs.declared.whatsit.Whatsit.{Whatsit}
use Rattle.nodes.specs.declared.whatsit.Whatsit.TheVariants as whatsit
use Rattle.nodes.specs.Inside.{box_map}

-- Something with its position, h and v: a character with the number of its font in the file, which is one less than in
-- the nodes; a rule, height and width, which stands on its position; the bytes of a special.
pub data Placed : Type 0 where
  Glyph : ℤ → ℤ → ℕ → ℕ → Placed
  Bar : ℤ → ℤ → ℤ → ℤ → Placed
  Text : ℤ → ℤ → List ℕ → Placed

-- positions and distances are taken modulo 2^32
abbrev pub modulo : ℤ → ℤ
modulo z = int_wrap w32 z

-- ---- the sums in front

-- what a list knows of its box, and where its left edge is, and its baseline or, in a vertical list, its top
pub record Around : Type 0 where
  pub vertical : Bool
  pub width : ℤ
  pub height : ℤ
  pub depth : ℤ
  pub set : GlueSet
  pub h : ℤ
  pub v : ℤ

-- a box as the item of leaders, and what it holds where it stands
pub record Hung : Type 0 where
  pub width : ℤ
  pub height : ℤ
  pub depth : ℤ
  pub shift : ℤ
  pub standing : ℤ → ℤ → List Placed

pub data Filler : Type 0 where
  Nothing : Filler
  FillsWithRule : Option ℤ → Option ℤ → Option ℤ → Filler
  FillsWithBox : Hung → Filler

-- What a node is in a list: its natural length along a horizontal and along a vertical one, its part in the setting of
-- the box, what it holds, by the distances of its beginning and its end from the box's edge, and what it fills.
pub record Laid : Type 0 where
  pub across : ℤ
  pub down : ℤ
  pub part : GlueSet → ℤ
  pub holds : Around → ℤ → ℤ → List Placed
  pub filler : Filler

abbrev pub length_along : Bool → Laid → ℤ
length_along true node = node.down
length_along false node = node.across

-- the natural lengths of some nodes
abbrev pub lengths : Bool → List Laid → ℤ
lengths vertical [] = pos 0
lengths vertical (node ∷ nodes) = length_along vertical node +ℤ lengths vertical nodes

-- the parts of some nodes in the setting of the box
abbrev pub parts : GlueSet → List Laid → ℤ
parts set [] = pos 0
parts set (node ∷ nodes) = node.part set +ℤ parts set nodes

-- a number, or the bound that it passes
abbrev pub between : ℤ → ℤ → ℤ → ℤ
between low high z = if int_le z low then low else (if int_le high z then high else z)

-- By how much glue with these parts grows: its share of the excess, rounded to the nearest, halves away from 0. It is at
-- most 10^9 either way, and 0 where no glue is set.
abbrev pub share : GlueSet → ℤ → ℤ
share set part =
    if int_eq set.sign (pos 0) then pos 0
    else between (neg_ℤ (pos 1000000000)) (pos 1000000000) (unwrap_or (nearest_quotient (set.excess *ℤ part) set.total) (pos 0))

-- how far from the edge of the box what is behind some nodes stands
abbrev pub distance : Around → List Laid → ℤ
distance around front = lengths around.vertical front +ℤ share around.set (parts around.set front)

abbrev pub each_placed : Around → List Laid → List Laid → List Placed
each_placed around front [] = []
each_placed around front (node ∷ behind) =
    node.holds around (distance around front) (distance around (front ++ node ∷ []))
    ++ each_placed around (front ++ node ∷ []) behind

-- what a box holds that stands at a left edge and a baseline
abbrev pub box_placed : BoxNode (List Laid) → ℤ → ℤ → List Placed
box_placed b h v =
    each_placed (record {
      vertical = b.vertical;
      width = b.width;
      height = b.height;
      depth = b.depth;
      set = b.set;
      h = h;
      v = if b.vertical then v -ℤ b.height else v;
    }) [] b.list

-- ---- characters, rules and specials

-- a character at a distance; in a vertical list there is none
abbrev pub glyph : ℕ → ℕ → Around → ℤ → List Placed
glyph font byte around begins =
    if around.vertical then [] else Glyph (modulo (around.h +ℤ begins)) (modulo around.v) (font - 1) byte ∷ []

-- a rule, where it has a size in both directions
abbrev pub bar : ℤ → ℤ → ℤ → ℤ → List Placed
bar h v height width =
    if is_positive (modulo height) && is_positive (modulo width)
    then Bar (modulo h) (modulo v) (modulo height) (modulo width) ∷ []
    else []

-- A rule in a list from a distance to another. A size that is missing across the list is that of the box.
abbrev pub bar_between : Around → Option ℤ → Option ℤ → Option ℤ → ℤ → ℤ → List Placed
bar_between around width height depth begins ends =
    if around.vertical
    then bar around.h (around.v +ℤ ends) (ends -ℤ begins) (unwrap_or width around.width)
    else bar (around.h +ℤ begins) (around.v +ℤ unwrap_or depth around.depth)
    (unwrap_or height around.height +ℤ unwrap_or depth around.depth) (ends -ℤ begins)

abbrev pub text : List ℕ → Around → ℤ → List Placed
text bytes around begins =
    if around.vertical then Text (modulo around.h) (modulo (around.v +ℤ begins)) bytes ∷ []
    else Text (modulo (around.h +ℤ begins)) (modulo around.v) bytes ∷ []

-- ---- leaders

-- copies at these distances from where they begin, so many, each so far behind the one before
abbrev pub steps : ℕ → ℤ → ℤ → List ℤ
steps zero first step = []
steps (suc n) first step = first ∷ steps n (first +ℤ step) step

-- the rest of a division that is never below 0
abbrev pub rest_of : ℤ → ℕ → ℕ
rest_of (pos n) size = n % size
rest_of (negsuc n) size = size - 1 - n % size

-- \leaders: the copies stand at whole multiples of their size from the edge of the box around
abbrev pub at_multiples : ℤ → ℕ → ℕ → List ℤ
at_multiples offset space size =
    let to_next = (size - rest_of offset size) % size in
    steps ((space - to_next) / size) (pos to_next) (pos size)

-- \cleaders: as many as fit, with half of what is left in front
abbrev pub in_the_middle : ℕ → ℕ → List ℤ
in_the_middle space size = steps (space / size) (pos (space % size / 2)) (pos size)

-- \xleaders: as many as fit, with equal parts of what is left between them, and in front half of what is then left
abbrev pub spread_out : ℕ → ℕ → List ℤ
spread_out space size =
    let q = space / size in
    let r = space % size in
    let l = r / (q + 1) in
    steps q (pos ((r - (q - 1) * l) / 2)) (pos (size + l))

abbrev pub copies : ℕ → ℤ → ℕ → ℕ → List ℤ
copies zero offset space size = at_multiples offset space size
copies (suc zero) offset space size = in_the_middle space size
copies (suc (suc more)) offset space size = spread_out space size

-- the size of a leader box along the list
abbrev pub hung_along : Bool → Hung → ℤ
hung_along true b = modulo (b.height +ℤ b.depth)
hung_along false b = b.width

-- a copy at a distance from the edge
abbrev pub hung_at : Around → Hung → ℤ → List Placed
hung_at around b at =
    if around.vertical
    then b.standing (around.h +ℤ b.shift) (around.v +ℤ at +ℤ b.height)
    else b.standing (around.h +ℤ at) (around.v +ℤ b.shift)

abbrev pub hung_each : Around → Hung → ℤ → List ℤ → List Placed
hung_each around b begins [] = []
hung_each around b begins (at ∷ rest) = hung_at around b (begins +ℤ at) ++ hung_each around b begins rest

abbrev pub hung_between : Around → ℕ → Hung → ℤ → ℤ → List Placed
hung_between around how b begins ends =
    let space = modulo (ends -ℤ begins) in
    let size = hung_along around.vertical b in
    if is_positive space && is_positive size
    then hung_each around b begins (copies how (modulo begins) (unsigned_abs space) (unsigned_abs size))
    else []

abbrev pub filled : Filler → ℕ → Around → ℤ → ℤ → List Placed
filled Nothing how around begins ends = []
filled (FillsWithRule width height depth) how around begins ends = bar_between around width height depth begins ends
filled (FillsWithBox b) how around begins ends = hung_between around how b begins ends

abbrev pub leaders_between : Option (Leaders Laid) → Around → ℤ → ℤ → List Placed
leaders_between None around begins ends = []
leaders_between (Some leaders) around begins ends = filled leaders.item.filler leaders.how around begins ends

-- ---- nodes

-- how much of a glue takes part in the setting of a box
abbrev pub part_of_glue : Glue → GlueSet → ℤ
part_of_glue glue set =
    if is_positive set.sign && same_order glue.stretch_order set.order then glue.stretch
    else (if is_negative set.sign && same_order glue.shrink_order set.order then glue.shrink else pos 0)

abbrev pub no_part : GlueSet → ℤ
no_part set = pos 0

abbrev pub holds_nothing : Around → ℤ → ℤ → List Placed
holds_nothing around begins ends = []

abbrev pub laid : ℤ → ℤ → (GlueSet → ℤ) → (Around → ℤ → ℤ → List Placed) → Filler → Laid
laid across down part holds filler =
    record { across = across; down = down; part = part; holds = holds; filler = filler }

-- a node that is nowhere
abbrev pub nothing_laid : Laid
nothing_laid = laid (pos 0) (pos 0) no_part holds_nothing Nothing

abbrev pub box_laid : BoxNode (List Laid) → Around → ℤ → ℤ → List Placed
box_laid b around begins ends =
    if around.vertical
    then box_placed b (around.h +ℤ b.shift) (around.v +ℤ begins +ℤ b.height)
    else box_placed b (around.h +ℤ begins) (around.v +ℤ b.shift)

abbrev pub hung : BoxNode (List Laid) → Hung
hung b =
    record { width = b.width; height = b.height; depth = b.depth; shift = b.shift; standing = box_placed b }

abbrev pub whatsit_laid : Whatsit → Laid
whatsit_laid (whatsit.Open stream name) = nothing_laid
whatsit_laid (whatsit.Write stream text) = nothing_laid
whatsit_laid (whatsit.Close stream) = nothing_laid
whatsit_laid (whatsit.Special bytes) = laid (pos 0) (pos 0) no_part (λ around begins ends. text bytes around begins) Nothing

-- a node, with what each node inside it is in its place
abbrev pub lay : Node-F Laid → Laid
lay (Node-F.Char font byte width height depth italic) =
    laid width (pos 0) no_part (λ around begins ends. glyph font byte around begins) Nothing
lay (Node-F.Lig lig) =
    laid lig.width (pos 0) no_part (λ around begins ends. glyph lig.font lig.byte around begins) Nothing
lay (Node-F.Boxed b) = laid b.width (b.height +ℤ b.depth) no_part (box_laid b) (FillsWithBox (hung b))
lay (Node-F.Rule width height depth) =
    laid (unwrap_or width (pos 0)) (unwrap_or height (pos 0) +ℤ unwrap_or depth (pos 0)) no_part
    (λ around. bar_between around width height depth) (FillsWithRule width height depth)
lay (Node-F.Skip skip) =
    laid skip.glue.width skip.glue.width (part_of_glue skip.glue) (leaders_between skip.leaders) Nothing
lay (Node-F.Kern width how) = laid width width no_part holds_nothing Nothing
lay (Node-F.Penalty penalty) = nothing_laid
lay (Node-F.Disc disc) = nothing_laid
lay (Node-F.Mark mark) = nothing_laid
lay (Node-F.Insert insert) = nothing_laid
lay (Node-F.Adjust list) = nothing_laid
lay (Node-F.Whatsit whatsit) = whatsit_laid whatsit

abbrev pub laid_node : Node → Laid
laid_node = fold-Node Laid lay

-- Places: what a shipped box holds, with offsets to the right and down
abbrev pub places : BoxNode (List Node) → ℤ → ℤ → List Placed
places b offset_h offset_v = box_placed (box_map laid_node b) offset_h (b.height +ℤ offset_v)

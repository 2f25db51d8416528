-- What each kind of node does in a list of a page, and what it is where places are told.
use Rattle.std.proofs.Common.{◌≡◌, ℕ, ℤ, Option, List, sym, ap, ◌∙◌}
use Rattle.nodes.specs.declared.node.Node.{Node}
use Rattle.nodes.specs.declared.node.Node.TheOpen.{Node-F}
use Rattle.nodes.specs.declared.node.Node.TheFolds.{map-Node, fold-roll-Node}
use Rattle.nodes.specs.declared.node.Node.TheVariants.{Char, Lig, Boxed, Rule, Skip, Kern, Penalty, Disc, Mark, Insert, Adjust, Whatsit, rolls-Char, rolls-Lig, rolls-Boxed, rolls-Rule, rolls-Skip, rolls-Kern, rolls-Penalty, rolls-Disc, rolls-Mark, rolls-Insert, rolls-Adjust, rolls-Whatsit}
use Rattle.nodes.specs.declared.node.KernKind.{KernKind}
use Rattle.nodes.specs.declared.boxes.BoxNode.{BoxNode}
use Rattle.nodes.specs.declared.ligature.LigNode.{LigNode}
use Rattle.nodes.specs.declared.discretionary.DiscNode.{DiscNode}
use Rattle.nodes.specs.declared.page_material.MarkNode.{MarkNode}
use Rattle.nodes.specs.declared.page_material.InsertNode.{InsertNode}
use Rattle.nodes.specs.declared.whatsit.Whatsit as what
use Rattle.nodes.specs.declared.spacing.SkipNode.{SkipNode}
use Rattle.dvi_out.specs.SpellingWalk.{Printed, print_step, printed_node}
use Rattle.dvi_out.specs.Places.{Laid, lay, laid_node}

pub printed-Char : (font byte : ℕ) (width height depth italic : ℤ) →
    printed_node (Char font byte width height depth italic) ≡ print_step (map-Node Node Printed printed_node (Node-F.Char font byte width height depth italic))
printed-Char font byte width height depth italic =
    ap printed_node (sym (rolls-Char font byte width height depth italic)) ∙ fold-roll-Node Printed print_step (Node-F.Char font byte width height depth italic)

pub printed-Lig : (lig : LigNode) →
    printed_node (Lig lig) ≡ print_step (map-Node Node Printed printed_node (Node-F.Lig lig))
printed-Lig lig =
    ap printed_node (sym (rolls-Lig lig)) ∙ fold-roll-Node Printed print_step (Node-F.Lig lig)

pub printed-Boxed : (b : BoxNode (List Node)) →
    printed_node (Boxed b) ≡ print_step (map-Node Node Printed printed_node (Node-F.Boxed b))
printed-Boxed b =
    ap printed_node (sym (rolls-Boxed b)) ∙ fold-roll-Node Printed print_step (Node-F.Boxed b)

pub printed-Rule : (width height depth : Option ℤ) →
    printed_node (Rule width height depth) ≡ print_step (map-Node Node Printed printed_node (Node-F.Rule width height depth))
printed-Rule width height depth =
    ap printed_node (sym (rolls-Rule width height depth)) ∙ fold-roll-Node Printed print_step (Node-F.Rule width height depth)

pub printed-Skip : (skip : SkipNode Node) →
    printed_node (Skip skip) ≡ print_step (map-Node Node Printed printed_node (Node-F.Skip skip))
printed-Skip skip =
    ap printed_node (sym (rolls-Skip skip)) ∙ fold-roll-Node Printed print_step (Node-F.Skip skip)

pub printed-Kern : (width : ℤ) (how : KernKind) →
    printed_node (Kern width how) ≡ print_step (map-Node Node Printed printed_node (Node-F.Kern width how))
printed-Kern width how =
    ap printed_node (sym (rolls-Kern width how)) ∙ fold-roll-Node Printed print_step (Node-F.Kern width how)

pub printed-Penalty : (penalty : ℤ) →
    printed_node (Penalty penalty) ≡ print_step (map-Node Node Printed printed_node (Node-F.Penalty penalty))
printed-Penalty penalty =
    ap printed_node (sym (rolls-Penalty penalty)) ∙ fold-roll-Node Printed print_step (Node-F.Penalty penalty)

pub printed-Disc : (disc : DiscNode (List Node)) →
    printed_node (Disc disc) ≡ print_step (map-Node Node Printed printed_node (Node-F.Disc disc))
printed-Disc disc =
    ap printed_node (sym (rolls-Disc disc)) ∙ fold-roll-Node Printed print_step (Node-F.Disc disc)

pub printed-Mark : (mark : MarkNode) →
    printed_node (Mark mark) ≡ print_step (map-Node Node Printed printed_node (Node-F.Mark mark))
printed-Mark mark =
    ap printed_node (sym (rolls-Mark mark)) ∙ fold-roll-Node Printed print_step (Node-F.Mark mark)

pub printed-Insert : (insert : InsertNode (List Node)) →
    printed_node (Insert insert) ≡ print_step (map-Node Node Printed printed_node (Node-F.Insert insert))
printed-Insert insert =
    ap printed_node (sym (rolls-Insert insert)) ∙ fold-roll-Node Printed print_step (Node-F.Insert insert)

pub printed-Adjust : (list : List Node) →
    printed_node (Adjust list) ≡ print_step (map-Node Node Printed printed_node (Node-F.Adjust list))
printed-Adjust list =
    ap printed_node (sym (rolls-Adjust list)) ∙ fold-roll-Node Printed print_step (Node-F.Adjust list)

pub printed-Whatsit : (whatsit : what.Whatsit) →
    printed_node (Whatsit whatsit) ≡ print_step (map-Node Node Printed printed_node (Node-F.Whatsit whatsit))
printed-Whatsit whatsit =
    ap printed_node (sym (rolls-Whatsit whatsit)) ∙ fold-roll-Node Printed print_step (Node-F.Whatsit whatsit)

pub laid-Char : (font byte : ℕ) (width height depth italic : ℤ) → laid_node (Char font byte width height depth italic) ≡ lay (map-Node Node Laid laid_node (Node-F.Char font byte width height depth italic))
laid-Char font byte width height depth italic = ap laid_node (sym (rolls-Char font byte width height depth italic)) ∙ fold-roll-Node Laid lay (Node-F.Char font byte width height depth italic)

pub laid-Boxed : (b : BoxNode (List Node)) → laid_node (Boxed b) ≡ lay (map-Node Node Laid laid_node (Node-F.Boxed b))
laid-Boxed b = ap laid_node (sym (rolls-Boxed b)) ∙ fold-roll-Node Laid lay (Node-F.Boxed b)

pub laid-Rule : (width height depth : Option ℤ) → laid_node (Rule width height depth) ≡ lay (map-Node Node Laid laid_node (Node-F.Rule width height depth))
laid-Rule width height depth = ap laid_node (sym (rolls-Rule width height depth)) ∙ fold-roll-Node Laid lay (Node-F.Rule width height depth)

pub laid-Skip : (skip : SkipNode Node) → laid_node (Skip skip) ≡ lay (map-Node Node Laid laid_node (Node-F.Skip skip))
laid-Skip skip = ap laid_node (sym (rolls-Skip skip)) ∙ fold-roll-Node Laid lay (Node-F.Skip skip)

pub laid-Kern : (width : ℤ) (how : KernKind) → laid_node (Kern width how) ≡ lay (map-Node Node Laid laid_node (Node-F.Kern width how))
laid-Kern width how = ap laid_node (sym (rolls-Kern width how)) ∙ fold-roll-Node Laid lay (Node-F.Kern width how)

pub laid-Whatsit : (whatsit : what.Whatsit) → laid_node (Whatsit whatsit) ≡ lay (map-Node Node Laid laid_node (Node-F.Whatsit whatsit))
laid-Whatsit whatsit = ap laid_node (sym (rolls-Whatsit whatsit)) ∙ fold-roll-Node Laid lay (Node-F.Whatsit whatsit)

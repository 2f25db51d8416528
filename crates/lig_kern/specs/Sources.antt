-- The characters for which a list of nodes stands, and that all which were fed are set, in order.
use Rattle.std.specs.Prelude.{◌≡◌, ℕ, Bool, List, [], ◌∷◌}
use Rattle.std.specs.List.{flat_map}
use Rattle.tfm.specs.FontMetrics.{FontMetrics}
use Rattle.nodes.specs.declared.node.Node.{Node}
use Rattle.nodes.specs.declared.node.Node.TheOpen.{Node-F}
use Rattle.nodes.specs.declared.node.Node.TheViews.{out-Node}
use Rattle.lig_kern.specs.Histories.{IsSet}

abbrev pub source_in : {A : Type 0} → Node-F A → List ℕ
source_in (Node-F.Char font byte width height depth italic) = byte ∷ []
source_in (Node-F.Lig lig) = lig.source
source_in (Node-F.Boxed box) = []
source_in (Node-F.Rule width height depth) = []
source_in (Node-F.Skip skip) = []
source_in (Node-F.Kern width how) = []
source_in (Node-F.Penalty penalty) = []
source_in (Node-F.Disc disc) = []
source_in (Node-F.Mark mark) = []
source_in (Node-F.Insert insert) = []
source_in (Node-F.Adjust list) = []
source_in (Node-F.Whatsit whatsit) = []

-- a character stands for itself, a ligature for what it was made of
abbrev pub source_of_node : Node → List ℕ
source_of_node node = source_in (out-Node node)

abbrev pub sources_of : List Node → List ℕ
sources_of list = flat_map source_of_node list

-- whatever the font's program does, the list stands for what was fed
abbrev pub IsSetInOrder : Type 0
IsSetInOrder =
    (metrics : FontMetrics) (font : ℕ) (left : Bool) (fed : List ℕ) (right : Bool) (count : ℕ) (list : List Node)
    → IsSet metrics font left fed right count list → sources_of list ≡ fed

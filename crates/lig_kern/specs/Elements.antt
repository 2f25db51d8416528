-- What stands in a word while a font's program rewrites it, and what the font does where two of these meet (The TeXbook,
-- appendix F; tex.web, sections 134, 143, 545 and 1034 to 1040).
use Rattle.std.specs.Prelude.{ℕ, Bool, true, false, not, ◌&&◌, ◌||◌, if◌then◌else◌, ℤ, List, [], ◌∷◌, ◌++◌, Option, Some, None}
use Rattle.tfm.specs.declared.action.Action.{Action}
use Rattle.tfm.specs.declared.action.Action.TheVariants.{Nothing, Kern as KernOf, Lig as LigOf}
use Rattle.tfm.specs.FontMetrics.{FontMetrics, character_in}
use Rattle.tfm.specs.FontMetricsPrograms.{action_in}
use Rattle.nodes.specs.declared.node.Node.{Node}
use Rattle.nodes.specs.declared.node.Node.TheVariants.{Char, Lig, Kern}
use Rattle.nodes.specs.declared.node.KernKind.TheVariants.{Font}
use Rattle.lig_kern.specs.declared.element.Element.{Element}
use Rattle.lig_kern.specs.declared.element.Element.TheVariants.{Start, Boundary, Character, Ligature}

-- ---- what an element is

abbrev pub is_boundary : Element → Bool
is_boundary Start = false
is_boundary Boundary = true
is_boundary (Character byte) = false
is_boundary (Ligature byte source left right) = false

-- whether it is a ligature that stands for the boundary at its left, or right
abbrev pub is_left : Element → Bool
is_left Start = false
is_left Boundary = false
is_left (Character byte) = false
is_left (Ligature byte source left right) = left

abbrev pub is_right : Element → Bool
is_right Start = false
is_right Boundary = false
is_right (Character byte) = false
is_right (Ligature byte source left right) = right

-- the characters that were fed for which it stands
abbrev pub source_of : Element → List ℕ
source_of Start = []
source_of Boundary = []
source_of (Character byte) = byte ∷ []
source_of (Ligature byte source left right) = source

-- its node, if it has one: a character with its metrics, or a ligature with what it stands for
abbrev pub nodes_of : FontMetrics → ℕ → Element → List Node
nodes_of metrics font Start = []
nodes_of metrics font Boundary = []
nodes_of metrics font (Character byte) =
    Char font byte (character_in metrics byte).width (character_in metrics byte).height (character_in metrics byte).depth (character_in metrics byte).italic ∷ []
nodes_of metrics font (Ligature byte source left right) =
    Lig (record {
      font = font;
      byte = byte;
      width = (character_in metrics byte).width;
      height = (character_in metrics byte).height;
      depth = (character_in metrics byte).depth;
      italic = (character_in metrics byte).italic;
      source = source;
      left = left;
      right = right;
    }) ∷ []

abbrev pub kern_node : ℤ → Node
kern_node width = Kern width Font

-- ---- what the font does where two elements meet

-- the character for which a program is asked; the font says which one stands for the boundary at the right of a word
abbrev pub right_code : FontMetrics → Element → Option ℕ
right_code metrics Start = None
right_code metrics Boundary = metrics.boundary
right_code metrics (Character byte) = Some byte
right_code metrics (Ligature byte source left right) = Some byte

-- behind a character
abbrev pub behind : FontMetrics → ℕ → Option ℕ → Action
behind metrics left None = Nothing
behind metrics left (Some right) = action_in metrics (Some left) right

-- behind the boundary at the left of a word; between two boundaries there is nothing to set
abbrev pub behind_boundary : FontMetrics → Element → Action
behind_boundary metrics Start = Nothing
behind_boundary metrics Boundary = Nothing
behind_boundary metrics (Character right) = action_in metrics None right
behind_boundary metrics (Ligature right source at_left at_right) = action_in metrics None right

unfoldable pub between : FontMetrics → Element → Element → Action
between metrics Start next = Nothing
between metrics Boundary next = behind_boundary metrics next
between metrics (Character left) next = behind metrics left (right_code metrics next)
between metrics (Ligature left source at_left at_right) next = behind metrics left (right_code metrics next)

abbrev pub is_ligature : Action → Bool
is_ligature Nothing = false
is_ligature (KernOf width) = false
is_ligature (LigOf byte keep_left keep_right skip) = true

abbrev pub kerns_of : Action → List Node
kerns_of Nothing = []
kerns_of (KernOf width) = kern_node width ∷ []
kerns_of (LigOf byte keep_left keep_right skip) = []

-- ---- a ligature between two neighbours

-- what it takes over of a neighbour: the characters of one that isn't kept
abbrev pub taken_source : Bool → Element → List ℕ
taken_source kept element = if kept then [] else source_of element

-- It stands for the boundary at the left of the word where it is made at this boundary, or where it takes the place of
-- a ligature that stood for it; and so at the right.
abbrev pub ligature_of : ℕ → Bool → Bool → Element → Element → Element
ligature_of byte keep_left keep_right here next =
    Ligature byte (taken_source keep_left here ++ taken_source keep_right next)
    (is_boundary here || (not keep_left && is_left here))
    (is_boundary next || (not keep_right && is_right next))

-- only the ligature that is nearest to a boundary stands for it: a neighbour yields this to one that is made between it
-- and the boundary
abbrev pub yields_left : Bool → Element → Element
yields_left yields Start = Start
yields_left yields Boundary = Boundary
yields_left yields (Character byte) = Character byte
yields_left yields (Ligature byte source left right) = Ligature byte source (left && not yields) right

abbrev pub yields_right : Bool → Element → Element
yields_right yields Start = Start
yields_right yields Boundary = Boundary
yields_right yields (Character byte) = Character byte
yields_right yields (Ligature byte source left right) = Ligature byte source left (right && not yields)

-- The worked files, by computing.
use Rattle.std.proofs.Common.{◌≡◌, ℕ, pos, ◌+ℤ◌, false, Some, None, List, [], ◌∷◌, map, refl, sym, ap, ◌∙◌}
use Rattle.std.specs.Prelude.{codes, replicate}
use Rattle.std.specs.Int.{int_wrap}
use Rattle.nodes.specs.declared.node.Node.{Node}
use Rattle.nodes.specs.declared.node.Node.TheOpen.{Node-F}
use Rattle.nodes.specs.declared.node.Node.TheVariants.{Boxed, Rule}
use Rattle.nodes.specs.declared.node.KernKind.TheVariants.{Explicit}
use Rattle.nodes.specs.declared.boxes.BoxNode.{BoxNode}
use Rattle.nodes.specs.declared.whatsit.Whatsit.TheVariants.{Special}
use Rattle.nodes.specs.Inside.{with_list}
use Rattle.dvi_out.specs.declared.command.Command.TheVariants.{Push, Pop, Right, Down, Character, PutRule}
use Rattle.dvi_out.specs.DviReading.{read_from, read}
use Rattle.dvi_out.specs.Places.{Laid, lay, laid_node, Placed, Text, box_placed, places}
use Rattle.dvi_out.specs.SpellingWalk.{Printed, Walk, walk, plus, printed_node, synched_h, synched_v, entered, popped, left, growth, part_of, glued, space_of, advanced, with_character, with_special, rule_across, rule_down, with_rule, with_rule_leaders, each_printed, list_printed, box_printed, at_box, behind_box, past_box, with_box, with_whatsit, print_step}
use Rattle.dvi_out.specs.SpellingPage.{font_head, font_numbers, font_name, movement_bytes, with_choice, with_font, with_right, with_down}
use Rattle.dvi_out.specs.SpellingFile.{ShippedPage, page_of, preamble, begun, page_walk, page_spelled, page_bytes, with_walk, no_file, definitions_below, post, postamble, finished}
use Rattle.dvi_out.specs.Examples.{WorkedFiles, char_a, char_b, box, unset, font, ship, words_and_rule, point, equal_kerns, one_more, here, three_glues, widths, is_read, words_bytes, kerns_bytes, words_places, one_glue}
use Rattle.dvi_out.proofs.Nodes.{printed-Char, printed-Boxed, printed-Rule, printed-Kern, laid-Char, laid-Boxed, laid-Rule, laid-Skip, laid-Whatsit}

-- a page of a box
abbrev page : BoxNode (List Node) → ShippedPage
page b = page_of b (replicate 10 (pos 0)) (pos 0) (pos 0) (font ∷ [])

-- its file, by the walk through it
abbrev by_walk : BoxNode (List Node) → Walk → List ℕ
by_walk b w = (finished (with_walk (begun (pos 1000) (codes " TeX output 1776.07.04:1200") no_file) (page b) w)).waiting

-- the walk by what the nodes of the box do
abbrev by_nodes : BoxNode (List Node) → List Printed → Walk
by_nodes b nodes =
    list_printed (with_list b nodes) (walk (pos 0) (plus b.height (pos 0)) (pos 0) (pos 0) (pos 0) (pos 0) 0 0 [])

walked_by : (b : BoxNode (List Node)) (nodes : List Printed) → map printed_node b.list ≡ nodes →
    page_walk (page b) ≡ by_nodes b nodes
unfolding page_walk
walked_by b nodes is = ap (by_nodes b) is

shipped_by : (b : BoxNode (List Node)) (w : Walk) → page_walk (page b) ≡ w → ship b ≡ by_walk b w
shipped_by b w is = ap (by_walk b) is

-- ---- A, B and what stands around them

abbrev a_step : Printed
a_step = print_step (Node-F.Char 1 65 (pos 327680) (pos 491520) (pos 0) (pos 0))

abbrev b_step : Printed
b_step = print_step (Node-F.Char 1 66 (pos 655360) (pos 491520) (pos 0) (pos 0))

a_is : printed_node char_a ≡ a_step
a_is = printed-Char 1 65 (pos 327680) (pos 491520) (pos 0) (pos 0)

b_is : printed_node char_b ≡ b_step
b_is = printed-Char 1 66 (pos 655360) (pos 491520) (pos 0) (pos 0)

abbrev point_step : Printed
point_step = print_step (Node-F.Kern (pos 65536) Explicit)

point_is : printed_node point ≡ point_step
point_is = printed-Kern (pos 65536) Explicit

abbrev words : BoxNode (List Node)
words = box false (pos 983040) (pos 491520) (char_a ∷ char_b ∷ []) unset

words_list : map printed_node (char_a ∷ char_b ∷ []) ≡ a_step ∷ b_step ∷ []
words_list = ap (λ (p : Printed). p ∷ printed_node char_b ∷ []) a_is ∙ ap (λ (p : Printed). a_step ∷ p ∷ []) b_is

abbrev words_step : Printed
words_step = print_step (Node-F.Boxed (with_list words (a_step ∷ b_step ∷ [])))

words_is : printed_node (Boxed words) ≡ words_step
words_is =
    printed-Boxed words ∙ ap (λ (l : List Printed). print_step (Node-F.Boxed (with_list words l))) words_list

abbrev line : Node
line = Rule None (Some (pos 65536)) (Some (pos 0))

abbrev line_step : Printed
line_step = print_step (Node-F.Rule None (Some (pos 65536)) (Some (pos 0)))

line_is : printed_node line ≡ line_step
line_is = printed-Rule None (Some (pos 65536)) (Some (pos 0))

words_and_rule_list : map printed_node words_and_rule.list ≡ words_step ∷ line_step ∷ []
words_and_rule_list =
    ap (λ (p : Printed). p ∷ printed_node line ∷ []) words_is ∙ ap (λ (p : Printed). words_step ∷ p ∷ []) line_is

abbrev words_walk : Walk
words_walk =
    walk (pos 0) (pos 557056) (pos 0) (pos 557056) (pos 0) (pos 0) 0 1
    (Down (pos 491520) ∷ Push ∷ Character 1 65 ∷ Character 1 66 ∷ Pop ∷ Down (pos 65536) ∷ PutRule (pos 65536) (pos 983040) ∷ [])

words_walked : by_nodes words_and_rule (words_step ∷ line_step ∷ []) ≡ words_walk
unfolding int_wrap synched_h synched_v entered popped left growth part_of glued space_of advanced with_character with_special rule_across rule_down with_rule with_rule_leaders each_printed list_printed box_printed at_box behind_box past_box with_box with_whatsit print_step
words_walked = refl

words_spelled : by_walk words_and_rule words_walk ≡ words_bytes
unfolding movement_bytes font_head font_numbers font_name with_choice with_font with_right with_down preamble begun page_spelled page_bytes with_walk definitions_below post postamble finished
words_spelled = refl

abbrev kerns_steps : List Printed
kerns_steps = a_step ∷ point_step ∷ a_step ∷ point_step ∷ a_step ∷ []

equal_kerns_list : map printed_node equal_kerns.list ≡ kerns_steps
equal_kerns_list =
    ap (λ (p : Printed). p ∷ printed_node point ∷ p ∷ printed_node point ∷ p ∷ []) a_is
    ∙ ap (λ (p : Printed). a_step ∷ p ∷ a_step ∷ p ∷ a_step ∷ []) point_is

abbrev kerns_walk : Walk
kerns_walk =
    walk (pos 1114112) (pos 491520) (pos 1114112) (pos 491520) (pos 0) (pos 0) 0 0
    (Down (pos 491520) ∷ Character 1 65 ∷ Right (pos 65536) ∷ Character 1 65 ∷ Right (pos 65536) ∷ Character 1 65 ∷ [])

kerns_walked : by_nodes equal_kerns kerns_steps ≡ kerns_walk
unfolding int_wrap synched_h synched_v entered popped left growth part_of glued space_of advanced with_character with_special rule_across rule_down with_rule with_rule_leaders each_printed list_printed box_printed at_box behind_box past_box with_box with_whatsit print_step
kerns_walked = refl

kerns_spelled : by_walk equal_kerns kerns_walk ≡ kerns_bytes
unfolding movement_bytes font_head font_numbers font_name with_choice with_font with_right with_down preamble begun page_spelled page_bytes with_walk definitions_below post postamble finished
kerns_spelled = refl

pub words_shipped : ship words_and_rule ≡ words_bytes
words_shipped =
    shipped_by words_and_rule words_walk
    (walked_by words_and_rule (words_step ∷ line_step ∷ []) words_and_rule_list ∙ words_walked)
    ∙ words_spelled

pub kerns_shipped : ship equal_kerns ≡ kerns_bytes
kerns_shipped =
    shipped_by equal_kerns kerns_walk (walked_by equal_kerns kerns_steps equal_kerns_list ∙ kerns_walked) ∙ kerns_spelled

-- ---- where things stand

-- what stands in a box, by what its nodes are
abbrev by_laid : BoxNode (List Node) → List Laid → List Placed
by_laid b nodes = box_placed (with_list b nodes) (pos 0) (b.height +ℤ pos 0)

placed_by : (b : BoxNode (List Node)) (nodes : List Laid) → map laid_node b.list ≡ nodes →
    places b (pos 0) (pos 0) ≡ by_laid b nodes
placed_by b nodes is = ap (by_laid b) is

abbrev a_laid : Laid
a_laid = lay (Node-F.Char 1 65 (pos 327680) (pos 491520) (pos 0) (pos 0))

abbrev b_laid : Laid
b_laid = lay (Node-F.Char 1 66 (pos 655360) (pos 491520) (pos 0) (pos 0))

a_stands : laid_node char_a ≡ a_laid
a_stands = laid-Char 1 65 (pos 327680) (pos 491520) (pos 0) (pos 0)

b_stands : laid_node char_b ≡ b_laid
b_stands = laid-Char 1 66 (pos 655360) (pos 491520) (pos 0) (pos 0)

words_stand : map laid_node (char_a ∷ char_b ∷ []) ≡ a_laid ∷ b_laid ∷ []
words_stand =
    ap (λ (n : Laid). n ∷ laid_node char_b ∷ []) a_stands ∙ ap (λ (n : Laid). a_laid ∷ n ∷ []) b_stands

abbrev words_laid : Laid
words_laid = lay (Node-F.Boxed (with_list words (a_laid ∷ b_laid ∷ [])))

words_stand_in : laid_node (Boxed words) ≡ words_laid
words_stand_in = laid-Boxed words ∙ ap (λ (l : List Laid). lay (Node-F.Boxed (with_list words l))) words_stand

abbrev line_laid : Laid
line_laid = lay (Node-F.Rule None (Some (pos 65536)) (Some (pos 0)))

line_stands : laid_node line ≡ line_laid
line_stands = laid-Rule None (Some (pos 65536)) (Some (pos 0))

words_and_rule_stand : map laid_node words_and_rule.list ≡ words_laid ∷ line_laid ∷ []
words_and_rule_stand =
    ap (λ (n : Laid). n ∷ laid_node line ∷ []) words_stand_in ∙ ap (λ (n : Laid). words_laid ∷ n ∷ []) line_stands

words_computed : by_laid words_and_rule (words_laid ∷ line_laid ∷ []) ≡ words_places
unfolding int_wrap
words_computed = refl

pub words_placed : places words_and_rule (pos 0) (pos 0) ≡ words_places
words_placed = placed_by words_and_rule (words_laid ∷ line_laid ∷ []) words_and_rule_stand ∙ words_computed

abbrev glue_laid : Laid
glue_laid = lay (Node-F.Skip (record { glue = one_glue; name = 0; leaders = None }))

glue_stands : laid_node one_more ≡ glue_laid
glue_stands = laid-Skip (record { glue = one_glue; name = 0; leaders = None })

abbrev here_laid : Laid
here_laid = lay (Node-F.Whatsit (Special []))

here_stands : laid_node here ≡ here_laid
here_stands = laid-Whatsit (Special [])

abbrev glues_laid : Laid → Laid → List Laid
glues_laid g h = g ∷ h ∷ g ∷ h ∷ g ∷ h ∷ []

glues_stand : map laid_node three_glues.list ≡ glues_laid glue_laid here_laid
glues_stand =
    ap (λ (g : Laid). glues_laid g (laid_node here)) glue_stands ∙ ap (glues_laid glue_laid) here_stands

glues_computed : by_laid three_glues (glues_laid glue_laid here_laid)
    ≡ Text (pos 1) (pos 0) [] ∷ Text (pos 1) (pos 0) [] ∷ Text (pos 2) (pos 0) [] ∷ []
unfolding int_wrap
glues_computed = refl

-- ---- what a reader finds

words_found : read words_bytes widths ≡ Some (record { counts = replicate 10 (pos 0); items = words_places } ∷ [])
unfolding read_from int_wrap
words_found = refl

pub words_read : is_read words_and_rule
words_read =
    ap (λ (bytes : List ℕ). read bytes widths) words_shipped ∙ words_found
    ∙ sym (ap (λ (items : List Placed). Some (record { counts = replicate 10 (pos 0); items = items } ∷ [])) words_placed)

pub worked_files : WorkedFiles
worked_files = record {
  words_and_rule_shipped = words_shipped;
  equal_kerns_shipped = kerns_shipped;
  three_glues_placed = placed_by three_glues (glues_laid glue_laid here_laid) glues_stand ∙ glues_computed;
  words_and_rule_placed = words_placed;
  words_and_rule_read = words_read;
}

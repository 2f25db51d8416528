-- The walk through lists, node by node.
use Rattle.std.proofs.Common.{◌≡◌, ℕ, ◌+◌, ◌<◌, ℤ, pos, Option, Some, None, List, [], ◌∷◌, ◌++◌, length, take, get_or, map, refl, sym, ap, ◌∙◌, true, false, add-one, Bool, IsTrue, ◌↔◌}
use Rattle.std.proofs.lemmas.List.{take_more, map-append}
use Rattle.nodes.specs.declared.node.Node.{Node}
use Rattle.nodes.specs.declared.node.Node.TheVariants.{Char, Lig, Boxed, Rule, Skip, Kern, Penalty, Disc, Mark, Insert, Adjust, Whatsit}
use Rattle.nodes.specs.declared.node.KernKind.{KernKind}
use Rattle.nodes.specs.declared.boxes.BoxNode.{BoxNode}
use Rattle.nodes.specs.declared.ligature.LigNode.{LigNode}
use Rattle.nodes.specs.declared.discretionary.DiscNode.{DiscNode}
use Rattle.nodes.specs.declared.page_material.MarkNode.{MarkNode}
use Rattle.nodes.specs.declared.page_material.InsertNode.{InsertNode}
use Rattle.nodes.specs.declared.whatsit.Whatsit as what
use Rattle.nodes.specs.declared.spacing.SkipNode.{SkipNode}
use Rattle.nodes.specs.declared.spacing.Leaders.{Leaders}
use Rattle.scaled.specs.declared.spacing.Glue.{Glue}
use Rattle.nodes.specs.Inside.{box_map}
use Rattle.dvi_out.specs.SpellingWalk.{Frame, Walk, Printed, Leader, NoLeader, RuleLeader, BoxLeader, print_step, printed_node, each_printed, with_character, with_box, box_printed, sizes_of, with_rule, with_leaders, with_leader, space_of, glued, advanced, with_whatsit, times, is_empty, at_box, behind_box, past_box, with_box_leaders, list_printed, with_copy, at_copy, behind_copy, copies_in, along, Copies, frame_of, list_begun, entered, left, with_glue, with_reader}
use Rattle.dvi_out.specs.declared.walker.Inside.{Inside}
use Rattle.dvi_out.specs.FrameOf.{frame}
use Rattle.dvi_out.specs.WalkOf.{leaders_printed}
use Rattle.dvi_out.specs.Outside.{Keeps, left_to}
use Rattle.dvi_out.proofs.Nodes.{printed-Char, printed-Lig, printed-Boxed, printed-Rule, printed-Skip, printed-Kern, printed-Penalty, printed-Disc, printed-Mark, printed-Insert, printed-Adjust, printed-Whatsit}

-- ---- what a node does in a list

pub in_list_Char : (f : Frame) (w : Walk) (font byte : ℕ) (width height depth italic : ℤ) →
    (printed_node (Char font byte width height depth italic)).in_list f w ≡ with_character f font byte width w
unfolding print_step
in_list_Char f w font byte width height depth italic = ap (λ (p : Printed). p.in_list f w) (printed-Char font byte width height depth italic)

pub in_list_Lig : (f : Frame) (w : Walk) (lig : LigNode) →
    (printed_node (Lig lig)).in_list f w ≡ with_character f lig.font lig.byte lig.width w
unfolding print_step
in_list_Lig f w lig = ap (λ (p : Printed). p.in_list f w) (printed-Lig lig)

pub in_list_Boxed : (f : Frame) (w : Walk) (b : BoxNode (List Node)) →
    (printed_node (Boxed b)).in_list f w ≡ with_box f (box_map printed_node b) w
unfolding print_step
in_list_Boxed f w b = ap (λ (p : Printed). p.in_list f w) (printed-Boxed b)

pub in_list_Rule : (f : Frame) (w : Walk) (width height depth : Option ℤ) →
    (printed_node (Rule width height depth)).in_list f w ≡ with_rule f width height depth w
unfolding print_step
in_list_Rule f w width height depth = ap (λ (p : Printed). p.in_list f w) (printed-Rule width height depth)

pub in_list_Kern : (f : Frame) (w : Walk) (width : ℤ) (how : KernKind) →
    (printed_node (Kern width how)).in_list f w ≡ advanced f width w
unfolding print_step
in_list_Kern f w width how = ap (λ (p : Printed). p.in_list f w) (printed-Kern width how)

pub in_list_Penalty : (f : Frame) (w : Walk) (penalty : ℤ) →
    (printed_node (Penalty penalty)).in_list f w ≡ w
unfolding print_step
in_list_Penalty f w penalty = ap (λ (p : Printed). p.in_list f w) (printed-Penalty penalty)

pub in_list_Disc : (f : Frame) (w : Walk) (disc : DiscNode (List Node)) →
    (printed_node (Disc disc)).in_list f w ≡ w
unfolding print_step
in_list_Disc f w disc = ap (λ (p : Printed). p.in_list f w) (printed-Disc disc)

pub in_list_Mark : (f : Frame) (w : Walk) (mark : MarkNode) →
    (printed_node (Mark mark)).in_list f w ≡ w
unfolding print_step
in_list_Mark f w mark = ap (λ (p : Printed). p.in_list f w) (printed-Mark mark)

pub in_list_Insert : (f : Frame) (w : Walk) (insert : InsertNode (List Node)) →
    (printed_node (Insert insert)).in_list f w ≡ w
unfolding print_step
in_list_Insert f w insert = ap (λ (p : Printed). p.in_list f w) (printed-Insert insert)

pub in_list_Adjust : (f : Frame) (w : Walk) (list : List Node) →
    (printed_node (Adjust list)).in_list f w ≡ w
unfolding print_step
in_list_Adjust f w list = ap (λ (p : Printed). p.in_list f w) (printed-Adjust list)

pub in_list_Whatsit : (f : Frame) (w : Walk) (whatsit : what.Whatsit) →
    (printed_node (Whatsit whatsit)).in_list f w ≡ with_whatsit whatsit w
unfolding print_step
in_list_Whatsit f w whatsit = ap (λ (p : Printed). p.in_list f w) (printed-Whatsit whatsit)

skip_with : (f : Frame) (w : Walk) (glue : Glue) (name : ℕ) (leaders : Option (Leaders Node)) →
    (printed_node (Skip (record { glue = glue; name = name; leaders = leaders }))).in_list f w
    ≡ with_leaders f (space_of f.set glue w) (leaders_printed leaders) (glued f.set glue w)
unfolding print_step
skip_with f w glue name None =
    ap (λ (p : Printed). p.in_list f w) (printed-Skip (record { glue = glue; name = name; leaders = None }))
skip_with f w glue name (Some leaders) =
    ap (λ (p : Printed). p.in_list f w) (printed-Skip (record { glue = glue; name = name; leaders = Some leaders }))

pub in_list_Skip : (f : Frame) (w : Walk) (skip : SkipNode Node) →
    (printed_node (Skip skip)).in_list f w
    ≡ with_leaders f (space_of f.set skip.glue w) (leaders_printed skip.leaders) (glued f.set skip.glue w)
in_list_Skip f w skip = skip_with f w skip.glue skip.name skip.leaders

-- ---- what it is as the item of leaders

pub leader_Char : (font byte : ℕ) (width height depth italic : ℤ) → (printed_node (Char font byte width height depth italic)).leader ≡ NoLeader
unfolding print_step
leader_Char font byte width height depth italic = ap (λ (p : Printed). p.leader) (printed-Char font byte width height depth italic)

pub leader_Lig : (lig : LigNode) → (printed_node (Lig lig)).leader ≡ NoLeader
unfolding print_step
leader_Lig lig = ap (λ (p : Printed). p.leader) (printed-Lig lig)

pub leader_Boxed : (b : BoxNode (List Node)) → (printed_node (Boxed b)).leader ≡ BoxLeader (sizes_of b) (box_printed (box_map printed_node b))
unfolding print_step
leader_Boxed b = ap (λ (p : Printed). p.leader) (printed-Boxed b)

pub leader_Rule : (width height depth : Option ℤ) → (printed_node (Rule width height depth)).leader ≡ RuleLeader width height depth
unfolding print_step
leader_Rule width height depth = ap (λ (p : Printed). p.leader) (printed-Rule width height depth)

pub leader_Kern : (width : ℤ) (how : KernKind) → (printed_node (Kern width how)).leader ≡ NoLeader
unfolding print_step
leader_Kern width how = ap (λ (p : Printed). p.leader) (printed-Kern width how)

pub leader_Penalty : (penalty : ℤ) → (printed_node (Penalty penalty)).leader ≡ NoLeader
unfolding print_step
leader_Penalty penalty = ap (λ (p : Printed). p.leader) (printed-Penalty penalty)

pub leader_Disc : (disc : DiscNode (List Node)) → (printed_node (Disc disc)).leader ≡ NoLeader
unfolding print_step
leader_Disc disc = ap (λ (p : Printed). p.leader) (printed-Disc disc)

pub leader_Mark : (mark : MarkNode) → (printed_node (Mark mark)).leader ≡ NoLeader
unfolding print_step
leader_Mark mark = ap (λ (p : Printed). p.leader) (printed-Mark mark)

pub leader_Insert : (insert : InsertNode (List Node)) → (printed_node (Insert insert)).leader ≡ NoLeader
unfolding print_step
leader_Insert insert = ap (λ (p : Printed). p.leader) (printed-Insert insert)

pub leader_Adjust : (list : List Node) → (printed_node (Adjust list)).leader ≡ NoLeader
unfolding print_step
leader_Adjust list = ap (λ (p : Printed). p.leader) (printed-Adjust list)

pub leader_Whatsit : (whatsit : what.Whatsit) → (printed_node (Whatsit whatsit)).leader ≡ NoLeader
unfolding print_step
leader_Whatsit whatsit = ap (λ (p : Printed). p.leader) (printed-Whatsit whatsit)

pub leader_Skip : (skip : SkipNode Node) → (printed_node (Skip skip)).leader ≡ NoLeader
unfolding print_step
leader_Skip skip = ap (λ (p : Printed). p.leader) (printed-Skip skip)

-- ---- lists

each_printed-append : (f : Frame) (w : Walk) (front : List Printed) (last : Printed) →
    each_printed f w (front ++ last ∷ []) ≡ last.in_list f (each_printed f w front)
unfolding each_printed
each_printed-append f w [] last = refl
each_printed-append f w (node ∷ front) last = each_printed-append f (node.in_list f w) front last

-- one node more
pub each_printed_next : (f : Frame) (w : Walk) (list : List Node) (i : ℕ) (node : Node) → i < length list →
    node ≡ get_or list i node →
    each_printed f w (map printed_node (take (i + 1) list))
    ≡ (printed_node node).in_list f (each_printed f w (map printed_node (take i list)))
each_printed_next f w list i node within is =
    ap (λ (l : List Node). each_printed f w (map printed_node l))
    (take_more list i node within ∙ ap (λ (n : Node). take i list ++ n ∷ []) (sym is))
    ∙ ap (each_printed f w) (map-append printed_node (take i list) (node ∷ []))
    ∙ each_printed-append f w (map printed_node (take i list)) (printed_node node)

pub each_printed_none : (f : Frame) (w : Walk) (list : List Node) → each_printed f w (map printed_node (take 0 list)) ≡ w
unfolding each_printed
each_printed_none f w list = refl

-- a box that isn't empty
pub box_walked : (f : Frame) (b : BoxNode (List Printed)) (w : Walk) → is_empty b.list ≡ false →
    with_box f b w ≡ behind_box f (sizes_of b) w.h w.v (box_printed b (at_box f (sizes_of b) w))
unfolding with_box
box_walked f b w some = rw some refl

pub box_passed : (f : Frame) (b : BoxNode (List Printed)) (w : Walk) → is_empty b.list ≡ true →
    with_box f b w ≡ past_box f (sizes_of b) w
unfolding with_box
box_passed f b w none = rw none refl

empty-map : {A B : Type 0} (g : A → B) (list : List A) → is_empty (map g list) ≡ is_empty list
empty-map g [] = refl
empty-map g (x ∷ list) = refl

-- what a test of a list for emptiness says
pub empty_is : {A : Type 0} (list : List A) (b : Bool) → IsTrue b ↔ (list ≡ []) → b ≡ is_empty list
empty_is [] true both = refl
empty_is [] false both = let impossible = both.1 refl in cc
empty_is (x ∷ list) true both = let impossible = both.0 refl in cc
empty_is (x ∷ list) false both = refl

-- a box with an empty list
pub empty_box : (f : Frame) (w : Walk) (b : BoxNode (List Node)) → is_empty b.list ≡ true →
    with_box f (box_map printed_node b) w ≡ past_box f (sizes_of b) w
empty_box f w b none = box_passed f (box_map printed_node b) w (empty-map printed_node b.list ∙ none)

-- and with another list
pub full_box : (f : Frame) (w : Walk) (b : BoxNode (List Node)) → is_empty b.list ≡ false →
    with_box f (box_map printed_node b) w
    ≡ behind_box f (sizes_of b) w.h w.v (box_printed (box_map printed_node b) (at_box f (sizes_of b) w))
full_box f w b some = box_walked f (box_map printed_node b) w (empty-map printed_node b.list ∙ some)

kept_is : (inside : Inside) (w after : Walk) → Keeps inside w →
    left_to inside after ≡ with_glue w.sum w.grown (with_reader w.reader_h w.reader_v after)
kept_is inside w after keeps = rw (keeps.reader_h, keeps.reader_v, keeps.sum, keeps.grown) refl

-- a box that was walked through
pub box_is : (b : BoxNode (List Node)) (inside : Inside) (w begun walked behind : Walk) →
    frame inside.around ≡ frame_of b (entered w) → begun ≡ list_begun b (entered w) → Keeps inside w →
    walked ≡ each_printed (frame inside.around) begun (map printed_node b.list) →
    behind ≡ left_to inside (left walked) → behind ≡ box_printed (box_map printed_node b) w
unfolding box_printed list_printed
box_is b inside w begun walked behind around begins keeps walks leaves =
    leaves
    ∙ ap (λ (x : Walk). left_to inside (left x))
    (walks
    ∙ ap (λ (f : Frame). each_printed f begun (map printed_node b.list)) around
    ∙ ap (λ (x : Walk). each_printed (frame_of b (entered w)) x (map printed_node b.list)) begins)
    ∙ kept_is inside w (left (each_printed (frame_of b (entered w)) (list_begun b (entered w)) (map printed_node b.list))) keeps

pub times_none : (f : Walk → Walk) (w : Walk) → times 0 f w ≡ w
unfolding times
times_none f w = refl

pub times_more : (n : ℕ) (f : Walk → Walk) (w : Walk) → times (n + 1) f w ≡ f (times n f w)
unfolding times
times_more n f w = rw add-one refl

-- a box in a list, all steps together
pub whole_box : (f : Frame) (w : Walk) (b : BoxNode (List Node)) (inside : Inside) (here begun walked behind last : Walk) →
    is_empty b.list ≡ false → here ≡ at_box f (sizes_of b) w →
    frame inside.around ≡ frame_of b (entered here) → begun ≡ list_begun b (entered here) → Keeps inside here →
    walked ≡ each_printed (frame inside.around) begun (map printed_node b.list) →
    behind ≡ left_to inside (left walked) → last ≡ behind_box f (sizes_of b) w.h w.v behind →
    last ≡ with_box f (box_map printed_node b) w
whole_box f w b inside here begun walked behind last some goes around begins keeps walks leaves ends =
    ends
    ∙ ap (behind_box f (sizes_of b) w.h w.v)
    (box_is b inside here begun walked behind around begins keeps walks leaves
    ∙ ap (box_printed (box_map printed_node b)) goes)
    ∙ sym (full_box f w b some)

-- a copy of a leader box, all steps together
pub whole_copy : (f : Frame) (n between : ℕ) (start w : Walk) (b : BoxNode (List Node)) (inside : Inside)
    (here begun walked behind last : Walk) →
    w ≡ times n (with_copy f (sizes_of b) (box_printed (box_map printed_node b)) between) start →
    here ≡ at_copy f (sizes_of b) w →
    frame inside.around ≡ frame_of b (entered here) → begun ≡ list_begun b (entered here) → Keeps inside here →
    walked ≡ each_printed (frame inside.around) begun (map printed_node b.list) →
    behind ≡ left_to inside (left walked) → last ≡ behind_copy f (sizes_of b) between w.h w.v behind →
    last ≡ times (n + 1) (with_copy f (sizes_of b) (box_printed (box_map printed_node b)) between) start
whole_copy f n between start w b inside here begun walked behind last before goes around begins keeps walks leaves ends =
    ends
    ∙ ap (behind_copy f (sizes_of b) between w.h w.v)
    (box_is b inside here begun walked behind around begins keeps walks leaves
    ∙ ap (box_printed (box_map printed_node b)) goes)
    ∙ ap (with_copy f (sizes_of b) (box_printed (box_map printed_node b)) between) before
    ∙ sym (times_more n (with_copy f (sizes_of b) (box_printed (box_map printed_node b)) between) start)

-- all copies
pub whole_leaders : (f : Frame) (space : ℤ) (how : ℕ) (w start after last : Walk) (b : BoxNode (List Node)) (c : Copies) →
    c ≡ copies_in f space how (sizes_of b) w → start ≡ advanced f (pos c.first) w →
    after ≡ times c.count (with_copy f (sizes_of b) (box_printed (box_map printed_node b)) c.between) start →
    last ≡ along f space w.h w.v after →
    last ≡ with_leader f space how (printed_node (Boxed b)).leader w
unfolding with_box_leaders
whole_leaders f space how w start after last b c spread begins repeats ends =
    let inside = box_printed (box_map printed_node b) in
    ends
    ∙ ap (along f space w.h w.v)
    (repeats
    ∙ ap (times c.count (with_copy f (sizes_of b) inside c.between)) begins
    ∙ ap (λ (k : Copies). times k.count (with_copy f (sizes_of b) inside k.between) (advanced f (pos k.first) w)) spread)
    ∙ sym (ap (λ (l : Leader). with_leader f space how l w) (leader_Boxed b))

pub nodes_next : (f : Frame) (w : Walk) (list : List Node) (i : ℕ) (node : Node) (here next : Walk) → i < length list →
    node ≡ get_or list i node → here ≡ each_printed f w (map printed_node (take i list)) →
    next ≡ (printed_node node).in_list f here → next ≡ each_printed f w (map printed_node (take (i + 1) list))
nodes_next f w list i node here next within is before goes =
    goes ∙ ap ((printed_node node).in_list f) before ∙ sym (each_printed_next f w list i node within is)

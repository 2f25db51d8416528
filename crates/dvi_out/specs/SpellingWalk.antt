-- The symbolic commands of a page: the walk through a box. Positions grow to the right and down.
-- From: tex.web, sections 616 to 637 (hlist_out, vlist_out and synchronization); The TeXbook, chapters 12, 21 and 23.
use Rattle.std.specs.Prelude.{ℕ, zero, suc, ◌+◌, ◌-◌, ◌*◌, ◌/◌, ◌%◌, max, Bool, true, false, ◌&&◌, ℤ, pos, neg_ℤ, ◌+ℤ◌, ◌-ℤ◌, ◌*ℤ◌, unsigned_abs, int_le, List, [], ◌∷◌, ◌++◌, length, take, Option, Some, None, unwrap_or, slice_get, if◌then◌else◌}
use Rattle.std.specs.Int.{w32, int_wrap, int_rem_euclid, is_positive, is_negative}
use Rattle.std.specs.Ordering.{int_eq}
use Rattle.scaled.specs.declared.spacing.Glue.{Glue}
use Rattle.scaled.specs.ArithmeticQuotients.{nearest_quotient}
use Rattle.scaled.specs.Glue.{same_order}
use Rattle.nodes.specs.declared.node.Node.{Node}
use Rattle.nodes.specs.declared.node.Node.TheOpen.{Node-F}
use Rattle.nodes.specs.declared.node.Node.TheFolds.{fold-Node}
use Rattle.nodes.specs.declared.boxes.BoxNode.{BoxNode}
use Rattle.nodes.specs.declared.boxes.GlueSet.{GlueSet}
use Rattle.nodes.specs.declared.spacing.Leaders.{Leaders}
use Rattle.nodes.specs.declared.whatsit.Whatsit.{Whatsit}
use Rattle.nodes.specs.declared.whatsit.Whatsit.TheVariants as whatsit
use Rattle.dvi_out.specs.declared.command.Command.{Command}
use Rattle.dvi_out.specs.declared.command.Command.TheVariants.{Push, Pop, Right, Down, Character, SetRule, PutRule, Special}

-- ---- positions, modulo 2^32

abbrev pub plus : ℤ → ℤ → ℤ
plus place by = int_wrap w32 (place +ℤ by)

abbrev pub minus : ℤ → ℤ → ℤ
minus place by = int_wrap w32 (place -ℤ by)

-- ---- the walk

-- Where the walk is, where the reader of the commands is, the glue of the list so far (by how much it was to grow, and
-- by how much it did), how many lists around this one have begun with a push and the most that did, and the commands.
pub record Walk : Type 0 where
  pub h : ℤ
  pub v : ℤ
  pub reader_h : ℤ
  pub reader_v : ℤ
  pub sum : ℤ
  pub grown : ℤ
  pub depth : ℕ
  pub deepest : ℕ
  pub commands : List Command

abbrev pub walk : ℤ → ℤ → ℤ → ℤ → ℤ → ℤ → ℕ → ℕ → List Command → Walk
walk h v reader_h reader_v sum grown depth deepest commands =
    record {
      h = h;
      v = v;
      reader_h = reader_h;
      reader_v = reader_v;
      sum = sum;
      grown = grown;
      depth = depth;
      deepest = deepest;
      commands = commands;
    }

abbrev pub to_h : ℤ → Walk → Walk
to_h h w = walk h w.v w.reader_h w.reader_v w.sum w.grown w.depth w.deepest w.commands

abbrev pub to_v : ℤ → Walk → Walk
to_v v w = walk w.h v w.reader_h w.reader_v w.sum w.grown w.depth w.deepest w.commands

abbrev pub with_reader : ℤ → ℤ → Walk → Walk
with_reader reader_h reader_v w = walk w.h w.v reader_h reader_v w.sum w.grown w.depth w.deepest w.commands

abbrev pub with_glue : ℤ → ℤ → Walk → Walk
with_glue sum grown w = walk w.h w.v w.reader_h w.reader_v sum grown w.depth w.deepest w.commands

abbrev pub with_command : Command → Walk → Walk
with_command command w =
    walk w.h w.v w.reader_h w.reader_v w.sum w.grown w.depth w.deepest (w.commands ++ command ∷ [])

-- the reader is brought to the walk's place
unfoldable pub synched_h : Walk → Walk
synched_h w =
    if int_eq w.h w.reader_h then w
    else with_reader w.h w.reader_v (with_command (Right (minus w.h w.reader_h)) w)

unfoldable pub synched_v : Walk → Walk
synched_v w =
    if int_eq w.v w.reader_v then w
    else with_reader w.reader_h w.v (with_command (Down (minus w.v w.reader_v)) w)

-- a push, and the list is one deeper
unfoldable pub entered : Walk → Walk
entered w =
    walk w.h w.v w.reader_h w.reader_v w.sum w.grown (w.depth + 1) (max w.deepest (w.depth + 1))
    (w.commands ++ Push ∷ [])

abbrev pub is_push : Option Command → Bool
is_push None = false
is_push (Some Push) = true
is_push (Some Pop) = false
is_push (Some (Right width)) = false
is_push (Some (Down height)) = false
is_push (Some (Character font byte)) = false
is_push (Some (SetRule height width)) = false
is_push (Some (PutRule height width)) = false
is_push (Some (Special bytes)) = false

-- a pop; where nothing stands between it and its push, neither stays
unfoldable pub popped : List Command → List Command
popped commands =
    if is_push (slice_get commands (length commands - 1)) then take (length commands - 1) commands
    else commands ++ Pop ∷ []

unfoldable pub left : Walk → Walk
left w = walk w.h w.v w.reader_h w.reader_v w.sum w.grown (w.depth - 1) w.deepest (popped w.commands)

-- ---- the box around a list

-- what a list knows of its box: its sizes, its glue set, its left edge, and its baseline or, in a vertical list, its top
pub record Frame : Type 0 where
  pub vertical : Bool
  pub width : ℤ
  pub height : ℤ
  pub depth : ℤ
  pub set : GlueSet
  pub left_edge : ℤ
  pub level : ℤ

-- ---- glue

-- the most that the glue of a list grows or diminishes
abbrev pub held : ℤ → ℤ
held z =
    if int_le z (neg_ℤ (pos 1000000000)) then neg_ℤ (pos 1000000000)
    else (if int_le (pos 1000000000) z then pos 1000000000 else z)

-- the share of the excess that glue has of which so much takes part, rounded to the nearest, halves away from 0
abbrev pub share : GlueSet → ℤ → ℤ
share set sum = unwrap_or (nearest_quotient (set.excess *ℤ sum) set.total) (pos 0)

-- by how much the glue of a list grew, rounded once for all of it
unfoldable pub growth : GlueSet → ℤ → ℤ
growth set sum = if int_eq set.sign (pos 0) then pos 0 else held (share set sum)

-- how much of a glue takes part in the setting of its box
unfoldable pub part_of : GlueSet → Glue → ℤ
part_of set glue =
    if is_positive set.sign
    then (if same_order glue.stretch_order set.order then glue.stretch else pos 0)
    else (if is_negative set.sign && same_order glue.shrink_order set.order then glue.shrink else pos 0)

unfoldable pub glued : GlueSet → Glue → Walk → Walk
glued set glue w = with_glue (w.sum +ℤ part_of set glue) (growth set (w.sum +ℤ part_of set glue)) w

-- the space of a glue: its width, and by how much the glue so far grew at it
unfoldable pub space_of : GlueSet → Glue → Walk → ℤ
space_of set glue w = plus (minus glue.width w.grown) (growth set (w.sum +ℤ part_of set glue))

-- the walk goes on in the direction of the list
unfoldable pub advanced : Frame → ℤ → Walk → Walk
advanced frame by w = if frame.vertical then to_v (plus w.v by) w else to_h (plus w.h by) w

-- ---- characters, rules and specials

-- a character; in a vertical list none is set
unfoldable pub with_character : Frame → ℕ → ℕ → ℤ → Walk → Walk
with_character frame font byte width w =
    if frame.vertical then w
    else (let set = with_command (Character font byte) (synched_v (synched_h w)) in
    with_reader (plus set.reader_h width) set.reader_v (to_h (plus set.h width) set))

unfoldable pub with_special : List ℕ → Walk → Walk
with_special bytes w = with_command (Special bytes) (synched_v (synched_h w))

-- a rule in a horizontal list at the baseline, and the reader moves by its width
unfoldable pub rule_across : Frame → ℤ → ℤ → ℤ → Walk → Walk
rule_across frame width height depth w =
    if is_positive (plus height depth) && is_positive width
    then (let set = with_command (SetRule (plus height depth) width)
    (synched_v (to_v (plus frame.level depth) (synched_h w))) in
    with_reader (plus set.reader_h width) set.reader_v (to_v frame.level set))
    else w

-- a rule in a vertical list, whose lower edge is where the walk has come to
unfoldable pub rule_down : ℤ → ℤ → Walk → Walk
rule_down thickness width w =
    if is_positive thickness && is_positive width
    then with_command (PutRule thickness width) (synched_v (synched_h w))
    else w

-- A rule in a list. What it lacks across the list is that of the box, and what it lacks along the list is 0.
unfoldable pub with_rule : Frame → Option ℤ → Option ℤ → Option ℤ → Walk → Walk
with_rule frame width height depth w =
    if frame.vertical
    then (let thickness = plus (unwrap_or height (pos 0)) (unwrap_or depth (pos 0)) in
    rule_down thickness (unwrap_or width frame.width) (to_v (plus w.v thickness) w))
    else (let across = rule_across frame (unwrap_or width (pos 0)) (unwrap_or height frame.height) (unwrap_or depth frame.depth) w in
    to_h (plus across.h (unwrap_or width (pos 0))) across)

-- a rule that fills a space
unfoldable pub with_rule_leaders : Frame → ℤ → Option ℤ → Option ℤ → Option ℤ → Walk → Walk
with_rule_leaders frame space width height depth w =
    if frame.vertical
    then rule_down space (unwrap_or width frame.width) (to_v (plus w.v space) w)
    else (let across = rule_across frame space (unwrap_or height frame.height) (unwrap_or depth frame.depth) w in
    to_h (plus across.h space) across)

-- ---- copies of a leader box

-- how far from the beginning of the space the first copy stands, how many there are, and the space between two
pub record Copies : Type 0 where
  pub first : ℕ
  pub count : ℕ
  pub between : ℕ

abbrev pub copies : ℕ → ℕ → ℕ → Copies
copies first count between = record { first = first; count = count; between = between }

-- at whole multiples of the size from the edge of the box around, of which the space begins at an offset
unfoldable pub aligned : ℕ → ℕ → ℕ → Copies
aligned rest space size = let first = (size - rest) % size in copies first ((space - first) / size) 0

-- what is left is put half in front and half behind
unfoldable pub centred : ℕ → ℕ → Copies
centred space size = copies (space % size / 2) (space / size) 0

-- what is left is put in equal parts in front, between and behind
unfoldable pub expanded : ℕ → ℕ → Copies
expanded space size =
    let part = space % size / (space / size + 1) in
    copies ((space % size - (space / size - 1) * part) / 2) (space / size) part

unfoldable pub copies_of : ℕ → ℤ → ℤ → ℤ → Copies
copies_of zero offset space size =
    aligned (unsigned_abs (int_rem_euclid offset size)) (unsigned_abs space) (unsigned_abs size)
copies_of (suc zero) offset space size = centred (unsigned_abs space) (unsigned_abs size)
copies_of (suc (suc more)) offset space size = expanded (unsigned_abs space) (unsigned_abs size)

-- ---- nodes

-- the sizes of a box
pub record Sizes : Type 0 where
  pub width : ℤ
  pub height : ℤ
  pub depth : ℤ
  pub shift : ℤ

abbrev pub sizes_of : {A : Type 0} → BoxNode A → Sizes
sizes_of b =
    record { width = b.width; height = b.height; depth = b.depth; shift = b.shift }

-- what a node is as the item of leaders: a rule with its sizes, or a box with the walk through its list
pub data Leader : Type 0 where
  NoLeader : Leader
  RuleLeader : Option ℤ → Option ℤ → Option ℤ → Leader
  BoxLeader : Sizes → (Walk → Walk) → Leader

-- what a node does in a list, and what it is as the item of leaders
pub record Printed : Type 0 where
  pub in_list : Frame → Walk → Walk
  pub leader : Leader

-- the nodes of a list, one after the other
unfoldable pub each_printed : Frame → Walk → List Printed → Walk
each_printed frame w [] = w
each_printed frame w (node ∷ nodes) = each_printed frame (node.in_list frame w) nodes

-- the frame of a box whose left edge and baseline are where the walk is
abbrev pub frame_of : {A : Type 0} → BoxNode A → Walk → Frame
frame_of b w =
    record {
      vertical = b.vertical;
      width = b.width;
      height = b.height;
      depth = b.depth;
      set = b.set;
      left_edge = w.h;
      level = if b.vertical then minus w.v b.height else w.v;
    }

-- the walk where the list of such a box begins
abbrev pub list_begun : {A : Type 0} → BoxNode A → Walk → Walk
list_begun b w = with_glue (pos 0) (pos 0) (to_v (frame_of b w).level w)

-- the list of a box whose left edge and baseline are where the walk is
unfoldable pub list_printed : BoxNode (List Printed) → Walk → Walk
list_printed b w = each_printed (frame_of b w) (list_begun b w) b.list

-- the same between push and pop; the glue of the list around and the reader's place are as before
unfoldable pub box_printed : BoxNode (List Printed) → Walk → Walk
box_printed b w =
    with_glue w.sum w.grown (with_reader w.reader_h w.reader_v (left (list_printed b (entered w))))

-- the walk at the place of a box in a list; in a vertical list the reader is brought to its baseline
unfoldable pub at_box : Frame → Sizes → Walk → Walk
at_box frame b w =
    if frame.vertical then to_h (plus frame.left_edge b.shift) (synched_v (to_v (plus w.v b.height) w))
    else to_v (plus frame.level b.shift) w

-- the walk behind a box, where it was at a place of the list before
unfoldable pub behind_box : Frame → Sizes → ℤ → ℤ → Walk → Walk
behind_box frame b h v w =
    if frame.vertical then to_v (plus (plus v b.height) b.depth) (to_h frame.left_edge w)
    else to_h (plus h b.width) (to_v frame.level w)

-- a box with an empty list only moves
unfoldable pub past_box : Frame → Sizes → Walk → Walk
past_box frame b w =
    if frame.vertical then to_v (plus (plus w.v b.height) b.depth) w else to_h (plus w.h b.width) w

abbrev pub is_empty : {A : Type 0} → List A → Bool
is_empty [] = true
is_empty (item ∷ items) = false

-- a box in a list
unfoldable pub with_box : Frame → BoxNode (List Printed) → Walk → Walk
with_box frame b w =
    if is_empty b.list then past_box frame (sizes_of b) w
    else behind_box frame (sizes_of b) w.h w.v (box_printed b (at_box frame (sizes_of b) w))

-- the walk and the reader at the place of a copy of a leader box
unfoldable pub at_copy : Frame → Sizes → Walk → Walk
at_copy frame b w =
    if frame.vertical
    then synched_v (to_v (plus w.v b.height) (synched_h (to_h (plus frame.left_edge b.shift) w)))
    else synched_h (synched_v (to_v (plus frame.level b.shift) w))

-- the walk where the next copy begins, where this one began at a place
unfoldable pub behind_copy : Frame → Sizes → ℕ → ℤ → ℤ → Walk → Walk
behind_copy frame b between h v w =
    if frame.vertical then to_v (plus (plus v (plus b.height b.depth)) (pos between)) (to_h frame.left_edge w)
    else to_h (plus (plus h b.width) (pos between)) (to_v frame.level w)

-- a copy of a leader box that is walked through by `inside`
abbrev pub with_copy : Frame → Sizes → (Walk → Walk) → ℕ → Walk → Walk
with_copy frame b inside between w = behind_copy frame b between w.h w.v (inside (at_copy frame b w))

-- so many times, one after the other
unfoldable pub times : ℕ → (Walk → Walk) → Walk → Walk
times zero f w = w
times (suc n) f w = f (times n f w)

-- the size of a leader box along the list
abbrev pub size_along : Frame → Sizes → ℤ
size_along frame b = if frame.vertical then plus b.height b.depth else b.width

-- how far the walk is from where the list began
abbrev pub distance : Frame → Walk → ℤ
distance frame w = if frame.vertical then minus w.v frame.level else minus w.h frame.left_edge

-- the copies of a leader box in a space; where box or space have no size along the list, there are none
unfoldable pub copies_in : Frame → ℤ → ℕ → Sizes → Walk → Copies
copies_in frame space how b w =
    if is_positive (size_along frame b) && is_positive space
    then copies_of how (distance frame w) space (size_along frame b)
    else copies 0 0 0

-- the walk is so far from a place, along the list
unfoldable pub along : Frame → ℤ → ℤ → ℤ → Walk → Walk
along frame by h v w = if frame.vertical then to_v (plus v by) w else to_h (plus h by) w

-- box leaders, and the walk is behind the space
unfoldable pub with_box_leaders : Frame → ℤ → ℕ → Sizes → (Walk → Walk) → Walk → Walk
with_box_leaders frame space how b inside w =
    let c = copies_in frame space how b w in
    along frame space w.h w.v
    (times c.count (with_copy frame b inside c.between) (advanced frame (pos c.first) w))

abbrev pub with_leader : Frame → ℤ → ℕ → Leader → Walk → Walk
with_leader frame space how NoLeader w = advanced frame space w
with_leader frame space how (RuleLeader width height depth) w = with_rule_leaders frame space width height depth w
with_leader frame space how (BoxLeader b inside) w = with_box_leaders frame space how b inside w

abbrev pub with_leaders : Frame → ℤ → Option (Leaders Printed) → Walk → Walk
with_leaders frame space None w = advanced frame space w
with_leaders frame space (Some leaders) w = with_leader frame space leaders.how leaders.item.leader w

unfoldable pub with_whatsit : Whatsit → Walk → Walk
with_whatsit (whatsit.Open stream name) w = w
with_whatsit (whatsit.Write stream text) w = w
with_whatsit (whatsit.Close stream) w = w
with_whatsit (whatsit.Special bytes) w = with_special bytes w

abbrev pub printed : (Frame → Walk → Walk) → Leader → Printed
printed in_list leader = record { in_list = in_list; leader = leader }

-- a node with what each node inside it does in its place
unfoldable pub print_step : Node-F Printed → Printed
print_step (Node-F.Char font byte width height depth italic) =
    printed (λ frame. with_character frame font byte width) NoLeader
print_step (Node-F.Lig lig) = printed (λ frame. with_character frame lig.font lig.byte lig.width) NoLeader
print_step (Node-F.Boxed b) = printed (λ frame. with_box frame b) (BoxLeader (sizes_of b) (box_printed b))
print_step (Node-F.Rule width height depth) =
    printed (λ frame. with_rule frame width height depth) (RuleLeader width height depth)
print_step (Node-F.Skip skip) =
    printed
    (λ frame w. with_leaders frame (space_of frame.set skip.glue w) skip.leaders (glued frame.set skip.glue w)) NoLeader
print_step (Node-F.Kern width how) = printed (λ frame. advanced frame width) NoLeader
print_step (Node-F.Penalty penalty) = printed (λ frame w. w) NoLeader
print_step (Node-F.Disc disc) = printed (λ frame w. w) NoLeader
print_step (Node-F.Mark mark) = printed (λ frame w. w) NoLeader
print_step (Node-F.Insert insert) = printed (λ frame w. w) NoLeader
print_step (Node-F.Adjust list) = printed (λ frame w. w) NoLeader
print_step (Node-F.Whatsit whatsit) = printed (λ frame. with_whatsit whatsit) NoLeader

-- what a node does
abbrev pub printed_node : Node → Printed
printed_node = fold-Node Printed print_step

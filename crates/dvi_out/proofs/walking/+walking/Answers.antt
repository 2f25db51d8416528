use Rattle.std.proofs.Common.{◌≡◌, sym, rules, arith}
use Rattle.dvi_out.specs.WalkOf.{walk_of}
use Rattle.dvi_out.specs.FrameOf.{frame}
use Rattle.dvi_out.specs.CopiesOf.{counted}
use Rattle.dvi_out.proofs.WalkLaws.{in_list_Char, in_list_Lig, in_list_Rule, in_list_Skip, in_list_Kern, in_list_Penalty, in_list_Disc, in_list_Mark, in_list_Insert, in_list_Adjust, in_list_Whatsit, leader_Rule, leader_Char, leader_Lig, leader_Skip, leader_Kern, leader_Penalty, leader_Disc, leader_Mark, leader_Insert, leader_Adjust, leader_Whatsit, nodes_next, each_printed_none, times_none, in_list_Boxed, empty_box, whole_box, whole_copy, whole_leaders}
use Rattle.dvi_out.proofs.walking.+walking.Goals as goal

pub walk_node-returns-in-Char : goal.walk_node-returns-in-Char
walk_node-returns-in-Char t c = rw (c.in-Char.is, in_list_Char) (search rules)

pub walk_node-returns-in-Lig : goal.walk_node-returns-in-Lig
walk_node-returns-in-Lig t c = rw (c.in-Lig.is, in_list_Lig) (search rules)

pub walk_node-returns-in-Rule : goal.walk_node-returns-in-Rule
walk_node-returns-in-Rule t c = rw (c.in-Rule.is, in_list_Rule) (search rules)

pub walk_node-returns-in-Kern : goal.walk_node-returns-in-Kern
walk_node-returns-in-Kern t c = rw (c.in-Kern.is, in_list_Kern) (search rules)

pub walk_node-returns-in-Penalty : goal.walk_node-returns-in-Penalty
walk_node-returns-in-Penalty t c = rw (c.in-Penalty.is, in_list_Penalty) (search rules)

pub walk_node-returns-in-Disc : goal.walk_node-returns-in-Disc
walk_node-returns-in-Disc t c = rw (c.in-Disc.is, in_list_Disc) (search rules)

pub walk_node-returns-in-Mark : goal.walk_node-returns-in-Mark
walk_node-returns-in-Mark t c = rw (c.in-Mark.is, in_list_Mark) (search rules)

pub walk_node-returns-in-Insert : goal.walk_node-returns-in-Insert
walk_node-returns-in-Insert t c = rw (c.in-Insert.is, in_list_Insert) (search rules)

pub walk_node-returns-in-Adjust : goal.walk_node-returns-in-Adjust
walk_node-returns-in-Adjust t c = rw (c.in-Adjust.is, in_list_Adjust) (search rules)

pub walk_node-returns-in-Whatsit : goal.walk_node-returns-in-Whatsit
walk_node-returns-in-Whatsit t c = rw (c.in-Whatsit.is, in_list_Whatsit) (search rules)

pub walk_leader-returns-in-Rule : goal.walk_leader-returns-in-Rule
walk_leader-returns-in-Rule t c = rw (c.in-Rule.is, leader_Rule) (search rules)

pub walk_leader-returns-in-Char : goal.walk_leader-returns-in-Char
walk_leader-returns-in-Char t c = rw (c.in-Char.is, leader_Char) (search rules)

pub walk_leader-returns-in-Lig : goal.walk_leader-returns-in-Lig
walk_leader-returns-in-Lig t c = rw (c.in-Lig.is, leader_Lig) (search rules)

pub walk_leader-returns-in-Skip : goal.walk_leader-returns-in-Skip
walk_leader-returns-in-Skip t c = rw (c.in-Skip.is, leader_Skip) (search rules)

pub walk_leader-returns-in-Kern : goal.walk_leader-returns-in-Kern
walk_leader-returns-in-Kern t c = rw (c.in-Kern.is, leader_Kern) (search rules)

pub walk_leader-returns-in-Penalty : goal.walk_leader-returns-in-Penalty
walk_leader-returns-in-Penalty t c = rw (c.in-Penalty.is, leader_Penalty) (search rules)

pub walk_leader-returns-in-Disc : goal.walk_leader-returns-in-Disc
walk_leader-returns-in-Disc t c = rw (c.in-Disc.is, leader_Disc) (search rules)

pub walk_leader-returns-in-Mark : goal.walk_leader-returns-in-Mark
walk_leader-returns-in-Mark t c = rw (c.in-Mark.is, leader_Mark) (search rules)

pub walk_leader-returns-in-Insert : goal.walk_leader-returns-in-Insert
walk_leader-returns-in-Insert t c = rw (c.in-Insert.is, leader_Insert) (search rules)

pub walk_leader-returns-in-Adjust : goal.walk_leader-returns-in-Adjust
walk_leader-returns-in-Adjust t c = rw (c.in-Adjust.is, leader_Adjust) (search rules)

pub walk_leader-returns-in-Whatsit : goal.walk_leader-returns-in-Whatsit
walk_leader-returns-in-Whatsit t c = rw (c.in-Whatsit.is, leader_Whatsit) (search rules)

pub walk_node-returns-in_ok-space-in-Skip : goal.walk_node-returns-in_ok-space-in-Skip
walk_node-returns-in_ok-space-in-Skip t c = rw (c.in-Skip.is, in_list_Skip) (search rules)

pub walk_node-returns-in-Boxed : goal.walk_node-returns-in-Boxed
walk_node-returns-in-Boxed t c = rw (c.in-Boxed.is, in_list_Boxed) (search rules)

pub walk_box-returns-then-is_empty : goal.walk_box-returns-then-is_empty
walk_box-returns-then-is_empty t c =
    rw (empty_box (frame c.args.around.now) (walk_of c.args.walker.now) c.args.boxed.now (search rules)) (search rules)

pub walk_box-returns : goal.walk_box-returns
walk_box-returns t c =
    whole_box (frame c.args.around.now) (walk_of c.args.walker.now) c.args.boxed.now c.in_ok-inside.inside
    (walk_of c.go_to_box.new.self) (walk_of c.enter_box.new.self) (walk_of c.walk_nodes.new.walker)
    (walk_of c.leave_box.new.self) (walk_of c.go_behind_box.new.self) (search rules) (search rules) (search rules)
    (search rules) (search rules) (rw (sym c.as_slice.ensures) (search rules)) (search rules) (search rules)

pub walk_leader-copies-init : goal.walk_leader-copies-init
walk_leader-copies-init t c = sym (times_none _ _)

pub walk_leader-copies-preserved : goal.walk_leader-copies-preserved
walk_leader-copies-preserved t c =
    whole_copy (frame c.args.around.now) c.copies._copy c.spread-spread.result.between (walk_of c.advance_to_copy.new.self)
    (walk_of c.copies.walker) c.get-boxed.result.now c.in_ok-inside-in-Boxed.inside (walk_of c.go_to_copy.new.self)
    (walk_of c.enter_box.new.self) (walk_of c.walk_nodes.new.walker) (walk_of c.leave_box.new.self)
    (walk_of c.go_behind_copy.new.self) c.copies.invariant (search rules) (search rules) (search rules) (search rules)
    (rw (sym c.as_slice-list.ensures) (search rules)) (search rules) (search rules)

pub walk_leader-returns-after-copies : goal.walk_leader-returns-after-copies
walk_leader-returns-after-copies t c =
    let all : c.copies._copy ≡ c.spread-spread.result.count = omega arith in
    rw (c.in-Boxed.is, sym c.get-boxed.ensures)
    (whole_leaders (frame c.args.around.now) c.args.space c.args.how (walk_of c.args.walker.now)
    (walk_of c.advance_to_copy.new.self) (walk_of c.copies.walker) (walk_of c.go_along.new.self)
    c.get-boxed.result.now (counted c.spread-spread.result) (search rules) (search rules)
    (rw (sym all) c.copies.invariant) (search rules))

pub walk_nodes-nodes-init : goal.walk_nodes-nodes-init
walk_nodes-nodes-init t c = sym (each_printed_none (frame c.args.around.now) (walk_of c.args.walker.now) c.args.list.now)

pub walk_nodes-nodes-preserved : goal.walk_nodes-nodes-preserved
walk_nodes-nodes-preserved t c =
    nodes_next (frame c.args.around.now) (walk_of c.args.walker.now) c.args.list.now c.nodes.i c.index-list-i.result
    (walk_of c.nodes.walker) (walk_of c.walk_node.new.walker) c.nodes-test.true c.index-list-i.is c.nodes.invariant
    (search rules)

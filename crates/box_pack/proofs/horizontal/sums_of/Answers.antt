use Rattle.std.proofs.Common.{◌*◌, ◌+◌, ◌<◌, ◌∙◌, Err, length, ap, sym, arith, rules}
use Rattle.box_pack.specs.MeasureSums.{with_measured}
use Rattle.box_pack.specs.HorizontalSizes.{with_node}
use Rattle.box_pack.proofs.Counts.{list_measure-more, first_passed-is}
use Rattle.box_pack.proofs.Results.{horizontal_sums_of}
use Rattle.box_pack.proofs.Steps.{horizontal_sizes-more}
use Rattle.box_pack.proofs.Within.{HorizontalWithin-le, BothWithin-le}
use Rattle.box_pack.proofs.horizontal.sums_of.Goals as goal

pub returns-then-list-gt16777215-clause-value : goal.returns-then-list-gt16777215-clause-value
returns-then-list-gt16777215-clause-value c =
    let long : 16777215 < length c.args.list.now = search rules in
    ap Err c.first_passed.ensures ∙ first_passed-is c.args.list.now (horizontal_sums_of c.args.list.now) long

pub add-requires-in-loop-node : goal.add-requires-in-loop-node
add-requires-in-loop-node c =
    HorizontalWithin-le (c.loop-node.node-index * 2147483648) 2305843009213693952 c.loop-node.sizes (omega arith)
    c.loop-node.invariant.2

pub loop-node-preserved : goal.loop-node-preserved
loop-node-preserved c = (
  c.add.ensures ∙ ap (with_measured c.node-item.result) c.loop-node.invariant.0
      ∙ sym (list_measure-more c.args.list.now c.loop-node.node-index c.node-item.result c.loop-node-test.true c.node-item.is),
  c.add-in-loop-node.ensures.value ∙ ap (with_node c.node-item.result) c.loop-node.invariant.1
      ∙ sym (horizontal_sizes-more c.args.list.now c.loop-node.node-index c.node-item.result c.loop-node-test.true c.node-item.is),
  HorizontalWithin-le (c.loop-node.node-index * 2147483648 + 2147483648) ((c.loop-node.node-index + 1) * 2147483648) c.add-in-loop-node.new.self
      (omega arith) (c.add-in-loop-node.ensures.range (c.loop-node.node-index * 2147483648) c.loop-node.invariant.2),
)

pub returns-clause-range : goal.returns-clause-range
returns-clause-range c =
    BothWithin-le (c.loop-node.node-index * 2147483648) 2305843009213693952 c.loop-node.sizes.glue (omega arith)
    c.loop-node.invariant.2.glue

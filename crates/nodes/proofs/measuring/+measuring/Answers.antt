use Rattle.std.proofs.Common.{arith}
use Rattle.nodes.proofs.MeasureLaws.{nesting_of-next, count_of-next, node_nesting-Disc, node_count-Disc, node_nesting-Insert, node_count-Insert, node_nesting-Adjust, node_count-Adjust}
use Rattle.nodes.proofs.measuring.+measuring.Goals as goal

pub measure-loop-i-preserved : goal.measure-loop-i-preserved
measure-loop-i-preserved t c = (
  omega (arith, nesting_of-next c.args.list.now c.loop-i.i c.index-list-i.result c.loop-i-test.true c.index-list-i.is),
  omega (arith, count_of-next c.args.list.now c.loop-i.i c.index-list-i.result c.loop-i-test.true c.index-list-i.is),
)

pub measure_node-returns-in-Disc-clause-nesting : goal.measure_node-returns-in-Disc-clause-nesting
measure_node-returns-in-Disc-clause-nesting t c = cc (node_nesting-Disc c.in-Disc.disc)

pub measure_node-returns-in-Disc-clause-count : goal.measure_node-returns-in-Disc-clause-count
measure_node-returns-in-Disc-clause-count t c =
    rw (c.in-Disc.is, node_count-Disc, c.one_node_more-in-Disc.ensures.count, c.together.ensures.count, c.measure-pre.ensures.count, c.measure-post.ensures.count, c.as_slice.ensures, c.as_slice-in-Disc.ensures, c.get-disc.ensures)
    (omega arith)

pub measure_node-returns-in-Insert-clause-nesting : goal.measure_node-returns-in-Insert-clause-nesting
measure_node-returns-in-Insert-clause-nesting t c = cc (node_nesting-Insert c.in-Insert.insert)

pub measure_node-returns-in-Insert-clause-count : goal.measure_node-returns-in-Insert-clause-count
measure_node-returns-in-Insert-clause-count t c =
    rw (c.in-Insert.is, node_count-Insert, c.one_node_more-in-Insert.ensures.count, c.measure.ensures.count, c.as_slice-in-Insert.ensures, c.get-in-Insert.ensures)
    (omega arith)

pub measure_node-returns-in-Adjust-clause-nesting : goal.measure_node-returns-in-Adjust-clause-nesting
measure_node-returns-in-Adjust-clause-nesting t c = cc (node_nesting-Adjust c.in-Adjust.list)

pub measure_node-returns-in-Adjust-clause-count : goal.measure_node-returns-in-Adjust-clause-count
measure_node-returns-in-Adjust-clause-count t c =
    rw (c.in-Adjust.is, node_count-Adjust, c.one_node_more-in-Adjust.ensures.count, c.measure-in-Adjust.ensures.count, c.as_slice-in-Adjust.ensures)
    (omega arith)

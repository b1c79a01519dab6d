use Rattle.lookup.proofs.Descents.{rooted_inside, rooted_high, lower}
use Rattle.lookup.proofs.Leading.{leads_start}
use Rattle.ranges.proofs.Digging.{dig_end, dig_round}
use Rattle.ranges.proofs.dig_towards.Goals as goal
use Rattle.ranges.specs.Ranges.{range_of}
use native.Mathlib.Omega.{arith}

pub loop-at-init : goal.loop-at-init
loop-at-init c = search leads_start

pub node_at-d-requires : goal.node_at-d-requires
node_at-d-requires c = search rooted_inside

pub overflow_sub-h : goal.overflow_sub-h
overflow_sub-h c = search rooted_high

pub loop-at-smaller : goal.loop-at-smaller
loop-at-smaller c = search lower

pub loop-at-preserved : goal.loop-at-preserved
loop-at-preserved c =
    dig_round c.args.end (range_of c.args.w) c.loop-at.invariant c.loop-at-test.true c.node_at-d.ensures (grind arith)

pub returns : goal.returns
returns c = search dig_end

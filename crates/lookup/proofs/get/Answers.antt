use Rattle.lookup.proofs.Descents.{rooted_inside, rooted_high, lower}
use Rattle.lookup.proofs.Leading.{leads_start, get_end, get_found, get_childless, get_side}
use Rattle.lookup.proofs.get.Goals as goal

pub loop-at-init : goal.loop-at-init
loop-at-init c = search leads_start

pub node_at-d-requires : goal.node_at-d-requires
node_at-d-requires c = search rooted_inside

pub returns-then-key-e : goal.returns-then-key-e
returns-then-key-e c = search get_found

pub returns-then-d-eq0-2 : goal.returns-then-d-eq0-2
returns-then-d-eq0-2 c = search get_childless

pub overflow_sub-h : goal.overflow_sub-h
overflow_sub-h c = search rooted_high

pub loop-at-smaller : goal.loop-at-smaller
loop-at-smaller c = search lower

pub loop-at-preserved : goal.loop-at-preserved
loop-at-preserved c = search get_side

pub returns : goal.returns
returns c = search get_end

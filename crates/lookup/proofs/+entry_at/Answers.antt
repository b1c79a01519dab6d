use Rattle.lookup.proofs.Descents.{rooted_inside, rooted_high, lower, rooted_toward, entry_none, entry_here}
use Rattle.lookup.proofs.+entry_at.Goals as goal

pub returns-then-i-eq0 : goal.returns-then-i-eq0
returns-then-i-eq0 t c = search entry_none

pub node_at-d-requires : goal.node_at-d-requires
node_at-d-requires t c = search rooted_inside

pub overflow_sub-h : goal.overflow_sub-h
overflow_sub-h t c = search rooted_high

pub entry_at-nearer-requires : goal.entry_at-nearer-requires
entry_at-nearer-requires t c = (search lower, search rooted_toward)

pub returns : goal.returns
returns t c = search entry_here

use Rattle.commit.proofs.Counted.{counts_low, counts_inside, counts_high, counts_lower, counts_left, counts_right, counts_sum, counts_more, counts_here}
use Rattle.commit.proofs.+fresh_nodes.Goals as goal

pub returns-then-link-n : goal.returns-then-link-n
returns-then-link-n t c = search counts_low

pub planned-d-requires : goal.planned-d-requires
planned-d-requires t c = search counts_inside

pub overflow_sub-h : goal.overflow_sub-h
overflow_sub-h t c = search counts_high

pub fresh_nodes-a-requires : goal.fresh_nodes-a-requires
fresh_nodes-a-requires t c = (search counts_lower, search counts_left)

pub overflow_sub-h-2 : goal.overflow_sub-h-2
overflow_sub-h-2 t c = search counts_high

pub fresh_nodes-b-requires : goal.fresh_nodes-b-requires
fresh_nodes-b-requires t c = (search counts_lower, search counts_right)

pub overflow_add-result : goal.overflow_add-result
overflow_add-result t c = search counts_sum

pub overflow_add-result-2 : goal.overflow_add-result-2
overflow_add-result-2 t c = search counts_more

pub returns : goal.returns
returns t c = search counts_here

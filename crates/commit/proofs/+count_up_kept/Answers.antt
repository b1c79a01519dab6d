use Rattle.commit.proofs.Lifted.{raises_low, raises_up, raises_inside, raises_high, raises_lower, raises_left, raises_right, raises_here}
use Rattle.commit.proofs.+count_up_kept.Goals as goal

pub count_up-requires : goal.count_up-requires
count_up-requires t c = search raises_up

pub returns-then-link-n : goal.returns-then-link-n
returns-then-link-n t c = search raises_low

pub planned-d-requires : goal.planned-d-requires
planned-d-requires t c = search raises_inside

pub overflow_sub-h : goal.overflow_sub-h
overflow_sub-h t c = search raises_high

pub count_up_kept-requires : goal.count_up_kept-requires
count_up_kept-requires t c = (search raises_lower, search raises_left)

pub overflow_sub-h-2 : goal.overflow_sub-h-2
overflow_sub-h-2 t c = search raises_high

pub count_up_kept-requires-2 : goal.count_up_kept-requires-2
count_up_kept-requires-2 t c = (search raises_lower, search raises_right)

pub returns : goal.returns
returns t c = search raises_here

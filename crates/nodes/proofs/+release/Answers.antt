use borrow.Author.Rules.{rules}
use Rattle.nodes.proofs.Released.{lower, holds_inside, holds_high, holds_left, holds_right, released_none, released_more, released_last, links_fit, sum_fits}
use Rattle.nodes.proofs.+release.Goals as goal

pub returns-then-i-eq0 : goal.returns-then-i-eq0
returns-then-i-eq0 t c = search released_none

pub count_of-c-requires : goal.count_of-c-requires
count_of-c-requires t c = search holds_inside

pub set_count-requires : goal.set_count-requires
set_count-requires t c = search holds_inside

pub returns-then-c-gt1 : goal.returns-then-c-gt1
returns-then-c-gt1 t c = search released_more

pub left_of-l-requires : goal.left_of-l-requires
left_of-l-requires t c = search holds_inside

pub right_of-r-requires : goal.right_of-r-requires
right_of-r-requires t c = search holds_inside

pub push_free-requires : goal.push_free-requires
push_free-requires t c = search holds_inside

pub overflow_sub-h : goal.overflow_sub-h
overflow_sub-h t c = search holds_high

pub release-a-requires : goal.release-a-requires
release-a-requires t c = (search lower, search holds_left)

pub overflow_sub-h-2 : goal.overflow_sub-h-2
overflow_sub-h-2 t c = search holds_high

pub release-b-requires : goal.release-b-requires
release-b-requires t c = (search lower, holds_right (search rules) (search rules) c.count_of-c.ensures (search rules) c.left_of-l.ensures c.right_of-r.ensures (search rules) c.release-a.ensures)

pub overflow_add-result : goal.overflow_add-result
overflow_add-result t c = links_fit (search rules) (search rules) c.count_of-c.ensures (search rules) c.left_of-l.ensures c.right_of-r.ensures (search rules) c.release-a.ensures c.release-b.ensures

pub overflow_add-result-2 : goal.overflow_add-result-2
overflow_add-result-2 t c = sum_fits (search rules) (search rules) c.count_of-c.ensures (search rules) c.left_of-l.ensures c.right_of-r.ensures (search rules) c.release-a.ensures c.release-b.ensures

pub returns : goal.returns
returns t c = released_last (search rules) (search rules) c.count_of-c.ensures (search rules) c.left_of-l.ensures c.right_of-r.ensures (search rules) c.release-a.ensures c.release-b.ensures

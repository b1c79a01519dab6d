use mathlib.Core.Path.{refl}
use Rattle.commit.proofs.Placed.{builds_low, builds_inside, builds_high, builds_lower, builds_left, builds_right, builds_makable, builds_here}
use Rattle.commit.proofs.+build.Goals as goal

pub returns-then-link-n : goal.returns-then-link-n
returns-then-link-n t c = search builds_low

pub planned-d-requires : goal.planned-d-requires
planned-d-requires t c = search builds_inside

pub overflow_sub-h : goal.overflow_sub-h
overflow_sub-h t c = search builds_high

pub build-left-requires : goal.build-left-requires
build-left-requires t c = (search builds_lower, search builds_left)

pub overflow_sub-h-2 : goal.overflow_sub-h-2
overflow_sub-h-2 t c = search builds_high

pub build-right-requires : goal.build-right-requires
build-right-requires t c = (search builds_lower, search builds_right)

pub make_node-requires : goal.make_node-requires
make_node-requires t c = builds_makable c.requires c.if-link-n.false c.planned-d.ensures c.build-left.ensures c.build-right.ensures _ refl

pub returns : goal.returns
returns t c = builds_here c.if-link-n.false c.planned-d.ensures c.build-left.ensures c.build-right.ensures refl refl refl refl c.make_node.ensures

use native.Mathlib.Omega.{arith}
use Rattle.removal.proofs.Deleting.{right_leans, left_leans, left_black, left_other, right_black, right_other, del_none, sides, twin, less_down, room_down, del_less, del_more, del_here}
use Rattle.removal.proofs.+del_del_left_del_right.Goals as goal

pub del-returns-in_default : goal.del-returns-in_default
del-returns-in_default t c = del_none c.args.h c.args.k c.in_default.ensures

pub del-del_left-requires : goal.del-del_left-requires
del-del_left-requires t c =
    let x = c.in-Some.ensures in
    let d = c.requires.red_black in
    (less_down x d c.decreases, (room_down x d c.requires.room, sides x d))

pub del-returns-then-k-x : goal.del-returns-then-k-x
del-returns-then-k-x t c = del_less c.in-Some.ensures c.requires.red_black (omega arith) c.del_left.ensures

pub del-del_right-requires : goal.del-del_right-requires
del-del_right-requires t c =
    let x = c.in-Some.ensures in
    let d = c.requires.red_black in
    (less_down x d c.decreases, (room_down x d c.requires.room, sides x d))

pub del-returns-then-x-k : goal.del-returns-then-x-k
del-returns-then-x-k t c = del_more c.in-Some.ensures c.requires.red_black (omega arith) c.del_right.ensures

pub del-remove_fuse-requires-clause-twin : goal.del-remove_fuse-requires-clause-twin
del-remove_fuse-requires-clause-twin t c = twin c.in-Some.ensures c.requires.red_black

pub del-returns : goal.del-returns
del-returns t c = del_here c.in-Some.ensures c.requires.red_black (omega arith) (omega arith) c.remove_fuse.ensures

pub del_left-remove_balance_left_node-requires-clause-leans : goal.del_left-remove_balance_left_node-requires-clause-leans
del_left-remove_balance_left_node-requires-clause-leans t c = right_leans c.requires.sides c.colored.ensures c.if-was_black.ensures c.del-left.ensures.grown

pub del_left-returns-then-was_black : goal.del_left-returns-then-was_black
del_left-returns-then-was_black t c = left_black c.args.h c.args.k c.del-left.ensures c.colored.ensures c.if-was_black.ensures c.remove_balance_left_node.ensures

-- Here, and not where the side is balanced, the colour of the node above counts.
pub del_left-returns : goal.del_left-returns
del_left-returns t c = left_other c.args.h c.args.k c.del-left.ensures c.colored.ensures c.if-was_black.ensures c.push.ensures

pub del_right-remove_balance_right_node-requires-clause-leans : goal.del_right-remove_balance_right_node-requires-clause-leans
del_right-remove_balance_right_node-requires-clause-leans t c = left_leans c.requires.sides c.colored.ensures c.if-was_black.ensures c.del-right.ensures.grown

pub del_right-returns-then-was_black : goal.del_right-returns-then-was_black
del_right-returns-then-was_black t c = right_black c.args.h c.args.k c.del-right.ensures c.colored.ensures c.if-was_black.ensures c.remove_balance_right_node.ensures

pub del_right-returns : goal.del_right-returns
del_right-returns t c = right_other c.args.h c.args.k c.del-right.ensures c.colored.ensures c.if-was_black.ensures c.push.ensures

-- What the turns of a red sibling, the third cases of RULES 6.30 and 6.31, promise beside the steps
-- of the plan.
use Rattle.std.specs.Prelude.{ℕ}
use Rattle.trees.specs.Tree.{Tree, lf, rt, en}
use Rattle.trees.specs.Remove.{turn_left, turn_right}

-- How many nodes a step adds to the plan at most. `remove_balance_left` and `_right` paint a node, balance three and write two.
abbrev pub side_room : ℕ
side_room = 6

-- The plain steps that take a node's parts, as steps from a node.
abbrev pub turned_left : Tree → Tree
turned_left t = turn_left (lf t) (en t) (rt t)

abbrev pub turned_right : Tree → Tree
turned_right t = turn_right (lf t) (en t) (rt t)

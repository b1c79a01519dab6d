-- What the balancing of a side that is one black level short (RULES 6.30, 6.31) asks and promises,
-- beside the steps of the plan.
use Rattle.std.specs.Prelude.{◌≡◌, true, false, ◌&&◌, List, ℕ}
use Rattle.trees.specs.Tree.{Tree, lf, rt, en, is_red, is_black}
use Rattle.trees.specs.Remove.{remove_balance_left, remove_balance_right}
use Rattle.plan.specs.Held.{Some as SomeTree}

-- The plain steps that take a node's parts, as steps from a node.
abbrev pub balance_left : Tree → Tree
balance_left t = remove_balance_left (lf t) (en t) (rt t)

abbrev pub balance_right : Tree → Tree
balance_right t = remove_balance_right (lf t) (en t) (rt t)

-- What the link holds is black, or red with a black child on the given side: so RULES 6.33 never
-- applies, and the code needs no arm for 000's `unreachable!`.
pub record Leans (ws plan : List ℕ) (link : ℕ) (side : Tree → Tree) : Type 0 where
  pub some : SomeTree ws plan link
  pub leans : is_black some.tree ≡ false → is_red some.tree && is_black (side some.tree) ≡ true

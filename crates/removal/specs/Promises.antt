-- What the steps of removal (RULES 6.27, 6.28) ask and promise, beside those of the plan.
use Rattle.std.specs.Prelude.{◌≡◌, true, List, ℕ, ◌+◌, ◌*◌, ◌≤◌}
use Rattle.trees.specs.Tree.{Tree, lf, rt, en, height}
use Rattle.trees.specs.Shape.{Rb}
use Rattle.trees.specs.Lookup.{has}
use Rattle.trees.specs.Remove.{del, del_left, del_right, remove}
use Rattle.plan.specs.declared.Node.{Node}
use Rattle.plan.specs.Held.{Holds, Some as SomeTree}
use Rattle.plan.specs.Steps.{Grown}

-- How many nodes a step adds to the plan at most. `del` balances a side at each level above the fusing of two trees.
abbrev pub del_room : ℕ → ℕ
del_room h = 8 * h

-- The root is painted.
abbrev pub remove_room : ℕ → ℕ
remove_room h = del_room h + 1

-- The plain steps that take a node's parts, as steps from a node.
abbrev pub cut_left : ℕ → Tree → Tree
cut_left k t = del_left (lf t) (del k (lf t)) (en t) (rt t)

abbrev pub cut_right : ℕ → Tree → Tree
cut_right k t = del_right (lf t) (en t) (rt t) (del k (rt t))

-- A red-black tree of height h at most and n black levels.
pub record Shaped (ws plan : List ℕ) (link h n : ℕ) : Type 0 where
  pub some : SomeTree ws plan link
  pub fits : height some.tree ≤ h
  pub shape : Rb n some.tree

pub record RedBlack (ws plan : List ℕ) (link h : ℕ) : Type 0 where
  pub blacks : ℕ
  pub shaped : Shaped ws plan link h blacks

-- The two sides of a node in such a tree.
pub record Sides (ws plan : List ℕ) (x : Node) (h : ℕ) : Type 0 where
  pub blacks : ℕ
  pub left : Shaped ws plan x.left h blacks
  pub right : Shaped ws plan x.right h blacks

-- RULES 6.28: what `remove` does for a key that is there. One that is not leaves the tree as it is
-- (RULES 6.38), and its caller plans nothing.
pub record Removes (ws plan plan' : List ℕ) (k link r key : ℕ) : Type 0 where
  pub grown : Grown ws plan plan' k
  pub holds : {t : Tree} → has key t ≡ true → Holds ws plan link t → Holds ws plan' r (remove key t)

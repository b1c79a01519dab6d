-- What the fusing of two trees (RULES 6.32) asks and promises, beside the steps of the plan.
use Rattle.std.specs.Prelude.{◌≡◌, List, ℕ, ◌+◌, ◌*◌, ◌≤◌}
use Rattle.trees.specs.Tree.{Tree, height}
use Rattle.trees.specs.Remove.{join}
use Rattle.arena.specs.Nodes.{entry_of}
use Rattle.plan.specs.declared.Node.{Node}
use Rattle.plan.specs.Colors.{color_of}
use Rattle.plan.specs.Held.{Holds, Some as SomeTree}
use Rattle.plan.specs.Steps.{Grown}
use Rattle.turning.specs.Promises.{side_room}

-- How many nodes a step adds to the plan at most: `fuse_join` writes one node before it balances.
abbrev pub join_room : ℕ
join_room = side_room + 1

-- `remove_fuse` joins where both trees are a level lower, and writes one node where one of them is; h is the sum of their heights.
abbrev pub fuse_room : ℕ → ℕ
fuse_room h = 4 * h + 1

-- Two trees are held whose heights add up to h at most.
pub record Twin (ws plan : List ℕ) (l r h : ℕ) : Type 0 where
  pub left : SomeTree ws plan l
  pub right : SomeTree ws plan r
  pub fits : height left.tree + height right.tree ≤ h

-- From two links, at most k nodes are added, and res then holds what f makes of the two trees.
pub record Joins (ws plan plan' : List ℕ) (k l r res : ℕ) (f : Tree → Tree → Tree) : Type 0 where
  pub grown : Grown ws plan plan' k
  pub holds : {a b : Tree} → Holds ws plan l a → Holds ws plan r b → Holds ws plan' res (f a b)

-- Two nodes of one colour, and a tree to come between them.
pub record Ends (ws plan : List ℕ) (x : Node) (m : ℕ) (y : Node) : Type 0 where
  pub left : SomeTree ws plan x.left
  pub middle : SomeTree ws plan m
  pub right : SomeTree ws plan y.right
  pub color_is : x.color ≡ y.color

-- The plain `join` of them.
pub record Fuses (ws plan plan' : List ℕ) (x : Node) (m : ℕ) (y : Node) (res : ℕ) : Type 0 where
  pub grown : Grown ws plan plan' join_room
  pub holds : {a f b : Tree} → Holds ws plan x.left a → Holds ws plan m f → Holds ws plan y.right b →
      Holds ws plan' res (join (color_of x.color) a (entry_of x.entry) f (entry_of y.entry) b)

-- What the steps on the plan promise: each result is what a plain function makes of what was there, and nothing that was there is lost.
use Rattle.std.specs.Prelude.{◌≡◌, false, List, ℕ, ◌+◌, ◌≤◌, length, Option, Some, None}
use Rattle.trees.specs.Tree as trees
use Rattle.trees.specs.Tree.{fresh, Tree, leaf, node, lf, rt, en}
use Rattle.words.specs.Layout.{code}
use Rattle.arena.specs.declared.Node as arena
use Rattle.arena.specs.Nodes.{entry_of}
use Rattle.plan.specs.declared.Color.{Color}
use Rattle.plan.specs.declared.Node.{Node}
use Rattle.plan.specs.Scratch.{used}
use Rattle.plan.specs.Colors.{color_of, is_colored}
use Rattle.plan.specs.Held.{Holds, Some as SomeTree}

-- What stood before stands after, and at most k nodes were added.
pub record Grown (ws plan plan' : List ℕ) (k : ℕ) : Type 0 where
  pub keeps : {link : ℕ} {t : Tree} → Holds ws plan link t → Holds ws plan' link t
  pub grows : used plan' ≤ used plan + k
  pub same : length plan' ≡ length plan

-- RULES 6.15: what is read of a missing child, "neither red nor black".
abbrev pub hue : Tree → Option trees.Color
hue leaf = None
hue (node p c l e r) = Some c

-- x has the colour, the entry and the sides of t.
pub record Sees (ws plan : List ℕ) (x : Node) (t : Tree) : Type 0 where
  pub color_is : hue t ≡ Some (color_of x.color)
  pub entry_is : en t ≡ entry_of x.entry
  pub left_is : Holds ws plan x.left (lf t)
  pub right_is : Holds ws plan x.right (rt t)

-- x is the node that stands at the link.
pub record Looks (ws plan : List ℕ) (link : ℕ) (x : Node) : Type 0 where
  pub sees : {t : Tree} → Holds ws plan link t → Sees ws plan x t
  pub left : SomeTree ws plan x.left
  pub right : SomeTree ws plan x.right

-- What is found at the link: a node, or none where no node is.
abbrev pub FoundAt : List ℕ → List ℕ → ℕ → Option Node → Type 0
FoundAt ws plan link None = link ≡ 0
FoundAt ws plan link (Some x) = Looks ws plan link x

pub record Finds (ws plan : List ℕ) (link : ℕ) (o : Option Node) : Type 0 where
  pub found : FoundAt ws plan link o

-- x is the node that stands at the link, and has the colour c.
pub record LooksColored (ws plan : List ℕ) (link : ℕ) (c : Color) (x : Node) : Type 0 where
  pub looks : Looks ws plan link x
  pub color_is : x.color ≡ c

-- The link holds no node of the colour c.
pub record Lacks (ws plan : List ℕ) (link : ℕ) (c : Color) : Type 0 where
  pub lacks : {t : Tree} → Holds ws plan link t → is_colored c t ≡ false

abbrev pub ColoredAt : List ℕ → List ℕ → ℕ → Color → Option Node → Type 0
ColoredAt ws plan link c None = Lacks ws plan link c
ColoredAt ws plan link c (Some x) = LooksColored ws plan link c x

pub record FindsColored (ws plan : List ℕ) (link : ℕ) (c : Color) (o : Option Node) : Type 0 where
  pub found : ColoredAt ws plan link c o

-- A step from a node x adds at most k nodes, and r then holds what f makes of the tree with x, made anew, at its top.
pub record Steps (ws plan plan' : List ℕ) (k : ℕ) (x : Node) (r : ℕ) (f : Tree → Tree) : Type 0 where
  pub grown : Grown ws plan plan' k
  pub holds : {a b : Tree} → Holds ws plan x.left a → Holds ws plan x.right b →
      Holds ws plan' r (f (node fresh (color_of x.color) a (entry_of x.entry) b))

-- The same step from the words of a node. Of words whose colour is none it only says that what stood
-- before stands after.
pub record StepsFrom (ws plan plan' : List ℕ) (k : ℕ) (x : arena.Node) (r : ℕ) (f : Tree → Tree) : Type 0 where
  pub grown : Grown ws plan plan' k
  pub holds : {c : trees.Color} {a b : Tree} → x.color ≡ code c → Holds ws plan x.left a → Holds ws plan x.right b →
      Holds ws plan' r (f (node fresh c a (entry_of x.entry) b))

-- The step that only writes x down.
abbrev pub itself : Tree → Tree
itself t = t

-- A step from a link adds at most k nodes, and r then holds what f makes of the tree at the link.
pub record Turns (ws plan plan' : List ℕ) (k link r : ℕ) (f : Tree → Tree) : Type 0 where
  pub grown : Grown ws plan plan' k
  pub holds : {t : Tree} → Holds ws plan link t → Holds ws plan' r (f t)

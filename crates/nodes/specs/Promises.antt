-- What the writes of nodes (RULES 6.2, 6.3) ask of the words, and what they promise: the models of
-- `words`.
use Rattle.std.specs.Prelude.{◌≡◌, List, ◌∷◌, ℕ, ◌+◌, ◌≤◌, ◌<◌, length}
use Rattle.trees.specs.Tree as trees
use Rattle.words.specs.Layout.{head, count, code, header_words}
use Rattle.words.specs.Reads.{Reads}
use Rattle.words.specs.Owned.{Owned}
use Rattle.words.specs.Model.{making, releasing, freed}
use Rattle.arena.specs.declared.Node.{Node}
use Rattle.arena.specs.Nodes.{entry_of, NodeInside}

-- Node i stands in the arena, and its count can be raised: `count_small` gives that of every live node.
pub record Raisable (ws : List ℕ) (i : ℕ) : Type 0 where
  pub inside : NodeInside ws i
  pub room : 1 ≤ i → count ws i + 1 < 4294967296

-- There is a first free node, and the colour to be written is red or black (RULES 2.16).
pub record Makable (ws : List ℕ) (d : Node) : Type 0 where
  pub header : header_words ≤ length ws
  pub inside : NodeInside ws (head ws)
  pub coloured : (c : trees.Color) × (d.color ≡ code c)

pub record Writable (ws : List ℕ) (i : ℕ) (d : Node) : Type 0 where
  pub first : i ≡ head ws
  pub makable : Makable ws d

-- The words after the first free node was taken and written with d.
abbrev pub Written : List ℕ → List ℕ → Node → Type 0
Written ws ws' d = (c : trees.Color) → d.color ≡ code c → ws' ≡ making ws c d.left (entry_of d.entry) d.right

-- r is the node that was taken.
pub record Made (r : ℕ) (ws ws' : List ℕ) (d : Node) : Type 0 where
  pub first : r ≡ head ws
  pub written : Written ws ws' d

-- RULES 6.3: the link i has been released, and r nodes were freed.
pub record Releases (h : ℕ) (ws ws' : List ℕ) (i r : ℕ) : Type 0 where
  pub words_are : ws' ≡ releasing h ws i
  pub freed_is : r ≡ freed h ws i

-- Any tree with any stored size: what safety needs of the slots.
abbrev pub Any : ℕ → trees.Tree → ℕ → Type 0
Any s t z = Unit {0}

-- The call holds the link i, at which stands a tree of height h at most.
pub record Holds (ws : List ℕ) (i h : ℕ) : Type 0 where
  pub others : List ℕ
  pub tree : trees.Tree
  pub n : ℕ
  pub v : ℕ
  pub owned : Owned Any n v ws (i ∷ others)
  pub reads : Reads n ws i tree
  pub low : trees.height tree ≤ h

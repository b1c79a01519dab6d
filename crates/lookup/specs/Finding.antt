-- What the lookups (RULES 6.4) ask of the words, and what they answer: the definitions of `trees`,
-- RULES 6.16 and 6.17, at the tree that a link holds.
use Rattle.std.specs.Prelude.{◌≡◌, List, ℕ, ◌+◌, ◌*◌, ◌≤◌, length, Option, Some, None}
use Rattle.std.proofs.Math.Option as math
use Rattle.trees.specs.Tree as trees
use Rattle.words.specs.Layout.{node_words, header_words}
use Rattle.words.specs.Reads.{Reads}
use Rattle.arena.specs.Nodes.{entry_of}
use Rattle.arena.specs.declared.Entry.{Entry}

abbrev pub found_of : Option Entry → math.Option trees.Entry
found_of (Some e) = math.some (entry_of e)
found_of None = math.none

-- The link i holds a tree of height h at most, in an arena that has all its nodes. RULES 13.9: "the
-- remaining height is what falls".
pub record Rooted (ws : List ℕ) (i h : ℕ) : Type 0 where
  pub n : ℕ
  pub inside : node_words * n + header_words ≤ length ws
  pub tree : trees.Tree
  pub reads : Reads n ws i tree
  pub low : trees.height tree ≤ h

-- Whatever tree the link i holds, r is what f finds in it.
pub record Finds (ws : List ℕ) (i : ℕ) (r : Option Entry) (f : trees.Tree → math.Option trees.Entry) : Type 0 where
  pub says : (n : ℕ) (t : trees.Tree) → Reads n ws i t → found_of r ≡ f t

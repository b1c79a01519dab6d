-- What the functions of this crate hand over: a node by value (RULES 13.3), and what they ask of
-- the words.
use Rattle.std.specs.Prelude.{◌≡◌, List, ℕ, ◌+◌, ◌*◌, ◌≤◌, length}
use Rattle.trees.specs.Tree as trees
use Rattle.words.specs.Layout.{entry, left, right, color, node_words, slot_words, header_words}
use Rattle.arena.specs.declared.Entry.{Entry}
use Rattle.arena.specs.declared.Node.{Node}

abbrev pub entry_of : Entry → trees.Entry
entry_of e = record { key = e.key; value = e.value }

-- Node i has its words (RULES 2.13) in the arena.
abbrev pub NodeInside : List ℕ → ℕ → Type 0
NodeInside ws i = node_words * i + header_words ≤ length ws

-- Slot s has its words (RULES 2.14) in an arena of n nodes.
abbrev pub SlotInside : ℕ → List ℕ → ℕ → Type 0
SlotInside n ws s = node_words * n + slot_words * s + (header_words + slot_words) ≤ length ws

-- d holds the words of node i, but its count.
pub record IsNode (ws : List ℕ) (i : ℕ) (d : Node) : Type 0 where
  pub entry_is : entry_of d.entry ≡ entry ws i
  pub left_is : d.left ≡ left ws i
  pub right_is : d.right ≡ right ws i
  pub color_is : d.color ≡ color ws i

-- What a call finds in an arena: the version of a slot, and the slot to hand out.
use Rattle.std.specs.Prelude.{List, ℕ, ◌<◌}
use Rattle.trees.specs.Tree.{Tree}
use Rattle.words.specs.Layout.{nodes, slots, slot_root}
use Rattle.words.specs.Reads.{Reads, Held}

-- RULES 2.19: slot s is held, and its version is the tree t, "the tree at its root".
pub record VersionIs (ws : List ℕ) (s : ℕ) (t : Tree) : Type 0 where
  pub held : Held ws s
  pub reads : Reads (nodes ws) ws (slot_root (nodes ws) ws s) t

-- RULES 4.21: "A slot that is handed out is the lowest that is not held."
pub record Lowest (ws : List ℕ) (q : ℕ) : Type 0 where
  pub below : q < slots ws
  pub unheld : Held ws q → ⊥
  pub lower_held : (s : ℕ) → s < q → Held ws s

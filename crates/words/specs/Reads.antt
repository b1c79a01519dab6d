-- What it means that the words hold a tree: RULES 2.17, 2.19.
use Rattle.std.specs.Prelude.{◌≡◌, List, ℕ, ◌≤◌, ◌<◌}
use Rattle.trees.specs.Tree.{Entry, Color, kept, Tree, leaf, node}
use Rattle.words.specs.Layout.{nodes, slots, entry, left, right, color, code, slot_root, not_held}

-- Node i, one of the n nodes, has the colour c and the entry e (RULES 2.13, 2.16).
pub record NodeIs (n : ℕ) (ws : List ℕ) (i : ℕ) (c : Color) (e : Entry) : Type 0 where
  pub low : 1 ≤ i
  pub high : i ≤ n
  pub color_is : color ws i ≡ code c
  pub entry_is : entry ws i ≡ e

-- RULES 2.19: "At the link 0 the tree is empty; at a node it has the node's colour and entry, and
-- below it the trees at the node's two links." The place of each node is its number (RULES 6.11).
abbrev pub Reads : ℕ → List ℕ → ℕ → Tree → Type 0
Reads n ws i leaf = i ≡ 0
Reads n ws i (node p c l e r) = (p ≡ kept i) × NodeIs n ws i c e × Reads n ws (left ws i) l × Reads n ws (right ws i) r

-- RULES 2.17: "A slot is held when it is below V and its root is not 4,294,967,295."
pub record Held (ws : List ℕ) (s : ℕ) : Type 0 where
  pub inside : s < slots ws
  pub held : slot_root (nodes ws) ws s ≡ not_held → ⊥

-- The key of a node that was read.
use mathlib.Core.Path.{◌≡◌, ap}
use mathlib.Core.List.{List}
use Prim.Native.Nat.{ℕ}
use Rattle.trees.specs.Tree.{Entry}
use Rattle.words.specs.Layout.{entry}
use Rattle.arena.specs.Nodes.{IsNode}
use Rattle.arena.specs.declared.Node.{Node}

pub key_is : (ws : List ℕ) (i : ℕ) (d : Node) → IsNode ws i d → d.entry.key ≡ (entry ws i).key
key_is ws i d n = ap (λ (e : Entry). e.key) n.entry_is

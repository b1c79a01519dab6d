-- Which nodes of a tree in the arena a call has made.
use Rattle.std.specs.Prelude.{Bool, List, ℕ, eqb, if◌then◌else◌}
use Rattle.trees.specs.Tree.{Place, kept, fresh, Tree, leaf, node}
use Rattle.words.specs.Layout.{count}

-- RULES 6.36: "A fresh node stands in a node of the arena that was free before the call". Every
-- other node is shared (RULES 6.35).
abbrev pub relabel_place : (ℕ → Bool) → Place → Place
relabel_place isNew (kept i) = if isNew i then fresh else kept i
relabel_place isNew fresh = fresh

-- The tree with the places of its new nodes read as fresh.
abbrev pub relabel : (ℕ → Bool) → Tree → Tree
relabel isNew leaf = leaf
relabel isNew (node p c l e r) = node (relabel_place isNew p) c (relabel isNew l) e (relabel isNew r)

-- RULES 6.36: "whose count was 0".
abbrev pub was_free : List ℕ → ℕ → Bool
was_free ws i = eqb (count ws i) 0

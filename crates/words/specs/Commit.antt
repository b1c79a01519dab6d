-- A pure model of a commit: a planned tree, whose fresh nodes are not in the arena yet, is put
-- there (RULES 6.34 to 6.36).
use Rattle.std.specs.Prelude.{List, [], ◌∷◌, ◌++◌, ℕ}
use Rattle.trees.specs.Tree.{kept, fresh, Tree, leaf, node}
use Rattle.words.specs.Layout.{head}
use Rattle.words.specs.Model.{raising, making}

-- The links at which the planned tree leaves its fresh nodes, or its root where that is not fresh: none, or a kept node.
abbrev pub frontier : Tree → List ℕ
frontier leaf = 0 ∷ []
frontier (node (kept i) c l e r) = i ∷ []
frontier (node fresh c l e r) = frontier l ++ frontier r

-- First each of them is counted up,
abbrev pub raising_all : List ℕ → Tree → List ℕ
raising_all ws leaf = raising ws 0
raising_all ws (node (kept i) c l e r) = raising ws i
raising_all ws (node fresh c l e r) = raising_all (raising_all ws l) r

-- The words of an arena, and a link into it.
pub record Built : Type 0 where
  pub words : List ℕ
  pub link : ℕ

-- then the fresh nodes are made, bottom up: the words and the link of the tree.
abbrev pub building : List ℕ → Tree → Built
building ws leaf = record { words = ws; link = 0 }
building ws (node (kept i) c l e r) = record { words = ws; link = i }
building ws (node fresh c l e r) =
    let a = building ws l in
    let b = building a.words r in
    record { words = making b.words c a.link e b.link; link = head b.words }

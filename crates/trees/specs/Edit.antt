-- The two kinds of edit, over listings and over trees: "one tag set (insert) or cut (remove)",
-- RULES 14.6.
use Rattle.std.specs.Prelude.{ℕ, List}
use Rattle.trees.specs.Tree.{Entry, Tree}
use Rattle.trees.specs.Listing.{put, cut}
use Rattle.trees.specs.Insert.{insert}
use Rattle.trees.specs.Remove.{remove}

pub data Edit : Type 0 where
  setting : Entry → Edit
  cutting : ℕ → Edit

-- The listing after the edit (RULES 6.14).
abbrev pub edited : Edit → List Entry → List Entry
edited (setting x) xs = put x xs
edited (cutting k) xs = cut k xs

-- The tree after it, by 000's steps (RULES 6.10).
abbrev pub edit : Edit → Tree → Tree
edit (setting x) t = insert x t
edit (cutting k) t = remove k t

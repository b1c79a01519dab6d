-- The order of two listings, from the entries with which they part.
use Rattle.std.specs.Prelude.{◌≡◌, List, ℕ}
use Rattle.std.proofs.Math.Option.{Option, none, some}
use Rattle.trees.specs.Tree.{Entry, Tree, listing}
use Rattle.trees.specs.Order.{less, same, more, compare_entries, compare}
use Rattle.trees.specs.Order as order
use Rattle.words.specs.Layout.{nodes}
use Rattle.words.specs.Reads.{Reads}
use Rattle.std.specs.declared.cmp.Ordering.{Ordering}
use Rattle.answers.specs.Answers.{sign_of}

-- The next entries decide, RULES 8.1; and 8.2: "the one that ends is less".
abbrev pub rank : Option Entry → Option Entry → order.Sign
rank none none = same
rank none (some f) = less
rank (some e) none = more
rank (some e) (some f) = compare_entries e f

-- d is the order of the listings of the trees that the links i and j hold.
pub record Compares (ws : List ℕ) (i j : ℕ) (d : Ordering) : Type 0 where
  pub says : (t u : Tree) → Reads (nodes ws) ws i t → Reads (nodes ws) ws j u → compare (listing t) (listing u) ≡ sign_of d

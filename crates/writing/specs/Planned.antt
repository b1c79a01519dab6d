-- A planned tree, and what the arena is when it has been put there (RULES 4.37).
use Rattle.std.specs.Prelude.{◌≡◌, true, List, [], ℕ, ◌≤◌, ◌<◌}
use Rattle.trees.specs.Tree.{Tree, height, size, made}
use Rattle.trees.specs.Edit.{Edit, edit}
use Rattle.trees.specs.Lookup.{has}
use Rattle.trees.proofs.Sharing.{AllKept}
use Rattle.words.specs.Layout.{nodes, slots, max_height}
use Rattle.words.specs.Reads.{Reads}
use Rattle.words.specs.Sound.{Sound}
use Rattle.words.specs.Owned.{Live, Sized, idles}
use Rattle.words.specs.Model.{slotting}
use Rattle.words.specs.Commit.{Built}
use Rattle.words.proofs.Committing.{Commits}
use Rattle.plan.specs.Held.{Holds, Room}
use Rattle.versions.specs.declared.Parent.{Parent}

-- The link plans a tree whose kept nodes are live, and for whose fresh nodes there is room.
pub record Planned (ws plan : List ℕ) (link q : ℕ) : Type 0 where
  pub sound : Sound ws
  pub tree : Tree
  pub holds : Holds ws plan link tree
  pub room : Room ws plan 0
  pub live : AllKept (Live (nodes ws) ws) tree
  pub low : height tree ≤ max_height
  pub fits : made tree ≤ idles (nodes ws) ws
  pub below : q < slots ws

-- The tree u is committed, which takes r nodes, and then put into slot q with the size z.
pub record PutInSlot (ws ws' : List ℕ) (u : Tree) (q z r : ℕ) : Type 0 where
  pub built : Built
  pub commits : Commits Sized (nodes ws) (slots ws) [] ws u built
  pub takes : r ≡ made u
  pub words_are : ws' ≡ slotting (nodes ws) built.words q built.link z

pub record Puts (ws ws' plan : List ℕ) (link q z r : ℕ) : Type 0 where
  pub puts : (u : Tree) → Holds ws plan link u → PutInSlot ws ws' u q z r

-- The edited parent is in the slot handed out, and r nodes were taken.
pub record Edits (ws ws' : List ℕ) (p : Parent) (d : Edit) (r : ℕ) : Type 0 where
  pub edits : (t : Tree) → Reads (nodes ws) ws p.root t → PutInSlot ws ws' (edit d t) p.out (size (edit d t)) r

-- The parent has the key.
pub record Present (ws : List ℕ) (p : Parent) (key : ℕ) : Type 0 where
  pub present : (t : Tree) → Reads (nodes ws) ws p.root t → has key t ≡ true

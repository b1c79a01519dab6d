-- What is known of the trees at links: B has a summary for each.
use Rattle.std.specs.Prelude.{◌≡◌, List, ℕ, ◌≤◌, take}
use Rattle.trees.specs.Tree.{Tree}
use Rattle.words.specs.Layout.{nodes, left, right, slot_root}
use Rattle.words.specs.Counting.{occ}
use Rattle.words.specs.Reads.{Reads, Held}
use Rattle.words.specs.Owned.{Live}
use Rattle.soundness_laws.specs.Summary.{Brief, Good, Tells}
use Rattle.soundness_laws.specs.Within.{Within}

-- The link x has a tree that can be a part of a version, and B its summary.
pub record Known (ws : List ℕ) (B : ℕ → Brief) (x : ℕ) : Type 0 where
  pub tree : Tree
  pub holds : Reads (nodes ws) ws x tree
  pub tells : Tells (B x) tree

-- B' is B with the summary s at the link i.
pub record Noted (B B' : ℕ → Brief) (i : ℕ) (s : Brief) : Type 0 where
  pub here : B' i ≡ s
  pub other : (x : ℕ) → (x ≡ i → ⊥) → B' x ≡ B x

-- What it asks to settle node i; and what that gives: it is known too, or no tree that can be a
-- part of a version stands there.
pub record Settle (ws : List ℕ) (B : ℕ → Brief) (i : ℕ) : Type 0 where
  pub within : Within ws
  pub low : 1 ≤ i
  pub high : i ≤ nodes ws
  pub left : Known ws B (left ws i)
  pub right : Known ws B (right ws i)

pub record Settled (ws : List ℕ) (B B' : ℕ → Brief) (i : ℕ) : Type 0 where
  pub known : Known ws B' i
  pub other : (x : ℕ) → (x ≡ i → ⊥) → B' x ≡ B x

pub record Barren (ws : List ℕ) (i : ℕ) : Type 0 where
  pub none : (t : Tree) → Reads (nodes ws) ws i t → Good t → ⊥

-- The empty tree and the nodes of the queue from place k on are known.
pub record Settling (ws queue : List ℕ) (tail k : ℕ) (B : ℕ → Brief) : Type 0 where
  pub high : k ≤ tail
  pub none : Known ws B 0
  pub known : (x : ℕ) → 1 ≤ occ x (take tail queue) → occ x (take k queue) ≡ 0 → Known ws B x

-- All live nodes and the roots of all held slots are.
pub record AllKnown (ws : List ℕ) (B : ℕ → Brief) : Type 0 where
  pub within : Within ws
  pub live : (x : ℕ) → Live (nodes ws) ws x → Known ws B x
  pub roots : (s : ℕ) → Held ws s → Known ws B (slot_root (nodes ws) ws s)

-- When an arena is sound: RULES 3.1 to 3.8. A field for each of these rules, which is quoted above
-- it.
use Rattle.std.specs.Prelude.{◌≡◌, false, List, [], ◌∷◌, map, ℕ, ◌+◌, ◌≤◌, ◌<◌, length}
use Rattle.trees.specs.Tree.{Tree, listing, size, is_red}
use Rattle.trees.specs.Listing.{Ascending}
use Rattle.trees.specs.Shape.{Rb}
use Rattle.words.specs.Layout.{nodes, slots, head, left, right, count, slot_root, slot_size, not_held, max_nodes, max_slots, arena_words}
use Rattle.words.specs.Counting.{occ, run}
use Rattle.words.specs.Reads.{Reads, Held}

-- RULES 2.7, 2.8: the limits of N and V, and the length that they ask for.
pub record Limits (n v long : ℕ) : Type 0 where
  pub n_low : 1 ≤ n
  pub n_high : n ≤ max_nodes
  pub v_low : 1 ≤ v
  pub v_high : v ≤ max_slots
  pub long_is : long ≡ arena_words n v

-- The trees of the held slots: RULES 3.1 to 3.5.
pub record Trees (ws : List ℕ) : Type 0 where
  -- RULES 3.1: "The N and V in words 0 and 1 keep to 2.7, and the slice has the length that 2.8
  -- gives them."
  pub limits : Limits (nodes ws) (slots ws) (length ws)
  -- RULES 3.3: "The tree of a held slot is finite": it is a tree of the definition, which is.
  pub tree : (s : ℕ) → Held ws s → Tree
  -- RULES 3.2: "A link that is followed, from a held slot on, is none or a node from 1 to N; the
  -- colour of each node so met is red or black."
  pub links : (s : ℕ) (h : Held ws s) → Reads (nodes ws) ws (slot_root (nodes ws) ws s) (tree s h)
  -- RULES 3.3: "It is empty, or its root is black."
  pub roots : (s : ℕ) (h : Held ws s) → is_red (tree s h) ≡ false
  -- RULES 3.4: "In the listing of a held slot each key is above the one before it."
  pub keys : (s : ℕ) (h : Held ws s) → Ascending (listing (tree s h))
  -- RULES 3.5: "A child of a red node is never red. Every way from the root down to a missing child
  -- meets the same number of black nodes."
  pub shapes : (s : ℕ) (h : Held ws s) → (b : ℕ) × Rb b (tree s h)

-- RULES 3.9: "A held slot reaches the node at its root, and from a node it reaches those at its
-- links."
pub data Reached (ws : List ℕ) : ℕ → Type 0 where
  from_slot : (s : ℕ) → Held ws s → 1 ≤ slot_root (nodes ws) ws s → Reached ws (slot_root (nodes ws) ws s)
  from_left : (i : ℕ) → Reached ws i → 1 ≤ left ws i → Reached ws (left ws i)
  from_right : (i : ℕ) → Reached ws i → 1 ≤ right ws i → Reached ws (right ws i)

-- xs are the nodes that a held slot reaches, each once.
pub record AllReached (ws : List ℕ) (xs : List ℕ) : Type 0 where
  pub once : (i : ℕ) → occ i xs ≤ 1
  pub listed : (i : ℕ) → 1 ≤ occ i xs → Reached ws i
  pub all : (i : ℕ) → Reached ws i → 1 ≤ occ i xs

-- RULES 3.7: the number of names of i. "Each held slot whose root it is, and each left or right
-- link that leads to it from a node" of xs. A slot that is not held names no node.
unfoldable pub named : List ℕ → List ℕ → ℕ → ℕ
named ws xs i = occ i (map (left ws) xs) + occ i (map (right ws) xs) + occ i (map (slot_root (nodes ws) ws) (run 0 (slots ws)))

-- RULES 2.18: the free list from the link i on has the nodes F, in this order.
abbrev pub Chain : ℕ → List ℕ → ℕ → List ℕ → Type 0
Chain n ws i [] = i ≡ 0
Chain n ws i (f ∷ F) = (i ≡ f) × (1 ≤ f) × (f ≤ n) × Chain n ws (left ws f) F

-- What the arena keeps about its trees: sizes, counts and the free list. RULES 3.6 to 3.8.
pub record Books (ws : List ℕ) (T : Trees ws) : Type 0 where
  -- RULES 3.6: "The size that a slot stores is the number of entries of its tree; a slot that is
  -- not held stores 0".
  pub sizes : (s : ℕ) (h : Held ws s) → slot_size (nodes ws) ws s ≡ size (T.tree s h)
  pub no_sizes : (s : ℕ) → s < slots ws → slot_root (nodes ws) ws s ≡ not_held → slot_size (nodes ws) ws s ≡ 0
  pub reached : List ℕ
  pub all_reached : AllReached ws reached
  -- RULES 3.7: "The count of a node is the number of its names".
  pub counts : (i : ℕ) → 1 ≤ i → i ≤ nodes ws → count ws i ≡ named ws reached i
  pub free : List ℕ
  -- RULES 3.8: "The nodes on the free list are exactly those that no held slot reaches. Each stands
  -- there once, and its count is 0."
  pub free_listed : Chain (nodes ws) ws (head ws) free
  pub free_once : (i : ℕ) → occ i free ≤ 1
  pub free_unreached : (i : ℕ) → 1 ≤ occ i free → Reached ws i → ⊥
  pub unreached_free : (i : ℕ) → 1 ≤ i → i ≤ nodes ws → (Reached ws i → ⊥) → 1 ≤ occ i free
  pub free_counts : (i : ℕ) → 1 ≤ occ i free → count ws i ≡ 0

-- RULES 3: "An arena is sound when 3.1 to 3.8 hold."
pub record Sound (ws : List ℕ) : Type 0 where
  pub trees : Trees ws
  pub books : Books ws trees

-- RULES 3.10: "The free number is how many nodes are free."
abbrev pub free_number : {ws : List ℕ} → Sound ws → ℕ
free_number S = length S.books.free

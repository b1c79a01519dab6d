-- What a running call keeps of an arena, while RULES 3.7 is not yet true again: every node's count
-- is the number of its names, by child places of live nodes, by slots and by the links that the
-- call itself holds, P. A node is live, or in use (RULES 4.39), when its count is above 0. The
-- arena has n nodes and v slots.
use Rattle.std.specs.Prelude.{◌≡◌, ◌⊎◌, List, ℕ, zero, suc, ◌+◌, ◌*◌, ◌≤◌, ◌<◌, length, get_or}
use Rattle.trees.specs.Tree.{Tree, height, size}
use Rattle.trees.specs.Shape.{Fine}
use Rattle.words.specs.Layout.{nodes, slots, head, left, right, count, slot_root, slot_size, not_held, node_words, key_word, count_word}
use Rattle.words.specs.Counting.{same, occ, sum}
use Rattle.words.specs.Reads.{Reads}
use Rattle.words.specs.Sound.{Limits, Chain}

-- x where the count c is above 0, else 0; and 1 where c is 0, else 0.
unfoldable pub when : ℕ → ℕ → ℕ
when zero x = 0
when (suc c) x = x

unfoldable pub idle : ℕ → ℕ
idle zero = 1
idle (suc c) = 0

-- How many child places of node j name i: none where j is not live.
unfoldable pub kids : List ℕ → ℕ → ℕ → ℕ
kids ws i j = when (count ws j) (same (left ws j) i + same (right ws j) i)

-- 1 where slot s names i.
unfoldable pub held : ℕ → List ℕ → ℕ → ℕ → ℕ
held n ws i s = same (slot_root n ws s) i

-- How many child places, slots and links of P name i.
unfoldable pub names : ℕ → ℕ → List ℕ → List ℕ → ℕ → ℕ
names n v ws P i = sum (kids ws i) 1 n + sum (held n ws i) 0 v + occ i P

abbrev pub Live : ℕ → List ℕ → ℕ → Type 0
Live n ws i = (1 ≤ i) × (i ≤ n) × (1 ≤ count ws i)

-- RULES 3.1: the header records n and v, which keep to their limits and agree with the length.
pub record Shaped (n v : ℕ) (ws : List ℕ) : Type 0 where
  pub limits : Limits n v (length ws)
  pub n_is : nodes ws ≡ n
  pub v_is : slots ws ≡ v

-- Slot s is not held, and its size is 0; or it holds a tree of which, with its stored size, `Valid` says what slot s has to hold. No law looks
-- into `Valid`: at "the tree and the size that slot s had before" a law says that the slots are kept.
abbrev pub Version : (ℕ → Tree → ℕ → Type 0) → ℕ → List ℕ → ℕ → Type 0
Version Valid n ws s =
    ((slot_root n ws s ≡ not_held) × (slot_size n ws s ≡ 0))
    ⊎ ((t : Tree) × Reads n ws (slot_root n ws s) t × Valid s t (slot_size n ws s))

pub record Owned (Valid : ℕ → Tree → ℕ → Type 0) (n v : ℕ) (ws P : List ℕ) : Type 0 where
  pub shaped : Shaped n v ws
  pub bound : ℕ
  pub trees : (i : ℕ) → Live n ws i → (t : Tree) × Reads n ws i t × (height t ≤ bound)
  pub counts : (i : ℕ) → 1 ≤ i → i ≤ n → count ws i ≡ names n v ws P i
  pub pending : (p : ℕ) → 1 ≤ occ p P → p ≤ n
  pub free : List ℕ
  pub chain : Chain n ws (head ws) free
  pub frees : (i : ℕ) → 1 ≤ i → i ≤ n → occ i free ≡ idle (count ws i)
  pub versions : (s : ℕ) → s < v → Version Valid n ws s

-- What a slot of a sound arena holds: a fine tree, with its number of entries (RULES 3.3 to 3.6).
abbrev pub Sized : ℕ → Tree → ℕ → Type 0
Sized s t z = Fine t × (z ≡ size t)

-- How many of the n nodes are free (RULES 3.10).
unfoldable pub idle_at : List ℕ → ℕ → ℕ
idle_at ws j = idle (count ws j)

unfoldable pub idles : ℕ → List ℕ → ℕ
idles n ws = sum (idle_at ws) 1 n

-- RULES 4.39: node j "has the words that it had, but for its count".
abbrev pub Agree : List ℕ → List ℕ → ℕ → Type 0
Agree ws ws' j = (k : ℕ) → key_word ≤ k → k < count_word → get_or ws' (node_words * j + k) 0 ≡ get_or ws (node_words * j + k) 0

-- RULES 4.39: after a release each node that is still live was live, with the same words.
abbrev pub Kept : ℕ → List ℕ → List ℕ → Type 0
Kept n ws ws' = (j : ℕ) → Live n ws' j → Live n ws j × Agree ws ws' j

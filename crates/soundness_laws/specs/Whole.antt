-- What is known once the queue is whole and the free list has all other nodes.
use Rattle.std.specs.Prelude.{◌≡◌, List, [], ℕ, ◌+◌, ◌≤◌, ◌<◌, length, take}
use Rattle.words.specs.Layout.{nodes, slots, head, left, right, count, slot_root}
use Rattle.words.specs.Counting.{occ}
use Rattle.words.specs.Owned.{idle, Live, names, Version, Sized}
use Rattle.words.specs.Reads.{Held}
use Rattle.words.specs.Sound.{Reached, Chain, Sound, free_number}
use Rattle.soundness_laws.specs.Within.{Within}
use Rattle.soundness_laws.specs.Queue.{Past}

pub record Whole (ws queue : List ℕ) (tail : ℕ) : Type 0 where
  pub within : Within ws
  pub space : nodes ws < length queue
  pub short : tail ≤ nodes ws
  pub live : (x : ℕ) → Live (nodes ws) ws x → occ x (take tail queue) ≡ 1
  pub inside : (x : ℕ) → 1 ≤ occ x (take tail queue) → Live (nodes ws) ws x
  pub reached : (x : ℕ) → 1 ≤ occ x (take tail queue) → Reached ws x
  pub past : (p : ℕ) → p < tail → Past ws queue p
  -- The links of a node in the queue and of a held slot are none, or in the queue.
  pub lefts : (x : ℕ) → 1 ≤ occ x (take tail queue) → 1 ≤ left ws x → 1 ≤ occ (left ws x) (take tail queue)
  pub rights : (x : ℕ) → 1 ≤ occ x (take tail queue) → 1 ≤ right ws x → 1 ≤ occ (right ws x) (take tail queue)
  pub roots : (s : ℕ) → Held ws s → 1 ≤ slot_root (nodes ws) ws s → 1 ≤ occ (slot_root (nodes ws) ws s) (take tail queue)
  pub counts : (x : ℕ) → 1 ≤ x → x ≤ nodes ws → count ws x ≡ names (nodes ws) (slots ws) ws [] x
  pub free : List ℕ
  pub chain : Chain (nodes ws) ws (head ws) free
  pub frees : (x : ℕ) → 1 ≤ x → x ≤ nodes ws → occ x free ≡ idle (count ws x)
  pub rest : length free + tail ≡ nodes ws

-- Slot s is not held, with size 0, or has the tree of a version and its size; and so has every
-- slot.
pub record SlotRight (ws : List ℕ) (s : ℕ) : Type 0 where
  pub version : Version Sized (nodes ws) ws s

pub record SlotsRight (ws : List ℕ) : Type 0 where
  pub are : (s : ℕ) → s < slots ws → SlotRight ws s

-- The arena is sound, and f nodes are free.
abbrev pub SoundWith : List ℕ → ℕ → Type 0
SoundWith ws f = (S : Sound ws) × (free_number S ≡ f)

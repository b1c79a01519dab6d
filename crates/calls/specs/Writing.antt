-- What the calls that write leave, RULES 4.32 to 4.39: every word, but for the three exceptions of
-- RULES 11.2, which concern insert, remove and release alone.
use Rattle.std.specs.Prelude.{◌≡◌, List, ℕ, ◌+◌, ◌*◌, ◌≤◌, ◌<◌, length, get_or}
use Rattle.std.proofs.Math.Option.{none, some}
use Rattle.trees.specs.Tree.{Entry, Tree, listing, size}
use Rattle.trees.specs.Listing.{find}
use Rattle.trees.specs.Edit.{Edit, cutting, edit}
use Rattle.words.specs.Layout.{nodes, slots, head, count, slot_root, slot_size, not_held, node_words, header_words, head_word, key_word, left_word, count_word}
use Rattle.words.specs.Counting.{run}
use Rattle.words.specs.Reads.{Held}
use Rattle.words.specs.Sound.{Limits, Chain, Sound}
use Rattle.words.specs.Owned.{Live, Agree, Kept}
use Rattle.words.specs.Model.{raising, slotting}
use Rattle.calls.specs.Call.{Answer}
use Rattle.calls.specs.Version.{VersionIs, Lowest}
use Rattle.words.specs.Fresh.{relabel, was_free}

-- RULES 4.32: "Format accepts whatever the slice held. It records its N and V in words 0 and 1;
-- every node is then free, and no slot is held." RULES 4.33: every other word. The nodes are listed
-- in the order of their numbers, and "key, value, right link and colour of a node stay".
pub record Formatted (n v : ℕ) (ws : List ℕ) (a : Answer) (ws' : List ℕ) : Type 0 where
  pub limits : Limits n v (length ws)
  pub answer : a ≡ Answer.done
  pub long : length ws' ≡ length ws
  pub n_is : nodes ws' ≡ n
  pub v_is : slots ws' ≡ v
  pub spares : (k : ℕ) → head_word < k → k < header_words → get_or ws' k 0 ≡ 0
  pub free_listed : Chain n ws' (head ws') (run 1 n)
  pub counts : (i : ℕ) → 1 ≤ i → i ≤ n → count ws' i ≡ 0
  pub kept : (i k : ℕ) → 1 ≤ i → i ≤ n → key_word ≤ k → k < count_word → (k ≡ left_word → ⊥) →
      get_or ws' (node_words * i + k) 0 ≡ get_or ws (node_words * i + k) 0
  pub unheld : (s : ℕ) → s < v → (slot_root n ws' s ≡ not_held) × (slot_size n ws' s ≡ 0)

-- RULES 4.34, 4.35: a slot for a root that is there already, or none, with its size. The two words
-- of the slot, one name more for the root, "and nothing else".
pub record HandsOutRoot (ws : List ℕ) (root size : ℕ) (a : Answer) (ws' : List ℕ) : Type 0 where
  pub before : Sound ws
  pub out : ℕ
  pub lowest : Lowest ws out
  pub answer : a ≡ Answer.slot out
  pub words_are : ws' ≡ slotting (nodes ws) (raising ws root) out root size

-- RULES 4.3: "a second slot for the same version".
pub record HandsOutAgain (ws : List ℕ) (s : ℕ) (a : Answer) (ws' : List ℕ) : Type 0 where
  pub held : Held ws s
  pub hands_out : HandsOutRoot ws (slot_root (nodes ws) ws s) (slot_size (nodes ws) ws s) a ws'

-- RULES 4.39: "Outside the nodes only the head and the two words of the slot given up or handed out
-- have changed": N, V, the spare words and every other slot are as they were.
pub record AllButSlot (q : ℕ) (ws ws' : List ℕ) : Type 0 where
  pub long : length ws' ≡ length ws
  pub header : (k : ℕ) → k < header_words → (k ≡ head_word → ⊥) → get_or ws' k 0 ≡ get_or ws k 0
  pub roots : (s : ℕ) → s < slots ws → (s ≡ q → ⊥) → slot_root (nodes ws) ws' s ≡ slot_root (nodes ws) ws s
  pub sizes : (s : ℕ) → s < slots ws → (s ≡ q → ⊥) → slot_size (nodes ws) ws' s ≡ slot_size (nodes ws) ws s

-- RULES 4.37: a slot for the tree u. The tree that the words hold there is u, with the nodes that
-- were free before the call read as fresh (RULES 6.36).
pub record HandsOutTree (ws : List ℕ) (u : Tree) (a : Answer) (ws' : List ℕ) : Type 0 where
  pub before : Sound ws
  pub after : Sound ws'
  pub out : ℕ
  pub lowest : Lowest ws out
  pub answer : a ≡ Answer.slot out
  pub tree : Tree
  pub version : VersionIs ws' out tree
  -- RULES 6.10: "A new version has the shape and the colours that 000's steps give it"; RULES 6.34
  -- to 6.36: sharing and the nodes taken too.
  pub tree_is : relabel (was_free ws) tree ≡ u
  pub size_is : slot_size (nodes ws) ws' out ≡ size u
  pub others : AllButSlot out ws ws'
  -- RULES 4.39: "after an insert or a remove each node that was in use .. has the words that it
  -- had, but for its count", which soundness gives.
  pub live_kept : (j : ℕ) → Live (nodes ws) ws j → Agree ws ws' j

-- RULES 4.37: a slot for the tree that the steps make of the version of slot s.
pub record Edited (ws : List ℕ) (s : ℕ) (d : Edit) (a : Answer) (ws' : List ℕ) : Type 0 where
  pub parent : Tree
  pub version : VersionIs ws s parent
  pub hands_out : HandsOutTree ws (edit d parent) a ws'

-- RULES 4.37, 4.38: the version of slot s without the key k, by whether it is there.
pub data Removed (ws : List ℕ) (s k : ℕ) (a : Answer) (ws' : List ℕ) : Type 0 where
  present : {e : Entry} (h : Edited ws s (cutting k) a ws') → find k (listing h.parent) ≡ some e → Removed ws s k a ws'
  -- RULES 4.38: "Remove of an absent key leaves what hold leaves".
  absent : {t : Tree} → VersionIs ws s t → find k (listing t) ≡ none → HandsOutAgain ws s a ws' → Removed ws s k a ws'

-- RULES 4.36, 4.39: the slot is given up; each node that is still in use "has the words that it
-- had, but for its count", which soundness gives.
pub record GivenUp (ws : List ℕ) (s : ℕ) (a : Answer) (ws' : List ℕ) : Type 0 where
  pub before : Sound ws
  pub after : Sound ws'
  pub held : Held ws s
  pub answer : a ≡ Answer.done
  pub root_is : slot_root (nodes ws) ws' s ≡ not_held
  pub size_is : slot_size (nodes ws) ws' s ≡ 0
  pub others : AllButSlot s ws ws'
  pub live_kept : Kept (nodes ws) ws ws'

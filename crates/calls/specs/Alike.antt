-- RULES 11.2, docs/EXCEPTIONS.md, as one relation: what two runs of a call on the same words may
-- leave different.
use Rattle.std.specs.Prelude.{◌≡◌, ◌⊎◌, Bool, true, false, List, ℕ, ◌≤◌, ◌<◌, length, get_or}
use Rattle.std.proofs.Math.Option.{Option, none, some}
use Rattle.words.specs.Layout.{nodes, slots, entry, left, right, color, count, slot_root, slot_size, header_words, head_word}
use Rattle.words.specs.Reads.{Held}
use Rattle.words.specs.Sound.{Sound}
use Rattle.calls.specs.Effect.{Effect}
use Rattle.words.specs.Fresh.{was_free}

-- The links i and j stand at the same place of the two arenas: from the same slot, by the same turns.
pub data Twins (ws ws' : List ℕ) : ℕ → ℕ → Type 0 where
  at_slot : (s : ℕ) → Held ws s → Twins ws ws' (slot_root (nodes ws) ws s) (slot_root (nodes ws') ws' s)
  at_left : {i j : ℕ} → Twins ws ws' i j → 1 ≤ i → Twins ws ws' (left ws i) (left ws' j)
  at_right : {i j : ℕ} → Twins ws ws' i j → 1 ≤ i → Twins ws ws' (right ws i) (right ws' j)

-- Node i of the one and node j of the other have the same contents and the same count; and the same number, unless both may be renamed.
pub record Match (renamed : ℕ → Bool) (ws ws' : List ℕ) (i j : ℕ) : Type 0 where
  pub some_node : (1 ≤ i) × (1 ≤ j)
  pub entry_is : entry ws' j ≡ entry ws i
  pub color_is : color ws' j ≡ color ws i
  pub count_is : count ws' j ≡ count ws i
  pub place : (i ≡ j) ⊎ ((renamed i ≡ true) × (renamed j ≡ true))

-- RULES 11.2: words that are equal but for the names of the nodes that may be renamed, the order of
-- the free list, and other words of free nodes.
pub record Alike (renamed : ℕ → Bool) (ws ws' : List ℕ) : Type 0 where
  -- so the free list of each lists exactly the nodes not reached, each once, with count 0
  pub sound : Sound ws
  pub sound' : Sound ws'
  pub long : length ws' ≡ length ws
  pub header : (k : ℕ) → k < header_words → (k ≡ head_word → ⊥) → get_or ws' k 0 ≡ get_or ws k 0
  pub held : (s : ℕ) → (Held ws s → Held ws' s) × (Held ws' s → Held ws s)
  pub sizes : (s : ℕ) → s < slots ws → slot_size (nodes ws') ws' s ≡ slot_size (nodes ws) ws s
  pub match : (i j : ℕ) → Twins ws ws' i j → ((i ≡ 0) × (j ≡ 0)) ⊎ Match renamed ws ws' i j
  -- a node of the one stands beside one node of the other only
  pub one : (i j k : ℕ) → Twins ws ws' i j → Twins ws ws' i k → j ≡ k
  pub one' : (i j k : ℕ) → Twins ws ws' i k → Twins ws ws' j k → i ≡ j

-- RULES 11.2: "which of the free nodes is taken; in which order the free nodes are listed; what a
-- free node has in its other words". Insert and remove take nodes that were free on the words ws,
-- release takes none. New and hold touch no free node, and format lists them all in order.
abbrev pub renamed_by : Effect → List ℕ → Option (ℕ → Bool)
renamed_by (Effect.formats n v) ws = none
renamed_by Effect.makes ws = none
renamed_by (Effect.holds s) ws = none
renamed_by (Effect.releases s) ws = some (λ i. false)
renamed_by (Effect.edits s d) ws = some (was_free ws)
renamed_by Effect.reads ws = none

-- RULES 11.1, 11.2: words that two runs of a call leave are equal, or where nodes are taken or
-- freed equal but for the exceptions.
abbrev pub SameBut : Option (ℕ → Bool) → List ℕ → List ℕ → Type 0
SameBut none w w' = w ≡ w'
SameBut (some renamed) w w' = (w ≡ w') ⊎ Alike renamed w w'

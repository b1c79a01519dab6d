-- What each step of format leaves (RULES 4.32, 4.33), as far as the steps after it need it.
use Rattle.std.specs.Prelude.{◌≡◌, List, [], ◌∷◌, ℕ, ◌+◌, ◌-◌, ◌*◌, ◌≤◌, ◌<◌, length, get_or}
use Rattle.words.specs.Layout.{head, count, slot_root, slot_size, not_held, node_words, header_words, head_word, left_word, count_word}
use Rattle.words.specs.Counting.{run}
use Rattle.words.specs.Sound.{Chain}
use Rattle.words.specs.Model.{storing}

-- The header of an arena of n nodes and v slots without a free node: all its words, as old contents may be any.
abbrev pub header : ℕ → ℕ → List ℕ
header n v = n ∷ (v ∷ (0 ∷ (0 ∷ (0 ∷ (0 ∷ (0 ∷ (0 ∷ [])))))))

-- Nothing but the header is written.
pub record Headed (n v : ℕ) (ws ws' : List ℕ) : Type 0 where
  pub is : ws' ≡ storing ws 0 0 (header n v)

-- Word k is not one that freeing a node above i writes.
pub record Spared (i k : ℕ) : Type 0 where
  pub head : k ≡ head_word → ⊥
  pub left : (j : ℕ) → i < j → k ≡ node_words * j + left_word → ⊥
  pub count : (j : ℕ) → i < j → k ≡ node_words * j + count_word → ⊥

-- The free list is that of the nodes above i in the order of their numbers; every word that freeing them does not write is kept.
pub record FreeAbove (i n : ℕ) (ws ws' : List ℕ) : Type 0 where
  pub inside : i ≤ n
  pub long : length ws' ≡ length ws
  pub chain : Chain n ws' (head ws') (run (i + 1) (n - i))
  pub counts : (j : ℕ) → i < j → j ≤ n → count ws' j ≡ 0
  pub kept : (k : ℕ) → Spared i k → get_or ws' k 0 ≡ get_or ws k 0

-- No slot below q is held, and what comes before the slots is kept.
pub record EmptyBelow (q n : ℕ) (ws ws' : List ℕ) : Type 0 where
  pub long : length ws' ≡ length ws
  pub empty : (s : ℕ) → s < q → (slot_root n ws' s ≡ not_held) × (slot_size n ws' s ≡ 0)
  pub kept : (k : ℕ) → k < node_words * n + header_words → get_or ws' k 0 ≡ get_or ws k 0

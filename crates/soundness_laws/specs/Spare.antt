-- The free list as it is walked: over nodes of count 0.
use Rattle.std.specs.Prelude.{◌≡◌, List, ℕ, zero, suc, ◌≤◌}
use Rattle.words.specs.Layout.{nodes, head, left, count}

-- Link i names a node of count 0.
pub record Spare (ws : List ℕ) (i : ℕ) : Type 0 where
  pub low : 1 ≤ i
  pub high : i ≤ nodes ws
  pub idle : count ws i ≡ 0

-- k links from i on lead over such nodes, to none.
abbrev pub Spares : List ℕ → ℕ → ℕ → Type 0
Spares ws i zero = i ≡ 0
Spares ws i (suc k) = Spare ws i × Spares ws (left ws i) k

-- The free list has k nodes, each of count 0.
pub record SpareList (ws : List ℕ) (k : ℕ) : Type 0 where
  pub spares : Spares ws (head ws) k

-- The free number (RULES 3.10), which is lent to the calls that write.
use Rattle.std.specs.Prelude.{◌≡◌, List, ℕ, ◌≤◌}
use Rattle.words.specs.Sound.{Sound, free_number}

-- The free number of the arena is `free`; it is k at least.
pub record FreeIs (ws : List ℕ) (free : ℕ) : Type 0 where
  pub is : (S : Sound ws) → free_number S ≡ free

pub record HasFree (ws : List ℕ) (k : ℕ) : Type 0 where
  pub has : (S : Sound ws) → k ≤ free_number S

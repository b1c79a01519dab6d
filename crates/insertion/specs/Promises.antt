-- What the steps of insertion (RULES 6.24 to 6.26) ask and promise, beside those of the plan.
use Rattle.std.specs.Prelude.{◌≡◌, Bool, not, List, ℕ, ◌+◌, ◌*◌}
use Rattle.trees.specs.Tree.{Tree}
use Rattle.trees.specs.Lookup.{has}
use Rattle.plan.specs.Held.{Holds}
use Rattle.balancing.specs.Promises.{balance_room}

-- How many nodes a step adds to the plan at most: `ins` balances at each level and makes one node more; the root is painted.
abbrev pub ins_room : ℕ → ℕ
ins_room h = balance_room * h + 1

abbrev pub insert_room : ℕ → ℕ
insert_room h = ins_room h + 1

-- new says whether the key k is new to what the link holds.
pub record News (ws plan : List ℕ) (link k : ℕ) (new : Bool) : Type 0 where
  pub says : {t : Tree} → Holds ws plan link t → new ≡ not (has k t)

-- What a commit asks of the plan and of the arena, and what it leaves: the models of `words`, at
-- the tree that is planned. RULES 6.34 to 6.36: fresh nodes and shared ones.
use Rattle.std.specs.Prelude.{◌≡◌, List, ◌++◌, ℕ, ◌+◌, ◌-◌, ◌^◌, ◌≤◌, ◌<◌, length}
use Rattle.trees.specs.Tree.{Tree, leaf, node, kept, fresh, height, made}
use Rattle.trees.proofs.Sharing.{AllKept}
use Rattle.words.specs.Layout.{code}
use Rattle.words.specs.Owned.{Live, Owned, idles}
use Rattle.words.specs.Commit.{frontier, raising_all, building}
use Rattle.words.proofs.Countups.{Shares}
use Rattle.nodes.specs.Promises.{Any}
use Rattle.plan.specs.Scratch.{plan_entry, plan_left, plan_right, plan_color, PlanInside}

-- The node of the plan that a link above those of the n nodes names.
abbrev pub spot_of : ℕ → ℕ → ℕ
spot_of n link = link - (n + 1)

-- The link plans the tree t, whatever the arena's words are by now: none; a node of the arena, below which nothing is fresh; or a node of the plan.
abbrev pub Plans : ℕ → List ℕ → ℕ → Tree → Type 0
Plans n plan link leaf = link ≡ 0
Plans n plan link (node (kept i) c l e r) = (link ≡ i) × (1 ≤ i) × (i ≤ n) × (made l + made r ≡ 0)
Plans n plan link (node fresh c l e r) =
    (n < link) × PlanInside plan (spot_of n link + 1) × (plan_color plan (spot_of n link) ≡ code c) × (plan_entry plan (spot_of n link) ≡ e)
    × Plans n plan (plan_left plan (spot_of n link)) l × Plans n plan (plan_right plan (spot_of n link)) r

-- A planned tree of height h at most, with so few fresh nodes that they can be counted.
pub record Countable (n : ℕ) (plan : List ℕ) (link h : ℕ) : Type 0 where
  pub tree : Tree
  pub plans : Plans n plan link tree
  pub low : height tree ≤ h
  pub few : made tree < 2 ^ 32

pub record Counts (n : ℕ) (plan : List ℕ) (link r : ℕ) : Type 0 where
  pub counts : (t : Tree) → Plans n plan link t → r ≡ made t

-- Every kept node that it names is live, and few links are pending.
pub record Raisable (ws : List ℕ) (n : ℕ) (plan : List ℕ) (link h : ℕ) : Type 0 where
  pub tree : Tree
  pub plans : Plans n plan link tree
  pub low : height tree ≤ h
  pub v : ℕ
  pub pending : List ℕ
  pub owned : Owned Any n v ws pending
  pub live : AllKept (Live n ws) tree
  pub few : length (frontier tree) + length pending < 2 ^ 31

pub record Raises (ws ws' : List ℕ) (n : ℕ) (plan : List ℕ) (link : ℕ) : Type 0 where
  pub raises : (t : Tree) → Plans n plan link t → ws' ≡ raising_all ws t

-- Those links are pending, their trees are in the arena, and there is a free node for each fresh one.
pub record Buildable (ws : List ℕ) (n : ℕ) (plan : List ℕ) (link h : ℕ) : Type 0 where
  pub tree : Tree
  pub plans : Plans n plan link tree
  pub low : height tree ≤ h
  pub v : ℕ
  pub pending : List ℕ
  pub owned : Owned Any n v ws (frontier tree ++ pending)
  pub shares : Shares n ws tree
  pub room : made tree ≤ idles n ws

pub record Builds (ws ws' : List ℕ) (n : ℕ) (plan : List ℕ) (link r : ℕ) : Type 0 where
  pub words : (t : Tree) → Plans n plan link t → ws' ≡ (building ws t).words
  pub link_is : (t : Tree) → Plans n plan link t → r ≡ (building ws t).link

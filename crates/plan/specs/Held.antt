-- What it means that a link holds a tree, where links lead into the arena and into the plan.
use Rattle.std.specs.Prelude.{◌≡◌, List, ℕ, ◌+◌, ◌-◌, ◌≤◌, ◌<◌}
use Rattle.trees.specs.Tree.{Entry, Color, kept, fresh, Tree, leaf, node, height}
use Rattle.words.specs.Layout.{nodes, left, right, code}
use Rattle.words.specs.Reads.{NodeIs}
use Rattle.arena.specs.Nodes.{NodeInside}
use Rattle.plan.specs.Scratch.{used, plan_entry, plan_left, plan_right, plan_color, PlanInside}

-- The node of the plan that a link above the arena's names.
abbrev pub spot : List ℕ → ℕ → ℕ
spot ws link = link - (nodes ws + 1)

-- The link names a node of the plan, which has the colour c and the entry e.
pub record PlanIs (ws plan : List ℕ) (link : ℕ) (c : Color) (e : Entry) : Type 0 where
  pub low : nodes ws < link
  pub high : link ≤ nodes ws + used plan
  pub color_is : plan_color plan (spot ws link) ≡ code c
  pub entry_is : plan_entry plan (spot ws link) ≡ e

-- A link holds a tree: 0 none, 1 to N a node of the arena, which the new version shares
-- (RULES 6.35), and any above a node of the plan, which it makes (RULES 6.34).
pub data Holds (ws plan : List ℕ) : ℕ → Tree → Type 0 where
  none : {link : ℕ} → link ≡ 0 → Holds ws plan link leaf
  shared : {link : ℕ} {c : Color} {e : Entry} {l r : Tree} → NodeIs (nodes ws) ws link c e → Holds ws plan (left ws link) l →
      Holds ws plan (right ws link) r → Holds ws plan link (node (kept link) c l e r)
  planned : {link : ℕ} {c : Color} {e : Entry} {l r : Tree} → PlanIs ws plan link c e → Holds ws plan (plan_left plan (spot ws link)) l →
      Holds ws plan (plan_right plan (spot ws link)) r → Holds ws plan link (node fresh c l e r)

-- Some tree is held.
pub record Some (ws plan : List ℕ) (link : ℕ) : Type 0 where
  pub tree : Tree
  pub held : Holds ws plan link tree

-- Some tree of height h at most is held.
pub record Held (ws plan : List ℕ) (link h : ℕ) : Type 0 where
  pub some : Some ws plan link
  pub fits : height some.tree ≤ h

abbrev pub word_limit : ℕ
word_limit = 4294967296

-- The arena has the words of its nodes; the plan has room for k nodes more, and their links fit a word.
pub record Room (ws plan : List ℕ) (k : ℕ) : Type 0 where
  pub arena : NodeInside ws (nodes ws)
  pub room : PlanInside plan (used plan + k)
  pub links : nodes ws + used plan + k < word_limit

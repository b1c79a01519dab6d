-- What the balancing of a node (RULES 6.18 to 6.23) asks and promises, beside the steps of the
-- plan.
use Rattle.std.specs.Prelude.{◌≡◌, false, ◌&&◌, List, ℕ}
use Rattle.trees.specs.Tree.{Tree, lf, rt, is_red}
use Rattle.trees.specs.Insert.{risen}
use Rattle.plan.specs.declared.Node.{Node}
use Rattle.arena.specs.Nodes.{entry_of}
use Rattle.plan.specs.Held.{Holds}
use Rattle.plan.specs.Steps.{Grown}

-- How many nodes `balance` adds to the plan at most: it makes three anew.
abbrev pub balance_room : ℕ
balance_room = 3

-- RULES 6.23: three nodes were made. The entry of y rises red, between x and z, which are black.
pub record Rises (ws plan plan' : List ℕ) (x y z : Node) (r : ℕ) : Type 0 where
  pub grown : Grown ws plan plan' balance_room
  pub holds : {a b c d : Tree} → Holds ws plan x.left a → Holds ws plan x.right b → Holds ws plan z.left c → Holds ws plan z.right d →
      Holds ws plan' r (risen a (entry_of x.entry) b (entry_of y.entry) c (entry_of z.entry) d)

-- No red child stands below a red root at the link: RULES 6.19 and 6.20 do not apply.
pub record Calm (ws plan : List ℕ) (link : ℕ) : Type 0 where
  pub no_left : {t : Tree} → Holds ws plan link t → is_red t && is_red (lf t) ≡ false
  pub no_right : {t : Tree} → Holds ws plan link t → is_red t && is_red (rt t) ≡ false

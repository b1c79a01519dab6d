-- A planned link is one of the n nodes or none, where nothing is fresh, or a node of the plan, which is.
use mathlib.Core.Path.{◌≡◌, ◌∙◌}
use mathlib.Core.List.{List}
use Prim.Native.Nat.{ℕ, ◌+◌, ◌≤◌, ◌<◌}
use native.Mathlib.Omega.{arith}
use Rattle.trees.specs.Tree.{Entry, Color, kept, fresh, Tree, leaf, node, height, made}
use Rattle.words.specs.Layout.{code}
use Rattle.arena.specs.Nodes.{entry_of}
use Rattle.arena.specs.declared.Node.{Node}
use Rattle.plan.specs.Scratch.{PlanInside, IsPlanned}
use Rattle.commit.specs.Planned.{spot_of, Plans}

-- What is known of a link that names a node of the plan, d being that node.
pub record Parts (n : ℕ) (plan : List ℕ) (d : Node) (c : Color) (l : Tree) (e : Entry) (r : Tree) : Type 0 where
  pub color_is : d.color ≡ code c
  pub entry_is : entry_of d.entry ≡ e
  pub left : Plans n plan d.left l
  pub right : Plans n plan d.right r

module _ (n : ℕ) (plan : List ℕ) (link : ℕ) (P : Tree → Type 0) where
  pub at_low : link ≤ n → (link ≡ 0 → P leaf) →
      ((i : ℕ) (c : Color) (l : Tree) (e : Entry) (r : Tree) → link ≡ i → 1 ≤ i → made l + made r ≡ 0 → P (node (kept i) c l e r)) →
      (t : Tree) → Plans n plan link t → P t
  at_low b f g leaf p = f p
  at_low b f g (node (kept i) c l e r) p = g i c l e r p.0 p.1 p.3
  at_low b f g (node fresh c l e r) p = absurd (omega (arith, p.0))

  pub at_fresh : {d : Node} → n < link → IsPlanned plan (spot_of n link) d →
      ((c : Color) (l : Tree) (e : Entry) (r : Tree) → Parts n plan d c l e r → P (node fresh c l e r)) → (t : Tree) → Plans n plan link t → P t
  at_fresh b m f leaf p = absurd (omega arith)
  at_fresh b m f (node (kept i) c l e r) p = absurd (omega (arith, p.0, p.2))
  at_fresh b m f (node fresh c l e r) p =
      f
      c
      l
      e
      r
      (record {
        color_is = m.color_is ∙ p.2;
        entry_is = m.entry_is ∙ p.3;
        left = rw m.left_is p.4;
        right = rw m.right_is p.5;
      })

-- The words of the node that it names are in the plan, and its tree has a height.
pub plan_inside : (n : ℕ) (plan : List ℕ) (link : ℕ) (t : Tree) → Plans n plan link t → n < link → PlanInside plan (spot_of n link + 1)
plan_inside n plan link leaf p b = absurd (omega arith)
plan_inside n plan link (node (kept i) c l e r) p b = absurd (omega (arith, p.0, p.2))
plan_inside n plan link (node fresh c l e r) p b = p.1

pub plan_high : (n : ℕ) (plan : List ℕ) (link h : ℕ) (t : Tree) → Plans n plan link t → n < link → height t ≤ h → 1 ≤ h
plan_high n plan link h leaf p b l = absurd (omega arith)
plan_high n plan link h (node q c a e r) p b l = omega arith

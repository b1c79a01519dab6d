-- Counting the fresh nodes of a planned tree.
use mathlib.Core.Path.{◌≡◌, refl}
use mathlib.Core.List.{List}
use Prim.Native.Nat.{ℕ, ◌+◌, ◌-◌, ◌^◌, ◌≤◌, ◌<◌}
use native.Mathlib.Omega.{arith}
use mir.Syntax.{w32}
use mir.Val.{Fits}
use Rattle.trees.specs.Tree.{Tree, height, made}
use Rattle.arena.specs.declared.Node.{Node}
use Rattle.plan.specs.Scratch.{PlanInside, IsPlanned}
use Rattle.commit.specs.Planned.{spot_of, Countable, Counts}
use Rattle.commit.proofs.Parts.{at_low, at_fresh, plan_inside, plan_high}

pub counts_low : {n : ℕ} {plan : List ℕ} {link : ℕ} → link ≤ n → Counts n plan link 0
counts_low {n} {plan} {link} b = record { counts = at_low n plan link (λ (t : Tree). 0 ≡ made t) b (λ e. refl) (λ i c l e r p q z. omega arith) }

module _ {n : ℕ} {plan : List ℕ} {link h : ℕ} (k : Countable n plan link h) (b : n < link) where
  pub counts_inside : PlanInside plan (spot_of n link + 1)
  counts_inside = plan_inside n plan link k.tree k.plans b

  pub counts_high : 1 ≤ h
  counts_high = plan_high n plan link h k.tree k.plans b k.low

  pub counts_lower : {t : ℕ} → h ≡ t → h - 1 < t
  counts_lower e = omega (arith, counts_high)

  module _ {d : Node} (m : IsPlanned plan (spot_of n link) d) where
    abbrev Sides : Tree → Type 0
    Sides t = height t ≤ h → made t < 2 ^ 32 → Countable n plan d.left (h - 1) × Countable n plan d.right (h - 1)

    sides : Countable n plan d.left (h - 1) × Countable n plan d.right (h - 1)
    sides =
        at_fresh
        n
        plan
        link
        Sides
        b
        m
        (λ c l e r p a f. (
          record { tree = l; plans = p.left; low = omega arith; few = omega arith },
          record { tree = r; plans = p.right; low = omega arith; few = omega arith },
        ))
        k.tree
        k.plans
        k.low
        k.few

    pub counts_left : Countable n plan d.left (h - 1)
    counts_left = sides.0

    pub counts_right : Countable n plan d.right (h - 1)
    counts_right = sides.1

    module _ {x y : ℕ} (u : Counts n plan d.left x) (w : Counts n plan d.right y) where
      fits : x + y + 1 < 2 ^ 32
      fits =
          at_fresh
          n
          plan
          link
          (λ (t : Tree). made t < 2 ^ 32 → x + y + 1 < 2 ^ 32)
          b
          m
          (λ c l e r p f. omega (arith, u.counts l p.left, w.counts r p.right))
          k.tree
          k.plans
          k.few

      pub counts_sum : Fits w32 (x + y)
      counts_sum = record { fits = omega (arith, fits) }

      pub counts_more : Fits w32 (x + y + 1)
      counts_more = record { fits = fits }

      pub counts_here : Counts n plan link (x + y + 1)
      counts_here =
          record {
            counts = at_fresh n plan link (λ (t : Tree). x + y + 1 ≡ made t) b m (λ c l e r p. omega (arith, u.counts l p.left, w.counts r p.right));
          }

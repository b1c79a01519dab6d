-- Counting up the kept nodes that a planned tree names.
use mathlib.Core.Path.{◌≡◌, sym, ◌∙◌, subst}
use mathlib.Core.Logic.{◌⊎◌, inl, inr}
use mathlib.Core.List.{List, ◌++◌}
use Prim.Native.Nat.{ℕ, ◌+◌, ◌-◌, ◌^◌, ◌≤◌, ◌<◌}
use native.Mathlib.Omega.{arith}
use lib.ListN.{length, length-append}
use Rattle.trees.specs.Tree.{Tree, height}
use Rattle.trees.proofs.Sharing.{AllKept}
use Rattle.words.specs.Owned.{Live}
use Rattle.words.specs.Model.{raising}
use Rattle.words.specs.Commit.{frontier, raising_all}
use Rattle.words.proofs.Countups.{all_kept, raising_all_owned}
use Rattle.arena.specs.declared.Node.{Node}
use Rattle.nodes.specs.Promises as nodes
use Rattle.nodes.proofs.Raised.{owned_raisable}
use Rattle.plan.specs.Scratch.{PlanInside, IsPlanned}
use Rattle.commit.specs.Planned.{spot_of, Plans, Raisable, Raises}
use Rattle.commit.proofs.Parts.{at_low, at_fresh, plan_inside, plan_high}

pub raises_low : {ws w : List ℕ} {n : ℕ} {plan : List ℕ} {link : ℕ} → link ≤ n → w ≡ raising ws link → Raises ws w n plan link
raises_low {ws} {w} {n} {plan} {link} b e =
    record {
      raises =
          at_low
          n
          plan
          link
          (λ (t : Tree). w ≡ raising_all ws t)
          b
          (λ z. e ∙ rw z)
          (λ i c l x r p q z. e ∙ rw p);
    }

module _ {ws : List ℕ} {n : ℕ} {plan : List ℕ} {link h : ℕ} (k : Raisable ws n plan link h) where
  low_live : link ≤ n → (link ≡ 0) ⊎ Live n ws link
  low_live b =
      at_low
      n
      plan
      link
      (λ (t : Tree). AllKept (Live n ws) t → (link ≡ 0) ⊎ Live n ws link)
      b
      (λ z a. inl z)
      (λ i c l x r p q z a. inr (rw p a.0))
      k.tree
      k.plans
      k.live

  pub raises_up : link ≤ n → nodes.Raisable ws link
  raises_up b = owned_raisable nodes.Any n k.v ws k.pending link k.owned (low_live b) (omega (arith, k.few))

  module _ (b : n < link) where
    pub raises_inside : PlanInside plan (spot_of n link + 1)
    raises_inside = plan_inside n plan link k.tree k.plans b

    pub raises_high : 1 ≤ h
    raises_high = plan_high n plan link h k.tree k.plans b k.low

    pub raises_lower : {t : ℕ} → h ≡ t → h - 1 < t
    raises_lower e = omega (arith, raises_high)

    module _ {d : Node} (m : IsPlanned plan (spot_of n link) d) where
      abbrev Sides : Tree → Type 0
      Sides t =
          height t ≤ h → AllKept (Live n ws) t → length (frontier t) + length k.pending < 2 ^ 31 →
          Raisable ws n plan d.left (h - 1) × ((w : List ℕ) → Raises ws w n plan d.left → Raisable w n plan d.right (h - 1))

      right_side : (w : List ℕ) (l r : Tree) → Plans n plan d.left l → Plans n plan d.right r → height r ≤ h - 1 → AllKept (Live n ws) l →
          AllKept (Live n ws) r → length (frontier l ++ frontier r) + length k.pending < 2 ^ 31 → Raises ws w n plan d.left →
          Raisable w n plan d.right (h - 1)
      right_side w l r pl pr a al ar f g =
          let x = raising_all_owned nodes.Any n k.v l ws k.pending k.owned al in
          subst
          (λ (z : List ℕ). Raisable z n plan d.right (h - 1))
          (sym (g.raises l pl))
          (record {
            tree = r;
            plans = pr;
            low = a;
            v = k.v;
            pending = frontier l ++ k.pending;
            owned = x.0;
            live = all_kept (Live n ws) (Live n (raising_all ws l)) x.1.grows.live r ar;
            few = omega (arith, length-append (frontier l) (frontier r), length-append (frontier l) k.pending);
          })

      sides : Raisable ws n plan d.left (h - 1) × ((w : List ℕ) → Raises ws w n plan d.left → Raisable w n plan d.right (h - 1))
      sides =
          at_fresh
          n
          plan
          link
          Sides
          b
          m
          (λ c l e r p a u f. (
            record {
              tree = l;
              plans = p.left;
              low = omega arith;
              v = k.v;
              pending = k.pending;
              owned = k.owned;
              live = u.1;
              few = omega (arith, length-append (frontier l) (frontier r));
            },
            λ w g. right_side w l r p.left p.right (omega arith) u.1 u.2 f g,
          ))
          k.tree
          k.plans
          k.low
          k.live
          k.few

      pub raises_left : Raisable ws n plan d.left (h - 1)
      raises_left = sides.0

      pub raises_right : {w : List ℕ} → Raises ws w n plan d.left → Raisable w n plan d.right (h - 1)
      raises_right {w} g = sides.1 w g

pub raises_here : {ws w w' : List ℕ} {n : ℕ} {plan : List ℕ} {link : ℕ} {d : Node} → n < link → IsPlanned plan (spot_of n link) d →
    Raises ws w n plan d.left → Raises w w' n plan d.right → Raises ws w' n plan link
raises_here {ws} {w} {w'} {n} {plan} {link} b m f g =
    record {
      raises =
          at_fresh
          n
          plan
          link
          (λ (t : Tree). w' ≡ raising_all ws t)
          b
          m
          (λ c l e r p. g.raises r p.right ∙ rw (f.raises l p.left));
    }

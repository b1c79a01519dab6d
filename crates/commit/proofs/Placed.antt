-- Making the fresh nodes of a planned tree.
use mathlib.Core.Path.{◌≡◌, refl, sym, ap, ◌∙◌, subst}
use mathlib.Core.List.{List, ◌∷◌, ◌++◌}
use Prim.Native.Nat.{ℕ, ◌+◌, ◌-◌, ◌≤◌, ◌<◌}
use native.Mathlib.Omega.{arith}
use Rattle.trees.specs.Tree.{Entry, Color, Tree, node, fresh, height, made}
use Rattle.words.specs.Owned.{Owned, idles}
use Rattle.words.specs.Commit.{frontier, building}
use Rattle.words.proofs.Countups.{Shares}
use Rattle.words.proofs.Recounting.{owned_long}
use Rattle.words.proofs.Making.{head_in}
use Rattle.words.proofs.Committing as commit
use Rattle.arena.specs.declared.Node.{Node}
use Rattle.nodes.specs.Promises as nodes
use Rattle.nodes.specs.Promises.{Makable, Made}
use Rattle.plan.specs.Scratch.{PlanInside, IsPlanned}
use Rattle.commit.specs.Planned.{spot_of, Buildable, Builds}
use Rattle.commit.proofs.Parts.{Parts, at_low, at_fresh, plan_inside, plan_high}

pub builds_low : {ws : List ℕ} {n : ℕ} {plan : List ℕ} {link : ℕ} → link ≤ n → Builds ws ws n plan link link
builds_low {ws} {n} {plan} {link} b =
    record {
      words = at_low n plan link (λ (t : Tree). ws ≡ (building ws t).words) b (λ z. refl) (λ i c l x r p q z. refl);
      link_is = at_low n plan link (λ (t : Tree). link ≡ (building ws t).link) b (λ z. z) (λ i c l x r p q z. p);
    }

module _ {ws : List ℕ} {n : ℕ} {plan : List ℕ} {link h : ℕ} (k : Buildable ws n plan link h) (b : n < link) where
  pub builds_inside : PlanInside plan (spot_of n link + 1)
  builds_inside = plan_inside n plan link k.tree k.plans b

  pub builds_high : 1 ≤ h
  builds_high = plan_high n plan link h k.tree k.plans b k.low

  pub builds_lower : {t : ℕ} → h ≡ t → h - 1 < t
  builds_lower e = omega (arith, builds_high)

  module _ {d : Node} (m : IsPlanned plan (spot_of n link) d) where
    -- The planned tree is a node over two sides; what is known of it, side by side.
    pub record Whole (c : Color) (l : Tree) (e : Entry) (r : Tree) : Type 0 where
      pub parts : Parts n plan d c l e r
      pub low : height (node fresh c l e r) ≤ h
      pub owned : Owned nodes.Any n k.v ws (frontier (node fresh c l e r) ++ k.pending)
      pub shares : Shares n ws (node fresh c l e r)
      pub room : made (node fresh c l e r) ≤ idles n ws

    whole : (Q : Type 0) → ((c : Color) (l : Tree) (e : Entry) (r : Tree) → Whole c l e r → Q) → Q
    whole Q f =
        at_fresh
        n
        plan
        link
        (λ (t : Tree). height t ≤ h → Owned nodes.Any n k.v ws (frontier t ++ k.pending) → Shares n ws t → made t ≤ idles n ws → Q)
        b
        m
        (λ c l e r p a o s u. f c l e r (record { parts = p; low = a; owned = o; shares = s; room = u }))
        k.tree
        k.plans
        k.low
        k.owned
        k.shares
        k.room

    pub builds_left : Buildable ws n plan d.left (h - 1)
    builds_left =
        whole
        (Buildable ws n plan d.left (h - 1))
        (λ c l e r w.
        let low = w.low in
        let room = w.room in
        record {
          tree = l;
          plans = w.parts.left;
          low = omega arith;
          v = k.v;
          pending = frontier r ++ k.pending;
          owned = commit.left_owned nodes.Any n k.v c l e r ws k.pending w.owned;
          shares = w.shares.0;
          room = omega arith;
        })

    module _ (c : Color) (l : Tree) (e : Entry) (r : Tree) (w : Whole c l e r) where
      left_built : commit.Builds nodes.Any n k.v (frontier r ++ k.pending) ws l (building ws l)
      left_built =
          commit.building_builds
          nodes.Any
          n
          k.v
          l
          ws
          (frontier r ++ k.pending)
          (commit.left_owned nodes.Any n k.v c l e r ws k.pending w.owned)
          w.shares.0
          (let room = w.room in omega arith)

      right_built : commit.Builds nodes.Any n k.v ((building ws l).link ∷ k.pending) (building ws l).words r (building (building ws l).words r)
      right_built =
          commit.building_builds
          nodes.Any
          n
          k.v
          r
          (building ws l).words
          ((building ws l).link ∷ k.pending)
          (commit.right_owned nodes.Any n k.v c l e r ws k.pending (building ws l) left_built)
          (commit.right_shares nodes.Any n k.v c l e r ws k.pending (building ws l) left_built w.shares)
          (commit.right_room nodes.Any n k.v c l e r ws k.pending (building ws l) left_built w.room)

    module _ {w1 : List ℕ} {a : ℕ} (f : Builds ws w1 n plan d.left a) where
      pub builds_right : Buildable w1 n plan d.right (h - 1)
      builds_right =
          whole
          (Buildable w1 n plan d.right (h - 1))
          (λ c l e r w.
          let low = w.low in
          subst
          (λ (z : List ℕ). Buildable z n plan d.right (h - 1))
          (sym (f.words l w.parts.left))
          (record {
            tree = r;
            plans = w.parts.right;
            low = omega arith;
            v = k.v;
            pending = (building ws l).link ∷ k.pending;
            owned = commit.right_owned nodes.Any n k.v c l e r ws k.pending (building ws l) (left_built c l e r w);
            shares = commit.right_shares nodes.Any n k.v c l e r ws k.pending (building ws l) (left_built c l e r w) w.shares;
            room = commit.right_room nodes.Any n k.v c l e r ws k.pending (building ws l) (left_built c l e r w) w.room;
          }))

      module _ {w2 : List ℕ} {x : ℕ} (g : Builds w1 w2 n plan d.right x) where
        -- The words after both sides.
        both_words : (c : Color) (l : Tree) (e : Entry) (r : Tree) → Whole c l e r → w2 ≡ (building (building ws l).words r).words
        both_words c l e r w = g.words r w.parts.right ∙ ap (λ (z : List ℕ). (building z r).words) (f.words l w.parts.left)

        pub builds_makable : (y : Node) → y.color ≡ d.color → Makable w2 y
        builds_makable y q =
            whole
            (Makable w2 y)
            (λ c l e r w.
            let u = (building (building ws l).words r).words in
            let o =
            commit.sides_owned nodes.Any n k.v c l e r ws (frontier r) k.pending (building ws l) (building (building ws l).words r) (left_built c l e r w) (right_built c l e r w) w.room in
            let s =
            commit.sides_room nodes.Any n k.v c l e r ws (frontier r) k.pending (building ws l) (building (building ws l).words r) (left_built c l e r w) (right_built c l e r w) w.room in
            let z = owned_long nodes.Any n k.v u _ o in
            let i = head_in nodes.Any n k.v c _ e _ u k.pending o s in
            subst
            (λ (z : List ℕ). Makable z y)
            (sym (both_words c l e r w))
            (record { header = omega arith; inside = omega (arith, i.1); coloured = (c, q ∙ w.parts.color_is) }))

-- The node over both sides.
pub builds_here : {ws w1 w2 w3 : List ℕ} {n : ℕ} {plan : List ℕ} {link a x z : ℕ} {d y : Node} → n < link → IsPlanned plan (spot_of n link) d →
    Builds ws w1 n plan d.left a → Builds w1 w2 n plan d.right x → y.color ≡ d.color → y.entry ≡ d.entry → y.left ≡ a → y.right ≡ x →
    Made z w2 w3 y → Builds ws w3 n plan link z
builds_here {ws} {w1} {w2} {w3} {n} {plan} {link} {a} {x} {z} {d} {y} b m f g qc qe ql qr h =
    record {
      words =
          at_fresh
          n
          plan
          link
          (λ (t : Tree). w3 ≡ (building ws t).words)
          b
          m
          (λ c l e r p.
          h.written c (qc ∙ p.color_is) ∙
          rw (ql, qr, qe, p.entry_is, g.link_is r p.right, g.words r p.right, f.words l p.left, f.link_is l p.left));
      link_is =
          at_fresh
          n
          plan
          link
          (λ (t : Tree). z ≡ (building ws t).link)
          b
          m
          (λ c l e r p. h.first ∙ rw (g.words r p.right, f.words l p.left));
    }

-- A step of a descent, for each lookup: what it asks of the next link, and what its answer means here.
use mathlib.Core.Path.{◌≡◌, refl, ap, ◌∙◌, subst}
use mathlib.Core.List.{List}
use Rattle.std.specs.Option.{option_or}
use Rattle.std.specs.Prelude.{Option, Some, None}
use Rattle.std.proofs.Math.Option as math
use Prim.Native.Nat.{ℕ, ◌-◌, ◌≤◌, ◌<◌}
use native.Mathlib.Omega.{arith}
use borrow.Author.Tests.{lt-ltb, le-ltb}
use Rattle.trees.specs.Tree.{Entry, Color, Place, Tree, leaf, node, height}
use Rattle.trees.specs.Listing.{or_else}
use Rattle.trees.specs.Lookup.{get, first, last}
use Rattle.words.specs.Layout.{left, right}
use Rattle.words.specs.Reads.{Reads}
use Rattle.arena.specs.Nodes.{entry_of, NodeInside, IsNode}
use Rattle.arena.specs.declared.Node.{Node}
use Rattle.arena.specs.declared.Entry as arena
use Rattle.lookup.specs.declared.End.{End}
use Rattle.lookup.specs.declared.End.TheVariants.{Front, Back}
use Rattle.lookup.specs.Ends.{toward, away, entry_at}
use Rattle.lookup.specs.Finding.{found_of, Rooted, Finds}

module _ {ws : List ℕ} {i h : ℕ} (k : Rooted ws i h) (some_node : i ≡ 0 → ⊥) where
  is_node : (t : Tree) → Reads k.n ws i t → height t ≤ h → (i ≤ k.n) × (1 ≤ h)
  is_node leaf r b = absurd (some_node r)
  is_node (node p c l e r) q b = (q.1.high, omega arith)

  pub rooted_inside : NodeInside ws i
  rooted_inside = omega (arith, (is_node k.tree k.reads k.low).0, k.inside)

  pub rooted_high : 1 ≤ h
  rooted_high = (is_node k.tree k.reads k.low).1

  pub lower : {t : ℕ} → h ≡ t → h - 1 < t
  lower e = omega (arith, rooted_high)

  sides : (t : Tree) → Reads k.n ws i t → height t ≤ h → Rooted ws (left ws i) (h - 1) × Rooted ws (right ws i) (h - 1)
  sides leaf r b = absurd (some_node r)
  sides (node p c l e r) q b = (
    record { n = k.n; inside = k.inside; tree = l; reads = q.2; low = omega arith },
    record { n = k.n; inside = k.inside; tree = r; reads = q.3; low = omega arith },
  )

  pub rooted_left : {d : Node} → IsNode ws i d → Rooted ws d.left (h - 1)
  rooted_left d = rw d.left_is (sides k.tree k.reads k.low).0

  pub rooted_right : {d : Node} → IsNode ws i d → Rooted ws d.right (h - 1)
  rooted_right d = rw d.right_is (sides k.tree k.reads k.low).1

  -- Either side can be descended into; which one it has to be, the answer shows.
  pub ruleset rooted_sides = (rooted_left, rooted_right)

  pub rooted_toward : {d : Node} {link : ℕ} (end : End) → IsNode ws i d → link ≡ toward end d → Rooted ws link (h - 1)
  rooted_toward Front m e = rw e (rooted_left m)
  rooted_toward Back m e = rw e (rooted_right m)

  pub rooted_away : {d : Node} {link : ℕ} (end : End) → IsNode ws i d → link ≡ away end d → Rooted ws link (h - 1)
  rooted_away Front m e = rw e (rooted_right m)
  rooted_away Back m e = rw e (rooted_left m)

-- At none, and at a node with its two sides.
pub at_none : {ws : List ℕ} {i : ℕ} (r : Option arena.Entry) (f : Tree → math.Option Entry) → i ≡ 0 → found_of r ≡ f leaf → Finds ws i r f
at_none {ws} {i} r f e a = record { says = λ n t q. go n t q }
  where
    go : (n : ℕ) (t : Tree) → Reads n ws i t → found_of r ≡ f t
    go n leaf q = a
    go n (node p c l x r') q = absurd (omega (arith, q.1.low))

pub at_node : {ws : List ℕ} {i : ℕ} {d : Node} (r : Option arena.Entry) (f : Tree → math.Option Entry) → (i ≡ 0 → ⊥) → IsNode ws i d →
    ((n : ℕ) (p : Place) (c : Color) (a b : Tree) → Reads n ws d.left a → Reads n ws d.right b →
    found_of r ≡ f (node p c a (entry_of d.entry) b)) → Finds ws i r f
at_node {ws} {i} {d} r f s m g = record { says = λ n t q. go n t q }
  where
    go : (n : ℕ) (t : Tree) → Reads n ws i t → found_of r ≡ f t
    go n leaf q = absurd (s q)
    go n (node p c a x b) q =
        subst
        (λ (y : Entry). found_of r ≡ f (node p c a y b))
        (m.entry_is ∙ q.1.entry_is)
        (g n p c a b (rw m.left_is q.2) (rw m.right_is q.3))

module _ {ws : List ℕ} {i : ℕ} where
  pub get_none : (k : ℕ) → i ≡ 0 → Finds ws i None (get k)
  unfolding get
  get_none k e = at_none None (get k) e refl

  pub entry_none : (end : End) → i ≡ 0 → Finds ws i None (entry_at end)
  unfolding first last
  entry_none Front e = at_none None first e refl
  entry_none Back e = at_none None last e refl

or_found : (f : Option arena.Entry) (e : arena.Entry) → found_of (option_or f (Some e)) ≡ or_else (found_of f) (entry_of e)
or_found (Some x) e = refl
or_found None e = refl

module _ {ws : List ℕ} {i : ℕ} {d : Node} (s : i ≡ 0 → ⊥) (m : IsNode ws i d) where
  module _ (k : ℕ) where
    pub get_left : {r : Option arena.Entry} → k < d.entry.key → Finds ws d.left r (get k) → Finds ws i r (get k)
    unfolding get
    get_left {r} l g = at_node r (get k) s m (λ n p c a b ha hb. rw (lt-ltb k d.entry.key l) (g.says n a ha))

    pub get_right : {r : Option arena.Entry} → d.entry.key < k → Finds ws d.right r (get k) → Finds ws i r (get k)
    unfolding get
    get_right {r} l g =
        at_node r (get k) s m (λ n p c a b ha hb. rw (le-ltb k d.entry.key (omega arith), lt-ltb d.entry.key k l) (g.says n b hb))

    pub get_here : d.entry.key ≤ k → k ≤ d.entry.key → Finds ws i (Some d.entry) (get k)
    unfolding get
    get_here l g =
        at_node (Some d.entry) (get k) s m (λ n p c a b ha hb. rw (le-ltb k d.entry.key l, le-ltb d.entry.key k g))

  -- What is found further on towards an end, or else the node's own entry.
  entry_further : (end : End) {r : Option arena.Entry} → Finds ws (toward end d) r (entry_at end) → Finds ws i (option_or r (Some d.entry)) (entry_at end)
  unfolding first last
  entry_further Front {r} g =
      at_node (option_or r (Some d.entry)) first s m
      (λ n p c a b ha hb. or_found r d.entry ∙ ap (λ (o : math.Option Entry). or_else o (entry_of d.entry)) (g.says n a ha))
  entry_further Back {r} g =
      at_node (option_or r (Some d.entry)) last s m
      (λ n p c a b ha hb. or_found r d.entry ∙ ap (λ (o : math.Option Entry). or_else o (entry_of d.entry)) (g.says n b hb))

  pub entry_here : (end : End) {link : ℕ} {r f : Option arena.Entry} → link ≡ toward end d → Finds ws link r (entry_at end) →
      f ≡ option_or r (Some d.entry) → Finds ws i f (entry_at end)
  entry_here end l g e = rw e (entry_further end (rw l at g))

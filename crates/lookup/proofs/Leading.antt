-- What the loop of a descent carries from the link i, where it starts, to the link `at`, where it
-- is, and the entry noted on the way, if any: what f finds below `at`, or else what was noted, it
-- finds below i. `get` notes nothing.
use mathlib.Core.Path.{◌≡◌, refl}
use mathlib.Core.List.{List}
use Rattle.std.specs.Option.{option_or}
use Rattle.std.specs.Prelude.{Option, Some, None}
use Rattle.std.proofs.Math.Option as math
use Prim.Native.Nat.{ℕ, ◌-◌}
use native.Mathlib.Omega.{arith}
use lib.Dec.{ltb}
use borrow.Author.Tests.{ltb-true, ltb-false}
use Rattle.std.specs.Prelude.{if◌then◌else◌}
use Rattle.heights.proofs.Choices.{fork}
use Rattle.trees.specs.Tree.{Entry, Tree}
use Rattle.trees.specs.Lookup.{get}
use Rattle.arena.specs.Nodes.{IsNode}
use Rattle.arena.specs.declared.Node.{Node}
use Rattle.arena.specs.declared.Entry as arena
use Rattle.lookup.specs.Finding.{Rooted, Finds}
use Rattle.lookup.proofs.Descents.{rooted_left, rooted_right, get_none, get_left, get_right, get_here}

pub record Leads (f : Tree → math.Option Entry) (ws : List ℕ) (i at h : ℕ) (noted : Option arena.Entry) : Type 0 where
  pub rooted : Rooted ws at h
  pub leads : (r : Option arena.Entry) → Finds ws at r f → Finds ws i (option_or r noted) f

pub leads_start : {f : Tree → math.Option Entry} {ws : List ℕ} {i h : ℕ} → Rooted ws i h → Leads f ws i i h None
leads_start {f} {ws} {i} k = record { rooted = k; leads = go }
  where
    go : (r : Option arena.Entry) → Finds ws i r f → Finds ws i (option_or r None) f
    go (Some e) found = found
    go None found = found

module _ {f : Tree → math.Option Entry} {ws : List ℕ} {i at h : ℕ} {noted : Option arena.Entry} (L : Leads f ws i at h noted) {link g : ℕ} (k : Rooted ws link g) where
  -- A round: what is found below the next link is found here.
  pub leads_on : ((r : Option arena.Entry) → Finds ws link r f → Finds ws at r f) → Leads f ws i link g noted
  leads_on on = record { rooted = k; leads = λ r found. L.leads r (on r found) }

  -- A round that notes the entry e: found here is what is found below the next link, or else e.
  pub leads_noting : {e : arena.Entry} → ((r : Option arena.Entry) → Finds ws link r f → Finds ws at (option_or r (Some e)) f) → Leads f ws i link g (Some e)
  leads_noting {e} on = record { rooted = k; leads = λ r found. go r (on r found) }
    where
      go : (r : Option arena.Entry) → Finds ws at (option_or r (Some e)) f → Finds ws i (option_or r (Some e)) f
      go (Some x) found = L.leads (Some x) found
      go None found = L.leads (Some e) found

-- The loop ends below all nodes; at the key; goes on to a side; or ends at a node without children.
module _ {ws : List ℕ} {i at h : ℕ} (k : ℕ) (L : Leads (get k) ws i at h None) where
  pub get_end : at ≡ 0 → Finds ws i None (get k)
  get_end e = L.leads None (get_none k e)

  module _ {d : Node} (s : at ≡ 0 → ⊥) (m : IsNode ws at d) where
    pub get_found : k ≡ d.entry.key → Finds ws i (Some d.entry) (get k)
    get_found e = L.leads (Some d.entry) (get_here s m k (omega arith) (omega arith))

    module _ (other : k ≡ d.entry.key → ⊥) where
      pub get_side : {r : ℕ} → r ≡ (if ltb k d.entry.key then d.left else d.right) → Leads (get k) ws i r (h - 1) None
      get_side e =
          rw e (fork (λ (x : ℕ). Leads (get k) ws i x (h - 1) None) (ltb k d.entry.key)
          (λ t. leads_on L (rooted_left L.rooted s m) (λ r g. get_left s m k (ltb-true k d.entry.key t) g))
          (λ t. leads_on L (rooted_right L.rooted s m) (λ r g. get_right s m k (omega (arith, ltb-false k d.entry.key t)) g)))

      pub get_childless : d.left ≡ 0 → d.right ≡ 0 → Finds ws i None (get k)
      get_childless l r =
          (get_side refl).leads None (get_none k (fork (λ (x : ℕ). x ≡ 0) (ltb k d.entry.key) (λ t. l) (λ t. r)))

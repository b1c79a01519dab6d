-- What `Sound` gives: every held slot can be stepped through.
use mathlib.Core.Path.{◌≡◌, sym, ◌∙◌, subst}
use mathlib.Core.List.{List}
use Prim.Native.Nat.{ℕ}
use Rattle.trees.specs.Tree.{listing}
use Rattle.trees.specs.Listing.{Ascending}
use Rattle.words.specs.Layout.{nodes, slot_root, max_height}
use Rattle.words.specs.Reads.{Held}
use Rattle.words.specs.Sound.{Sound}
use Rattle.lookup.specs.Finding.{Rooted}
use Rattle.lookup.proofs.Versions.{version_rooted}
use Rattle.abreast.proofs.Listed.{listed-held}
use Rattle.differing.specs.Nexts.{Ordered}

pub version_ordered : (ws : List ℕ) (S : Sound ws) (s : ℕ) (h : Held ws s) → Ordered ws (slot_root (nodes ws) ws s)
version_ordered ws S s h = record { rooted = k; ordered = subst Ascending (sym lists) (S.trees.keys s h) }
  where
    k : Rooted ws (slot_root (nodes ws) ws s) max_height
    k = version_rooted ws S s h

    lists : listing k.tree ≡ listing (S.trees.tree s h)
    lists = sym (listed-held k k.n k.tree k.reads) ∙ listed-held k (nodes ws) (S.trees.tree s h) (S.trees.links s h)

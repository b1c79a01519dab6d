-- What `Sound` gives: every held slot can be looked up in, and the answers are those of its tree.
use mathlib.Core.Path.{◌≡◌}
use mathlib.Core.List.{List}
use Rattle.std.specs.Prelude.{Option}
use Rattle.std.proofs.Math.Option as math
use Prim.Native.Nat.{ℕ}
use native.Mathlib.Omega.{arith}
use Rattle.trees.specs.Tree.{Entry, Tree}
use Rattle.words.specs.Layout.{nodes, slot_root, max_height}
use Rattle.words.specs.Reads.{Held}
use Rattle.words.specs.Sound.{Sound}
use Rattle.words.proofs.Bounds.{version_low}
use Rattle.arena.specs.declared.Entry as arena
use Rattle.lookup.specs.Finding.{found_of, Rooted, Finds}

module _ (ws : List ℕ) (S : Sound ws) (s : ℕ) (h : Held ws s) where
  pub version_rooted : Rooted ws (slot_root (nodes ws) ws s) max_height
  version_rooted =
      record {
        n = nodes ws;
        inside = omega (arith, S.trees.limits.long_is);
        tree = S.trees.tree s h;
        reads = S.trees.links s h;
        low = version_low ws S s h;
      }

  pub version_finds : (r : Option arena.Entry) (f : Tree → math.Option Entry) → Finds ws (slot_root (nodes ws) ws s) r f → found_of r ≡ f (S.trees.tree s h)
  version_finds r f g = g.says (nodes ws) (S.trees.tree s h) (S.trees.links s h)

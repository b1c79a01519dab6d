-- `remove_fuse` by the colours of the two nodes, as 000 writes it: what a recursion that takes both apart is held to.
use mathlib.Core.Path.{◌≡◌, refl}
use Rattle.trees.specs.Tree.{Entry, Color, red, black, Place, fresh, Tree, leaf, node, copy}
use Rattle.trees.specs.Remove.{fuse, fuse_node, join}

pub fuse_left_none : (r : Tree) → fuse leaf r ≡ copy r
unfolding fuse
fuse_left_none r = refl

pub fuse_right_none : (l : Tree) → fuse l leaf ≡ copy l
unfolding fuse fuse_node
fuse_right_none leaf = refl
fuse_right_none (node p red l e r) = refl
fuse_right_none (node p black l e r) = refl

module _ (p q : Place) (ll lr rl rr : Tree) (le re : Entry) where
  pub fuse_black_red : fuse (node p black ll le lr) (node q red rl re rr) ≡ node fresh red (fuse (node p black ll le lr) rl) re rr
  unfolding fuse fuse_node
  fuse_black_red = refl

  pub fuse_red_black : fuse (node p red ll le lr) (node q black rl re rr) ≡ node fresh red ll le (fuse lr (node q black rl re rr))
  unfolding fuse fuse_node
  fuse_red_black = refl

  pub fuse_same : (c : Color) → fuse (node p c ll le lr) (node q c rl re rr) ≡ join c ll le (fuse lr rl) re rr
  unfolding fuse fuse_node
  fuse_same red = refl
  fuse_same black = refl

-- The red-black shape, and what the tree of a version has to be.
use Rattle.std.specs.Prelude.{ℕ, suc, ◌≡◌, false}
use Rattle.trees.specs.Tree.{Tree, leaf, node, Entry, Place, red, black, is_red, listing}
use Rattle.trees.specs.Listing.{Ascending}

-- RULES 3.5: "A child of a red node is never red. Every way from the root down to a missing child
-- meets the same number of black nodes": n of them.
pub data Rb : ℕ → Tree → Type 0 where
  rb_leaf : Rb 0 leaf
  rb_red : {n : ℕ} {p : Place} {l r : Tree} {e : Entry} → is_red l ≡ false → is_red r ≡ false → Rb n l → Rb n r → Rb n (node p red l e r)
  rb_black : {n : ℕ} {p : Place} {l r : Tree} {e : Entry} → Rb n l → Rb n r → Rb (suc n) (node p black l e r)

-- The tree of a version (RULES 3.3 to 3.5).
pub record Fine (t : Tree) : Type 0 where
  -- RULES 3.4: "each key is above the one before it"
  pub ordered : Ascending (listing t)
  -- RULES 3.3: "It is empty, or its root is black."
  pub root : is_red t ≡ false
  -- RULES 3.5
  pub blacks : ℕ
  pub shape : Rb blacks t

-- Reading some nodes as fresh changes neither a tree's listing nor its size nor its shape.
use mathlib.Core.Path.{◌≡◌, refl, sym, ◌∙◌}
use mathlib.Core.Bool.{Bool}
use Prim.Native.Nat.{ℕ}
use Rattle.trees.specs.Tree.{red, black, Tree, leaf, node, listing, size, is_red}
use Rattle.trees.specs.Shape.{Rb, rb_leaf, rb_red, rb_black, Fine}
use Rattle.words.specs.Fresh.{relabel}

module _ (isNew : ℕ → Bool) where
  pub relabel_listing : (t : Tree) → listing (relabel isNew t) ≡ listing t
  relabel_listing leaf = refl
  relabel_listing (node p c l e r) = rw (relabel_listing l, relabel_listing r)

  pub relabel_size : (t : Tree) → size (relabel isNew t) ≡ size t
  relabel_size leaf = refl
  relabel_size (node p c l e r) = rw (relabel_size l, relabel_size r)

  relabel_red : (t : Tree) → is_red (relabel isNew t) ≡ is_red t
  relabel_red leaf = refl
  relabel_red (node p red l e r) = refl
  relabel_red (node p black l e r) = refl

  relabel_shape : {n : ℕ} (t : Tree) → Rb n (relabel isNew t) → Rb n t
  relabel_shape leaf rb_leaf = rb_leaf
  relabel_shape (node p red l e r) (rb_red h i a b) =
      rb_red (sym (relabel_red l) ∙ h) (sym (relabel_red r) ∙ i) (relabel_shape l a) (relabel_shape r b)
  relabel_shape (node p black l e r) (rb_black a b) = rb_black (relabel_shape l a) (relabel_shape r b)

  pub relabel_fine : {t u : Tree} → relabel isNew t ≡ u → Fine u → Fine t
  relabel_fine {t} {u} e g =
      let f : Fine (relabel isNew t) = rw e g in
      record {
        ordered = rw (relabel_listing t) at f.ordered;
        root = sym (relabel_red t) ∙ f.root;
        blacks = f.blacks;
        shape = relabel_shape t f.shape;
      }

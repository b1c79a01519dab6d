-- Both kinds of edit at once: the tree's edit lists what the listing's edit gives, stays fine, and changes the size as it should.
use Prim.Native.Nat.{ℕ, ◌+◌}
use mathlib.Core.Path.{◌≡◌, ap, ◌∙◌}
use lib.ListN.{length}
use Rattle.std.specs.Prelude.{if◌then◌else◌}
use Rattle.trees.specs.Tree.{Entry, Tree, listing, size}
use Rattle.trees.specs.Listing.{Ascending}
use Rattle.trees.specs.Shape.{Fine}
use Rattle.trees.specs.Lookup.{has}
use Rattle.trees.specs.Insert.{insert}
use Rattle.trees.specs.Remove.{remove}
use Rattle.trees.specs.Edit.{Edit, setting, cutting, edited, edit}
use Rattle.trees.proofs.Listings.{length_put, length_cut}
use Rattle.trees.proofs.Lookups.{size-listing, has_find}
use Rattle.trees.proofs.InsertLaws.{listing_insert, fine_insert}
use Rattle.trees.proofs.RemoveLaws.{listing_remove, fine_remove}

pub listing-edit : (d : Edit) (t : Tree) → Ascending (listing t) → listing (edit d t) ≡ edited d (listing t)
listing-edit (setting x) t a = listing_insert x t a
listing-edit (cutting k) t a = listing_remove k t a

pub fine_edit : (d : Edit) (t : Tree) → Fine t → Fine (edit d t)
fine_edit (setting x) t g = fine_insert x t g
fine_edit (cutting k) t g = fine_remove k t g

-- "Raising the size when an existing tag is replaced" is shut out here.
pub size-insert : (x : Entry) (t : Tree) → Ascending (listing t) → size (insert x t) ≡ size t + (if has x.key t then 0 else 1)
size-insert x t a =
    size-listing (insert x t) ∙ ap length (listing_insert x t a) ∙ length_put x (listing t) a ∙
    rw (has_find x.key t a, size-listing t)

pub size-remove : (k : ℕ) (t : Tree) → Ascending (listing t) → size (remove k t) + (if has k t then 1 else 0) ≡ size t
size-remove k t a = rw (size-listing (remove k t), listing_remove k t a, has_find k t a, size-listing t) (length_cut k (listing t))

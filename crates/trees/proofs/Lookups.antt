-- The descents find what the listing holds: `get` is `find`, `has` whether there is one, `first` and `last` are the ends.
use Prim.Native.Nat.{ℕ, suc, ◌≤◌, max}
use mathlib.Core.Path.{◌≡◌, refl, sym, ap, ◌∙◌}
use mathlib.Core.Bool.{Bool}
use mathlib.Core.List.{List, [], ◌∷◌, ◌++◌}
use mathlib.Core.Option.{Option, none, some}
use native.Mathlib.Omega.{arith}
use lib.ListN.{length, length-append}
use Rattle.heights.proofs.Choices.{compared, compared₂}
use Rattle.trees.specs.Tree.{Entry, Tree, leaf, node, listing, size, height}
use Rattle.trees.specs.Listing.{find, first_of, last_of, or_else, is_some, Ascending}
use Rattle.trees.specs.Lookup.{get, has, path, first, last}
use Rattle.trees.proofs.Listings.{split, find_left, find_right, find_here}

-- A tree has as many nodes as its listing has entries.
pub size-listing : (t : Tree) → size t ≡ length (listing t)
size-listing leaf = refl
size-listing (node p c l e r) = simp length-append (omega (arith, size-listing l, size-listing r))

module _ (k : ℕ) where
  pub get_find : (t : Tree) → Ascending (listing t) → get k t ≡ find k (listing t)
  unfolding get
  get_find leaf a = refl
  get_find (node p c l e r) a =
      let s = split (listing l) e (listing r) a in
      compared
      (λ (o : Option Entry). o ≡ find k (listing l ++ (e ∷ listing r)))
      k
      e.key
      (λ h. get_find l s.before ∙ sym (find_left k (listing l) e (listing r) h s.above))
      (λ h. get_find r s.after ∙ sym (find_right k (listing l) e (listing r) s.below h))
      (λ h. sym (find_here k (listing l) e (listing r) s.below h))

  has_get : (t : Tree) → has k t ≡ is_some (get k t)
  unfolding has get
  has_get leaf = refl
  has_get (node p c l e r) =
      compared₂ (λ (b : Bool) (o : Option Entry). b ≡ is_some o) k e.key (λ h. has_get l) (λ h. has_get r) (λ h. refl)

  pub has_find : (t : Tree) → Ascending (listing t) → has k t ≡ is_some (find k (listing t))
  has_find t a = has_get t ∙ ap is_some (get_find t a)

  -- The search path is no longer than the tree is high.
  pub path_height : (t : Tree) → path k t ≤ height t
  unfolding path
  path_height leaf = omega arith
  path_height (node p c l e r) =
      compared
      (λ (n : ℕ). n ≤ suc (max (height l) (height r)))
      k
      e.key
      (λ _. omega (arith, path_height l))
      (λ _. omega (arith, path_height r))
      (λ _. omega arith)

pub first_append : (xs : List Entry) (e : Entry) (ys : List Entry) → first_of (xs ++ (e ∷ ys)) ≡ or_else (first_of xs) e
first_append [] e ys = refl
first_append (x ∷ xs) e ys = refl

pub first_end : (t : Tree) → first t ≡ first_of (listing t)
unfolding first
first_end leaf = refl
first_end (node p c l e r) = rw (first_end l) (sym (first_append (listing l) e (listing r)))

pub or_else_twice : (o : Option Entry) (e f : Entry) → or_else (or_else o e) f ≡ or_else o e
or_else_twice none e f = refl
or_else_twice (some g) e f = refl

pub last_append : (xs : List Entry) (e : Entry) (ys : List Entry) → last_of (xs ++ (e ∷ ys)) ≡ or_else (last_of ys) e
last_append [] e ys = refl
last_append (x ∷ xs) e ys = rw (last_append xs e ys) (or_else_twice (last_of ys) e x)

pub last_end : (t : Tree) → last t ≡ last_of (listing t)
unfolding last
last_end leaf = refl
last_end (node p c l e r) = rw (last_end r) (sym (last_append (listing l) e (listing r)))

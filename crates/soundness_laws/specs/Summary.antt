-- What there is to know of a tree so that a node can be put above it: five numbers.
use Rattle.std.specs.Prelude.{◌≡◌, Bool, true, false, List, [], ◌∷◌, ℕ, suc, ◌+◌, ◌≤◌, ◌<◌}
use Rattle.trees.specs.Tree.{Entry, red, black, Tree, listing, size, is_red}
use Rattle.trees.specs.Listing.{Ascending}
use Rattle.trees.specs.Shape.{Rb}
use Rattle.words.specs.Layout.{code}

-- What a summary says. `blacks` is one more than the black nodes on each way down: a missing child
-- counts as a black level.
pub record Brief : Type 0 where
  pub blacks : ℕ
  pub size : ℕ
  pub least : ℕ
  pub greatest : ℕ
  pub color : ℕ

-- The keys at the two ends of a listing, or d where there is none.
unfoldable pub first_key : ℕ → List Entry → ℕ
first_key d [] = d
first_key d (e ∷ xs) = e.key

unfoldable pub last_key : ℕ → List Entry → ℕ
last_key d [] = d
last_key d (e ∷ xs) = last_key e.key xs

-- The colour's word; a missing child counts as black.
unfoldable pub shade_of : Bool → ℕ
shade_of true = code red
shade_of false = code black

abbrev pub shade : Tree → ℕ
shade t = shade_of (is_red t)

-- The tree can be a part of a version: all that is asked of a version but the colour of the root.
pub record Good (t : Tree) : Type 0 where
  pub ordered : Ascending (listing t)
  pub blacks : ℕ
  pub shape : Rb blacks t

-- The summary b is that of the tree t.
pub record Tells (b : Brief) (t : Tree) : Type 0 where
  pub good : Good t
  pub blacks_is : b.blacks ≡ suc good.blacks
  pub size_is : b.size ≡ size t
  pub least_is : b.least ≡ first_key 0 (listing t)
  pub greatest_is : b.greatest ≡ last_key 0 (listing t)
  pub color_is : b.color ≡ shade t

-- The summary of the empty tree.
abbrev pub empty_brief : Brief
empty_brief = record { blacks = 1; size = 0; least = 0; greatest = 0; color = code black }

-- RULES 3.2: "the colour of each node so met is red or black"; 3.5: "A child of a red node is never
-- red."
pub record ColorsFit (c : ℕ) (l r : Brief) : Type 0 where
  pub known : c ≤ code black
  pub left : c ≡ code red → l.color ≡ code red → ⊥
  pub right : c ≡ code red → r.color ≡ code red → ⊥

-- RULES 3.4: "each key is above the one before it"
pub record KeysFit (l : Brief) (k : ℕ) (r : Brief) : Type 0 where
  pub after : 1 ≤ l.size → l.greatest < k
  pub before : 1 ≤ r.size → k < r.least

-- A node of colour c and key k may stand above two trees with the summaries l and r.
pub record Fits (c k : ℕ) (l r : Brief) : Type 0 where
  pub colors : ColorsFit c l r
  -- RULES 3.5: "Every way from the root down to a missing child meets the same number of black
  -- nodes."
  pub even : l.blacks ≡ r.blacks
  pub keys : KeysFit l k r

-- The key at one end of a tree, where the subtree on that side has this size and this key at its
-- end, and the node has key k.
pub record Outermost (size end k x : ℕ) : Type 0 where
  pub none : size ≡ 0 → x ≡ k
  pub some : 1 ≤ size → x ≡ end

-- The summary b of the whole.
pub record Joined (c k : ℕ) (l r b : Brief) : Type 0 where
  pub blacks_is : b.blacks ≡ l.blacks + c
  pub size_is : b.size ≡ l.size + r.size + 1
  pub least : Outermost l.size l.least k b.least
  pub greatest : Outermost r.size r.greatest k b.greatest
  pub color_is : b.color ≡ c

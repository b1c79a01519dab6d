-- Plain trees (RULES 6.10): what a version is, before any word of an arena holds it.
use Rattle.std.specs.Prelude.{ℕ, suc, ◌+◌, max, Bool, true, false, List, [], ◌∷◌, ◌++◌}

-- RULES 2.4: "An entry is a key with its value." It is 000's `Entry`, one field of a node, so that
-- no step looks inside.
pub record Entry : Type 0 where
  pub key : ℕ
  pub value : ℕ

-- RULES 3.2: a node is "red or black".
pub data Color : Type 0 where
  red black : Color

-- RULES 6.11: "Each node is fresh, or it is a node of the arena and known by its number": `fresh`
-- is a node made by this call (6.34), `kept i` the parent version's own node i (6.35).
pub data Place : Type 0 where
  kept : ℕ → Place
  fresh : Place

-- RULES 6.11: "A tree is empty, or a node with a colour, a left tree, an entry and a right tree."
-- It is 000's `Option<SharedPointer<Node>>`.
pub data Tree : Type 0 where
  leaf : Tree
  node : Place → Color → Tree → Entry → Tree → Tree

-- What 000 reads of an `Option` child. RULES 6.33: "of a missing node the entry with key and value
-- 0 and no children", where 000 would `unwrap`, which `proofs/Reached.antt` shuts out.
abbrev pub lf : Tree → Tree
lf leaf = leaf
lf (node p c l e r) = l

abbrev pub rt : Tree → Tree
rt leaf = leaf
rt (node p c l e r) = r

abbrev pub en : Tree → Entry
en leaf = record { key = 0; value = 0 }
en (node p c l e r) = e

-- RULES 6.15: "A missing child is neither red nor black." `Some(Color::Red)`, `Some(Color::Black)`.
abbrev pub is_red : Tree → Bool
is_red leaf = false
is_red (node p red l e r) = true
is_red (node p black l e r) = false

abbrev pub is_black : Tree → Bool
is_black leaf = false
is_black (node p red l e r) = false
is_black (node p black l e r) = true

-- RULES 6.15: "To paint a tree is to give its root a colour." It is `make_mut` on a node whose
-- colour is then set; `copy` is `make_mut` on one that is left as it is. Either node is fresh
-- (6.34).
abbrev pub paint : Color → Tree → Tree
paint c leaf = leaf
paint c (node p d l e r) = node fresh c l e r

abbrev pub copy : Tree → Tree
copy leaf = leaf
copy (node p c l e r) = node fresh c l e r

-- RULES 6.12: "The listing of a tree is that of its left tree, its entry, that of its right tree."
abbrev pub listing : Tree → List Entry
listing leaf = []
listing (node p c l e r) = listing l ++ (e ∷ listing r)

-- RULES 6.12: "Its size is the number of its nodes."
abbrev pub size : Tree → ℕ
size leaf = 0
size (node p c l e r) = suc (size l + size r)

-- RULES 6.12: "Its height is the number of nodes on the longest way down."
abbrev pub height : Tree → ℕ
height leaf = 0
height (node p c l e r) = suc (max (height l) (height r))

-- How many fresh nodes the tree has: the free nodes that it takes (RULES 6.36).
abbrev pub one : Place → ℕ
one (kept i) = 0
one fresh = 1

abbrev pub made : Tree → ℕ
made leaf = 0
made (node p c l e r) = one p + (made l + made r)

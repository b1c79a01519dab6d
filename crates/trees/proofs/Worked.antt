-- Worked shapes: what rpds's own file (over our stand-in for archery) made of these trees, as `oracle/show --antt` printed it, and what the
-- definitions compute. A star is a fresh node; a number before a node's parts is its place in the parent.
use Prim.Native.Nat.{ℕ}
use mathlib.Core.Path.{◌≡◌, refl}
use mathlib.Core.Bool.{true, false}
use mathlib.Core.List.{List, [], ◌∷◌, map}
use mathlib.Core.Option.{none, some}
use Rattle.heights.specs.Height.{lg_up_to, lg, H}
use Rattle.trees.specs.Tree.{Entry, red, black, kept, fresh, Tree, leaf, node}
use Rattle.trees.specs.Range.{Bound, included, excluded, unbounded, front, back, Range, next, stepped, is_bad_range}
use Rattle.trees.specs.Order.{less, more, compare}
use Rattle.trees.specs.Lookup.{has}
use Rattle.trees.specs.Insert.{balance, ins, insert}
use Rattle.trees.specs.Remove.{remove_balance, remove_balance_left, remove_balance_right, join, fuse_node, fuse, del_left, del_right, del, remove}
use Rattle.trees.specs.Edit.{Edit, setting, cutting, edit}

abbrev e : ℕ → Entry
e k = record { key = k; value = k }

abbrev o : Tree
o = leaf

abbrev B : ℕ → Tree → ℕ → Tree → Tree
B i l k r = node (kept i) black l (e k) r

abbrev R : ℕ → Tree → ℕ → Tree → Tree
R i l k r = node (kept i) red l (e k) r

abbrev B* : Tree → ℕ → Tree → Tree
B* l k r = node fresh black l (e k) r

abbrev R* : Tree → ℕ → Tree → Tree
R* l k r = node fresh red l (e k) r

pub record Row : Type 0 where
  pub edit_is : Edit
  pub before : Tree
  pub after : Tree

abbrev row : Edit → Tree → Tree → Row
row d t u = record { edit_is = d; before = t; after = u }

pub rows : List Row
rows =
    -- A new key at the root is black.
    row (setting (e 1)) o (B* o 1 o) ∷
    -- A new key below it is red.
    row (setting (e 2)) (B 1 o 1 o) (B* o 1 (R* o 2 o)) ∷
    -- "Insert 1, 2, 3 into an empty version: root 2, children 1 and 3, all black": right and right-right red.
    row (setting (e 3)) (B 1 o 1 (R 2 o 2 o)) (B* (B* o 1 o) 2 (B* o 3 o)) ∷
    -- Left and left-left red.
    row (setting (e 1)) (B 2 (R 1 o 2 o) 3 o) (B* (B* o 1 o) 2 (B* o 3 o)) ∷
    -- Left and left-right red.
    row (setting (e 2)) (B 2 (R 1 o 1 o) 3 o) (B* (B* o 1 o) 2 (B* o 3 o)) ∷
    -- Right and right-left red.
    row (setting (e 2)) (B 1 o 1 (R 2 o 3 o)) (B* (B* o 1 o) 2 (B* o 3 o)) ∷
    -- Balance below the root; what is off the search path is shared.
    row (setting (e 5)) (B 2 (B 1 o 1 o) 2 (B 3 o 3 (R 4 o 4 o))) (B* (B 1 o 1 o) 2 (R* (B* o 3 o) 4 (B* o 5 o))) ∷
    -- An equal key: the search path is made anew, nothing turns.
    row (setting (e 3)) (B 2 (B 1 o 1 o) 2 (R 5 (B 4 (R 3 o 3 o) 4 o) 5 (B 6 o 6 (R 7 o 7 o)))) (B* (B 1 o 1 o) 2 (R* (B* (R* o 3 o) 4 o) 5 (B 6 o 6 (R 7 o 7 o)))) ∷
    -- Right-left and right-right both red in a removal: right-right first would give root 4.
    row (cutting 1) (B 2 (B 1 o 1 o) 2 (B 4 (R 3 o 3 o) 4 (R 5 o 5 o))) (B* (B* o 2 o) 3 (B* o 4 (R 5 o 5 o))) ∷
    -- Its mirror: left-left before left-right.
    row (cutting 5) (B 4 (B 2 (R 1 o 1 o) 2 (R 3 o 3 o)) 4 (B 5 o 5 o)) (B* (B* o 1 o) 2 (B* (R 3 o 3 o) 4 o)) ∷
    -- A fuse with one side empty: the child is fresh.
    row (cutting 1) (B 1 o 1 (R 2 o 2 o)) (B* o 2 o) ∷
    -- The same below the root, on the other side.
    row (cutting 2) (B 3 (B 2 (R 1 o 1 o) 2 o) 3 (B 4 o 4 o)) (B* (B* o 1 o) 3 (B 4 o 4 o)) ∷
    -- A black node without children.
    row (cutting 1) (B 2 (B 1 o 1 o) 2 (B 3 o 3 o)) (B* o 2 (R* o 3 o)) ∷
    -- Two red children fuse.
    row (cutting 2) (B 2 (R 1 o 1 o) 2 (R 3 o 3 o)) (B* o 1 (R* o 3 o)) ∷
    -- Two black children fuse around red ones.
    row (cutting 3) (B 3 (B 1 o 1 (R 2 o 2 o)) 3 (B 5 (R 4 o 4 o) 5 o)) (B* (B* o 1 o) 2 (B* (R* o 4 o) 5 o)) ∷
    -- A black and a red child fuse.
    row (cutting 2) (B 2 (B 1 o 1 o) 2 (R 4 (B 3 o 3 o) 4 (B 5 o 5 o))) (B* (B* o 1 (R* o 3 o)) 4 (B 5 o 5 o)) ∷
    -- A red and a black child fuse.
    row (cutting 4) (B 4 (R 2 (B 1 o 1 o) 2 (B 3 o 3 o)) 4 (B 5 o 5 o)) (B* (B 1 o 1 o) 2 (B* o 3 (R* o 5 o))) ∷
    -- The last entry goes.
    row (cutting 1) (B 1 o 1 o) o ∷
    -- The first arm of `remove_balance_left` paints a node of the parent: it is fresh, and the parent keeps its own.
    row (cutting 3) (B 3 (B 2 (R 1 o 1 o) 2 o) 3 (B 4 o 4 o)) (B* (B* o 1 o) 2 (B* o 4 o)) ∷
    -- The third arm of `remove_balance_left`.
    row (cutting 1) (B 2 (B 1 o 1 o) 2 (R 4 (B 3 o 3 o) 4 (B 5 o 5 o))) (B* (B* o 2 o) 3 (B* o 4 (R* o 5 o))) ∷
    -- The third arm of `remove_balance_right`.
    row (cutting 5) (B 4 (R 2 (B 1 o 1 o) 2 (B 3 o 3 o)) 4 (B 5 o 5 o)) (B* (B* (R* o 1 o) 2 o) 3 (B* o 4 o)) ∷
    -- The same with two red children in `remove_balance`.
    row (cutting 1) (B 2 (B 1 o 1 o) 2 (R 5 (B 3 o 3 (R 4 o 4 o)) 5 (B 6 o 6 o))) (B* (B* o 2 o) 3 (R* (B* o 4 o) 5 (B* o 6 o))) ∷
    -- An absent key: the parent's own nodes.
    row (cutting 3) (B 2 (B 1 o 1 o) 2 (B 3 o 4 o)) (B 2 (B 1 o 1 o) 2 (B 3 o 4 o)) ∷
    []

-- Every row, at once.
pub worked : map (λ (r : Row). edit r.edit_is r.before) rows ≡ map (λ (r : Row). r.after) rows
unfolding rows has balance ins insert remove_balance remove_balance_left remove_balance_right join fuse_node fuse del_left del_right del remove
worked = refl

-- `remove_fuse` with one side empty: what stays is fresh, also where a later step would make it so again.
pub one_side_empty : (fuse o (R 2 o 2 o) ≡ R* o 2 o) × (fuse (R 2 o 2 o) o ≡ R* o 2 o)
unfolding fuse fuse_node
one_side_empty = (refl, refl)

-- "H at 0, 1, 2, 3, 6, 7, 2,047", and at the limit of request E6.
pub heights : map H (0 ∷ 1 ∷ 2 ∷ 3 ∷ 6 ∷ 7 ∷ 2047 ∷ 65535 ∷ []) ≡ 0 ∷ 2 ∷ 2 ∷ 4 ∷ 4 ∷ 6 ∷ 22 ∷ 32 ∷ []
unfolding H lg lg_up_to
heights = refl

-- Ranges.

abbrev between : Bound → Bound → Range
between a b = record { start = a; end = b; given_front = none; given_back = none }

-- "Entries 1, 2: front gives 1, back gives 2, front gives END."
abbrev whole : Range
whole = between unbounded unbounded

pub two_ends :
    (next front whole (e 1 ∷ e 2 ∷ []) ≡ some (e 1))
    × (next back (stepped front whole (e 1)) (e 1 ∷ e 2 ∷ []) ≡ some (e 2))
    × (next front (stepped back (stepped front whole (e 1)) (e 2)) (e 1 ∷ e 2 ∷ []) ≡ none)
two_ends = (refl, refl, refl)

-- "range from 5 included to 5 excluded: END at once. 5 excluded to 5 excluded: BAD_RANGE. 6 to 5: BAD_RANGE. 5 included to 5 included: entry
-- 5, then END."
pub five_to_five :
    (is_bad_range (included 5) (excluded 5) ≡ false)
    × (next front (between (included 5) (excluded 5)) (e 5 ∷ []) ≡ none)
    × (is_bad_range (excluded 5) (included 5) ≡ false)
    × (is_bad_range (excluded 5) (excluded 5) ≡ true)
    × (is_bad_range (included 6) (included 5) ≡ true)
    × (is_bad_range (included 5) (included 5) ≡ false)
    × (next front (between (included 5) (included 5)) (e 5 ∷ []) ≡ some (e 5))
    × (next front (stepped front (between (included 5) (included 5)) (e 5)) (e 5 ∷ []) ≡ none)
five_to_five = (refl, refl, refl, refl, refl, refl, refl, refl)

-- "key before value"; "a listing that is a proper beginning of the other is less"
pub key_before_value :
    (compare (record { key = 1; value = 9 } ∷ []) (record { key = 2; value = 0 } ∷ []) ≡ less)
    × (compare (record { key = 1; value = 9 } ∷ []) (record { key = 1; value = 0 } ∷ []) ≡ more)
    × (compare (e 1 ∷ []) (e 1 ∷ e 2 ∷ []) ≡ less)
key_before_value = (refl, refl, refl)

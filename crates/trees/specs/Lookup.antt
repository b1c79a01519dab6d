-- 000's `get`, `first`, `last` (RULES 6.16, 6.17) and the descents of `range` (RULES 7.8), over
-- plain trees.
use Rattle.std.specs.Prelude.{ℕ, suc, Bool, true, false, ltb, if◌then◌else◌}
use Rattle.std.proofs.Math.Option.{Option, none, some}
use Rattle.trees.specs.Tree.{Entry, Tree, leaf, node}
use Rattle.trees.specs.Listing.{or_else}
use Rattle.trees.specs.Range.{End, front, back, Range, after_front, before_back}

-- RULES 6.16: "`get` goes left from a node with a greater key, right from one with a smaller key,
-- and ends at an equal key or where a child is missing." The code is a loop (RULES 6.4).
unfoldable pub get : ℕ → Tree → Option Entry
get k leaf = none
get k (node p c l e r) =
    if ltb k e.key then get k l
    else (if ltb e.key k then get k r
    else some e)

-- Whether the descent of RULES 6.16 ends at an entry: 000's `is_new_key`, the other way round, and
-- its `removed`.
unfoldable pub has : ℕ → Tree → Bool
has k leaf = false
has k (node p c l e r) =
    if ltb k e.key then has k l
    else (if ltb e.key k then has k r
    else true)

-- RULES 6.16: how many nodes it meets, "the search path".
unfoldable pub path : ℕ → Tree → ℕ
path k leaf = 0
path k (node p c l e r) =
    if ltb k e.key then suc (path k l)
    else (if ltb e.key k then suc (path k r)
    else 1)

-- RULES 6.17: "`first` goes left as long as there is a left child, `last` goes right likewise."
unfoldable pub first : Tree → Option Entry
first leaf = none
first (node p c l e r) = or_else (first l) e

unfoldable pub last : Tree → Option Entry
last leaf = none
last (node p c l e r) = or_else (last r) e

-- RULES 7.8: a front step notes a node that the test admits "and goes on to its left; from any
-- other node it goes to the right"; a back step is the mirror image. 000's `dig_towards`.
unfoldable pub least : (ℕ → Bool) → Tree → Option Entry
least p leaf = none
least p (node q c l e r) = if p e.key then or_else (least p l) e else least p r

unfoldable pub greatest : (ℕ → Bool) → Tree → Option Entry
greatest p leaf = none
greatest p (node q c l e r) = if p e.key then or_else (greatest p r) e else greatest p l

-- RULES 7.8: "The node noted last is the answer, if its key" has not passed the other end. 000's
-- `clear_if_finished`, `is_remaining_range_empty`.
abbrev pub within : (ℕ → Bool) → Option Entry → Option Entry
within p none = none
within p (some e) = if p e.key then some e else none

-- RULES 7.8: a step of a walk on the tree.
abbrev pub step : End → Range → Tree → Option Entry
step front w t = within (before_back w) (least (after_front w) t)
step back w t = within (after_front w) (greatest (before_back w) t)

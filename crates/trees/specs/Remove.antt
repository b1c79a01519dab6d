-- 000's `remove_fuse`, `remove_balance`, `remove_balance_left`, `remove_balance_right` and
-- `remove`, step by step, over plain trees: RULES 6.27 to 6.33, 6.38.
use Rattle.std.specs.Prelude.{ℕ, ◌&&◌, ltb, if◌then◌else◌}
use Rattle.trees.specs.Tree.{Entry, Color, red, black, fresh, Tree, leaf, node, lf, rt, en, is_red, is_black, paint, copy}
use Rattle.trees.specs.Lookup.{has}
use Rattle.trees.specs.Insert.{balance}

-- RULES 6.29: `remove_balance`, at a node that its caller has made black. Two red children are
-- painted black and the node red; "of any other black node it is `balance`".
unfoldable pub remove_balance : Tree → Tree
remove_balance t =
    if is_red (lf t) && is_red (rt t) then node fresh red (paint black (lf t)) (en t) (paint black (rt t))
    else balance t

-- RULES 6.30, its third case: "r is R(B(a, y, b), z, c): R(B(l, x, a), y, s), where s is
-- `remove_balance` of B(b, z, c painted red)".
abbrev pub turn_left : Tree → Entry → Tree → Tree
turn_left l e r =
    let s = remove_balance (node fresh black (rt (lf r)) (en r) (paint red (rt r))) in
    node fresh red (node fresh black l e (lf (lf r))) (en (lf r)) s

-- RULES 6.30: `remove_balance_left` of a node with left l, entry e and right r, "of whatever
-- colour". The first case that fits; the last arm is 000's `unreachable!` (RULES 6.33).
unfoldable pub remove_balance_left : Tree → Entry → Tree → Tree
remove_balance_left l e r =
    if is_red l then node fresh red (paint black l) e r
    else (if is_black r then remove_balance (node fresh black l e (paint red r))
    else (if is_red r && is_black (lf r) then turn_left l e r
    else node fresh red l e r))

-- RULES 6.31, its third case: "l is R(a, v, B(b, w, c)): R(s, w, B(c, x, r)), where s is
-- `remove_balance` of B(a painted red, v, b)".
abbrev pub turn_right : Tree → Entry → Tree → Tree
turn_right l e r =
    let s = remove_balance (node fresh black (paint red (lf l)) (en l) (lf (rt l))) in
    node fresh red s (en (rt l)) (node fresh black (rt (rt l)) e r)

-- RULES 6.31: "`remove_balance_right` is its mirror image".
unfoldable pub remove_balance_right : Tree → Entry → Tree → Tree
remove_balance_right l e r =
    if is_red r then node fresh red l e (paint black r)
    else (if is_black l then remove_balance (node fresh black (paint red l) e r)
    else (if is_red l && is_black (rt l) then turn_right l e r
    else node fresh red l e r))

-- RULES 6.32, "both of one colour" c, f being what their inner children fuse to: a red f comes
-- between them, any other below.
unfoldable pub join : Color → Tree → Entry → Tree → Entry → Tree → Tree
join c ll le f re rr =
    if is_red f then node fresh red (node fresh c ll le (lf f)) (en f) (node fresh c (rt f) re rr)
    else elim c [ red ↦ node fresh red ll le (node fresh red f re rr) | black ↦ remove_balance_left ll le (node fresh black f re rr) ]

-- RULES 6.32, with a node on the left, g being the fusing of its right child: by the tree on the
-- right.
unfoldable pub fuse_node : Color → Tree → Entry → Tree → (Tree → Tree) → Tree → Tree
fuse_node c ll le lr g leaf = node fresh c ll le lr
fuse_node black ll le lr g (node q red rl re rr) = node fresh red (fuse_node black ll le lr g rl) re rr
fuse_node red ll le lr g (node q black rl re rr) = node fresh red ll le (g (node q black rl re rr))
fuse_node red ll le lr g (node q red rl re rr) = join red ll le (g rl) re rr
fuse_node black ll le lr g (node q black rl re rr) = join black ll le (g rl) re rr

-- RULES 6.32: `remove_fuse`. RULES 6.34: "with one side empty" it "also gives a fresh node".
-- `proofs/Fusing.antt` states its four cases of colours as 000 writes them.
unfoldable pub fuse : Tree → Tree → Tree
unfolding fuse_node
fuse leaf r = copy r
fuse (node p c ll le lr) r = fuse_node c ll le lr (fuse lr) r

-- RULES 6.27: "the node becomes R(d, x, r); where its left child was black before,
-- `remove_balance_left` of that follows. To the right likewise". 000's `del_left`, `del_right`.
unfoldable pub del_left : Tree → Tree → Entry → Tree → Tree
del_left l d e r = if is_black l then remove_balance_left d e r else node fresh red d e r

unfoldable pub del_right : Tree → Entry → Tree → Tree → Tree
del_right l e r d = if is_black r then remove_balance_right l e d else node fresh red l e d

-- RULES 6.27, 6.28: down the search path, and "At the key's own node its two trees are fused".
-- 000's `del`.
unfoldable pub del : ℕ → Tree → Tree
del k leaf = leaf
del k (node p c l e r) =
    if ltb k e.key then del_left l (del k l) e r
    else (if ltb e.key k then del_right l e r (del k r)
    else fuse l r)

-- RULES 6.28, 6.38: `remove` on the map. "In the end the root is black"; for an absent key it
-- "reshapes nothing".
unfoldable pub remove : ℕ → Tree → Tree
remove k t = if has k t then paint black (del k t) else t

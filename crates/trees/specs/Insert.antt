-- 000's `balance` and `insert`, step by step, over plain trees: RULES 6.18 to 6.26.
use Rattle.std.specs.Prelude.{Bool, ◌&&◌, not, ltb, if◌then◌else◌}
use Rattle.trees.specs.Tree.{Entry, red, black, fresh, Tree, leaf, node, lf, rt, en, is_red, is_black, paint}
use Rattle.trees.specs.Lookup.{has}

-- RULES 6.23: "the middle entry goes up as a red node and has two black children".
abbrev pub risen : Tree → Entry → Tree → Entry → Tree → Entry → Tree → Tree
risen a x b y c z d = node fresh red (node fresh black a x b) y (node fresh black c z d)

-- RULES 6.18: "`balance` changes a black node only, by the first of 6.19 to 6.22 that fits, in this
-- order": left and left-left red; left and left-right; right and right-left; right and right-right.
unfoldable pub balance : Tree → Tree
balance t =
    let l = lf t in
    let r = rt t in
    if not (is_black t) then t
    else (if is_red l && is_red (lf l) then risen (lf (lf l)) (en (lf l)) (rt (lf l)) (en l) (rt l) (en t) r
    else (if is_red l && is_red (rt l) then risen (lf l) (en l) (lf (rt l)) (en (rt l)) (rt (rt l)) (en t) r
    else (if is_red r && is_red (lf r) then risen l (en t) (lf (lf r)) (en (lf r)) (rt (lf r)) (en r) (rt r)
    else (if is_red r && is_red (rt r) then risen l (en t) (lf r) (en r) (lf (rt r)) (en (rt r)) (rt (rt r))
    else t))))

-- RULES 6.25: "For a new key `balance` runs at each node of the path, on the way up."
-- `if is_new_key { node.balance(); }`
abbrev pub settle : Bool → Tree → Tree
settle present t = if present then t else balance t

-- RULES 6.24: "At an equal key the entry is replaced whole, and no `balance` runs. At a missing
-- child a new key becomes a red node with no children." 000's `ins`.
unfoldable pub ins : Entry → Tree → Tree
ins x leaf = node fresh red leaf x leaf
ins x (node p c l e r) =
    if ltb x.key e.key then settle (has x.key l) (node fresh c (ins x l) e r)
    else (if ltb e.key x.key then settle (has x.key r) (node fresh c l e (ins x r))
    else node fresh c l x r)

-- RULES 6.26: "The root ends black".
unfoldable pub insert : Entry → Tree → Tree
insert x t = paint black (ins x t)

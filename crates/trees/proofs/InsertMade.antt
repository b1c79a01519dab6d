-- "Insert thus takes as many nodes as its search path has, one more for a new key."
use Prim.Native.Nat.{ℕ, suc, ◌+◌, ◌<◌}
use mathlib.Core.Path.{◌≡◌, refl, sym, ◌∙◌}
use mathlib.Core.Bool.{Bool, true, false, ◌&&◌, true≢false, false≢true}
use native.Mathlib.Omega.{arith}
use borrow.Author.Tests.{lt-ltb, le-ltb}
use Rattle.std.specs.Prelude.{if◌then◌else◌}
use Rattle.trees.specs.Tree.{Entry, Color, red, black, Place, fresh, Tree, leaf, node, lf, rt, is_red, paint, one, made}
use Rattle.trees.specs.Shape.{Rb}
use Rattle.trees.specs.Lookup.{has, path}
use Rattle.trees.specs.Insert.{risen, ins, insert}
use Rattle.trees.proofs.InsertCases.{Balance, still, turned, Ins, inserted}
use Rattle.trees.proofs.InsertLaws.{parts, not_red}

-- Whether the root is made by this call: 1 or 0.
abbrev top : Tree → ℕ
top leaf = 0
top (node p c l e r) = one p

-- The root is made by this call, and so is a red child of a red root: what `balance` takes apart it has just made.
pub record Hot (t : Tree) : Type 0 where
  pub root : top t ≡ 1
  pub left : is_red t && is_red (lf t) ≡ true → top (lf t) ≡ 1
  pub right : is_red t && is_red (rt t) ≡ true → top (rt t) ≡ 1

hot_black : (l : Tree) (e : Entry) (r : Tree) → Hot (node fresh black l e r)
hot_black l e r = record { root = refl; left = λ j. absurd (false≢true j); right = λ j. absurd (false≢true j) }

hot_red : (l : Tree) (e : Entry) (r : Tree) → (is_red l ≡ true → top l ≡ 1) → (is_red r ≡ true → top r ≡ 1) → Hot (node fresh red l e r)
hot_red l e r h i = record { root = refl; left = h; right = i }

never : {A : Type 0} {b : Bool} → b ≡ false → b ≡ true → A
never h i = absurd (true≢false (sym i ∙ h))

module _ (k : ℕ) (p : Place) (c : Color) (l : Tree) (e : Entry) (r : Tree) where
  path_left : k < e.key → path k (node p c l e r) ≡ suc (path k l)
  unfolding path
  path_left h = rw (lt-ltb k e.key h)

  path_right : e.key < k → path k (node p c l e r) ≡ suc (path k r)
  unfolding path
  path_right h = rw (le-ltb k e.key (omega arith), lt-ltb e.key k h)

  path_here : k ≡ e.key → path k (node p c l e r) ≡ 1
  unfolding path
  path_here h = rw (le-ltb k e.key (omega arith), le-ltb e.key k (omega arith))

hot_risen : (a : Tree) (x : Entry) (b : Tree) (y : Entry) (c : Tree) (z : Entry) (d : Tree) → Hot (risen a x b y c z d)
hot_risen a x b y c z d = hot_red (node fresh black a x b) y (node fresh black c z d) (never refl) (never refl)

-- `balance` after one child grew makes no further node.
same_left : {n : ℕ} {l r u : Tree} {e : Entry} → Balance (node fresh black l e r) u → Hot l → Rb n r → (made u ≡ suc (made l + made r)) × Hot u
same_left Balance.ll h i = (omega (arith, h.root, h.left refl), hot_risen _ _ _ _ _ _ _)
same_left (Balance.lr j) h i = (omega (arith, h.root, h.right refl), hot_risen _ _ _ _ _ _ _)
same_left (Balance.rl j) h i = absurd (true≢false (not_red i).0)
same_left (Balance.rr j k) h i = absurd (true≢false (not_red i).1)
same_left {l = l} {r = r} {e = e} (Balance.calm s) h i = (omega arith, hot_black l e r)

same-right : {n : ℕ} {l r u : Tree} {e : Entry} → Balance (node fresh black l e r) u → Rb n l → Hot r → (made u ≡ suc (made l + made r)) × Hot u
same-right (Balance.rl j) i h = (omega (arith, h.root, h.left refl), hot_risen _ _ _ _ _ _ _)
same-right (Balance.rr j k) i h = (omega (arith, h.root, h.right refl), hot_risen _ _ _ _ _ _ _)
same-right Balance.ll i h = absurd (true≢false (not_red i).0)
same-right (Balance.lr j) i h = absurd (true≢false (not_red i).1)
same-right {l = l} {r = r} {e = e} (Balance.calm s) i h = (omega arith, hot_black l e r)

-- At a red node it does nothing.
same_red : {l r u : Tree} {e : Entry} → Balance (node fresh red l e r) u → (is_red l ≡ true → top l ≡ 1) → (is_red r ≡ true → top r ≡ 1) →
    (made u ≡ suc (made l + made r)) × Hot u
same_red {l = l} {r = r} {e = e} (Balance.calm s) h i = (omega arith, hot_red l e r h i)

-- So a node of either colour, in the place of one of a red-black tree, with one child grown.
module _ {n : ℕ} {p : Place} {l r u : Tree} {e : Entry} where
  grown_left : {m : Tree} (c : Color) → Balance (node fresh c m e r) u → Hot m → Rb n (node p c l e r) → (made u ≡ suc (made m + made r)) × Hot u
  grown_left red g h a = same_red g (λ _. h.root) (never (not_red a).1)
  grown_left black g h a = same_left g h (parts a).1

  grown_right : {m : Tree} (c : Color) → Balance (node fresh c l e m) u → Hot m → Rb n (node p c l e r) → (made u ≡ suc (made l + made m)) × Hot u
  grown_right red g h a = same_red g (never (not_red a).0) (λ _. h.root)
  grown_right black g h a = same-right g (parts a).0 h

module _ {x : Entry} where
  made_replaced : {t u : Tree} → Ins x true t u → made t ≡ 0 → (made u ≡ path x.key t) × (top u ≡ 1)
  made_replaced (Ins.here {p = p} {c = c} {l = l} {r = r} {e = e} h) z = (omega (arith, path_here x.key p c l e r h), refl)
  made_replaced (Ins.left {p = p} {c = c} {l = l} {r = r} {e = e} h g still) z =
      (omega (arith, path_left x.key p c l e r h, (made_replaced g (omega arith)).0), refl)
  made_replaced (Ins.right {p = p} {c = c} {l = l} {r = r} {e = e} h g still) z =
      (omega (arith, path_right x.key p c l e r h, (made_replaced g (omega arith)).0), refl)

  made_new : {n : ℕ} {t u : Tree} → Ins x false t u → Rb n t → made t ≡ 0 → (made u ≡ suc (path x.key t)) × Hot u
  unfolding path
  made_new Ins.new a z = (refl, hot_red leaf x leaf (never refl) (never refl))
  made_new (Ins.left {p = p} {c = c} {l = l} {r = r} {e = e} h g (turned s)) a z =
      let d = made_new g (parts a).0 (omega arith) in
      let f = grown_left c s d.1 a in
      (omega (arith, path_left x.key p c l e r h, d.0, f.0), f.1)
  made_new (Ins.right {p = p} {c = c} {l = l} {r = r} {e = e} h g (turned s)) a z =
      let d = made_new g (parts a).1 (omega arith) in
      let f = grown_right c s d.1 a in
      (omega (arith, path_right x.key p c l e r h, d.0, f.0), f.1)

made_root : (c : Color) (t : Tree) → top t ≡ 1 → made (paint c t) ≡ made t
made_root c leaf h = refl
made_root c (node p d l e r) h = omega (arith, h)

pub made-insert : {n : ℕ} (x : Entry) (t : Tree) → Rb n t → made t ≡ 0 →
    made (insert x t) ≡ path x.key t + (if has x.key t then 0 else 1)
unfolding insert
made-insert x t a z = go (has x.key t) (inserted x t)
  where
    go : (b : Bool) → Ins x b t (ins x t) → made (paint black (ins x t)) ≡ path x.key t + (if b then 0 else 1)
    go true g = let m = made_replaced g z in omega (arith, made_root black (ins x t) m.1, m.0)
    go false g = let m = made_new g a z in omega (arith, made_root black (ins x t) m.1.root, m.0)

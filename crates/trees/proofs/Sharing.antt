-- "every other node is shared with the parent version": a step keeps no node but those of the tree it is given, and what is below a kept node stays.
use Prim.Native.Nat.{ℕ}
use mathlib.Core.Bool.{Bool}
use Rattle.heights.proofs.Choices.{fork}
use Rattle.trees.specs.Tree.{Entry, Color, red, black, Place, kept, fresh, Tree, leaf, node, paint, copy}
use Rattle.trees.specs.Lookup.{has}
use Rattle.trees.specs.Insert.{ins, insert}
use Rattle.trees.specs.Remove.{del, remove}
use Rattle.trees.specs.Edit.{Edit, setting, cutting, edit}
use Rattle.trees.proofs.InsertCases.{Balance, Settle, still, turned, Ins, inserted}
use Rattle.trees.proofs.RemoveCases.{RemoveBalance, Left, Right, Fuse, Del, deleted}

-- Every part that begins with a kept node is one of which P holds.
abbrev pub AtPart : (Tree → Type 0) → Tree → Type 0
AtPart P leaf = Unit {0}
AtPart P (node (kept i) c l e r) = P (node (kept i) c l e r)
AtPart P (node fresh c l e r) = Unit {0}

abbrev pub AllParts : (Tree → Type 0) → Tree → Type 0
AllParts P leaf = Unit {0}
AllParts P (node p c l e r) = AtPart P (node p c l e r) × AllParts P l × AllParts P r

module _ (P : Tree → Type 0) where
  parts_paint : (c : Color) (t : Tree) → AllParts P t → AllParts P (paint c t)
  parts_paint c leaf a = tt
  parts_paint c (node p d l e r) a = (tt, a.1, a.2)

  parts_copy : (t : Tree) → AllParts P t → AllParts P (copy t)
  parts_copy leaf a = tt
  parts_copy (node p d l e r) a = (tt, a.1, a.2)

  parts_Balance : {t u : Tree} → Balance t u → AllParts P t → AllParts P u
  parts_Balance Balance.ll a = (tt, (tt, a.1.1.1, a.1.1.2), (tt, a.1.2, a.2))
  parts_Balance (Balance.lr h) a = (tt, (tt, a.1.1, a.1.2.1), (tt, a.1.2.2, a.2))
  parts_Balance (Balance.rl h) a = (tt, (tt, a.1, a.2.1.1), (tt, a.2.1.2, a.2.2))
  parts_Balance (Balance.rr h i) a = (tt, (tt, a.1, a.2.1), (tt, a.2.2.1, a.2.2.2))
  parts_Balance (Balance.calm h) a = a

  parts_RemoveBalance : {t u : Tree} → RemoveBalance t u → AllParts P t → AllParts P u
  parts_RemoveBalance RemoveBalance.both a = (tt, (tt, a.1.1, a.1.2), (tt, a.2.1, a.2.2))
  parts_RemoveBalance (RemoveBalance.plain g) a = parts_Balance g a

  parts_Left : {l r u : Tree} {e : Entry} → Left l e r u → AllParts P l → AllParts P r → AllParts P u
  parts_Left Left.red_left a b = (tt, (tt, a.1, a.2), b)
  parts_Left (Left.black_right h g) a b = parts_RemoveBalance g (tt, a, (tt, b.1, b.2))
  parts_Left (Left.red_right {d = d} h g) a b = (tt, (tt, a, b.1.1), parts_RemoveBalance g (tt, b.1.2, parts_paint red d b.2))
  parts_Left (Left.stuck h i) a b = (tt, a, b)

  parts_Right : {l r u : Tree} {e : Entry} → Right l e r u → AllParts P l → AllParts P r → AllParts P u
  parts_Right Right.red_right a b = (tt, a, (tt, b.1, b.2))
  parts_Right (Right.black_left h g) a b = parts_RemoveBalance g (tt, (tt, a.1, a.2), b)
  parts_Right (Right.red_left {d = d} h g) a b = (tt, parts_RemoveBalance g (tt, parts_paint red d a.1, a.2.1), (tt, a.2.2, b))
  parts_Right (Right.stuck h i) a b = (tt, a, b)

  parts_Fuse : {l r u : Tree} → Fuse l r u → AllParts P l → AllParts P r → AllParts P u
  parts_Fuse (Fuse.no_left {r = r}) a b = parts_copy r b
  parts_Fuse Fuse.no_right a b = (tt, a.1, a.2)
  parts_Fuse (Fuse.black_red g) a b = (tt, parts_Fuse g a b.1, b.2)
  parts_Fuse (Fuse.red_black g) a b = (tt, a.1, parts_Fuse g a.2 b)
  parts_Fuse (Fuse.middle g) a b = let f = parts_Fuse g a.2 b.1 in (tt, (tt, a.1, f.1), (tt, f.2, b.2))
  parts_Fuse (Fuse.red_red h g) a b = (tt, a.1, (tt, parts_Fuse g a.2 b.1, b.2))
  parts_Fuse (Fuse.black_black h g s) a b = parts_Left s a.1 (tt, parts_Fuse g a.2 b.1, b.2)

  parts_Del : {k : ℕ} {t u : Tree} → Del k t u → AllParts P t → AllParts P u
  parts_Del Del.none a = tt
  parts_Del (Del.here h g) a = parts_Fuse g a.1 a.2
  parts_Del (Del.left h b g) a = (tt, parts_Del g a.1, a.2)
  parts_Del (Del.left_black h g s) a = parts_Left s (parts_Del g a.1) a.2
  parts_Del (Del.right h b g) a = (tt, a.1, parts_Del g a.2)
  parts_Del (Del.right_black h g s) a = parts_Right s a.1 (parts_Del g a.2)

  parts_Settle : {b : Bool} {t u : Tree} → Settle b t u → AllParts P t → AllParts P u
  parts_Settle still a = a
  parts_Settle (turned g) a = parts_Balance g a

  parts_Ins : {x : Entry} {b : Bool} {t u : Tree} → Ins x b t u → AllParts P t → AllParts P u
  parts_Ins Ins.new a = (tt, tt, tt)
  parts_Ins (Ins.here h) a = (tt, a.1, a.2)
  parts_Ins (Ins.left h g s) a = parts_Settle s (tt, parts_Ins g a.1, a.2)
  parts_Ins (Ins.right h g s) a = parts_Settle s (tt, a.1, parts_Ins g a.2)

  parts_insert : (x : Entry) (t : Tree) → AllParts P t → AllParts P (insert x t)
  unfolding insert
  parts_insert x t a = parts_paint black (ins x t) (parts_Ins (inserted x t) a)

  parts_remove : (k : ℕ) (t : Tree) → AllParts P t → AllParts P (remove k t)
  unfolding remove
  parts_remove k t a = fork (AllParts P) (has k t) (λ h. parts_paint black (del k t) (parts_Del (deleted k t) a)) (λ h. a)

  pub parts_edit : (d : Edit) (t : Tree) → AllParts P t → AllParts P (edit d t)
  parts_edit (setting x) t a = parts_insert x t a
  parts_edit (cutting k) t a = parts_remove k t a

-- Every kept node is one of which P holds.
abbrev pub At : (ℕ → Type 0) → Place → Type 0
At P (kept i) = P i
At P fresh = Unit {0}

abbrev pub AllKept : (ℕ → Type 0) → Tree → Type 0
AllKept P leaf = Unit {0}
AllKept P (node p c l e r) = At P p × AllKept P l × AllKept P r

module _ (P : ℕ → Type 0) where
  abbrev AtNode : Tree → Type 0
  AtNode leaf = Unit {0}
  AtNode (node p c l e r) = At P p

  kept_parts : (t : Tree) → AllKept P t → AllParts AtNode t
  kept_parts leaf a = tt
  kept_parts (node (kept i) c l e r) a = (a.0, kept_parts l a.1, kept_parts r a.2)
  kept_parts (node fresh c l e r) a = (tt, kept_parts l a.1, kept_parts r a.2)

  parts_kept : (t : Tree) → AllParts AtNode t → AllKept P t
  parts_kept leaf a = tt
  parts_kept (node (kept i) c l e r) a = (a.0, parts_kept l a.1, parts_kept r a.2)
  parts_kept (node fresh c l e r) a = (tt, parts_kept l a.1, parts_kept r a.2)

  pub kept_edit : (d : Edit) (t : Tree) → AllKept P t → AllKept P (edit d t)
  kept_edit d t a = parts_kept (edit d t) (parts_edit AtNode d t (kept_parts t a))

-- The arms that 000 marks `unreachable!` are never reached on red-black trees, and every `unwrap` that no test before it guards finds a node.
use Prim.Native.Nat.{ℕ, suc}
use mathlib.Core.Path.{◌≡◌}
use mathlib.Core.Bool.{true}
use Rattle.trees.specs.Tree.{Entry, Place, Tree, black, node, is_black}
use Rattle.trees.specs.Shape.{Rb, rb_black}
use Rattle.trees.proofs.RemoveCases.{Left, Right, Fuse, Del, deleted}
use Rattle.trees.proofs.InsertLaws.{levels_below, parts, not_red}
use Rattle.trees.proofs.RemoveLaws.{not_red_black, near_not_red, never_left, never_right, rb_Fuse}

-- A run of the steps in which no such arm is taken. The only `unwrap`s that no test guards are in the third arms of `remove_balance_left`
-- and `_right`: the far child of a red sibling, d.
unfoldable pub Clean-Left : {l r u : Tree} {e : Entry} → Left l e r u → Type 0
Clean-Left Left.red_left = Unit {0}
Clean-Left (Left.black_right h g) = Unit {0}
Clean-Left (Left.red_right {d = d} h g) = is_black d ≡ true
Clean-Left (Left.stuck h i) = ⊥

unfoldable pub Clean-Right : {l r u : Tree} {e : Entry} → Right l e r u → Type 0
Clean-Right Right.red_right = Unit {0}
Clean-Right (Right.black_left h g) = Unit {0}
Clean-Right (Right.red_left {d = d} h g) = is_black d ≡ true
Clean-Right (Right.stuck h i) = ⊥

unfoldable pub Clean-Fuse : {l r u : Tree} → Fuse l r u → Type 0
Clean-Fuse Fuse.no_left = Unit {0}
Clean-Fuse Fuse.no_right = Unit {0}
Clean-Fuse (Fuse.black_red g) = Clean-Fuse g
Clean-Fuse (Fuse.red_black g) = Clean-Fuse g
Clean-Fuse (Fuse.middle g) = Clean-Fuse g
Clean-Fuse (Fuse.red_red h g) = Clean-Fuse g
Clean-Fuse (Fuse.black_black h g s) = Clean-Fuse g × Clean-Left s

unfoldable pub Clean-Del : {k : ℕ} {t u : Tree} → Del k t u → Type 0
Clean-Del Del.none = Unit {0}
Clean-Del (Del.here h g) = Clean-Fuse g
Clean-Del (Del.left h b g) = Clean-Del g
Clean-Del (Del.left_black h g s) = Clean-Del g × Clean-Left s
Clean-Del (Del.right h b g) = Clean-Del g
Clean-Del (Del.right_black h g s) = Clean-Del g × Clean-Right s

clean_Left : {n : ℕ} {l r u : Tree} {e : Entry} (g : Left l e r u) → Rb (suc n) r → Clean-Left g
unfolding Clean-Left
clean_Left Left.red_left a = tt
clean_Left (Left.black_right h g) a = tt
clean_Left (Left.red_right h g) a = not_red_black (not_red a).1 (parts a).1
clean_Left (Left.stuck h i) a = never_left h i a

clean_Right : {n : ℕ} {l r u : Tree} {e : Entry} (g : Right l e r u) → Rb (suc n) l → Clean-Right g
unfolding Clean-Right
clean_Right Right.red_right a = tt
clean_Right (Right.black_left h g) a = tt
clean_Right (Right.red_left h g) a = not_red_black (not_red a).0 (parts a).0
clean_Right (Right.stuck h i) a = never_right h i a

clean_Fuse : {n : ℕ} {l r u : Tree} (g : Fuse l r u) → Rb n l → Rb n r → Clean-Fuse g
unfolding Clean-Fuse
clean_Fuse Fuse.no_left a b = tt
clean_Fuse Fuse.no_right a b = tt
clean_Fuse (Fuse.black_red g) a b = clean_Fuse g a (parts b).0
clean_Fuse (Fuse.red_black g) a b = clean_Fuse g (parts a).1 b
clean_Fuse (Fuse.middle g) a b = clean_Fuse g (parts a).1 (parts b).0
clean_Fuse (Fuse.red_red q g) a b = clean_Fuse g (parts a).1 (parts b).0
clean_Fuse (Fuse.black_black q g s) a b =
    let m = (parts a).1 in let f = parts b in
    (clean_Fuse g m f.0, clean_Left s (rb_black (near_not_red q (rb_Fuse g m f.0).0) f.1))

-- Beside a black child there is one black level or more.
beside_black : {n : ℕ} {q : Place} {a b t : Tree} {x : Entry} → Rb n (node q black a x b) → Rb n t → Rb (suc (levels_below black n)) t
beside_black (rb_black a b) c = c

pub clean_Del : {k n : ℕ} {t u : Tree} (g : Del k t u) → Rb n t → Clean-Del g
unfolding Clean-Del
clean_Del Del.none a = tt
clean_Del (Del.here h g) a = clean_Fuse g (parts a).0 (parts a).1
clean_Del (Del.left h q g) a = clean_Del g (parts a).0
clean_Del (Del.left_black h g s) a = let b = parts a in (clean_Del g b.0, clean_Left s (beside_black b.0 b.1))
clean_Del (Del.right h q g) a = clean_Del g (parts a).1
clean_Del (Del.right_black h g s) a = let b = parts a in (clean_Del g b.1, clean_Right s (beside_black b.1 b.0))

-- Whatever key is removed from a red-black tree.
pub never_stuck : {n : ℕ} (k : ℕ) (t : Tree) → Rb n t → Clean-Del (deleted k t)
never_stuck k t a = clean_Del (deleted k t) a

-- What each step of removal does, as relations, like `InsertCases`.
use Prim.Native.Nat.{ℕ, ◌<◌}
use mathlib.Core.Path.{◌≡◌, refl}
use mathlib.Core.Bool.{false, ◌&&◌}
use Rattle.heights.proofs.Choices.{fork, fork2, compared}
use Rattle.trees.specs.Tree.{Entry, Color, red, black, Place, fresh, Tree, leaf, node, lf, rt, is_red, is_black, paint, copy}
use Rattle.trees.specs.Remove.{remove_balance, turn_left, turn_right, remove_balance_left, remove_balance_right, join, fuse_node, fuse, del_left, del_right, del}
use Rattle.trees.proofs.InsertCases.{red_is, black_is, Balance, balanced}

pub data RemoveBalance : Tree → Tree → Type 0 where
  both : {p q s : Place} {o : Color} {a b c d : Tree} {x y z : Entry} →
      RemoveBalance (node p o (node q red a x b) y (node s red c z d)) (node fresh red (node fresh black a x b) y (node fresh black c z d))
  plain : {t u : Tree} → Balance t u → RemoveBalance t u

remove_balanced : (p : Place) (c : Color) (l : Tree) (e : Entry) (r : Tree) → RemoveBalance (node p c l e r) (remove_balance (node p c l e r))
unfolding remove_balance
remove_balanced p c l e r =
    fork2
    (RemoveBalance (node p c l e r))
    (is_red l)
    (is_red r)
    {x = node fresh red (paint black l) e (paint black r)}
    (λ h i. rw (red_is l h) (rw (red_is r i) both))
    (λ h. plain (balanced (node p c l e r)))

-- `stuck` is the arm that 000 marks `unreachable!`.
pub data Left : Tree → Entry → Tree → Tree → Type 0 where
  red_left : {q : Place} {a b r : Tree} {x e : Entry} → Left (node q red a x b) e r (node fresh red (node fresh black a x b) e r)
  black_right : {q : Place} {l a b u : Tree} {e x : Entry} → is_red l ≡ false → RemoveBalance (node fresh black l e (node fresh red a x b)) u →
      Left l e (node q black a x b) u
  red_right : {q s : Place} {l a b d u : Tree} {e x y : Entry} → is_red l ≡ false → RemoveBalance (node fresh black b y (paint red d)) u →
      Left l e (node q red (node s black a x b) y d) (node fresh red (node fresh black l e a) x u)
  stuck : {l r : Tree} {e : Entry} → is_black r ≡ false → is_red r && is_black (lf r) ≡ false → Left l e r (node fresh red l e r)

pub data Right : Tree → Entry → Tree → Tree → Type 0 where
  red_right : {q : Place} {a b l : Tree} {x e : Entry} → Right l e (node q red a x b) (node fresh red l e (node fresh black a x b))
  black_left : {q : Place} {r a b u : Tree} {e x : Entry} → is_red r ≡ false → RemoveBalance (node fresh black (node fresh red a x b) e r) u →
      Right (node q black a x b) e r u
  red_left : {q s : Place} {r a b d u : Tree} {e x y : Entry} → is_red r ≡ false → RemoveBalance (node fresh black (paint red d) y a) u →
      Right (node q red d y (node s black a x b)) e r (node fresh red u x (node fresh black b e r))
  stuck : {l r : Tree} {e : Entry} → is_black l ≡ false → is_red l && is_black (rt l) ≡ false → Right l e r (node fresh red l e r)

module _ (l : Tree) (e : Entry) (r : Tree) where
  left_balanced : Left l e r (remove_balance_left l e r)
  unfolding remove_balance_left
  left_balanced =
      let P : Tree → Type 0 = Left l e r in
      fork P (is_red l) {x = node fresh red (paint black l) e r} (λ h. rw (red_is l h) Left.red_left) λ h1.
      fork P (is_black r) {x = remove_balance (node fresh black l e (paint red r))} (λ h. rw (black_is r h) (black_right h1 (remove_balanced _ _ _ _ _))) λ h2.
      fork2 P (is_red r) (is_black (lf r)) {x = turn_left l e r} (λ h i. rw (red_is r h) (rw (black_is (lf r) i) (Left.red_right h1 (remove_balanced _ _ _ _ _)))) λ h3.
      Left.stuck h2 h3

  right_balanced : Right l e r (remove_balance_right l e r)
  unfolding remove_balance_right
  right_balanced =
      let P : Tree → Type 0 = Right l e r in
      fork P (is_red r) {x = node fresh red l e (paint black r)} (λ h. rw (red_is r h) Right.red_right) λ h1.
      fork P (is_black l) {x = remove_balance (node fresh black (paint red l) e r)} (λ h. rw (black_is l h) (black_left h1 (remove_balanced _ _ _ _ _))) λ h2.
      fork2 P (is_red l) (is_black (rt l)) {x = turn_right l e r} (λ h i. rw (red_is l h) (rw (black_is (rt l) i) (Right.red_left h1 (remove_balanced _ _ _ _ _)))) λ h3.
      Right.stuck h2 h3

pub data Fuse : Tree → Tree → Tree → Type 0 where
  no_left : {r : Tree} → Fuse leaf r (copy r)
  no_right : {p : Place} {c : Color} {ll lr : Tree} {le : Entry} → Fuse (node p c ll le lr) leaf (node fresh c ll le lr)
  black_red : {p q : Place} {ll lr rl rr f : Tree} {le re : Entry} → Fuse (node p black ll le lr) rl f →
      Fuse (node p black ll le lr) (node q red rl re rr) (node fresh red f re rr)
  red_black : {p q : Place} {ll lr rl rr f : Tree} {le re : Entry} → Fuse lr (node q black rl re rr) f →
      Fuse (node p red ll le lr) (node q black rl re rr) (node fresh red ll le f)
  middle : {p q s : Place} {c : Color} {ll lr rl rr fl fr : Tree} {le re fe : Entry} → Fuse lr rl (node s red fl fe fr) →
      Fuse (node p c ll le lr) (node q c rl re rr) (node fresh red (node fresh c ll le fl) fe (node fresh c fr re rr))
  red_red : {p q : Place} {ll lr rl rr f : Tree} {le re : Entry} → is_red f ≡ false → Fuse lr rl f →
      Fuse (node p red ll le lr) (node q red rl re rr) (node fresh red ll le (node fresh red f re rr))
  black_black : {p q : Place} {ll lr rl rr f u : Tree} {le re : Entry} → is_red f ≡ false → Fuse lr rl f →
      Left ll le (node fresh black f re rr) u → Fuse (node p black ll le lr) (node q black rl re rr) u

joined : {p q : Place} {lr rl : Tree} (c : Color) (ll : Tree) (le : Entry) (f : Tree) (re : Entry) (rr : Tree) → Fuse lr rl f →
    Fuse (node p c ll le lr) (node q c rl re rr) (join c ll le f re rr)
unfolding join
joined {p} {q} {lr} {rl} red ll le f re rr g =
    fork (Fuse (node p red ll le lr) (node q red rl re rr)) (is_red f) (λ h. middle (rw (red_is f h) at g)) (λ h. red_red h g)
joined {p} {q} {lr} {rl} black ll le f re rr g =
    fork
    (Fuse (node p black ll le lr) (node q black rl re rr))
    (is_red f)
    (λ h. middle (rw (red_is f h) at g))
    (λ h. black_black h g (left_balanced _ _ _))

fused_node : {p : Place} (c : Color) (ll : Tree) (le : Entry) (lr : Tree) (g : Tree → Tree) → ((r : Tree) → Fuse lr r (g r)) →
    (r : Tree) → Fuse (node p c ll le lr) r (fuse_node c ll le lr g r)
unfolding fuse_node
fused_node c ll le lr g i leaf = no_right
fused_node black ll le lr g i (node q red rl re rr) = black_red (fused_node black ll le lr g i rl)
fused_node red ll le lr g i (node q black rl re rr) = red_black (i (node q black rl re rr))
fused_node red ll le lr g i (node q red rl re rr) = joined red ll le (g rl) re rr (i rl)
fused_node black ll le lr g i (node q black rl re rr) = joined black ll le (g rl) re rr (i rl)

pub fused : (l r : Tree) → Fuse l r (fuse l r)
unfolding fuse
fused leaf r = no_left
fused (node p c ll le lr) r = fused_node c ll le lr (fuse lr) (fused lr) r

pub data Del (k : ℕ) : Tree → Tree → Type 0 where
  none : Del k leaf leaf
  here : {p : Place} {c : Color} {l r u : Tree} {e : Entry} → k ≡ e.key → Fuse l r u → Del k (node p c l e r) u
  left : {p : Place} {c : Color} {l r d : Tree} {e : Entry} → k < e.key → is_black l ≡ false → Del k l d →
      Del k (node p c l e r) (node fresh red d e r)
  left_black : {p q : Place} {c : Color} {a b r d u : Tree} {e x : Entry} → k < e.key → Del k (node q black a x b) d → Left d e r u →
      Del k (node p c (node q black a x b) e r) u
  right : {p : Place} {c : Color} {l r d : Tree} {e : Entry} → e.key < k → is_black r ≡ false → Del k r d →
      Del k (node p c l e r) (node fresh red l e d)
  right_black : {p q : Place} {c : Color} {a b l d u : Tree} {e x : Entry} → e.key < k → Del k (node q black a x b) d → Right l e d u →
      Del k (node p c l e (node q black a x b)) u

module _ (k : ℕ) {p : Place} {c : Color} where
  left_deleted : (l d : Tree) (e : Entry) (r : Tree) → k < e.key → Del k l d → Del k (node p c l e r) (del_left l d e r)
  unfolding del_left
  left_deleted leaf d e r h g = left h refl g
  left_deleted (node q red a x b) d e r h g = left h refl g
  left_deleted (node q black a x b) d e r h g = left_black h g (left_balanced d e r)

  right_deleted : (l : Tree) (e : Entry) (r d : Tree) → e.key < k → Del k r d → Del k (node p c l e r) (del_right l e r d)
  unfolding del_right
  right_deleted l e leaf d h g = right h refl g
  right_deleted l e (node q red a x b) d h g = right h refl g
  right_deleted l e (node q black a x b) d h g = right_black h g (right_balanced l e d)

pub deleted : (k : ℕ) (t : Tree) → Del k t (del k t)
unfolding del
deleted k leaf = none
deleted k (node p c l e r) =
    compared
    (Del k (node p c l e r))
    k
    e.key
    (λ h. left_deleted k l (del k l) e r h (deleted k l))
    (λ h. right_deleted k l e r (del k r) h (deleted k r))
    (λ h. here h (fused l r))

-- What `balance` and `ins` do, as relations of the tree before and the tree after: one constructor a case, so that each law is a clause a case.
use Prim.Native.Nat.{◌<◌}
use mathlib.Core.Path.{◌≡◌, refl}
use mathlib.Core.Bool.{Bool, true, false, ◌&&◌, false≢true}
use Rattle.heights.proofs.Choices.{fork2, compared₂}
use Rattle.trees.specs.Tree.{Entry, Color, red, black, Place, fresh, Tree, leaf, node, lf, rt, en, is_red, is_black}
use Rattle.trees.specs.Lookup.{has}
use Rattle.trees.specs.Insert.{risen, balance, settle, ins}

pub place_of : Tree → Place
place_of leaf = fresh
place_of (node p c l e r) = p

-- A red tree, and a black one, is a node.
pub red_is : (t : Tree) → is_red t ≡ true → t ≡ node (place_of t) red (lf t) (en t) (rt t)
unfolding place_of
red_is leaf h = absurd (false≢true h)
red_is (node p red l e r) h = refl
red_is (node p black l e r) h = absurd (false≢true h)

pub black_is : (t : Tree) → is_black t ≡ true → t ≡ node (place_of t) black (lf t) (en t) (rt t)
unfolding place_of
black_is leaf h = absurd (false≢true h)
black_is (node p red l e r) h = absurd (false≢true h)
black_is (node p black l e r) h = refl

-- No red child below a red root.
abbrev pub Safe : Tree → Type 0
Safe t = (is_red t && is_red (lf t) ≡ false) × (is_red t && is_red (rt t) ≡ false)

abbrev pub Calm : Tree → Type 0
Calm leaf = Unit {0}
Calm (node p red l e r) = Unit {0}
Calm (node p black l e r) = Safe l × Safe r

-- Each case says that those before it in source order do not hold.
pub data Balance : Tree → Tree → Type 0 where
  ll : {p q s : Place} {a b c d : Tree} {x y z : Entry} →
      Balance (node p black (node q red (node s red a x b) y c) z d) (risen a x b y c z d)
  lr : {p q s : Place} {a b c d : Tree} {x y z : Entry} → is_red a ≡ false →
      Balance (node p black (node q red a x (node s red b y c)) z d) (risen a x b y c z d)
  rl : {p q s : Place} {a b c d : Tree} {x y z : Entry} → Safe a →
      Balance (node p black a x (node q red (node s red b y c) z d)) (risen a x b y c z d)
  rr : {p q s : Place} {a b c d : Tree} {x y z : Entry} → Safe a → is_red b ≡ false →
      Balance (node p black a x (node q red b y (node s red c z d))) (risen a x b y c z d)
  calm : {t : Tree} → Calm t → Balance t t

-- Each case, where its tests are true.
module _ {p : Place} {e : Entry} {m : Tree} (t : Tree) (h : is_red t ≡ true) where
  ll_is : is_red (lf t) ≡ true → Balance (node p black t e m) (risen (lf (lf t)) (en (lf t)) (rt (lf t)) (en t) (rt t) e m)
  ll_is i = rw (red_is t h) (rw (red_is (lf t) i) ll)

  lr_is : is_red t && is_red (lf t) ≡ false → is_red (rt t) ≡ true →
      Balance (node p black t e m) (risen (lf t) (en t) (lf (rt t)) (en (rt t)) (rt (rt t)) e m)
  lr_is j i = rw (red_is t h) (rw (red_is (rt t) i) (lr (rw h at j)))

  rl_is : Safe m → is_red (lf t) ≡ true → Balance (node p black m e t) (risen m e (lf (lf t)) (en (lf t)) (rt (lf t)) (en t) (rt t))
  rl_is s i = rw (red_is t h) (rw (red_is (lf t) i) (rl s))

  rr_is : Safe m → is_red t && is_red (lf t) ≡ false → is_red (rt t) ≡ true →
      Balance (node p black m e t) (risen m e (lf t) (en t) (lf (rt t)) (en (rt t)) (rt (rt t)))
  rr_is s j i = rw (red_is t h) (rw (red_is (rt t) i) (rr s (rw h at j)))

pub balanced : (t : Tree) → Balance t (balance t)
unfolding balance
balanced leaf = calm tt
balanced (node p red l e r) = calm tt
balanced (node p black l e r) =
    let P : Tree → Type 0 = Balance (node p black l e r) in
    fork2 P _ _ (ll_is l) λ h1.
    fork2 P _ _ (λ h. lr_is l h h1) λ h2.
    fork2 P _ _ (λ h. rl_is r h (h1, h2)) λ h3.
    fork2 P _ _ (λ h. rr_is r h (h1, h2) h3) λ h4.
    calm ((h1, h2), (h3, h4))

-- On the way up, by whether the key was there.
pub data Settle : Bool → Tree → Tree → Type 0 where
  still : {t : Tree} → Settle true t t
  turned : {t u : Tree} → Balance t u → Settle false t u

pub data Ins (x : Entry) : Bool → Tree → Tree → Type 0 where
  new : Ins x false leaf (node fresh red leaf x leaf)
  here : {p : Place} {c : Color} {l r : Tree} {e : Entry} → x.key ≡ e.key → Ins x true (node p c l e r) (node fresh c l x r)
  left : {b : Bool} {p : Place} {c : Color} {l l' r u : Tree} {e : Entry} → x.key < e.key → Ins x b l l' →
      Settle b (node fresh c l' e r) u → Ins x b (node p c l e r) u
  right : {b : Bool} {p : Place} {c : Color} {l r r' u : Tree} {e : Entry} → e.key < x.key → Ins x b r r' →
      Settle b (node fresh c l e r') u → Ins x b (node p c l e r) u

settled : (b : Bool) (t : Tree) → Settle b t (settle b t)
settled true t = still
settled false t = turned (balanced t)

pub inserted : (x : Entry) (t : Tree) → Ins x (has x.key t) t (ins x t)
unfolding has ins
inserted x leaf = new
inserted x (node p c l e r) =
    compared₂
    (λ (b : Bool) (u : Tree). Ins x b (node p c l e r) u)
    x.key
    e.key
    (λ h. left h (inserted x l) (settled (has x.key l) _))
    (λ h. right h (inserted x r) (settled (has x.key r) _))
    (λ h. here h)

-- Laws of `balance` and `insert`: the listing, the order, the shape.
use Prim.Native.Nat.{ℕ, zero, suc}
use mathlib.Core.Path.{◌≡◌, refl, sym, ap, ◌∙◌}
use mathlib.Core.Bool.{Bool, true, false, true≢false}
use mathlib.Core.List.{List, ◌∷◌, ◌++◌, append_assoc}
use Rattle.trees.specs.Tree.{Entry, Color, red, black, Place, Tree, leaf, node, is_red, paint, listing}
use Rattle.trees.specs.Listing.{put, Ascending}
use Rattle.trees.specs.Shape.{Rb, rb_leaf, rb_red, rb_black, Fine}
use Rattle.trees.specs.Lookup.{has}
use Rattle.trees.specs.Insert.{risen, balance, ins, insert}
use Rattle.trees.proofs.InsertCases.{Balance, balanced, Safe, Settle, still, turned, Ins, inserted}
use Rattle.trees.proofs.Listings.{split, put_left, put_right, put_here, ascending_put}

-- The listing.

pub listing-Balance : {t u : Tree} → Balance t u → listing u ≡ listing t
listing-Balance Balance.ll = simp append_assoc
listing-Balance (Balance.lr h) = simp append_assoc
listing-Balance (Balance.rl h) = simp append_assoc
listing-Balance (Balance.rr h i) = simp append_assoc
listing-Balance (Balance.calm h) = refl

-- `balance` keeps the listing, at any tree.
pub listing-balance : (t : Tree) → listing (balance t) ≡ listing t
listing-balance t = listing-Balance (balanced t)

listing-Settle : {b : Bool} {t u : Tree} → Settle b t u → listing u ≡ listing t
listing-Settle still = refl
listing-Settle (turned g) = listing-Balance g

pub listing-paint : (c : Color) (t : Tree) → listing (paint c t) ≡ listing t
listing-paint c leaf = refl
listing-paint c (node p d l e r) = refl

module _ (x : Entry) where
  listing_Ins : {b : Bool} {t u : Tree} → Ins x b t u → Ascending (listing t) → listing u ≡ put x (listing t)
  listing_Ins Ins.new a = refl
  listing_Ins (Ins.here {l = l} {r = r} {e = e} h) a =
      sym (put_here x (listing l) e (listing r) (split (listing l) e (listing r) a).below h)
  listing_Ins (Ins.left {l = l} {r = r} {e = e} h g s) a =
      listing-Settle s ∙ ap (λ (y : List Entry). y ++ (e ∷ listing r)) (listing_Ins g (split (listing l) e (listing r) a).before) ∙
      sym (put_left x (listing l) e (listing r) h)
  listing_Ins (Ins.right {l = l} {r = r} {e = e} h g s) a =
      listing-Settle s ∙ ap (λ (y : List Entry). listing l ++ (e ∷ y)) (listing_Ins g (split (listing l) e (listing r) a).after) ∙
      sym (put_right x (listing l) e (listing r) (split (listing l) e (listing r) a).below h)

  -- The listing of `insert` is `put`.
  pub listing_insert : (t : Tree) → Ascending (listing t) → listing (insert x t) ≡ put x (listing t)
  unfolding insert
  listing_insert t a = listing-paint black (ins x t) ∙ listing_Ins (inserted x t) a

-- The shape. Between the steps a red root may have a red child.
pub data Near : ℕ → Tree → Type 0 where
  red_root : {n : ℕ} {p : Place} {l r : Tree} {e : Entry} → Rb n l → Rb n r → Near n (node p red l e r)
  well : {n : ℕ} {t : Tree} → Rb n t → Near n t

-- The black levels below a root of the colour, where the tree has n.
abbrev pub levels_below : Color → ℕ → ℕ
levels_below red n = n
levels_below black zero = 0
levels_below black (suc n) = n

-- What a shape is made of: a law that takes it apart by these goes by the cases of the step alone, which is much quicker to check.
pub parts : {n : ℕ} {p : Place} {c : Color} {l r : Tree} {e : Entry} → Rb n (node p c l e r) → Rb (levels_below c n) l × Rb (levels_below c n) r
parts (rb_red h i a b) = (a, b)
parts (rb_black a b) = (a, b)

pub not_red : {n : ℕ} {p : Place} {l r : Tree} {e : Entry} → Rb n (node p red l e r) → (is_red l ≡ false) × (is_red r ≡ false)
not_red (rb_red h i a b) = (h, i)

pub near_parts : {n : ℕ} {p : Place} {l r : Tree} {e : Entry} → Near n (node p red l e r) → Rb n l × Rb n r
near_parts (red_root a b) = (a, b)
near_parts (well a) = parts a

near_safe : {n : ℕ} {t : Tree} → Safe t → Near n t → Rb n t
near_safe s (red_root a b) = rb_red s.0 s.1 a b
near_safe s (well a) = a

pub rb_risen : {n : ℕ} {a b c d : Tree} {x y z : Entry} → Rb n a × Rb n b → Rb n c × Rb n d → Rb (suc n) (risen a x b y c z d)
rb_risen f g = rb_red refl refl (rb_black f.0 f.1) (rb_black g.0 g.1)

-- `balance` at a black node mends one side.
pub rb_balance_left : {n : ℕ} {p : Place} {l r u : Tree} {e : Entry} → Balance (node p black l e r) u → Near n l → Rb n r → Rb (suc n) u
rb_balance_left Balance.ll a b = let f = near_parts a in rb_risen (parts f.0) (f.1, b)
rb_balance_left (Balance.lr j) a b = let f = near_parts a in let g = parts f.1 in rb_risen (f.0, g.0) (g.1, b)
rb_balance_left (Balance.rl j) a b = absurd (true≢false (not_red b).0)
rb_balance_left (Balance.rr j k) a b = absurd (true≢false (not_red b).1)
rb_balance_left (Balance.calm s) a b = rb_black (near_safe s.0 a) b

pub rb_balance_right : {n : ℕ} {p : Place} {l r u : Tree} {e : Entry} → Balance (node p black l e r) u → Rb n l → Near n r → Rb (suc n) u
rb_balance_right (Balance.rl j) a b = let f = near_parts b in let g = parts f.0 in rb_risen (a, g.0) (g.1, f.1)
rb_balance_right (Balance.rr j k) a b = let f = near_parts b in rb_risen (a, f.0) (parts f.1)
rb_balance_right Balance.ll a b = absurd (true≢false (not_red a).0)
rb_balance_right (Balance.lr j) a b = absurd (true≢false (not_red a).1)
rb_balance_right (Balance.calm s) a b = rb_black a (near_safe s.1 b)

-- At a red node it does nothing.
near_red : {n : ℕ} {p : Place} {l r u : Tree} {e : Entry} → Balance (node p red l e r) u → Rb n l → Rb n r → Near n u
near_red (Balance.calm s) a b = red_root a b

-- A node in the place of another, whose children keep their shape and colour.
rb_same : {n : ℕ} {c : Color} {p q : Place} {l r l' r' : Tree} {e f : Entry} → Rb n (node p c l e r) →
    Rb (levels_below c n) l' × (is_red l' ≡ is_red l) → Rb (levels_below c n) r' × (is_red r' ≡ is_red r) →
    Rb n (node q c l' f r') × (is_red (node q c l' f r') ≡ is_red (node p c l e r))
rb_same (rb_red i j a b) g h = (rb_red (g.1 ∙ i) (h.1 ∙ j) g.0 h.0, refl)
rb_same (rb_black a b) g h = (rb_black g.0 h.0, refl)

module _ {x : Entry} where
  -- A replaced entry keeps the shape and the root's colour.
  rb_replaced : {n : ℕ} {t u : Tree} → Ins x true t u → Rb n t → Rb n u × (is_red u ≡ is_red t)
  rb_replaced (Ins.here h) a = let b = parts a in rb_same a (b.0, refl) (b.1, refl)
  rb_replaced (Ins.left h g still) a = let b = parts a in rb_same a (rb_replaced g b.0) (b.1, refl)
  rb_replaced (Ins.right h g still) a = let b = parts a in rb_same a (b.0, refl) (rb_replaced g b.1)

  -- A new one leaves a red root with perhaps a red child.
  rb_new : {n : ℕ} {t u : Tree} → Ins x false t u → Rb n t → Near n u × (is_red t ≡ false → Rb n u)
  rb_new Ins.new rb_leaf = let a = rb_red refl refl rb_leaf rb_leaf in (well a, λ _. a)
  rb_new (Ins.left h g (turned s)) (rb_red i j a b) = (near_red s ((rb_new g a).1 i) b, λ e. absurd (true≢false e))
  rb_new (Ins.left h g (turned s)) (rb_black a b) = let c = rb_balance_left s (rb_new g a).0 b in (well c, λ _. c)
  rb_new (Ins.right h g (turned s)) (rb_red i j a b) = (near_red s a ((rb_new g b).1 j), λ e. absurd (true≢false e))
  rb_new (Ins.right h g (turned s)) (rb_black a b) = let c = rb_balance_right s a (rb_new g b).0 in (well c, λ _. c)

  pub near_ins : {n : ℕ} {t u : Tree} (b : Bool) → Ins x b t u → Rb n t → Near n u
  near_ins true g a = well (rb_replaced g a).0
  near_ins false g a = (rb_new g a).0

-- A root painted black.
pub rb_paint : {n : ℕ} {t : Tree} → Near n t → (m : ℕ) × Rb m (paint black t)
rb_paint (red_root {n = n} a b) = (suc n, rb_black a b)
rb_paint (well rb_leaf) = (0, rb_leaf)
rb_paint (well (rb_red {n = n} h i a b)) = (suc n, rb_black a b)
rb_paint (well (rb_black {n = n} a b)) = (suc n, rb_black a b)

pub root_paint : (t : Tree) → is_red (paint black t) ≡ false
root_paint leaf = refl
root_paint (node p c l e r) = refl

-- `insert` keeps the order, the black root and the red-black shape.
pub fine_insert : (x : Entry) (t : Tree) → Fine t → Fine (insert x t)
unfolding insert
fine_insert x t g =
    let s = rb_paint (near_ins (has x.key t) (inserted x t) g.shape) in
    record {
      ordered = rw (listing_insert x t g.ordered) (ascending_put x (listing t) g.ordered);
      root = root_paint (ins x t);
      blacks = s.0;
      shape = s.1;
    }

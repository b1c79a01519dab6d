-- Laws of `fuse` and `remove`: the listing, the order, the shape.
use Prim.Native.Nat.{ℕ, suc, ◌<◌}
use mathlib.Core.Path.{◌≡◌, refl, sym, ap, ◌∙◌}
use mathlib.Core.Bool.{Bool, true, false, ◌&&◌, true≢false}
use mathlib.Core.List.{List, ◌∷◌, ◌++◌, append_assoc, append-nil}
use Rattle.heights.proofs.Choices.{fork, compared}
use Rattle.trees.specs.Tree.{Entry, Color, red, black, Place, fresh, Tree, leaf, node, lf, rt, is_red, is_black, paint, copy, listing}
use Rattle.trees.specs.Listing.{cut, Ascending}
use Rattle.trees.specs.Shape.{Rb, rb_leaf, rb_red, rb_black, Fine}
use Rattle.trees.specs.Lookup.{has}
use Rattle.trees.specs.Remove.{fuse, del, remove}
use Rattle.trees.proofs.RemoveCases.{RemoveBalance, Left, Right, Fuse, fused, Del, deleted}
use Rattle.trees.proofs.Listings.{split, cut_left, cut_right, cut_here, ascending_cut}
use Rattle.trees.proofs.InsertLaws.{listing-Balance, listing-paint, Near, red_root, well, levels_below, parts, not_red, near_parts, rb_risen, rb_balance_left, rb_balance_right, rb_paint, root_paint}

-- The listing.

listing-RemoveBalance : {t u : Tree} → RemoveBalance t u → listing u ≡ listing t
listing-RemoveBalance RemoveBalance.both = refl
listing-RemoveBalance (RemoveBalance.plain g) = listing-Balance g

listing-Left : {l r u : Tree} {e : Entry} → Left l e r u → listing u ≡ listing l ++ (e ∷ listing r)
listing-Left Left.red_left = refl
listing-Left (Left.black_right h g) = listing-RemoveBalance g
listing-Left (Left.red_right {d = d} h g) = rw (listing-RemoveBalance g, listing-paint red d) (simp append_assoc)
listing-Left (Left.stuck h i) = refl

listing-Right : {l r u : Tree} {e : Entry} → Right l e r u → listing u ≡ listing l ++ (e ∷ listing r)
listing-Right Right.red_right = refl
listing-Right (Right.black_left h g) = listing-RemoveBalance g
listing-Right (Right.red_left {d = d} h g) = rw (listing-RemoveBalance g, listing-paint red d) (simp append_assoc)
listing-Right (Right.stuck h i) = refl

listing-copy : (t : Tree) → listing (copy t) ≡ listing t
listing-copy leaf = refl
listing-copy (node p c l e r) = refl

listing-Fuse : {l r u : Tree} → Fuse l r u → listing u ≡ listing l ++ listing r
listing-Fuse (Fuse.no_left {r = r}) = listing-copy r
listing-Fuse (Fuse.no_right {ll = ll} {lr = lr} {le = le}) = sym (append-nil (listing ll ++ (le ∷ listing lr)))
listing-Fuse (Fuse.black_red g) = rw (listing-Fuse g) (simp append_assoc)
listing-Fuse (Fuse.red_black g) = rw (listing-Fuse g) (simp append_assoc)
listing-Fuse (Fuse.middle {ll = ll} {lr = lr} {rl = rl} {rr = rr} {fl = fl} {fr = fr} {le = le} {re = re} {fe = fe} g) =
    let x = re ∷ listing rr in
    simp
    append_assoc
    (ap
    (λ (y : List Entry). listing ll ++ (le ∷ y))
    (sym (append_assoc (listing fl) (fe ∷ listing fr) x) ∙ ap (λ (y : List Entry). y ++ x) (listing-Fuse g) ∙
    append_assoc (listing lr) (listing rl) x))
listing-Fuse (Fuse.red_red h g) = rw (listing-Fuse g) (simp append_assoc)
listing-Fuse (Fuse.black_black h g s) = rw (listing-Left s, listing-Fuse g) (simp append_assoc)

-- The listing of `fuse` is the two listings, one after the other, at any trees.
pub listing-fuse : (l r : Tree) → listing (fuse l r) ≡ listing l ++ listing r
listing-fuse l r = listing-Fuse (fused l r)

module _ (k : ℕ) where
  cut_in_left : (l r : Tree) (e : Entry) (d : Tree) → k < e.key → Ascending (listing l ++ (e ∷ listing r)) →
      (Ascending (listing l) → listing d ≡ cut k (listing l)) → listing d ++ (e ∷ listing r) ≡ cut k (listing l ++ (e ∷ listing r))
  cut_in_left l r e d h a ih =
      let s = split (listing l) e (listing r) a in
      ap (λ (x : List Entry). x ++ (e ∷ listing r)) (ih s.before) ∙ sym (cut_left k (listing l) e (listing r) h s.above)

  cut_in_right : (l r : Tree) (e : Entry) (d : Tree) → e.key < k → Ascending (listing l ++ (e ∷ listing r)) →
      (Ascending (listing r) → listing d ≡ cut k (listing r)) → listing l ++ (e ∷ listing d) ≡ cut k (listing l ++ (e ∷ listing r))
  cut_in_right l r e d h a ih =
      let s = split (listing l) e (listing r) a in
      ap (λ (x : List Entry). listing l ++ (e ∷ x)) (ih s.after) ∙ sym (cut_right k (listing l) e (listing r) s.below h)

  listing_Del : {t u : Tree} → Del k t u → Ascending (listing t) → listing u ≡ cut k (listing t)
  listing_Del Del.none a = refl
  listing_Del (Del.here {l = l} {r = r} {e = e} h g) a =
      listing-Fuse g ∙ sym (cut_here k (listing l) e (listing r) (split (listing l) e (listing r) a).below h)
  listing_Del (Del.left {l = l} {r = r} {d = d} {e = e} h b g) o = cut_in_left l r e d h o (listing_Del g)
  listing_Del (Del.left_black {q = q} {a = a} {b = b} {r = r} {d = d} {e = e} {x = x} h g s) o =
      listing-Left s ∙ cut_in_left (node q black a x b) r e d h o (listing_Del g)
  listing_Del (Del.right {l = l} {r = r} {d = d} {e = e} h b g) o = cut_in_right l r e d h o (listing_Del g)
  listing_Del (Del.right_black {q = q} {a = a} {b = b} {l = l} {d = d} {e = e} {x = x} h g s) o =
      listing-Right s ∙ cut_in_right l (node q black a x b) e d h o (listing_Del g)

  -- A key that the descent does not find is not in the listing.
  cut_absent : (t : Tree) → has k t ≡ false → Ascending (listing t) → cut k (listing t) ≡ listing t
  unfolding has
  cut_absent leaf n a = refl
  cut_absent (node p c l e r) n a =
      let s = split (listing l) e (listing r) a in
      compared
      (λ (b : Bool). b ≡ false → cut k (listing l ++ (e ∷ listing r)) ≡ listing l ++ (e ∷ listing r))
      k
      e.key
      (λ h n. sym (cut_in_left l r e l h a (λ o. sym (cut_absent l n o))))
      (λ h n. sym (cut_in_right l r e r h a (λ o. sym (cut_absent r n o))))
      (λ h n. absurd (true≢false n))
      n

  -- The listing of `remove` is `cut`.
  pub listing_remove : (t : Tree) → Ascending (listing t) → listing (remove k t) ≡ cut k (listing t)
  unfolding remove
  listing_remove t a =
      fork
      (λ (u : Tree). listing u ≡ cut k (listing t))
      (has k t)
      (λ h. listing-paint black (del k t) ∙ listing_Del (deleted k t) a)
      (λ h. sym (cut_absent t h a))

-- The shape.

pub near_not_red : {n : ℕ} {t : Tree} → is_red t ≡ false → Near n t → Rb n t
near_not_red h (red_root a b) = absurd (true≢false h)
near_not_red h (well a) = a

rb_remove_balance_left : {n : ℕ} {p : Place} {l r u : Tree} {e : Entry} → RemoveBalance (node p black l e r) u → Near n l → Rb n r → Rb (suc n) u
rb_remove_balance_left RemoveBalance.both a b = rb_risen (near_parts a) (parts b)
rb_remove_balance_left (RemoveBalance.plain g) a b = rb_balance_left g a b

rb_remove_balance_right : {n : ℕ} {p : Place} {l r u : Tree} {e : Entry} → RemoveBalance (node p black l e r) u → Rb n l → Near n r → Rb (suc n) u
rb_remove_balance_right RemoveBalance.both a b = rb_risen (parts a) (near_parts b)
rb_remove_balance_right (RemoveBalance.plain g) a b = rb_balance_right g a b

painted_red : {n : ℕ} {t : Tree} → is_red t ≡ false → Rb (suc n) t → Near n (paint red t)
painted_red h (rb_red i j a b) = absurd (true≢false h)
painted_red h (rb_black a b) = red_root a b

-- A tree of one black level or more that is not red is black.
pub not_red_black : {n : ℕ} {t : Tree} → is_red t ≡ false → Rb (suc n) t → is_black t ≡ true
not_red_black h (rb_red i j a b) = absurd (true≢false h)
not_red_black h (rb_black a b) = refl

-- The arm that 000 marks `unreachable!` is not taken on the left, nor on the right.
pub never_left : {n : ℕ} {t : Tree} → is_black t ≡ false → is_red t && is_black (lf t) ≡ false → Rb (suc n) t → ⊥
never_left h i (rb_red j k a b) = true≢false (sym (not_red_black j a) ∙ i)
never_left h i (rb_black a b) = true≢false h

pub never_right : {n : ℕ} {t : Tree} → is_black t ≡ false → is_red t && is_black (rt t) ≡ false → Rb (suc n) t → ⊥
never_right h i (rb_red j k a b) = true≢false (sym (not_red_black k b) ∙ i)
never_right h i (rb_black a b) = true≢false h

-- `remove_balance_left` and `_right`, where one side is one black level short.
pub rb_Left : {n : ℕ} {l r u : Tree} {e : Entry} → Left l e r u → Near n l → Rb (suc n) r → Near (suc n) u × (is_red r ≡ false → Rb (suc n) u)
rb_Left Left.red_left a c = let f = near_parts a in let b = rb_black f.0 f.1 in (red_root b c, λ j. rb_red refl j b c)
rb_Left (Left.black_right h g) a c =
    let f = parts c in let d = rb_remove_balance_right g (near_not_red h a) (red_root f.0 f.1) in (well d, λ _. d)
rb_Left (Left.red_right h g) a c =
    let f = parts c in let b = parts f.0 in
    (red_root (rb_black (near_not_red h a) b.0) (rb_remove_balance_right g b.1 (painted_red (not_red c).1 f.1)), λ k. absurd (true≢false k))
rb_Left (Left.stuck h i) a c = absurd (never_left h i c)

pub rb_Right : {n : ℕ} {l r u : Tree} {e : Entry} → Right l e r u → Rb (suc n) l → Near n r → Near (suc n) u × (is_red l ≡ false → Rb (suc n) u)
rb_Right Right.red_right c a = let f = near_parts a in let b = rb_black f.0 f.1 in (red_root c b, λ j. rb_red j refl c b)
rb_Right (Right.black_left h g) c a =
    let f = parts c in let d = rb_remove_balance_left g (red_root f.0 f.1) (near_not_red h a) in (well d, λ _. d)
rb_Right (Right.red_left h g) c a =
    let f = parts c in let b = parts f.1 in
    (red_root (rb_remove_balance_left g (painted_red (not_red c).0 f.0) b.0) (rb_black b.1 (near_not_red h a)), λ k. absurd (true≢false k))
rb_Right (Right.stuck h i) c a = absurd (never_right h i c)

rb_copy : {n : ℕ} {t : Tree} → Rb n t → Rb n (copy t)
rb_copy rb_leaf = rb_leaf
rb_copy (rb_red h i a b) = rb_red h i a b
rb_copy (rb_black a b) = rb_black a b

between_red : {n : ℕ} {s : Place} {l fl fr r : Tree} {x y z : Entry} → Rb n (node s red fl y fr) → is_red l ≡ false → is_red r ≡ false →
    Rb n l → Rb n r → Near n (node fresh red (node fresh red l x fl) y (node fresh red fr z r))
between_red (rb_red h i b c) j k a d = red_root (rb_red j h a b) (rb_red i k c d)

between_black : {n : ℕ} {s : Place} {l fl fr r : Tree} {x y z : Entry} → Near n (node s red fl y fr) → Rb n l → Rb n r →
    Rb (suc n) (node fresh red (node fresh black l x fl) y (node fresh black fr z r))
between_black b a d = let f = near_parts b in rb_risen (a, f.0) (f.1, d)

pub rb_Fuse : {n : ℕ} {l r u : Tree} → Fuse l r u → Rb n l → Rb n r → Near n u × (is_red l ≡ false → is_red r ≡ false → Rb n u)
rb_Fuse Fuse.no_left a b = (well (rb_copy b), λ _ _. rb_copy b)
rb_Fuse Fuse.no_right a b = (well (rb_copy a), λ _ _. rb_copy a)
rb_Fuse (Fuse.black_red g) a b =
    let f = parts b in (red_root ((rb_Fuse g a f.0).1 refl (not_red b).0) f.1, λ _ j. absurd (true≢false j))
rb_Fuse (Fuse.red_black g) a b =
    let f = parts a in (red_root f.0 ((rb_Fuse g f.1 b).1 (not_red a).1 refl), λ j _. absurd (true≢false j))
rb_Fuse (Fuse.middle {c = red} g) a b =
    let m = (rb_Fuse g (parts a).1 (parts b).0).1 (not_red a).1 (not_red b).0 in
    (between_red m (not_red a).0 (not_red b).1 (parts a).0 (parts b).1, λ j _. absurd (true≢false j))
rb_Fuse (Fuse.middle {c = black} g) (rb_black a b) c =
    let f = parts c in let e = between_black (rb_Fuse g b f.0).0 a f.1 in (well e, λ _ _. e)
rb_Fuse (Fuse.red_red q g) a b =
    let m = (rb_Fuse g (parts a).1 (parts b).0).1 (not_red a).1 (not_red b).0 in
    (red_root (parts a).0 (rb_red q (not_red b).1 m (parts b).1), λ j _. absurd (true≢false j))
rb_Fuse (Fuse.black_black q g s) (rb_black a b) c =
    let f = parts c in let e = rb_Left s (well a) (rb_black (near_not_red q (rb_Fuse g b f.0).0) f.1) in (e.0, λ _ _. e.1 refl)

-- After `del` a black tree is one black level short, and perhaps red above red; any other keeps its shape.
unfoldable pub After : {n : ℕ} {t : Tree} → Rb n t → Tree → Type 0
After rb_leaf u = Rb 0 u
After (rb_red {n = n} h i a b) u = Rb n u
After (rb_black {n = n} a b) u = Near n u

after_not_black : {n : ℕ} {t u : Tree} (a : Rb n t) → is_black t ≡ false → After a u → Rb n u
unfolding After
after_not_black rb_leaf h b = b
after_not_black (rb_red i j a c) h b = b
after_not_black (rb_black a c) h b = absurd (true≢false h)

-- At a node of either colour, so that no law of `del` tells them apart.
after : {n : ℕ} {p : Place} {c : Color} {l r u : Tree} {e : Entry} (a : Rb n (node p c l e r)) →
    Near (levels_below c n) u × (is_red l ≡ false → is_red r ≡ false → Rb (levels_below c n) u) → After a u
unfolding After
after (rb_red i j a b) g = g.1 i j
after (rb_black a b) g = g.0

-- Beside a black child, which is one level short after `del`.
module _ {q : Place} {i j : Tree} {x : Entry} where
  after_left : {n : ℕ} {d r u : Tree} {e : Entry} → Left d e r u → (c : Rb n (node q black i x j)) → After c d → Rb n r →
      Near n u × (is_red r ≡ false → Rb n u)
  unfolding After
  after_left s (rb_black a b) g c = rb_Left s g c

  after_right : {n : ℕ} {d l u : Tree} {e : Entry} → Right l e d u → (c : Rb n (node q black i x j)) → After c d → Rb n l →
      Near n u × (is_red l ≡ false → Rb n u)
  unfolding After
  after_right s (rb_black a b) g c = rb_Right s c g

module _ {k : ℕ} where
  leaf_after : {n : ℕ} {t u : Tree} → Rb n t → is_black t ≡ false → is_red t ≡ false → Del k t u → is_red u ≡ false
  leaf_after rb_leaf h i Del.none = refl
  leaf_after (rb_red j l a b) h i g = absurd (true≢false i)
  leaf_after (rb_black a b) h i g = absurd (true≢false h)

  pub rb_Del : {n : ℕ} {t u : Tree} → Del k t u → (a : Rb n t) → After a u
  unfolding After
  rb_Del Del.none rb_leaf = rb_leaf
  rb_Del (Del.here h g) a = after a (rb_Fuse g (parts a).0 (parts a).1)
  rb_Del (Del.left h q g) a =
      let b = parts a in let f = after_not_black b.0 q (rb_Del g b.0) in
      after a (red_root f b.1, λ i j. rb_red (leaf_after b.0 q i g) j f b.1)
  rb_Del (Del.left_black h g s) a =
      let b = parts a in let f = after_left s b.0 (rb_Del g b.0) b.1 in after a (f.0, λ _ j. f.1 j)
  rb_Del (Del.right h q g) a =
      let b = parts a in let f = after_not_black b.1 q (rb_Del g b.1) in
      after a (red_root b.0 f, λ i j. rb_red i (leaf_after b.1 q j g) b.0 f)
  rb_Del (Del.right_black h g s) a =
      let b = parts a in let f = after_right s b.1 (rb_Del g b.1) b.0 in after a (f.0, λ i _. f.1 i)

near_after : {n : ℕ} {t u : Tree} (a : Rb n t) → After a u → (m : ℕ) × Near m u
unfolding After
near_after rb_leaf b = (0, well b)
near_after (rb_red {n = n} h i a c) b = (n, well b)
near_after (rb_black {n = n} a c) b = (n, b)

-- `remove` keeps the order, the black root and the red-black shape.
pub fine_remove : (k : ℕ) (t : Tree) → Fine t → Fine (remove k t)
unfolding remove
fine_remove k t g =
    let shaped : (is_red (remove k t) ≡ false) × (n : ℕ) × Rb n (remove k t) =
    fork
    (λ (u : Tree). (is_red u ≡ false) × (n : ℕ) × Rb n u)
    (has k t)
    (λ h. let s = rb_paint (near_after g.shape (rb_Del (deleted k t) g.shape)).1 in (root_paint (del k t), s.0, s.1))
    (λ h. (g.root, g.blacks, g.shape)) in
    record {
      ordered = rw (listing_remove k t g.ordered) (ascending_cut k (listing t) g.ordered);
      root = shaped.0;
      blacks = shaped.1;
      shape = shaped.2;
    }

-- "Remove of an absent key .. never reshapes": the tree itself, so that no node is made.
pub remove_absent : (k : ℕ) (t : Tree) → has k t ≡ false → remove k t ≡ t
unfolding remove
remove_absent k t h = rw h

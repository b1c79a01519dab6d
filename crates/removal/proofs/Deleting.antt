-- The cases of `del`, `del_left` and `del_right` on links.
use mathlib.Core.Path.{◌≡◌, refl, sym, ap, ◌∙◌}
use mathlib.Core.Bool.{true, false, true≢false, false≢true, ◌&&◌}
use mathlib.Core.List.{List}
use Prim.Native.Nat.{ℕ, ◌+◌, ◌*◌, ◌-◌, ◌≤◌, ◌<◌}
use native.Mathlib.Omega.{arith}
use Rattle.std.specs.Prelude.{Option, Some, None}
use Rattle.std.specs.Option.{is_some}
use borrow.Author.Tests.{lt-ltb, le-ltb}
use Rattle.trees.specs.Tree.{Tree, lf, rt, is_red, is_black, height}
use Rattle.trees.specs.Shape.{Rb, rb_leaf, rb_red, rb_black}
use Rattle.trees.specs.Remove.{fuse, del, del_left, del_right}
use Rattle.trees.proofs.RemoveLaws.{not_red_black}
use Rattle.plan.specs.declared.Color.TheVariants.{Red, Black}
use Rattle.plan.specs.declared.Node.{Node}
use Rattle.plan.specs.Held.{none, Some as SomeTree, Room}
use Rattle.plan.specs.Steps.{Grown, Finds, FindsColored, Steps, itself, Turns}
use Rattle.plan.proofs.Holdings.{is_leaf}
use Rattle.plan.proofs.Growing.{room_less, no_growth, onward, grow_to}
use Rattle.plan.proofs.Looking.{there, Topped, topped}
use Rattle.turning.specs.Promises.{side_room}
use Rattle.rebalancing.specs.Promises.{balance_left, balance_right, Leans}
use Rattle.fusing.specs.Promises.{fuse_room, Twin, Joins}
use Rattle.removal.specs.Promises.{del_room, cut_left, cut_right, RedBlack, Sides}

-- The sides of a red-black tree have as many black levels as one another.
record Halves (t : Tree) : Type 0 where
  pub blacks : ℕ
  pub left : Rb blacks (lf t)
  pub right : Rb blacks (rt t)

halves : {n : ℕ} {t : Tree} → Rb n t → Halves t
halves rb_leaf = record { blacks = 0; left = rb_leaf; right = rb_leaf }
halves (rb_red {n = n} h i a b) = record { blacks = n; left = a; right = b }
halves (rb_black {n = n} a b) = record { blacks = n; left = a; right = b }

-- Beside a black tree stands a black one, or a red one with black children.
leans_left : {n : ℕ} {s t : Tree} → is_black s ≡ true → Rb n s → Rb n t → is_black t ≡ false → is_red t && is_black (lf t) ≡ true
leans_left h rb_leaf b i = absurd (false≢true h)
leans_left h (rb_red j k c d) b i = absurd (false≢true h)
leans_left h (rb_black c d) (rb_red j k e f) i = not_red_black j e
leans_left h (rb_black c d) (rb_black e f) i = absurd (true≢false i)

leans_right : {n : ℕ} {s t : Tree} → is_black s ≡ true → Rb n s → Rb n t → is_black t ≡ false → is_red t && is_black (rt t) ≡ true
leans_right h rb_leaf b i = absurd (false≢true h)
leans_right h (rb_red j k c d) b i = absurd (false≢true h)
leans_right h (rb_black c d) (rb_red j k e f) i = not_red_black k f
leans_right h (rb_black c d) (rb_black e f) i = absurd (true≢false i)

module _ {ws p : List ℕ} {x : Node} {h : ℕ} (D : Sides ws p x h) where
  pub right_leans : {o : Option Node} {q : List ℕ} {k : ℕ} → FindsColored ws p x.left Black o → true ≡ is_some o → Grown ws p q k → Leans ws q x.right lf
  right_leans {o} L e g = record {
    some = record { tree = D.right.some.tree; held = g.keeps D.right.some.held };
    leans = leans_left (there o L D.left.some.held ∙ sym e) D.left.shape D.right.shape;
  }

  pub left_leans : {o : Option Node} {q : List ℕ} {k : ℕ} → FindsColored ws p x.right Black o → true ≡ is_some o → Grown ws p q k → Leans ws q x.left rt
  left_leans {o} R e g = record {
    some = record { tree = D.left.some.tree; held = g.keeps D.left.some.held };
    leans = leans_right (there o R D.right.some.held ∙ sym e) D.right.shape D.left.shape;
  }

-- `del_left`: the left side is balanced where it was black.
module _ {ws p q s : List ℕ} {x : Node} {link res : ℕ} (h k : ℕ) where
  module _ (T : Turns ws p q (del_room h) x.left link (del k)) where
    pub left_black : {o : Option Node} → FindsColored ws p x.left Black o → true ≡ is_some o → Steps ws q s side_room (record { entry = x.entry; left = link; right = x.right; color = Red }) res balance_left →
        Steps ws p s (del_room h + side_room) x res (cut_left k)
    unfolding del_left
    left_black {o} O e S = record {
      grown = onward T.grown S.grown (omega arith);
      holds = λ ha hb.
          rw (there o O ha, ← e) (S.holds (T.holds ha) (T.grown.keeps hb));
    }

    pub left_other : {o : Option Node} → FindsColored ws p x.left Black o → false ≡ is_some o → Steps ws q s 1 (record { entry = x.entry; left = link; right = x.right; color = Red }) res itself →
        Steps ws p s (del_room h + side_room) x res (cut_left k)
    unfolding del_left
    left_other {o} O e S = record {
      grown = onward T.grown S.grown (omega arith);
      holds = λ ha hb.
          rw (there o O ha, ← e) (S.holds (T.holds ha) (T.grown.keeps hb));
    }

  -- `del_right`.
  module _ (T : Turns ws p q (del_room h) x.right link (del k)) where
    pub right_black : {o : Option Node} → FindsColored ws p x.right Black o → true ≡ is_some o → Steps ws q s side_room (record { entry = x.entry; left = x.left; right = link; color = Red }) res balance_right →
        Steps ws p s (del_room h + side_room) x res (cut_right k)
    unfolding del_right
    right_black {o} O e S = record {
      grown = onward T.grown S.grown (omega arith);
      holds = λ ha hb.
          rw (there o O hb, ← e) (S.holds (T.grown.keeps ha) (T.holds hb));
    }

    pub right_other : {o : Option Node} → FindsColored ws p x.right Black o → false ≡ is_some o → Steps ws q s 1 (record { entry = x.entry; left = x.left; right = link; color = Red }) res itself →
        Steps ws p s (del_room h + side_room) x res (cut_right k)
    unfolding del_right
    right_other {o} O e S = record {
      grown = onward T.grown S.grown (omega arith);
      holds = λ ha hb.
          rw (there o O hb, ← e) (S.holds (T.grown.keeps ha) (T.holds hb));
    }

-- `del`.
pub del_none : {ws p : List ℕ} {link : ℕ} (h k : ℕ) → Finds ws p link None → Turns ws p p (del_room h) link 0 (del k)
unfolding del
del_none h k F = record { grown = no_growth _; holds = λ t. rw (is_leaf F.found t) (none refl) }

module _ {ws p : List ℕ} {link h : ℕ} {x : Node} (L : Finds ws p link (Some x)) (D : RedBlack ws p link h) where
  abbrev tree : Tree
  tree = D.shaped.some.tree

  abbrev top : Topped x tree
  top = topped L.found D.shaped.some.held

  tall : 1 ≤ h
  tall = omega (arith, D.shaped.fits, ap height top.is)

  abbrev left : SomeTree ws p x.left
  left = record { tree = lf tree; held = (L.found.sees D.shaped.some.held).left_is }

  abbrev right : SomeTree ws p x.right
  right = record { tree = rt tree; held = (L.found.sees D.shaped.some.held).right_is }

  pub sides : Sides ws p x (h - 1)
  sides =
      let e = ap height top.is in
      let f = D.shaped.fits in
      let g = halves D.shaped.shape in
      record {
        blacks = g.blacks;
        left = record { some = left; fits = omega arith; shape = g.left };
        right = record { some = right; fits = omega arith; shape = g.right };
      }

  pub twin : Twin ws p x.left x.right ((h - 1) * 2)
  twin =
      let e = ap height top.is in
      let f = D.shaped.fits in
      record { left = left; right = right; fits = omega arith }

  pub less_down : {t : ℕ} → h + h ≡ t → (h - 1) + (h - 1) + 1 < t
  less_down e = let b = tall in omega arith

  pub room_down : Room ws p (del_room h) → Room ws p (del_room (h - 1) + side_room)
  room_down r = let b = tall in room_less r (omega arith)

  module _ {p' : List ℕ} {k res : ℕ} where
    pub del_less : k < x.entry.key → Steps ws p p' (del_room (h - 1) + side_room) x res (cut_left k) → Turns ws p p' (del_room h) link res (del k)
    unfolding del
    del_less lt S =
        let b = tall in
        record {
          grown = grow_to S.grown (omega arith);
          holds = λ t.
              let n = topped L.found t in
              rw (n.is, lt-ltb k x.entry.key lt) (S.holds (L.found.sees t).left_is (L.found.sees t).right_is);
        }

    pub del_more : x.entry.key < k → Steps ws p p' (del_room (h - 1) + side_room) x res (cut_right k) → Turns ws p p' (del_room h) link res (del k)
    unfolding del
    del_more lt S =
        let b = tall in
        record {
          grown = grow_to S.grown (omega arith);
          holds = λ t.
              let n = topped L.found t in
              rw
              (n.is, le-ltb k x.entry.key (omega arith), lt-ltb x.entry.key k lt)
              (S.holds (L.found.sees t).left_is (L.found.sees t).right_is);
        }

    pub del_here : x.entry.key ≤ k → k ≤ x.entry.key → Joins ws p p' (fuse_room ((h - 1) * 2)) x.left x.right res fuse →
        Turns ws p p' (del_room h) link res (del k)
    unfolding del
    del_here le ge J =
        let b = tall in
        record {
          grown = grow_to J.grown (omega arith);
          holds = λ t.
              rw
              ((topped L.found t).is, le-ltb k x.entry.key le, le-ltb x.entry.key k ge)
              (J.holds (L.found.sees t).left_is (L.found.sees t).right_is);
        }
